use Rattle.std.proofs.Common.{ap₂, ◌∙◌}
use Rattle.ring.proofs.Loops.{place_inside}
use Rattle.recurrence.specs.Words.{words as words_of}
use Rattle.std.proofs.lemmas.Nat.{div-mul-add, mod-mul-add}
use Rattle.memory.proofs.words.Words.get.Goals as goal

pub at-requires : goal.at-requires
at-requires g c =
    place_inside c.args.self.now.shape.count.words c.args.self.now.shape.channels c.args.k c.args.c c.requires.word c.requires.channel

pub returns-clause-is : goal.returns-clause-is
returns-clause-is g c =
    let words = c.args.self.now in
    c.at.ensures.is
    ∙ ap₂ (words_of (g.K.Kind.ring words.kind) words.shape words.cells.now) (mod-mul-add c.args.k words.shape.channels c.args.c c.requires.channel) (div-mul-add c.args.k words.shape.channels c.args.c c.requires.channel)
