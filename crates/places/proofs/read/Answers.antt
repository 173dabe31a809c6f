use Rattle.std.proofs.Common.{get_or, sym, ap, ◌∙◌, arith}
use Rattle.std.proofs.lemmas.List.{get_or_read}
use Rattle.places.proofs.Places.{held_within, place_of}
use Rattle.places.proofs.read.Goals as goal

pub offset_bounds-words-q : goal.offset_bounds-words-q
offset_bounds-words-q g c = omega (arith, held_within c.args.shape)

pub bounds-words-q : goal.bounds-words-q
bounds-words-q g c = omega (arith, held_within c.args.shape)

pub returns : goal.returns
returns g c z =
    get_or_read c.args.words.now c.args.q _ (omega (arith, held_within c.args.shape)) c.index-words-q.is z
    ∙ ap (λ i. get_or c.args.words.now i z) (sym (place_of c.args.shape c.args.q))
