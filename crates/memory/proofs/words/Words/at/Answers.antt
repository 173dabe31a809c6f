use Rattle.std.proofs.Common.{sym, ◌∙◌, ◌*◌, ◌≤◌, length, arith}
use Rattle.recurrence.proofs.Elements.{read_at}
use Rattle.memory.proofs.Held.{read_lawful_place, room_held}
use Rattle.memory.proofs.words.Words.at.Goals as goal

pub returns-clause-lawful : goal.returns-clause-lawful
returns-clause-lawful g c =
    let words = c.args.self.now in
    let room : words.shape.count.words * words.shape.channels ≤ length words.cells.now = room_held words.shape _ words.room in
    read_lawful_place words.shape (g.K.Kind.ring words.kind) words.cells.now words.lawful c.args.place _ c.requires
    (sym c.index-self-place.is ∙ read_at (g.K.Kind.ring words.kind) words.cells.now c.args.place c.index-self-place.result (omega (arith, room)) c.index-self-place.is)
