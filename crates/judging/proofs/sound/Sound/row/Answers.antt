use Rattle.std.proofs.Common.{arith}
use Rattle.judging.proofs.Forms.{row_fits, row_lawful}
use Rattle.judging.proofs.sound.Sound.row.Goals as goal

pub row_of-requires : goal.row_of-requires
row_of-requires g c =
    let sound = c.args.self.now in
    let L = g.K.Kind.laws sound.kind in
    let fits = row_fits L sound.shape sound.record.now.levels sound.cells.now sound.sound c.args.level c.requires in
    record { low = omega (arith, L.depth_high, c.requires); short = omega (arith, fits.0, c.length.ensures.is); room = omega (arith, fits.1, c.length.ensures.is) }

pub returns-clause-lawful : goal.returns-clause-lawful
returns-clause-lawful g c =
    let sound = c.args.self.now in
    λ j. rw (c.row_of.ensures.is, c.length.ensures.is) (row_lawful (g.K.Kind.laws sound.kind) sound.shape sound.record.now.levels sound.cells.now sound.sound c.args.level c.requires j)
