-- The ring of a kind of numbers.
use Rattle.std.specs.Prelude.{ℕ}
use Rattle.ring.specs.Ring.{Ring}
use Rattle.residue.specs.declared.modulus.Residue.{Residue}
use Rattle.residue.specs.Modulo.{modulo}

abbrev pub ring : Residue → Ring ℕ
ring k = modulo k.base.value k.depth
