-- The table passes the test of its rows, and so the definitions yield them.
use Rattle.std.proofs.Common.{◌^◌, Bool, T, leb, List, [], ◌∷◌, leb→le}
use Rattle.ring.specs.Ring.{Laws, sum, power}
use Rattle.ring.specs.Commutative.{sum as sumˡ}
use Rattle.ring.specs.Truncated.{product}
use Rattle.inverses.specs.Bases.{listed}
use Rattle.recurrence.specs.Words.{turns}
use Rattle.residue.specs.Modulo.{modulo}
use Rattle.residue.specs.Laws.{laws as residue_laws}
use Rattle.bits.specs.Bits.{bits as bit_polynomials}
use Rattle.bits.specs.Laws.{bits_laws}
use Rattle.truncated.specs.Polynomials.{every as each_place, places}
use Rattle.truncated.specs.Laws.{polynomials_laws}
use Rattle.known.specs.Table.{Kind, residues, truncated, bits, ring, Row, Holds, table, Known}
use Rattle.known.proofs.Tests.{every, every_all, all, each_of, Finite}
use Rattle.known.proofs.Finite.{numbers, coefficients}
use Rattle.known.proofs.Entries.{right, yields}

abbrev finite : (k : Kind) → Finite (ring k)
finite (residues p d) = numbers (modulo p d) (p ^ d) (λ a h. h)
finite (truncated p h d) = coefficients p h d
finite (bits d) = numbers (bit_polynomials d) (2 ^ d) (λ a h. h)

-- the kind is one
abbrev fits : Kind → List Bool
fits (residues p d) = listed p ∷ leb 1 d ∷ leb d 31 ∷ []
fits (truncated p h d) = leb 1 d ∷ leb d 8 ∷ []
fits (bits d) = leb 1 d ∷ leb d 31 ∷ []

laws_of : (k : Kind) → T (all (fits k)) → Laws (ring k)
laws_of (residues p d) t = let h = each_of (fits (residues p d)) t in residue_laws p d h.0 (leb→le 1 d h.1.0) (leb→le d 31 h.1.1.0)
laws_of (truncated p q d) t = let h = each_of (fits (truncated p q d)) t in polynomials_laws p q d (leb→le 1 d h.0) (leb→le d 8 h.1.0)
laws_of (bits d) t = let h = each_of (fits (bits d)) t in bits_laws d (leb→le 1 d h.0) (leb→le d 31 h.1.0)

abbrev test : Row → List Bool
test r = all (fits r.kind) ∷ all (right (finite r.kind) r.entry) ∷ []

passes : T (every (λ r. all (test r)) table)
unfolding sum sumˡ product power turns listed each_place places
passes = tt

pub known : Known
known = every_all (λ r. all (test r)) Holds (λ r t. let h = each_of (test r) t in yields (finite r.kind) r.entry (laws_of r.kind h.0) h.1.0) table passes
