-- The field of two elements.
use Rattle.std.specs.Prelude.{Bool, true, false, refl}
use Rattle.ring.specs.Commutative.{CommRing}

abbrev pub xor : Bool → Bool → Bool
xor true true = false
xor true false = true
xor false b = b

abbrev pub and : Bool → Bool → Bool
and true b = b
and false b = false

abbrev pub two : CommRing Bool
two = record {
  𝟘 = false;
  𝟙 = true;
  ◌⊕◌ = xor;
  ◌⊗◌ = and;
  ⊖◌ = λ a. a;
  add_assoc = elim [ true ↦ elim [ true ↦ elim [ true ↦ refl | false ↦ refl ] | false ↦ λ z. refl ] | false ↦ λ y z. refl ];
  add_comm = elim [ true ↦ elim [ true ↦ refl | false ↦ refl ] | false ↦ elim [ true ↦ refl | false ↦ refl ] ];
  add_zero = elim [ true ↦ refl | false ↦ refl ];
  add_neg = elim [ true ↦ refl | false ↦ refl ];
  mul_assoc = elim [ true ↦ λ y z. refl | false ↦ λ y z. refl ];
  mul_comm = elim [ true ↦ elim [ true ↦ refl | false ↦ refl ] | false ↦ elim [ true ↦ refl | false ↦ refl ] ];
  mul_one = elim [ true ↦ refl | false ↦ refl ];
  distrib = elim [ true ↦ λ y z. refl | false ↦ λ y z. refl ];
}
