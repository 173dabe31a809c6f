-- The captures whose findings are known.
use Rattle.std.specs.Prelude.{ℕ, true, false, T, List, [], ◌∷◌, map, slice_index_or}
use Rattle.std.specs.List.{AllByRecursion}
use Rattle.ring.specs.Ring.{Ring}
use Rattle.inverses.specs.Bases.{listed}
use Rattle.recurrence.specs.declared.shape.Level.{Level}
use Rattle.residue.specs.Modulo.{modulo}
use Rattle.bits.specs.Bits.{bits as bit_polynomials}
use Rattle.truncated.specs.declared.polynomial.Polynomial.{Polynomial}
use Rattle.truncated.specs.Polynomials.{polynomials}
use Rattle.known.specs.Entries.{Entry, long_is, one_channel, Yields}

-- the kinds: numbers modulo p^d; polynomials in x over the numbers modulo p, cut at x^d; the same for p = 2 in one word
pub data Kind : Type 0 where
  residues : ℕ → ℕ → Kind
  truncated : (p : ℕ) → T (listed p) → ℕ → Kind
  bits : ℕ → Kind

abbrev pub Element : Kind → Type 0
Element (residues p d) = ℕ
Element (truncated p h d) = Polynomial
Element (bits d) = ℕ

abbrev pub ring : (k : Kind) → Ring (Element k)
ring (residues p d) = modulo p d
ring (truncated p h d) = polynomials p h d
ring (bits d) = bit_polynomials d

pub two_listed : T (listed 2)
unfolding listed
two_listed = tt

pub three_listed : T (listed 3)
unfolding listed
three_listed = tt

-- a + b x
abbrev pub linear : ℕ → ℕ → Polynomial
linear a b = record { coefficients = a ∷ b ∷ 0 ∷ 0 ∷ 0 ∷ 0 ∷ 0 ∷ 0 ∷ [] }

pub record Row : Type 0 where
  pub kind : Kind
  pub entry : Entry (Element kind)

abbrev pub Holds : Row → Type 0
Holds r = Yields (ring r.kind) r.entry

-- modulo 4, no words
abbrev pub no_words : Row
no_words = record {
  kind = residues 2 2;
  entry = record {
    channels = 1;
    words = [];
    levels = long_is 0 ∷ long_is 0 ∷ [];
    memory = 1 ∷ 2 ∷ [];
    settled = true;
    next = one_channel (0 ∷ []);
    tried = [];
  };
}

-- modulo 3, cut at x², the words 1, 1 + x, 1, 1 + x; y² + x y + 2 + 2 x and y + 2 are tried
abbrev pub ternary : Row
ternary = record {
  kind = truncated 3 three_listed 2;
  entry = record {
    channels = 1;
    words = one_channel (linear 1 0 ∷ linear 1 1 ∷ linear 1 0 ∷ linear 1 1 ∷ []);
    levels = long_is 2 ∷ long_is 1 ∷ [];
    memory =
        linear 2 2 ∷ linear 0 1 ∷ linear 1 0 ∷ linear 0 0 ∷ linear 0 0
        ∷ linear 0 2 ∷ linear 0 1 ∷ linear 0 0 ∷ linear 0 0 ∷ linear 0 0
        ∷ [];
    settled = true;
    next = one_channel (linear 1 0 ∷ linear 1 1 ∷ []);
    tried = (linear 2 2 ∷ linear 0 1 ∷ linear 1 0 ∷ [], 0) ∷ (linear 2 0 ∷ linear 1 0 ∷ [], 2) ∷ [];
  };
}

-- the same words modulo 2
abbrev pub binary : Row
binary = record {
  kind = truncated 2 two_listed 2;
  entry = record {
    channels = 1;
    words = one_channel (linear 1 0 ∷ linear 1 1 ∷ linear 1 0 ∷ linear 1 1 ∷ []);
    levels = long_is 1 ∷ long_is 1 ∷ [];
    memory =
        linear 1 1 ∷ linear 1 0 ∷ linear 0 0 ∷ linear 0 0 ∷ linear 0 0
        ∷ linear 0 1 ∷ linear 0 1 ∷ linear 0 0 ∷ linear 0 0 ∷ linear 0 0
        ∷ [];
    settled = true;
    next = one_channel (linear 1 0 ∷ linear 1 1 ∷ []);
    tried = [];
  };
}

-- and modulo 2 in one word
abbrev pub binary_in_words : Row
binary_in_words = record {
  kind = bits 2;
  entry = record {
    channels = 1;
    words = one_channel (1 ∷ 3 ∷ 1 ∷ 3 ∷ []);
    levels = long_is 1 ∷ long_is 1 ∷ [];
    memory =
        3 ∷ 1 ∷ 0 ∷ 0 ∷ 0
        ∷ 2 ∷ 2 ∷ 0 ∷ 0 ∷ 0
        ∷ [];
    settled = true;
    next = one_channel (1 ∷ 3 ∷ []);
    tried = [];
  };
}

-- modulo 4, the words 0, 0, 1
abbrev pub late : Row
late = record {
  kind = residues 2 2;
  entry = record {
    channels = 1;
    words = one_channel (0 ∷ 0 ∷ 1 ∷ []);
    levels = long_is 3 ∷ long_is 3 ∷ [];
    memory =
        0 ∷ 0 ∷ 0 ∷ 1
        ∷ 0 ∷ 0 ∷ 0 ∷ 2
        ∷ [];
    settled = false;
    next = [];
    tried = [];
  };
}

-- modulo 4, the words 2, 0, 2, 0
abbrev pub even : Row
even = record {
  kind = residues 2 2;
  entry = record {
    channels = 1;
    words = one_channel (2 ∷ 0 ∷ 2 ∷ 0 ∷ []);
    levels = long_is 2 ∷ long_is 0 ∷ [];
    memory =
        1 ∷ 0 ∷ 1 ∷ 0 ∷ 0
        ∷ 2 ∷ 0 ∷ 0 ∷ 0 ∷ 0
        ∷ [];
    settled = true;
    next = one_channel (2 ∷ 0 ∷ []);
    tried = [];
  };
}

-- modulo 4, one word
abbrev pub step_alone : Row
step_alone = record {
  kind = residues 2 2;
  entry = record {
    channels = 1;
    words = one_channel (2 ∷ []);
    levels = long_is 1 ∷ long_is 0 ∷ [];
    memory =
        0 ∷ 1
        ∷ 2 ∷ 0
        ∷ [];
    settled = false;
    next = [];
    tried = [];
  };
}

abbrev pub one_alone : Row
one_alone = record {
  kind = residues 2 2;
  entry = record {
    channels = 1;
    words = one_channel (1 ∷ []);
    levels = long_is 1 ∷ long_is 1 ∷ [];
    memory =
        0 ∷ 1
        ∷ 0 ∷ 2
        ∷ [];
    settled = false;
    next = [];
    tried = [];
  };
}

-- modulo 2, two channels, the words (1, 0), (0, 1), (1, 1)
abbrev pub two_channels : Row
two_channels = record {
  kind = residues 2 1;
  entry = record {
    channels = 2;
    words = (1 ∷ 0 ∷ []) ∷ (0 ∷ 1 ∷ []) ∷ (1 ∷ 1 ∷ []) ∷ [];
    levels = long_is 2 ∷ [];
    memory = 1 ∷ 1 ∷ 1 ∷ 0 ∷ [];
    settled = false;
    next = [];
    tried = [];
  };
}

-- the table, from row 0 on
abbrev pub table : List Row
table = no_words ∷ ternary ∷ binary ∷ late ∷ even ∷ step_alone ∷ one_alone ∷ two_channels ∷ binary_in_words ∷ []

-- the levels of each row
abbrev pub all_levels : List (List Level)
all_levels = map (λ r. r.entry.levels) table

-- the levels of one row, none past the table's end
abbrev pub levels_of : ℕ → List Level
levels_of row = slice_index_or all_levels row []

-- The definitions yield every row of the table.
abbrev pub Known : Type 0
Known = AllByRecursion Holds table
