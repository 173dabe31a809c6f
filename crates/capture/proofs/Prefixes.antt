-- The first j words of a capture: a find of them asks for no more memory, and tells their length at level 0.
use Rattle.std.proofs.Common.{◌≡◌, ℕ, ◌+◌, ◌*◌, ◌<◌, ◌≤◌, ◌≢◌, ◌⊎◌, List, length, get_or, set, Ok, Result, sym, ◌∙◌, subst, inl, inr, mul-le-mul_right, mul-le-mul, mul-le-mul_left, arith, length-set, get_or-set_other, get_or-set_same}
use native.Mathlib.Decide.{dec_lt}
use Rattle.ring.specs.Ring.{Ring, Laws}
use Rattle.ring.specs.declared.Refusal.{Refusal}
use Rattle.ring.specs.Refusals.{Passes, Refuses}
use Rattle.recurrence.specs.declared.shape.Shape.{Shape}
use Rattle.recurrence.specs.declared.shape.Level.{Level}
use Rattle.recurrence.specs.Words.{words, Length}
use Rattle.recurrence.specs.Findings.{long, extent, Finding}
use Rattle.recurrence.proofs.Findings.{rows_shortest}
use Rattle.recurrence.specs.Lent.{ShortWords, ForeignWords, ShortFinding}
use Rattle.annihilator.specs.Calls.{work_size, seeking}
use Rattle.capture.specs.declared.Open.{Open}
use Rattle.capture.specs.Calls.{held, Holding, Lengths, profiling, Profiled}
use Rattle.capture.proofs.Main.{lawful_words}

-- the capture of the first j words
abbrev pub part : (s : Shape) (j : ℕ) → j ≤ s.count.words → Shape
part s j h = record { channels = s.channels; capacity = s.capacity; count = record { words = j }; ok = (omega (arith, s.ok.0), s.ok.1, s.ok.2, s.ok.3) }

-- memory of the same size passes again
pub passes_again : {E : Type 0} (R : Ring E) (s : Shape) (ws fm fm' work work' : List E) → length fm' ≡ length fm → length work' ≡ length work
    → Passes (seeking R s ws fm work) → Passes (seeking R s ws fm' work')
passes_again R s ws fm fm' work work' ef ew p = (short, (p.1.0, tt))
  where
    short : ShortWords s ws ⊎ (ShortFinding R s fm' ⊎ (length work' < work_size R s)) → ⊥
    short (inl z) = p.0 (inl z)
    short (inr (inl z)) = p.0 (inr (inl (omega arith)))
    short (inr (inr z)) = p.0 (inr (inr (omega arith)))

module _ {E : Type 0} (R : Ring E) (s : Shape) (j : ℕ) (h : j ≤ s.count.words) where
  pub passes_part : (ws fm work : List E) → Passes (seeking R s ws fm work) → Passes (seeking R (part s j h) ws fm work)
  passes_part ws fm work p = (short, ((λ z. p.1.0 (λ all. z (λ k c hk hc. all k c (omega arith) hc))), tt))
    where
      extents : extent R j ≤ extent R s.count.words
      extents = mul-le-mul_left R.depth (omega arith)

      sizes : work_size R (part s j h) ≤ work_size R s
      sizes = let p : j * s.channels ≤ s.count.words * s.channels = mul-le-mul_right s.channels h in mul-le-mul (omega arith) (omega arith)

      short : ShortWords (part s j h) ws ⊎ (ShortFinding R (part s j h) fm ⊎ (length work < work_size R (part s j h))) → ⊥
      short (inl z) = p.0 (inl z)
      short (inr (inl z)) = p.0 (inr (inl (omega (arith, extents))))
      short (inr (inr z)) = p.0 (inr (inr (omega (arith, sizes))))

  pub length_part : Laws R → (ws : List E) (levels : List Level) (fm : List E) → ¬ ForeignWords R (part s j h) ws → Finding R j levels fm s.channels (words R s ws)
      → Length R s.channels j (words R s ws) 0 (long levels 0)
  length_part L ws levels fm lawful found =
      (rows_shortest L s.channels j (words R s ws) levels fm (record { wide = omega (arith, s.ok.2); words = lawful_words R (part s j h) ws lawful; finding = found }) 0 (omega (arith, L.depth_low))).1

-- the whole profile: all the words, and before that each of their parts
module _ {K E : Type 0} (ring : K → Ring E) (laws : (k : K) → Laws (ring k)) (o : Open K) (ws : List E) (numbers : List ℕ) (work fm : List E) (room : held o + 1 ≤ length numbers) where
  abbrev R : Ring E
  R = ring o.kind

  pub profile_refused : (e : Refusal) → Refuses (seeking R o.shape ws fm work) e → Refuses (profiling ring o ws numbers work fm) e
  profile_refused e (inl z) = inl (inr z.0, z.1)
  profile_refused e (inr z) = inr (wider, z.1)
    where
      wider : (length numbers < held o + 1) ⊎ (ShortWords o.shape ws ⊎ (ShortFinding R o.shape fm ⊎ (length work < work_size R o.shape))) → ⊥
      wider (inl y) = omega arith
      wider (inr y) = z.0 y

  pub profile_lengths : (levels : List Level) (fm' : List E) (numbers' : List ℕ) → Passes (seeking R o.shape ws fm work) → Finding R (held o) levels fm' o.shape.channels (words R o.shape ws)
      → length numbers' ≡ length (set numbers (held o) (long levels 0))
      → ((j : ℕ) → j < held o → Length R o.shape.channels j (words R o.shape ws) 0 (get_or numbers' j 0))
      → ((j : ℕ) → held o ≤ j → get_or numbers' j 0 ≡ get_or (set numbers (held o) (long levels 0)) j 0)
      → Lengths R o.shape ws numbers numbers'
  profile_lengths levels fm' numbers' p found size there after = record {
    size = size ∙ length-set numbers (held o) (long levels 0);
    there = λ j b. by j b (dec_lt j (held o));
    after = λ j b. after j (omega arith) ∙ (let ne : j ≢ held o = omega arith in rw get_or-set_other);
  }
    where
      last : get_or numbers' (held o) 0 ≡ long levels 0
      last = after (held o) (omega arith) ∙ get_or-set_same numbers (held o) (long levels 0) 0 (omega arith)

      by : (j : ℕ) → j ≤ held o → Dec (j < held o) → Length R o.shape.channels j (words R o.shape ws) 0 (get_or numbers' j 0)
      by j b (yes c) = there j c
      by j b (no c) =
          let e : j ≡ held o = omega arith in
          rw (e, last) (length_part R o.shape (held o) (omega arith) (laws o.kind) ws levels fm' p.1.0 found)

  pub profile_done : (o' : Open K) (numbers' : List ℕ) (work' fm' : List E) (r : Result Unit Refusal) → r ≡ Ok tt → Passes (seeking R o.shape ws fm work)
      → Holding o (held o) o' → Lengths R o.shape ws numbers numbers' → length work' ≡ length work → length fm' ≡ length fm
      → Profiled ring o ws numbers work fm r o' numbers' work' fm'
  profile_done o' numbers' work' fm' r done p to lengths ew ef =
      subst (λ (z : Result Unit Refusal). Profiled ring o ws numbers work fm z o' numbers' work' fm') (sym done) ((short, (p.1.0, tt)), (to, lengths, ew, ef))
    where
      short : (length numbers < held o + 1) ⊎ (ShortWords o.shape ws ⊎ (ShortFinding R o.shape fm ⊎ (length work < work_size R o.shape))) → ⊥
      short (inl y) = omega arith
      short (inr y) = p.0 y
