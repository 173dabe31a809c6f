-- What holds of every history.
use Rattle.std.proofs.Common.{◌≡◌, ℕ, zero, suc, ◌+◌, ◌-◌, ◌*◌, ◌<◌, ◌≤◌, Bool, cond, T, ltb, ◌≢◌, ◌⊎◌, List, [], ◌∷◌, ◌++◌, length, get_or, Some, None, Ok, Err, Option, sym, refl, ap, ◌∙◌, subst, inl, inr, mul-one, arith, le-ltb, lt-ltb}
use native.Mathlib.Decide.{dec_lt}
use Rattle.ring.specs.Ring.{Ring}
use Rattle.recurrence.specs.declared.shape.Shape.{Shape}
use Rattle.recurrence.specs.declared.shape.Level.{Level}
use Rattle.recurrence.specs.Polynomials.{Lawful}
use Rattle.recurrence.specs.Words.{words}
use Rattle.recurrence.specs.Findings.{Finding}
use Rattle.recurrence.proofs.Elements.{stable}
use Rattle.recurrence.specs.Lent.{ShortWords, ForeignWords, ShortFinding}
use Rattle.capture.specs.declared.Open.{Open}
use Rattle.capture.specs.declared.Found.{Found}
use Rattle.capture.specs.Calls.{held, Holding, Fed, Drew, Finds}
use Rattle.capture.specs.History.{Stand, stands_open, stands_found, kind_of, shape_of, Meaning, History, opened, fed, drew, took_back, sought, reopened, profiled, draws, origin, item}

pub some_injective : {A : Type 0} {x y : A} → Some x ≡ Some y → x ≡ y
some_injective e = cc

none_some : {A : Type 0} {x : A} → None ≡ Some x → ⊥
none_some e = let z : ◌≡◌ {A = ℕ} 0 1 = cc in omega arith

module _ {A : Type 0} where
  item_left : (xs ys : List A) (i : ℕ) (w : A) → item xs i ≡ Some w → item (xs ++ ys) i ≡ Some w
  item_left [] ys i w e = absurd (none_some e)
  item_left (x ∷ xs) ys zero w e = e
  item_left (x ∷ xs) ys (suc i) w e = item_left xs ys i w e

  item_last : (xs : List A) (x : A) → item (xs ++ (x ∷ [])) (length xs) ≡ Some x
  item_last [] x = refl
  item_last (y ∷ xs) x = item_last xs x

  item_within : (xs : List A) (i : ℕ) (w : A) → item xs i ≡ Some w → i < length xs
  item_within [] i w e = absurd (none_some e)
  item_within (x ∷ xs) zero w e = omega arith
  item_within (x ∷ xs) (suc i) w e = let h : i < length xs = item_within xs i w e in omega arith

  item_new : (xs : List A) (x : A) (i : ℕ) (w : A) → item (xs ++ (x ∷ [])) i ≡ Some w → (item xs i ≡ Some w) ⊎ (x ≡ w)
  item_new [] x zero w e = inr (some_injective e)
  item_new [] x (suc i) w e = absurd (none_some e)
  item_new (y ∷ xs) x zero w e = inl e
  item_new (y ∷ xs) x (suc i) w e = item_new xs x i w e

module _ {K E : Type 0} (ring : K → Ring E) where
  -- a finding of the words held, and room for both
  pub record Sound (k : K) (s : Shape) (levels : List Level) (fm ws : List E) : Type 0 where
    pub finding : Finding (ring k) s.count.words levels fm s.channels (words (ring k) s ws)
    pub room : ¬ ShortWords s ws
    pub extends : ¬ ShortFinding (ring k) s fm
    pub lawful : ¬ ForeignWords (ring k) s ws

  -- what is known beside the words
  abbrev pub Standing : Stand K E → List E → Type 0
  Standing (stands_open o) ws = Unit {0}
  Standing (stands_found f levels fm) ws = Sound f.kind f.shape levels fm ws

  -- the word at place j came by draw i, which began at the place from, and none before that place did
  pub record Placed {t : Stand K E} {ws : List E} (h : History ring t ws) (j i : ℕ) : Type 0 where
    pub from : ℕ
    pub list : ℕ → E
    pub drawn : item (draws ring h) i ≡ Some list
    pub after : from ≤ j
    pub is : (d : E) → get_or ws j d ≡ list (j - from)
    pub others : (l : ℕ) → l < from → origin ring h l ≢ Some i

  pub record Kept {t : Stand K E} {ws : List E} (h : History ring t ws) : Type 0 where
    pub single : (i : ℕ) (w : ℕ → E) → item (draws ring h) i ≡ Some w → ((shape_of t).channels ≡ 1) × Lawful (ring (kind_of t)) w
    pub placed : (j i : ℕ) → j < (shape_of t).count.words → origin ring h j ≡ Some i → Placed h j i
    pub standing : Standing t ws

  -- a call that adds no word
  module _ {t t' : Stand K E} {ws ws' : List E} (h : History ring t ws) (h' : History ring t' ws')
      (ed : draws ring h' ≡ draws ring h) (eo : origin ring h' ≡ origin ring h) where
    carry : kind_of t' ≡ kind_of t → (shape_of t').channels ≡ (shape_of t).channels → (shape_of t').count.words ≤ (shape_of t).count.words → ws' ≡ ws
        → Standing t' ws' → Kept h → Kept h'
    carry ek ec en ew st kp = record {
      single = λ i w e.
          let r = kp.single i w (subst (λ (z : List (ℕ → E)). item z i ≡ Some w) ed e) in
          (ec ∙ r.0, subst (λ (z : K). Lawful (ring z) w) (sym ek) r.1);
      placed = λ j i hj e. let p = kp.placed j i (omega arith) (subst (λ (z : ℕ → Option ℕ). z j ≡ Some i) eo e) in record {
        from = p.from;
        list = p.list;
        drawn = subst (λ (z : List (ℕ → E)). item z i ≡ Some p.list) (sym ed) p.drawn;
        after = p.after;
        is = λ d. ap (λ (z : List E). get_or z j d) ew ∙ p.is d;
        others = λ l b z. p.others l b (subst (λ (y : ℕ → Option ℕ). y l ≡ Some i) eo z);
      };
      standing = st;
    }

    -- and leaves the capture as it was
    carry_same : t' ≡ t → ws' ≡ ws → Standing t' ws' → Kept h → Kept h'
    carry_same et ew st = carry (ap kind_of et) (ap (λ (z : Stand K E). (shape_of z).channels) et) (omega (arith, ap (λ (z : Stand K E). (shape_of z).count.words) et)) ew st

  -- a call that only changes the number of words
  module _ {o o' : Open K} {ws ws' : List E} (h : History ring (stands_open o) ws) (h' : History ring (stands_open o') ws')
      (ed : draws ring h' ≡ draws ring h) (eo : origin ring h' ≡ origin ring h) where
    carry_fewer : (k : ℕ) → Holding o k o' → k ≤ held o → ws' ≡ ws → Kept h → Kept h'
    carry_fewer k to hk ew = carry h h' ed eo to.kind to.channels (omega (arith, to.count)) ew tt

  fed_ok : {o o' : Open K} {ws ws' : List E} (h : History ring (stands_open o) ws) (word : List E) (u : Unit) (did : Fed ring o ws word (Ok u) o' ws') → Kept h
      → Kept (fed {o' = o'} {ws' = ws'} h word (Ok u) did)
  unfolding draws origin
  fed_ok {o} {o'} {ws} {ws'} h word u did kp = record {
    single = λ i w e. let r = kp.single i w e in (to.channels ∙ r.0, subst (λ (z : K). Lawful (ring z) w) (sym to.kind) r.1);
    placed = λ j i hj e. at' j i (dec_lt j (held o)) e;
    standing = tt;
  }
    where
      to : Holding o (held o + 1) o'
      to = did.1.0

      old : (j i : ℕ) → j < held o → cond (ltb j (held o)) (origin ring h j) None ≡ Some i → origin ring h j ≡ Some i
      old j i b e = subst (λ (z : Bool). cond z (origin ring h j) None ≡ Some i) (lt-ltb j (held o) b) e

      at' : (j i : ℕ) → Dec (j < held o) → cond (ltb j (held o)) (origin ring h j) None ≡ Some i → Placed (fed {o' = o'} {ws' = ws'} h word (Ok u) did) j i
      at' j i (no b) e = absurd (none_some (subst (λ (z : Bool). cond z (origin ring h j) None ≡ Some i) (le-ltb j (held o) (omega arith)) e))
      at' j i (yes b) e =
          let p = kp.placed j i b (old j i b e) in
          let one : o.shape.channels ≡ 1 = (kp.single i p.list p.drawn).0 in
          let all : held o * o.shape.channels ≡ held o = ap (λ n. held o * n) one ∙ mul-one (held o) in
          record {
            from = p.from;
            list = p.list;
            drawn = p.drawn;
            after = p.after;
            is = λ d. did.1.1.before j (omega arith) d ∙ p.is d;
            others = λ l c z. p.others l c (old l i (omega (arith, p.after)) z);
          }

  drew_ok : {o o' : Open K} {ws ws' : List E} (h : History ring (stands_open o) ws) (s s' : Meaning K E) (m : ℕ) (u : Unit)
      (did : Drew ring (λ z. z.kind) (λ z. z.list) o ws s m (Ok u) o' ws' s') → Kept h → Kept (drew {o' = o'} {ws' = ws'} h s s' m (Ok u) did)
  unfolding draws origin
  drew_ok {o} {o'} {ws} {ws'} h s s' m u did kp = record {
    single = λ i v e. one i v (item_new (draws ring h) s.list i v e);
    placed = λ j i hj e. at' j i (omega (arith, to.count)) (dec_lt j (held o)) e;
    standing = tt;
  }
    where
      to : Holding o (held o + m) o'
      to = did.1.0

      last : Option ℕ
      last = Some (length (draws ring h))

      -- the kinds are the same, so that what is lawful in the one is lawful in the other
      lawful : Lawful (ring o'.kind) s.list
      lawful t = stable ((ring o'.kind).lawful (s.list t)) (λ z. did.0.1.1.1.0 (λ e. z (subst (λ (y : K). T ((ring y).lawful (s.list t))) (e ∙ sym to.kind) (did.1.2 t))))

      one : (i : ℕ) (v : ℕ → E) → (item (draws ring h) i ≡ Some v) ⊎ (s.list ≡ v) → (o'.shape.channels ≡ 1) × Lawful (ring o'.kind) v
      one i v (inl e) = let r = kp.single i v e in (to.channels ∙ r.0, subst (λ (z : K). Lawful (ring z) v) (sym to.kind) r.1)
      one i v (inr e) = (let n : ¬ (1 < o.shape.channels) = did.0.0 in omega (arith, o.shape.ok.2, to.channels), subst (Lawful (ring o'.kind)) e lawful)

      old : (j i : ℕ) → j < held o → cond (ltb j (held o)) (origin ring h j) last ≡ Some i → origin ring h j ≡ Some i
      old j i b e = subst (λ (z : Bool). cond z (origin ring h j) last ≡ Some i) (lt-ltb j (held o) b) e

      at' : (j i : ℕ) → j < held o + m → Dec (j < held o) → cond (ltb j (held o)) (origin ring h j) last ≡ Some i → Placed (drew {o' = o'} {ws' = ws'} h s s' m (Ok u) did) j i
      at' j i hj (yes b) e =
          let p = kp.placed j i b (old j i b e) in
          record {
            from = p.from;
            list = p.list;
            drawn = item_left (draws ring h) (s.list ∷ []) i p.list p.drawn;
            after = p.after;
            is = λ d. did.1.1.before j b d ∙ p.is d;
            others = λ l c z. p.others l c (old l i (omega (arith, p.after)) z);
          }
      at' j i hj (no b) e =
          let ei : length (draws ring h) ≡ i = some_injective (subst (λ (z : Bool). cond z (origin ring h j) last ≡ Some i) (le-ltb j (held o) (omega arith)) e) in
          let place : held o + (j - held o) ≡ j = omega arith in
          record {
            from = held o;
            list = s.list;
            drawn = subst (λ (z : ℕ). item (draws ring h ++ (s.list ∷ [])) z ≡ Some s.list) ei (item_last (draws ring h) s.list);
            after = omega arith;
            is = λ d. ap (λ (z : ℕ). get_or ws' z d) (sym place) ∙ did.1.1.there (j - held o) (omega arith) d;
            others = λ l c z. let p = kp.placed l i c (old l i c z) in omega (arith, item_within (draws ring h) i p.list p.drawn);
          }

  sound : {o : Open K} {ws : List E} (levels levels' : List Level) (fm fm' work work' : List E) (f : Found K) → Finds ring o ws levels fm work (Ok f) levels' fm' work' → Sound f.kind f.shape levels' fm' ws
  sound {o} {ws} levels levels' fm fm' work work' f did =
      subst (λ (z : K). Sound z f.shape levels' fm' ws) (sym did.1) (subst (λ (z : Shape). Sound o.kind z levels' fm' ws) (sym did.2) (record {
        finding = did.0.1.0;
        room = λ z. did.0.0.0 (inl z);
        extends = λ z. did.0.0.0 (inr (inl (omega (arith, did.0.1.1))));
        lawful = did.0.0.1.0;
      }))

  pub kept : {t : Stand K E} {ws : List E} (h : History ring t ws) → Kept h
  unfolding draws origin
  kept (opened k n did) = record { single = λ i w e. absurd (none_some e); placed = λ j i hj e. absurd (none_some e); standing = tt }
  kept (fed h word (Ok u) did) = fed_ok h word u did (kept h)
  kept (fed h word (Err e) did) = carry_same h (fed h word (Err e) did) refl refl (ap stands_open did.1.0) did.1.1 tt (kept h)
  kept (drew h s s' m (Ok u) did) = drew_ok h s s' m u did (kept h)
  kept (drew h s s' m (Err e) did) = carry_same h (drew h s s' m (Err e) did) refl refl (ap stands_open did.1.0) did.1.1 tt (kept h)
  kept (took_back h m (Ok u) did) = carry_fewer h (took_back h m (Ok u) did) refl refl _ did.1 (omega arith) refl (kept h)
  kept (took_back h m (Err e) did) = carry_same h (took_back h m (Err e) did) refl refl (ap stands_open did.1) refl tt (kept h)
  kept (sought h levels levels' fm fm' work work' (Ok f) did) =
      carry h (sought h levels levels' fm fm' work work' (Ok f) did) refl refl did.1 (ap (λ (z : Shape). z.channels) did.2) (omega (arith, ap (λ (z : Shape). z.count.words) did.2)) refl
      (sound levels levels' fm fm' work work' f did) (kept h)
  kept (sought h levels levels' fm fm' work work' (Err e) did) = carry_same h (sought h levels levels' fm fm' work work' (Err e) did) refl refl (ap stands_open did.1) refl tt (kept h)
  kept (reopened levels fm h did) =
      carry h (reopened levels fm h did) refl refl did.kind (ap (λ (z : Shape). z.channels) did.shape) (omega (arith, ap (λ (z : Shape). z.count.words) did.shape)) refl tt (kept h)
  kept (profiled h numbers numbers' work work' fm fm' (Ok u) did) = carry_fewer h (profiled h numbers numbers' work work' fm fm' (Ok u) did) refl refl _ did.1.0 (omega arith) refl (kept h)
  kept (profiled h numbers numbers' work work' fm fm' (Err e) did) = carry_same h (profiled h numbers numbers' work work' fm fm' (Err e) did) refl refl (ap stands_open did.1.0) refl tt (kept h)
