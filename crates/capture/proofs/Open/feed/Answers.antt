use Rattle.std.proofs.Common.{◌≡◌, ℕ, ◌*◌, length, refl, subst, arith}
use Rattle.recurrence.specs.Memory.{Written, at}
use Rattle.capture.proofs.Rooms.{room}
use Rattle.capture.proofs.Open.feed.Goals as goal

pub put-requires : goal.put-requires
put-requires g c =
    let s = c.args.self.now.shape in
    let h = room s.count.words s.capacity s.channels _ c.if-self.false c.if-words-self.false in
    omega arith

pub returns : goal.returns
returns g c =
    let R = g.K.Kind.ring c.args.self.now.kind in
    let s = c.args.self.now.shape in
    let word = c.args.word.now in
    let e : length word ≡ s.channels = omega arith in (
      ((λ z. z e), ((λ z. omega arith), ((λ z. omega arith), (c.if-not-all_lawful.ensures.yes tt, tt)))),
      (
        record { kind = refl; channels = refl; capacity = refl; count = refl },
        subst (λ (n : ℕ). Written c.args.words.now c.put.new.words (s.count.words * s.channels) n (at R word)) e (c.put.ensures R.zero),
      ),
    )
