use Rattle.generators.proofs.Generator.check.Goals as goal

pub returns-in-Register : goal.returns-in-Register
returns-in-Register g c = rw (c.in-Register.is, ← c.as_slice.ensures.value, ← c.as_slice-in-Register.ensures.value) c.check_register.ensures
