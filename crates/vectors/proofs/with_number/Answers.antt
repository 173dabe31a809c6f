use Rattle.std.proofs.Common.{◌*◌, ◌^◌}
use Rattle.std.proofs.Math.Nat.{mod-add-mod}
use Rattle.vectors.proofs.with_number.Goals as goal

pub returns : goal.returns
returns c = mod-add-mod (c.args.d * 31) (2 ^ 32) c.args.c
