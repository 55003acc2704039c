-- where a mip's ranges begin is bounded, since the limits are
use Rattle.model.specs.Prelude.{ℕ, zero, suc, mul-le-mul, arith}
use Rattle.std.proofs.Common.{◌+◌, ◌*◌, ◌≤◌}
use Rattle.replay_lines.proofs.sets.Place.ranges_at.Goals as goal

pub returns : goal.returns
returns c =
    let i = c.args.self.index in let m = c.min-mips.result in let w = c.min-layers.result in
    let x : i ≤ 63 = omega arith in let y : m ≤ 16 = omega arith in let z : w ≤ 256 = omega arith in
    let a : i * m ≤ 63 * 16 = mul-le-mul x y in
    let b : i * m + c.args.self.mip ≤ 1023 = omega arith in
    let d : w * (i * m + c.args.self.mip) ≤ 256 * 1023 = mul-le-mul z b in
    omega arith
