-- a set has 262,144 subresources at most, since its numbers are bounded
use Rattle.model.specs.Prelude.{ℕ, zero, suc, mul-le-mul, arith}
use Rattle.std.proofs.Common.{◌*◌, ◌≤◌}
use Rattle.replay_lines.proofs.sets.Set.subresources.Goals as goal

pub returns : goal.returns
returns c =
    let n = c.min.result in let m = c.min-2.result in let w = c.min-3.result in
    let x : n ≤ 64 = omega arith in let y : m ≤ 16 = omega arith in let z : w ≤ 256 = omega arith in
    let a : n * m ≤ 64 * 16 = mul-le-mul x y in
    let d : n * m * w ≤ 1024 * 256 = mul-le-mul a z in
    omega arith
