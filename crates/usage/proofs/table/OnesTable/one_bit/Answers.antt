-- The entries of the two low bytes sum to one where one of sixteen bits is set.
use Rattle.std.specs.Prelude.{◌+◌, ◌/◌, ◌<◌}
use Rattle.model.specs.Prelude.{ℕ, arith, ◌∙◌, bit_and, and_le_r, List, get_or}
use Rattle.usage.specs.Ones.{CountsOnes, entry_lt, looked_up, two_bytes}
use mir.Syntax.{w8, w64}
use mir.Val.{Fits}
use Rattle.usage.proofs.table.OnesTable.one_bit.Goals as goal

-- ---- whatever part of a byte is looked up, it is within the table, and the sum of two entries fits a byte
byte : (n k : ℕ) → k < 256 → bit_and n k < 256
byte n k h = omega (arith, and_le_r n k)

byte_fits : {m : ℕ} → m < 256 → Fits w64 m
byte_fits h = record { fits = omega arith }

sum_fits : (t : List ℕ) (a b : ℕ) → CountsOnes t → Fits w8 (get_or t a 0 + get_or t b 0)
sum_fits t a b q = record { fits = omega (arith, entry_lt q a, entry_lt q b) }

pub overflow_cast-result : goal.overflow_cast-result
overflow_cast-result c = byte_fits (byte c.args.s _ (omega arith))

pub overflow_cast-result-2 : goal.overflow_cast-result-2
overflow_cast-result-2 c = byte_fits (byte (c.args.s / 256) _ (omega arith))

pub overflow_add-result : goal.overflow_add-result
overflow_add-result c = sum_fits _ _ _ c.args.self.now.counts

-- ---- the rule
pub returns : goal.returns
returns c =
    let s = c.args.s in
    looked_up _ _ _ c.args.self.now.counts (byte s _ (omega arith)) (byte (s / 256) _ (omega arith)) ∙ two_bytes s
