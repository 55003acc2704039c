-- One law on states of sixteen bits.
use Rattle.std.specs.Prelude.{◌≡◌}
use Rattle.model.specs.Prelude.{ℕ, refl}
use Rattle.model.specs.{declared.UsageFlags.UsageFlags, Flags.incompatible, StateRules.invalid_state}

-- ---- the Rust's `invalid_resource_state` is 01's "incompatible"
pub invalid_is : (p : UsageFlags) (s : ℕ) → invalid_state p s ≡ incompatible p s
unfolding invalid_state incompatible
invalid_is p s = refl
