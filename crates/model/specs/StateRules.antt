-- The Rust's rules for one state: mod.rs, and the lines of texture.rs that make a new state from an old and a given one. `none` is a
-- conflict.
use Rattle.std.specs.Prelude.{◌-◌, ◌&&◌, ◌||◌, if◌then◌else◌}
use Rattle.model.specs.Prelude.{ℕ, Bool, not, Option, None, Some, eqb, bit_and, bit_or}
use Rattle.model.specs.{declared.UsageFlags.UsageFlags}
use Rattle.std.specs.Int.Count.{ones_in}

-- the two states of a transition
pub record Move : Type 0 where
  pub old : ℕ
  pub new : ℕ

-- `invalid_resource_state`: `any_exclusive` and not `is_power_of_two`
unfoldable pub invalid_state : UsageFlags → ℕ → Bool
unfolding ones_in
invalid_state p s = not (eqb (bit_and s p.exclusive) 0) && not (eqb (ones_in 16 s) 1)

-- `skip_barrier`: the mask holds all of the old state
unfoldable pub skip_barrier : ℕ → ℕ → ℕ → Bool
skip_barrier mask old new = eqb old new && eqb (bit_and mask old) old

-- `state - TextureUses::UNKNOWN`: the state without the bits of another
unfoldable pub less : ℕ → ℕ → ℕ
less bits s = s - bit_and bits s

-- a Single texture's state with a given one
unfoldable pub unite : UsageFlags → ℕ → ℕ → Option ℕ
unfolding invalid_state
unite p old new = let u = bit_or old new in if invalid_state p u then None else Some u

-- a range's state with a given one: less UNKNOWN, and where nothing is left the old one stays
unfoldable pub unite_known : UsageFlags → ℕ → ℕ → Option ℕ
unfolding invalid_state less
unite_known p old new =
    let u = less p.unknown (bit_or old new) in if eqb u 0 then Some old else if invalid_state p u then None else Some u

-- the transition that `barrier` writes, if it writes one
unfoldable pub move_of : ℕ → ℕ → ℕ → ℕ → Option Move
unfolding skip_barrier
move_of unknown mask old new =
    if eqb old unknown || eqb new unknown || skip_barrier mask old new then None else Some (record { old = old; new = new })

-- what `update` leaves of a Single end's state where a given one lies
abbrev pub end_after : ℕ → ℕ → ℕ → ℕ
end_after unknown old new = if eqb new unknown then old else new
