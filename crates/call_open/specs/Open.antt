-- What opening asks for, answers and writes.
use Rattle.model.specs.Prelude.{ℕ, zero, suc, min, true, List, [], length, set, sets}
use Rattle.model.specs.{declared.UsageFlags.UsageFlags, Sets.{Opening, open_set, open_tracker}}
use Rattle.model.specs.{Refusals.{opening_refusal, opens}, Log.{Outcome, verdict}, Texture.single}
use Rattle.std.specs.Prelude.{◌/◌, ◌≡◌, ◌∷◌, if◌then◌else◌}
use Rattle.set_storage.specs.Storage.{scope_of, tracker_of, end_half, layers_at, mips_at, owned_at, start_half, state_at, table_length}

-- what a caller asks to open
abbrev pub asked : ℕ → ℕ → ℕ → UsageFlags → ℕ → ℕ → Opening
asked n m w p mask room = record { numbers = record { textures = n; mips = m; layers = w }; flags = p; mask = mask; room = room }

-- ---- The table, number by number
-- its head written
abbrev pub headed : List ℕ → ℕ → ℕ → ℕ → UsageFlags → ℕ → List ℕ
headed t n m w p mask = sets t 0 (n ∷ m ∷ w ∷ p.exclusive ∷ p.uninitialized ∷ p.complex ∷ p.unknown ∷ mask ∷ [])

-- index k: not owned, no extent, in the state u
abbrev pub cleared_at : List ℕ → ℕ → ℕ → List ℕ
cleared_at t u k = set (set (set (set (set t (owned_at k) 0) (mips_at k) 0) (layers_at k) 0)
    (state_at start_half k) u) (state_at end_half k) u

-- the first k indices cleared
unfoldable pub cleared : List ℕ → ℕ → ℕ → List ℕ
cleared t u zero = t
cleared t u (suc k) = cleared_at (cleared t u k) u k

-- a table is opened or refused: the table's length, the answer, and the table as it was, or written
pub record TableOpened (t : List ℕ) (n m w : ℕ) (p : UsageFlags) (mask room : ℕ) (x : Outcome) (t' : List ℕ) : Type 0 where
  pub long : length t ≡ table_length
  pub answer : x ≡ verdict (opening_refusal (asked n m w p mask room))
  pub content : t' ≡ (if opens (asked n m w p mask room) then cleared (headed t n m w p mask) p.uninitialized n else t)

-- THE CONTRACTS: the answer; the table as it was, or written; and then its view
pub record OpenedScope (t r : List ℕ) (n m w : ℕ) (p : UsageFlags) (x : Outcome) (t' : List ℕ) : Type 0 where
  pub answer : x ≡ verdict (opening_refusal (asked n m w p 0 (length r / 3)))
  pub content : t' ≡ (if opens (asked n m w p 0 (length r / 3)) then cleared (headed t n m w p 0) p.uninitialized n else t)
  pub view : opens (asked n m w p 0 (length r / 3)) ≡ true → scope_of t' r ≡ open_set single (asked n m w p 0 (length r / 3))

-- a tracker's room is that of its start or of its end, whichever is less
pub record OpenedTracker (t s e : List ℕ) (n m w : ℕ) (p : UsageFlags) (mask : ℕ) (x : Outcome) (t' : List ℕ) : Type 0 where
  pub answer : x ≡ verdict (opening_refusal (asked n m w p mask (min (length s / 3) (length e / 3))))
  pub content : t' ≡ (if opens (asked n m w p mask (min (length s / 3) (length e / 3)))
      then cleared (headed t n m w p mask) p.uninitialized n else t)
  pub view : opens (asked n m w p mask (min (length s / 3) (length e / 3))) ≡ true
      → tracker_of t' s e ≡ open_tracker single (asked n m w p mask (min (length s / 3) (length e / 3)))
