-- One texture of a tracker and what a given set holds at its index: the transitions, and what is asked for where the set owns the index.
use Rattle.model.specs.Prelude.{ℕ, List, []}
use Rattle.model.specs.{declared.{UsageFlags.UsageFlags, Extent.Extent}, Representation.Ends, Sets.Slot}
use Rattle.model.specs.{Calls.set_given, Texture.{Held, Given, Entry, from_held, barrier, ranged}}
use Rattle.std.specs.Prelude.{◌≡◌, if◌then◌else◌}
use Rattle.set_storage.specs.{declared.stored.Stored.Stored}
use Rattle.set_storage.specs.Storage.{numbers_of, flags_of, extent_of, owned_of, end_half, held_of, slot_with}
use Rattle.texture_track.specs.declared.given.GivenSet.{GivenSet}
use Rattle.set_ready.specs.{Half.{HalfReady, BothReady}, Given.{given_at, HalfGiven, WhereOwned}}

-- ---- The change: the texture is ready, and a start and an end are given
pub record BothGiven (t : List ℕ) (i : ℕ) (sh : Extent) (from to : ℕ) (g a b : List ℕ) (p : UsageFlags) : Type 0 where
  pub flags : p ≡ flags_of t
  pub start : HalfGiven t i sh from g a
  pub end : HalfGiven t i sh to g b

-- ---- Its transitions: there are none where it is not owned, and only its end is read
abbrev pub end_entries : UsageFlags → ℕ → Extent → Given → List ℕ → List ℕ → ℕ → List Entry
end_entries p mask sh from t e i = if owned_of t i then barrier p mask sh (held_of (numbers_of t) end_half t e i) from else []

-- ---- Index i, where the given set may own a texture
-- what a given set holds there, as start and end
abbrev pub pair_of : ℕ → ℕ → List ℕ → List ℕ → List ℕ → ℕ → Ends Held
pair_of from to g a b i = record { start = held_of (numbers_of g) from g a i; end = held_of (numbers_of g) to g b i }

-- what it gives as start
abbrev pub pass_start : Ends Held → Given
pass_start x = from_held x.start

-- and as end
abbrev pub pass_end : Ends Held → Given
pass_end x = from_held x.end

-- what the model makes of slot x there
abbrev pub slot_after : UsageFlags → ℕ → ℕ → List ℕ → List ℕ → List ℕ → ℕ → Slot (Ends Held) → Slot (Ends Held)
slot_after p from to g a b i x = set_given ranged pass_start pass_end p i x (slot_with (pair_of from to g a b) g i)

-- its transitions
abbrev pub given_entries : UsageFlags → ℕ → List ℕ → List ℕ → ℕ → List ℕ → List ℕ → ℕ → List Entry
given_entries p mask t e from g a i = if owned_of g i then end_entries p mask (extent_of g i) (given_at from g a i) t e i else []

-- what is asked for
abbrev pub SetsAt : List ℕ → List ℕ → List ℕ → ℕ → ℕ → ℕ → List ℕ → List ℕ → List ℕ → UsageFlags → Type 0
SetsAt t s e i from to g a b p = WhereOwned g i (BothReady t s e i (extent_of g i)) (BothGiven t i (extent_of g i) from to g a b p)

-- the same, for its transitions
abbrev pub LogsAt : List ℕ → List ℕ → ℕ → ℕ → List ℕ → List ℕ → Type 0
LogsAt t e i from g a = WhereOwned g i (HalfReady end_half t e i (extent_of g i)) (HalfGiven t i (extent_of g i) from g a)

-- ---- The same of a given set as it is handed on: what it gives as the start and as the end of texture i
abbrev pub start_of : GivenSet → ℕ → Stored
start_of g i = record { table = g.table; ranges = g.first; half = g.from; i = i }

abbrev pub end_of : GivenSet → ℕ → Stored
end_of g i = record { table = g.table; ranges = g.last; half = g.to; i = i }

-- what is asked for
abbrev pub SetsBy : List ℕ → List ℕ → List ℕ → ℕ → GivenSet → UsageFlags → Type 0
SetsBy t s e i g p = SetsAt t s e i g.from g.to g.table.now g.first.now g.last.now p

abbrev pub LogsBy : List ℕ → List ℕ → ℕ → GivenSet → Type 0
LogsBy t e i g = LogsAt t e i g.from g.table.now g.first.now

-- what the model makes of slot x, and its transitions
abbrev pub set_by : UsageFlags → GivenSet → ℕ → Slot (Ends Held) → Slot (Ends Held)
set_by p g i x = slot_after p g.from g.to g.table.now g.first.now g.last.now i x

abbrev pub entries_by : UsageFlags → ℕ → List ℕ → List ℕ → GivenSet → ℕ → List Entry
entries_by p mask t e g i = given_entries p mask t e g.from g.table.now g.first.now i
