-- Well-formed sets as records, field by field: what the proofs go by. Decides proves that the test of model (WellFormed) decides them.
use Rattle.std.specs.Prelude.{◌≤◌, ◌<◌, ◌≡◌}
use Rattle.model.specs.Prelude.{ℕ, Bool, true, false, List, map, eqb, bit_and, length}
use Rattle.model.specs.{declared.{Extent.Extent, Range.Range, UsageFlags.UsageFlags}, Flags.{incompatible, flags_fit}, Representation.Ends}
use Rattle.model.specs.{Sets.{Numbers, Slot, Set, Tracker, numbers_fit}, Calls.Sets, RangedStates.Tiles}
use Rattle.model.specs.{Texture.{Held, single, many, ranged}, Base.All}
use Rattle.agreement.specs.Shared.{grid_of}

-- "states nonzero, compatible, without COMPLEX", of sixteen bits
pub record StateFits (p : UsageFlags) (s : ℕ) : Type 0 where
  pub nonzero : s ≡ 0 → ⊥
  pub word : s < 65536
  pub compatible : incompatible p s ≡ false
  pub plain : bit_and s p.complex ≡ 0

-- "held whole, in a compatible nonzero state without UNKNOWN or COMPLEX"
pub record SingleFits (p : UsageFlags) (s : ℕ) : Type 0 where
  pub state : StateFits p s
  pub known : bit_and s p.unknown ≡ 0

-- "tiles layer 0 to the last with nonempty ascending ranges"
pub record MipFits (p : UsageFlags) (layers : ℕ) (s : List Range) : Type 0 where
  pub tiles : Tiles 0 s layers
  pub states : All (λ (r : Range). StateFits p r.state) s

abbrev pub HeldFits : UsageFlags → Extent → Held → Type 0
HeldFits p sh (single s) = SingleFits p s
HeldFits p sh (many ss) = (length ss ≡ sh.mips) × All (MipFits p sh.layers) ss

-- which subresources are exactly UNKNOWN
abbrev pub unknowns : ℕ → List (List ℕ) → List (List Bool)
unknowns u rows = map (map (λ c. eqb c u)) rows

-- "In a tracker, start and end agree on which cells are exactly UNKNOWN"
pub record EndsFit (p : UsageFlags) (sh : Extent) (e : Ends Held) : Type 0 where
  pub start : HeldFits p sh e.start
  pub end : HeldFits p sh e.end
  pub agree : unknowns p.unknown (grid_of sh e.start).states ≡ unknowns p.unknown (grid_of sh e.end).states

-- "a shape within M and W"
pub record ExtentFits (n : Numbers) (sh : Extent) : Type 0 where
  pub mip : 0 < sh.mips
  pub mips : sh.mips ≤ n.mips
  pub layer : 0 < sh.layers
  pub layers : sh.layers ≤ n.layers

pub record SlotFits {H : Type 0} (P : UsageFlags → Extent → H → Type 0) (n : Numbers) (p : UsageFlags) (s : Slot H) : Type 0 where
  pub extent : s.owned ≡ true → ExtentFits n s.extent
  pub held : s.owned ≡ true → P p s.extent s.held

-- "its N, M, W, room and palette meet the opening checks": the room is a slot for each index
pub record SetFits {H : Type 0} (P : UsageFlags → Extent → H → Type 0) (s : Set H) : Type 0 where
  pub numbers : numbers_fit s.numbers ≡ true
  pub flags : flags_fit s.flags ≡ true
  pub room : length s.slots ≡ s.numbers.textures
  pub slots : All (SlotFits P s.numbers s.flags) s.slots

pub record SetsFit (k : Sets ranged) : Type 0 where
  pub scopes : All (SetFits HeldFits) k.scopes
  pub trackers : All (λ (t : Tracker Held). SetFits EndsFit t.set) k.trackers
