-- The model's `barrier` of one texture, by cases, as the code adds its entries mip by mip.
use Rattle.std.specs.Prelude.{◌-◌, ◌≤◌, ◌<◌, ◌≡◌, ◌&&◌, ◌∷◌, if◌then◌else◌}
use Rattle.model.specs.Prelude.{ℕ, suc, arith, refl, ◌∙◌, Bool, true, false, List, [], map, append-nil, leb}
use Rattle.model.specs.Prelude.{le-leb, lt-leb, lt-ltb, le-ltb}
use Rattle.model.specs.declared.{PendingTransition.PendingTransition, Range.Range, Selector.Selector, Extent.Extent, UsageFlags.UsageFlags}
use Rattle.model.specs.{Base.{each, each_at}, Refusals.tracker_index, RangedStates.range}
use Rattle.model.specs.{Representation.{select, full, mip_start, mip_end, layer_start, layer_end, in_mips}, StateRules.move_of}
use Rattle.model.specs.Texture.{single, many, Piece, Given, given_single, given_many, pieces_of, Entry, entry, barrier}
use Rattle.model.specs.ListLaws.{each_map, each_at_lem, each_ext, at_ext}
use Rattle.set_storage.specs.{declared.stored.Stored.Stored, Storage.list_from, Stored.held_in, Uses.piece}
use Rattle.texture_barrier.specs.{declared.transition.Task.Task, Entries.entries_at, Mips.{mips_same, mips_only, mips_one}}
use Rattle.texture_barrier.specs.Steps.{to_state, from_state, within, against, step_entries, to_state_in, within_is}

-- the transitions from a tracker's end of a stored texture to what is given
abbrev pub barrier_at : UsageFlags → ℕ → Extent → Stored → Given → List PendingTransition
barrier_at p mask sh s g = entries_at s.i (barrier p mask sh (held_in s) g)

-- what stays the same while the transitions of texture i are logged
abbrev pub task_of : ℕ → UsageFlags → ℕ → Task
task_of i p mask = record { index = tracker_index i; unknown = p.unknown; mask = mask }

-- a range of mip k, handed on
abbrev range_piece : ℕ → Range → Piece
range_piece k r = piece (select k (suc k) r.start r.end) r.state

-- what a piece adds on mip k of a Many texture
abbrev pub piece_at : ℕ → ℕ → Piece → ℕ → List Range → List Entry
piece_at unknown mask q k s =
    if in_mips q.selector k then to_state_in unknown mask q.state (layer_start q.selector) (layer_end q.selector) k s else []

-- ---- the mips that a selector has
in_mips_lem : (q : Selector) (k : ℕ) → mip_start q ≤ k → k < mip_end q → in_mips q k ≡ true
in_mips_lem q k a b = rw (le-leb (mip_start q) k a, lt-ltb k (mip_end q) b)

under_mips : (q : Selector) (k : ℕ) → k < mip_start q → in_mips q k ≡ false
under_mips q k a = rw (lt-leb (mip_start q) k a)

past_mips : (q : Selector) (k : ℕ) → mip_end q ≤ k → in_mips q k ≡ false
past_mips q k a = rw (le-ltb k (mip_end q) a) (go (leb (mip_start q) k))
  where
    go : (b : Bool) → (b && false) ≡ false
    go true = refl
    go false = refl

module _ (p : UsageFlags) (mask : ℕ) (sh : Extent) where
  pub single_to_state : (cur new : ℕ)
      → barrier p mask sh (single cur) (given_single new) ≡ entry (full sh) (move_of p.unknown mask cur new)
  unfolding barrier
  single_to_state cur new = refl

  pub many_to_state : (ss : List (List Range)) (new : ℕ)
      → barrier p mask sh (many ss) (given_single new) ≡ each_at (step_entries (to_state new p.unknown mask)) 0 ss
  unfolding barrier
  many_to_state ss new = refl

  pub single_to_piece : (cur new : ℕ) (q : Selector)
      → barrier p mask sh (single cur) (given_many (piece q new ∷ [])) ≡ entry q (move_of p.unknown mask cur new)
  unfolding barrier
  single_to_piece cur new q = append-nil _

  pub single_to_many : (cur : ℕ) (gs : List (List Range))
      → barrier p mask sh (single cur) (given_many (pieces_of gs)) ≡ each_at (step_entries (from_state cur p.unknown mask)) 0 gs
  unfolding barrier
  single_to_many cur gs =
      let f : Piece → List Entry = λ q. entry q.selector (move_of p.unknown mask cur q.state) in
      each_at_lem f (λ k. map (range_piece k)) 0 gs
      ∙ at_ext (λ k s. each f (map (range_piece k) s)) (step_entries (from_state cur p.unknown mask)) (λ k s.
      each_map f (range_piece k) s) 0 gs

  -- ---- a held Many texture, whose mips are G 0, G 1 and so on
  module _ (G : ℕ → List Range) (n : ℕ) where
    pub many_to_piece : (new : ℕ) (q : Selector) → mip_start q ≤ mip_end q → mip_end q ≤ n
        → barrier p mask sh (many (list_from G 0 n)) (given_many (piece q new ∷ []))
        ≡ each_at (step_entries (within (range (layer_start q) (layer_end q) new) p.unknown mask)) (mip_start q) (list_from G
        (mip_start q) (mip_end q - mip_start q))
    unfolding barrier
    many_to_piece new q a b =
        let F = piece_at p.unknown mask (piece q new) in
        append-nil (each_at F 0 (list_from G 0 n))
        ∙ mips_only F G (mip_start q) (mip_end q) n a b (λ x h. rw (under_mips q x h)) (λ x h. rw (past_mips q x h))
        ∙ mips_same F G (step_entries (within (range (layer_start q) (layer_end q) new) p.unknown mask)) (mip_start q)
        (mip_end q - mip_start q) (λ x h k. rw (in_mips_lem q x h (omega arith))
        (within_is p.unknown mask (range (layer_start q) (layer_end q) new) x (G x)))

    -- the piece of one range is on its own mip
    one_mip : (k : ℕ) (g : Range) → k < n
        → each_at (piece_at p.unknown mask (range_piece k g)) 0 (list_from G 0 n) ≡ each (within g p.unknown mask k) (G k)
    one_mip k g h =
        let q = select k (suc k) g.start g.end in
        mips_one (piece_at p.unknown mask (piece q g.state)) G k n h (λ x b. rw (under_mips q x b)) (λ x b. rw (past_mips q x b))
        ∙ rw (in_mips_lem q k (omega arith) (omega arith)) (within_is p.unknown mask g k (G k))

    pub many_to_many : (H : ℕ → List Range)
        → barrier p mask sh (many (list_from G 0 n)) (given_many (pieces_of (list_from H 0 n)))
        ≡ each_at (step_entries (against G p.unknown mask)) 0 (list_from H 0 n)
    unfolding barrier
    many_to_many H =
        let f : Piece → List Entry = λ q. each_at (piece_at p.unknown mask q) 0 (list_from G 0 n) in
        each_at_lem f (λ k. map (range_piece k)) 0 (list_from H 0 n)
        ∙ mips_same (λ k s. each f (map (range_piece k) s)) H (step_entries (against G p.unknown mask)) 0 n
        (λ k a b. each_map f (range_piece k) (H k)
        ∙ each_ext (λ (r : Range). f (range_piece k r)) (λ (r : Range). each (within r p.unknown mask k) (G k)) (λ r.
        one_mip k r (omega arith)) (H k))
