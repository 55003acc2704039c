-- The entries that one step adds, in the model's words.
use Rattle.std.specs.Prelude.{◌≡◌, ◌||◌, ◌∷◌, ◌++◌, if◌then◌else◌}
use Rattle.model.specs.Prelude.{ℕ, suc, refl, Bool, true, false, not, Option, None, Some, List}
use Rattle.model.specs.Prelude.{[], eqb}
use Rattle.model.specs.{declared.{Range.Range, Selector.Selector}, Base.{each}, Representation.select}
use Rattle.model.specs.{RangedStates.iter_filter, StateRules.{Move, move_of, skip_barrier}, Texture.{Entry, entry, mip_entries}}
use Rattle.range_states.specs.Filtering.{overlaps, clip}
use Rattle.texture_barrier.specs.declared.mip.Change.{Change}

-- ---- One transition
abbrev pub is_made : Option Move → Bool
is_made None = false
is_made (Some m) = true

pub moves_is : (unknown mask old new : ℕ)
    → is_made (move_of unknown mask old new) ≡ not (eqb old unknown || eqb new unknown || skip_barrier mask old new)
unfolding move_of
moves_is unknown mask old new = go (eqb old unknown || eqb new unknown || skip_barrier mask old new)
  where
    go : (b : Bool) → is_made (if b then None else Some (record { old = old; new = new })) ≡ not b
    go true = refl
    go false = refl

module _ (q : Selector) (unknown mask old new : ℕ) where
  pub entry_yes : is_made (move_of unknown mask old new) ≡ true
      → entry q (move_of unknown mask old new) ≡ record { selector = q; move = record { old = old; new = new } } ∷ []
  unfolding move_of
  entry_yes = go (eqb old unknown || eqb new unknown || skip_barrier mask old new)
    where
      go : (b : Bool) → is_made (if b then None else Some (record { old = old; new = new })) ≡ true
          → entry q (if b then None else Some (record { old = old; new = new }))
          ≡ record { selector = q; move = record { old = old; new = new } } ∷ []
      go true h = cc
      go false h = refl

  pub entry_no : is_made (move_of unknown mask old new) ≡ false → entry q (move_of unknown mask old new) ≡ []
  entry_no = go (move_of unknown mask old new)
    where
      go : (m : Option Move) → is_made m ≡ false → entry q m ≡ []
      go None h = refl
      go (Some m) h = cc

-- ---- What is made of a range r
-- it goes to one state
abbrev pub to_change : ℕ → Range → Change
to_change new r = record { made = true; start = r.start; end = r.end; old = r.state; new = new }

-- it is given, and one state goes to its state
abbrev pub from_change : ℕ → Range → Change
from_change cur r = record { made = true; start = r.start; end = r.end; old = cur; new = r.state }

-- what of it lies within g goes to the state of g
abbrev pub within_change : Range → Range → Change
within_change g r =
    let c = clip g.start g.end r in
    record { made = overlaps g.start g.end r; start = c.start; end = c.end; old = c.state; new = g.state }

-- ---- What is added for a range of mip k
-- what is made of it
abbrev pub change_entries : ℕ → ℕ → ℕ → Change → List Entry
change_entries unknown mask k c =
    if c.made then entry (select k (suc k) c.start c.end) (move_of unknown mask c.old c.new) else []

abbrev pub to_state : ℕ → ℕ → ℕ → ℕ → Range → List Entry
to_state new unknown mask k r = change_entries unknown mask k (to_change new r)

abbrev pub from_state : ℕ → ℕ → ℕ → ℕ → Range → List Entry
from_state cur unknown mask k r = change_entries unknown mask k (from_change cur r)

abbrev pub within : Range → ℕ → ℕ → ℕ → Range → List Entry
within g unknown mask k r = change_entries unknown mask k (within_change g r)

-- each range that is held on the mip goes to it, what of that lies within
abbrev pub against : (ℕ → List Range) → ℕ → ℕ → ℕ → Range → List Entry
against held unknown mask k g = each (within g unknown mask k) (held k)

-- and for the ranges of a mip, where f tells what is added for one
abbrev pub step_entries : (ℕ → Range → List Entry) → ℕ → List Range → List Entry
step_entries f k s = each (f k) s

-- ---- The parts within a range, as the model lists them
abbrev pub to_state_in : ℕ → ℕ → ℕ → ℕ → ℕ → ℕ → List Range → List Entry
to_state_in unknown mask new a e k s = mip_entries (λ cur. move_of unknown mask cur new) k (iter_filter a e s)

module _ (unknown mask : ℕ) (g : Range) (k : ℕ) where
  pub within_is : (s : List Range) → to_state_in unknown mask g.state g.start g.end k s ≡ each (within g unknown mask k) s
  unfolding iter_filter overlaps
  within_is [] = refl
  within_is (r ∷ s) = go (overlaps g.start g.end r) (within_is s)
    where
      go : (b : Bool) → to_state_in unknown mask g.state g.start g.end k s ≡ each (within g unknown mask k) s
          → mip_entries (λ cur. move_of unknown mask cur g.state) k (if b then clip g.start g.end r
          ∷ iter_filter g.start g.end s else iter_filter g.start g.end s)
          ≡ (if b then entry (select k (suc k) (clip g.start g.end r).start (clip g.start g.end r).end) (move_of unknown mask
          r.state g.state) else []) ++ each (within g unknown mask k) s
      go true h = rw h
      go false h = h
