-- What the checks read of a table, the head of its view, and what each check of one texture tells.
use Rattle.model.specs.Prelude.{ℕ, zero, suc, refl, ap, ◌∙◌, Option, None, Some, List, map, get_or, result_err}
use Rattle.model.specs.declared.{UsageFlags.UsageFlags, Extent.Extent, Refusal.Refusal, Selector.Selector}
use Rattle.model.specs.{Sets.{Head, own_extent, head_of}, CheckLaws.checks_append}
use Rattle.model.specs.{Refusals.{first_failing, texture_checks, interval_checks, selector_checks, state_checks}, Log.or_next}
use Rattle.model.specs.Refusals.{single_refusal, Verdict}
use Rattle.std.specs.Prelude.{◌≤◌, ◌<◌, ◌≡◌, ◌++◌, if◌then◌else◌}
use Rattle.set_storage.specs.Storage.{numbers_of, flags_of, owned_of, extent_of, slot_with, set_with, scope_of, tracker_of, list_from}
use Rattle.set_storage.specs.{Storage.textures_at, Lists.list_at}

-- a table has words for every index below its N
abbrev pub Few : List ℕ → Type 0
Few t = get_or t textures_at 0 ≤ 64

-- so have two
abbrev pub BothFew : List ℕ → List ℕ → Type 0
BothFew t g = Few t × Few g

-- the extent of an index that is owned
abbrev pub owned_extent : List ℕ → ℕ → Option Extent
owned_extent t i = if owned_of t i then Some (extent_of t i) else None

abbrev pub head_in : List ℕ → Head
head_in t = record { numbers = numbers_of t; flags = flags_of t; extents = list_from (owned_extent t) 0 (get_or t textures_at 0) }

-- ---- The checks of a call on one texture, in three parts, and all of them
unfoldable pub texture_refusal : List ℕ → ℕ → Extent → Option Refusal
texture_refusal t i sh = first_failing (texture_checks (head_in t) i sh)

unfoldable pub selector_refusal : Extent → Option Selector → Option Refusal
selector_refusal sh s = first_failing (selector_checks sh s)

unfoldable pub state_refusal : UsageFlags → ℕ → Option Refusal
state_refusal p st = first_failing (state_checks p st)

unfoldable pub use_refusal : List ℕ → ℕ → Extent → Option Selector → ℕ → Option Refusal
use_refusal t i sh s st = single_refusal (head_in t) i sh s st

-- THE CONTRACTS: what each tells
pub record TextureTold (t : List ℕ) (i : ℕ) (sh : Extent) (x : Verdict) : Type 0 where
  pub is : texture_refusal t i sh ≡ result_err x

pub record EndsTold (empty reversed : Refusal) (start end : ℕ) (x : Verdict) : Type 0 where
  pub is : first_failing (interval_checks empty reversed start end) ≡ result_err x

pub record SelectorTold (sh : Extent) (s : Option Selector) (x : Verdict) : Type 0 where
  pub is : selector_refusal sh s ≡ result_err x

pub record StateTold (p : UsageFlags) (st : ℕ) (x : Verdict) : Type 0 where
  pub is : state_refusal p st ≡ result_err x

pub record UseTold (t : List ℕ) (i : ℕ) (sh : Extent) (s : Option Selector) (st : ℕ) (x : Verdict) : Type 0 where
  pub is : use_refusal t i sh s st ≡ result_err x

-- ---- it is the head of a scope's view and of a tracker's
extents_are : {H : Type 0} (held : ℕ → H) (t : List ℕ) (k n : ℕ)
    → map own_extent (list_from (slot_with held t) k n) ≡ list_from (owned_extent t) k n
unfolding list_from
extents_are held t k zero = refl
extents_are held t k (suc n) = rw (extents_are held t (suc k) n)

pub head_is : {H : Type 0} (held : ℕ → H) (t : List ℕ) → head_of (set_with held t) ≡ head_in t
head_is held t = rw (extents_are held t 0 (get_or t textures_at 0))

pub scope_head : (t r : List ℕ) → head_of (scope_of t r) ≡ head_in t
unfolding scope_of
scope_head t r = head_is _ t

pub tracker_head : (t s e : List ℕ) → head_of (tracker_of t s e).set ≡ head_in t
unfolding tracker_of
tracker_head t s e = head_is _ t

-- an index within the set
pub extent_at : (t : List ℕ) (i : ℕ) → i < get_or t textures_at 0 → get_or (head_in t).extents i None ≡ owned_extent t i
extent_at t i h = list_at (owned_extent t) (get_or t textures_at 0) i None h

pub use_splits : (t : List ℕ) (i : ℕ) (sh : Extent) (s : Option Selector) (st : ℕ)
    → use_refusal t i sh s st ≡ or_next (or_next (texture_refusal t i sh) (selector_refusal sh s)) (state_refusal (flags_of t) st)
unfolding use_refusal texture_refusal selector_refusal state_refusal
use_splits t i sh s st =
    checks_append (texture_checks (head_in t) i sh ++ selector_checks sh s) (state_checks (flags_of t) st)
    ∙ ap (λ (o : Option Refusal). or_next o (first_failing (state_checks (flags_of t) st))) (checks_append (texture_checks (head_in t) i sh)
    (selector_checks sh s))
