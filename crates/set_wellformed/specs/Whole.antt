-- THE CONTRACTS of the test of a whole set: what it returns, and that its table is as long as a table is; and what follows where a call
-- branches on it.
use Rattle.std.specs.Prelude.{◌≡◌, ◌&&◌}
use Rattle.model.specs.Prelude.{ℕ, sym, ◌∙◌, Bool, true, false, not, List, length, not-true, not-false}
use Rattle.set_storage.specs.{Lent.{scope_test, tracker_test}, Storage.table_length}

-- of a scope
pub record TestsScope (t r : List ℕ) (x : Bool) : Type 0 where
  pub is : x ≡ scope_test (record { table = t; ranges = r })
  pub long : length t ≡ table_length

-- of a tracker
pub record TestsTracker (t s e : List ℕ) (x : Bool) : Type 0 where
  pub is : x ≡ tracker_test (record { table = t; starts = s; ends = e })
  pub long : length t ≡ table_length

-- ---- What a branch on it shows
module _ {t r : List ℕ} {x : Bool} (q : TestsScope t r x) where
  pub scope_unfit : not x ≡ true → scope_test (record { table = t; ranges = r }) ≡ false
  scope_unfit e = sym q.is ∙ not-true x e

  pub scope_fit : not x ≡ false → scope_test (record { table = t; ranges = r }) ≡ true
  scope_fit e = sym q.is ∙ not-false x e

module _ {t s e : List ℕ} {x : Bool} (q : TestsTracker t s e x) where
  pub tracker_unfit : not x ≡ true → tracker_test (record { table = t; starts = s; ends = e }) ≡ false
  tracker_unfit z = sym q.is ∙ not-true x z

  pub tracker_fit : not x ≡ false → tracker_test (record { table = t; starts = s; ends = e }) ≡ true
  tracker_fit z = sym q.is ∙ not-false x z

-- ---- Two sets are tested, one after the other
pub first_unfit : (a b : Bool) → a ≡ false → (a && b) ≡ false
first_unfit a b e = rw e

pub second_unfit : (a b : Bool) → a ≡ true → b ≡ false → (a && b) ≡ false
second_unfit a b e z = rw (e, z)

pub both_fit : (a b : Bool) → a ≡ true → b ≡ true → (a && b) ≡ true
both_fit a b e z = rw (e, z)
