-- WHAT HOLDS of the rest that a merge tells: it lies in its own log. What a log in order is.
use Rattle.std.specs.Prelude.{◌*◌, ◌%◌, ◌≤◌, ◌≡◌, ◌∷◌}
use Rattle.model.specs.Prelude.{ℕ, arith, true}
use Rattle.model.specs.Prelude.{Option, None, Some, List, [], eqb, eqb-true, length}
use Rattle.model.specs.{declared.{PendingTransition.PendingTransition, Refusal.Refusal}}
use Rattle.model.specs.{BoolLaws.and_both, Refusals.{first_failing}}
use Rattle.model.specs.Log.{Log, Logged, unless_logged}
use Rattle.texture_barrier.specs.Entries.{entries_of, entries_long}
use Rattle.log_merge.specs.{declared.Rest.Rest, Merge.{merge_of, ascending}}
use Rattle.log_merge.specs.Calls.{in_order, merge_checks, end_of, rest_from, merging_logs, which_of, begins_at}

-- ---- It lies in its own log
rest_in : (s t : List PendingTransition) (a b : List ℕ) → begins_at (rest_from s t a b) ≤ length (which_of (rest_from s t a b) a b)
rest_in [] t a b = omega arith
rest_in (e ∷ s) t a b = omega arith

pub rest_within : (a b : List ℕ) (third : Log)
    → begins_at (merging_logs a b third).after ≤ length (which_of (merging_logs a b third).after a b)
unfolding merging_logs
rest_within a b third = go (first_failing (merge_checks a b third)) _ (rest_in (merge_of a b).first (merge_of a b).second a b)
  where
    go : (f : Option Refusal) (o : Logged Rest) → begins_at o.after ≤ length (which_of o.after a b)
        → begins_at (unless_logged f third (end_of b) o).after ≤ length (which_of (unless_logged f third (end_of b) o).after a b)
    go None o h = h
    go (Some r) o h = omega arith

-- ---- A log in order
-- a log in order is whole and ascends
pub in_order_lem : (a : List ℕ) → in_order a ≡ true → (length a ≡ 7 * length (entries_of a)) × (ascending (entries_of a) ≡ true)
unfolding in_order
in_order_lem a e =
    let p = and_both (eqb (length a % 7) 0) (ascending (entries_of a)) e in
    let z = eqb-true (length a % 7) 0 p.0 in
    (rw (entries_long a) (omega arith), p.1)
