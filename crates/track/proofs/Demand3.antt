-- Demand 3, proved of the public calls' own contracts: the theorem, with the name of its proof. To trust it, read Trace, and what that
-- names.
use Rattle.model.specs.Prelude.{subst, List, map}
use Rattle.model.specs.Calls.{newly}
use Rattle.agreement.specs.{Grid.grid, Shared.to_grids}
use Rattle.track.specs.Trace.{Lent, view_of, Ready, ScopeOpening, TrackerOpening, scope_asked, tracker_asked, opened_sets, Step, Trace}
use Rattle.track.specs.Trace.{SharedAlong}
use Rattle.track.proofs.{OpenedLaws.opened_ready, TraceLaws.{shares_from, opened_as_grids}}

-- from any well-formed sets, with the grids read off them: "In the range keeper a cell has the state of the range with its layer, or of its
-- whole texture."
pub demand3_from : (k : Lent) → Ready k → (steps : List Step) → Trace k steps → SharedAlong steps (to_grids (view_of k))
demand3_from = shares_from

-- "Take two keepers of the same scopes and trackers, however many, opened alike. .. For every list of .. calls, refused and clashing ones
-- included, given to both newly opened, they share after each call" what demand 3 lists; and no step is refused by 4, 5 or 15.
pub demand3 : (scopes : List ScopeOpening) (trackers : List TrackerOpening) (steps : List Step) → Trace (opened_sets scopes trackers) steps
    → SharedAlong steps (newly grid (map scope_asked scopes) (map tracker_asked trackers))
demand3 scopes trackers steps t = subst (SharedAlong steps) (opened_as_grids scopes trackers)
    (demand3_from (opened_sets scopes trackers) (opened_ready scopes trackers) steps t)
