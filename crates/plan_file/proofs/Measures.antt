-- By which numbers a file and a list are turned away, how long an accepted file is, and how much room is always enough.
use Rattle.std.specs.Prelude.{◌+◌, ◌*◌, ◌%◌, ◌≤◌, ◌≡◌, ◌∷◌, ◌++◌, if◌then◌else◌}
use Rattle.model.specs.Prelude.{ℕ, refl, ap, sym, subst, ◌∙◌, Bool, true, false, List, [], arith}
use Rattle.model.specs.Prelude.{length, length-append, ltb, eqb}
use Rattle.model.specs.{declared.Refusal.Refusal, declared.Refusal.TheVariants.{GroupsTooDeep, PlanUnbalanced, GroupTooLong}}
use Rattle.model.specs.{Refusals.number_of, Base.{All}}
use Rattle.plan_file.specs.{Uses.count_of, Plan.{Event, opened, used, closed, other, Read, took, no, around, after, read_plan}}
use Rattle.plan_file.specs.Write.{levels, deepest, head, on_top, push, shut, written, top, widest, wrote, not, write_plan}
use Rattle.plan_file.specs.{Writing.costs, Wide.{Wide, WideRead}}
use Rattle.plan_file.proofs.ReadAnswers.{wide_fields}
use Rattle.plan_file.specs.Levels.{level_closed, level_tail, unlike_wrote, passed}
use Rattle.plan_file.proofs.{WriteAnswers.file_length, ReadingLaws.run_has}
use Rattle.plan_file.specs.Bytes.{Bytes}
use Rattle.plan_file.proofs.RoundTrips.{file_round_trip}

-- ---- By which refusals
abbrev Numbered : Read → Type 0
Numbered (took es) = Unit
Numbered (no r) = (20 ≤ number_of r) × (number_of r ≤ 23)

numbered_after : (a b : Read) → Numbered a → Numbered b → Numbered (after a b)
numbered_after (took x) (took y) p q = tt
numbered_after (took x) (no r) p q = q
numbered_after (no r) b p q = p

numbered_around : (a : Read) → Numbered a → Numbered (around a)
numbered_around (took x) p = tt
numbered_around (no r) p = p

-- a file is turned away by 20 to 23
pub read_refusals : (f : List ℕ) (r : Refusal) → read_plan f ≡ no r → (20 ≤ number_of r) × (number_of r ≤ 23)
read_refusals f r e = subst Numbered e (run_has Numbered tt numbered_after numbered_around (λ p _. tt) (omega arith, omega arith)
    (omega arith, omega arith) (omega arith, omega arith) (omega arith, omega arith) (length f) 8 f)

away_by : (a b c : Bool) (x : List ℕ) (r : Refusal)
    → (if a then (if b then not GroupsTooDeep else if c then not GroupTooLong else wrote x) else not PlanUnbalanced) ≡ not r
    → (23 ≤ number_of r) × (number_of r ≤ 25)
away_by true true c x r e = let z : number_of r ≡ 23 = cc in (omega arith, omega arith)
away_by true false true x r e = let z : number_of r ≡ 25 = cc in (omega arith, omega arith)
away_by true false false x r e = absurd (unlike_wrote (sym e))
away_by false b c x r e = let z : number_of r ≡ 24 = cc in (omega arith, omega arith)

-- a list is turned away by 23 to 25
pub write_refusals : (es : List Event) (r : Refusal) → write_plan es ≡ not r → (23 ≤ number_of r) × (number_of r ≤ 25)
unfolding write_plan
write_refusals es r e = away_by (eqb (levels es) 1) (ltb 9 (deepest es)) (ltb 65535 (widest es)) (top (written es)) r e

-- ---- How long a file is
-- three bytes for a group, 18 for a use
length_is : (es : List Event) (f : List ℕ) → Wide es → write_plan es ≡ wrote f → length f ≡ costs es
length_is es f w e = let q = passed es f e in ap length (sym q.bytes) ∙ file_length es q.level w

costs_most : (es : List Event) → costs es ≤ 18 * length es
unfolding costs
costs_most [] = omega arith
costs_most (opened ∷ es) = omega (arith, costs_most es)
costs_most (used p ∷ es) = omega (arith, costs_most es)
costs_most (closed ∷ es) = omega (arith, costs_most es)
costs_most (other ∷ es) = omega (arith, costs_most es)

costs_least : (es : List Event) → 1 ≤ levels es → 3 * length es + 3 ≤ 2 * costs es + 3 * levels es
unfolding costs levels
costs_least [] h = omega arith
costs_least (opened ∷ es) h = omega (arith, costs_least es (omega arith))
costs_least (used p ∷ es) h = omega (arith, costs_least es h)
costs_least (closed ∷ es) h =
    let g : 1 ≤ levels es = level_tail closed (levels es) h in
    let up : levels (closed ∷ es) ≡ levels es + 1 = level_closed (levels es) g in
    omega (arith, costs_least es g)
costs_least (other ∷ es) h = absurd (omega arith)

pub items_few : (f : List ℕ) (es : List Event) → Bytes f → read_plan f ≡ took es → 3 * length es ≤ 2 * length f
items_few f es b e =
    let w : write_plan es ≡ wrote f = file_round_trip f es b e in
    let one : levels es ≡ 1 = (passed es f w).level in
    let wide : Wide es = subst WideRead e (wide_fields (length f) 8 f) in
    omega (arith, costs_least es (omega arith), length_is es f wide w)

pub bytes_few : (es : List Event) (f : List ℕ) → Wide es → write_plan es ≡ wrote f → length f ≤ 18 * length es
bytes_few es f w e = omega (arith, costs_most es, length_is es f w e)

pub uses_few : (es : List Event) → count_of es ≤ length es
unfolding count_of
uses_few [] = omega arith
uses_few (opened ∷ es) = omega (arith, uses_few es)
uses_few (used p ∷ es) = omega (arith, uses_few es)
uses_few (closed ∷ es) = omega (arith, uses_few es)
uses_few (other ∷ es) = omega (arith, uses_few es)

-- ---- Every group holds a multiple of three bytes
abbrev Thirds : List (List ℕ) → Type 0
Thirds st = All (λ (g : List ℕ). length g % 3 ≡ 0) st

thirds_push : (st : List (List ℕ)) → Thirds st → Thirds (push st)
thirds_push [] h = tt
thirds_push (g ∷ gs) h = (refl, h)

thirds_top : (p : List ℕ) (st : List (List ℕ)) → length p ≡ 15 → Thirds st → Thirds (on_top (head 2 15 ++ p) st)
thirds_top p [] e h = tt
thirds_top p (g ∷ gs) e h = (omega (arith, length-append (head 2 15 ++ p) g, h.0), h.1)

thirds_shut : (st : List (List ℕ)) → Thirds st → Thirds (shut st)
thirds_shut [] h = tt
thirds_shut (g ∷ []) h = tt
thirds_shut (g ∷ (k ∷ gs)) h = (omega (arith, length-append g k, h.0, h.1.0), h.1.1)

thirds : (es : List Event) → Wide es → Thirds (written es)
unfolding written
thirds [] w = (refl, tt)
thirds (opened ∷ es) w = thirds_shut (written es) (thirds es w.1)
thirds (used p ∷ es) w = thirds_top p (written es) w.0 (thirds es w.1)
thirds (closed ∷ es) w = thirds_push (written es) (thirds es w.1)
thirds (other ∷ es) w = tt

top_third : (st : List (List ℕ)) → Thirds st → length (top st) % 3 ≡ 0
top_third [] h = refl
top_third (g ∷ gs) h = h.0

pub widest_third : (es : List Event) → Wide es → widest es % 3 ≡ 0
unfolding widest
widest_third [] w = refl
widest_third (opened ∷ es) w = omega (arith, top_third (written es) (thirds es w.1), widest_third es w.1)
widest_third (used p ∷ es) w = widest_third es w.1
widest_third (closed ∷ es) w = widest_third es w.1
widest_third (other ∷ es) w = widest_third es w.1
