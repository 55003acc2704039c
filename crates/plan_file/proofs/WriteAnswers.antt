-- The whole writer: how long the file is, and that the answer is the definition's.
use Rattle.std.specs.Prelude.{◌+◌, ◌*◌, ◌-◌, ◌/◌, ◌<◌, ◌≤◌, ◌≡◌, ◌∷◌, ◌++◌, if◌then◌else◌, Ok, Err}
use Rattle.model.specs.Prelude.{ℕ, zero, suc, refl, ap, sym, subst, ◌∙◌, Bool, true, false, List, []}
use Rattle.model.specs.Prelude.{arith, length, drop, get_or, length-drop, length-append, length-take-le, ltb, eqb, lt-ltb, le-ltb, eq-eqb}
use Rattle.model.specs.Prelude.{ltb-false, eqb-true}
use Rattle.model.specs.declared.Refusal.{Refusal}
use Rattle.model.specs.{declared.Refusal.TheVariants.{GroupsTooDeep, PlanUnbalanced, GroupTooLong, NoFreeEntry}}
use Rattle.model.specs.BoolLaws.{by_test}
use Rattle.plan_file.specs.{Plan.{Event, opened, used, closed, other}, Wide.{WideUse, Wide}}
use Rattle.plan_file.proofs.ReadingLaws.{undone}
use Rattle.plan_file.specs.Write.{event_at, events_from, events_of, levels, deepest, head, written, top, widest, Wrote, wrote, not}
use Rattle.plan_file.specs.{Write.{write_plan, answer_to, left_to}, Writing.{costs, judged, Fine, Laid, PlanWritten}}
use Rattle.plan_file.specs.Levels.{flat, flat_push, flat_top, flat_shut, flat_one, levels_length, level_tail}

-- ---- The uses of a list of items have 15 bytes
wide_event : (l : List ℕ) (i : ℕ) → 16 * i + 16 ≤ length l → WideUse (event_at l i)
wide_event l i h =
    by_test WideUse (eqb (get_or l (16 * i) 0) 1) (λ _. tt) (λ _. by_test WideUse (eqb (get_or l (16 * i) 0) 2)
    (λ _. length-take-le 15 (drop (16 * i + 1) l) (omega (arith, length-drop (16 * i + 1) l)))
    (λ _. by_test WideUse (eqb (get_or l (16 * i) 0) 3) (λ _. tt) (λ _. tt)))

wide_from : (l : List ℕ) (m i : ℕ) → 16 * (i + m) ≤ length l → Wide (events_from l m i)
unfolding events_from
wide_from l zero i h = tt
wide_from l (suc m) i h = (wide_event l i (omega arith), wide_from l m (suc i) (omega arith))

pub wide_events : (l : List ℕ) → Wide (events_of l)
wide_events l = wide_from l (length l / 16) 0 (omega arith)

-- ---- How many bytes there are
flat_length : (es : List Event) → 1 ≤ levels es → Wide es → length (flat (written es)) ≡ costs es
unfolding levels written costs
flat_length [] h w = refl
flat_length (opened ∷ es) h w =
    ap length (flat_shut (written es) (omega (arith, levels_length es))) ∙ longer (length (top (written es))) (flat (written es))
    ∙ ap (λ (k : ℕ). 3 + k) (flat_length es (omega arith) w.1)
  where
    longer : (n : ℕ) (g : List ℕ) → length (head 1 n ++ g) ≡ 3 + length g
    longer n g = omega arith
flat_length (used p ∷ es) h w =
    ap length (flat_top (head 2 15 ++ p) (written es) (omega (arith, levels_length es))) ∙ longer p (flat (written es)) w.0
    ∙ ap (λ (k : ℕ). 18 + k) (flat_length es h w.1)
  where
    longer : (p g : List ℕ) → length p ≡ 15 → length ((head 2 15 ++ p) ++ g) ≡ 18 + length g
    longer p g e = omega (arith, length-append p g)
flat_length (closed ∷ es) h w = ap length (flat_push (written es))
    ∙ flat_length es (level_tail closed (levels es) h) w.1 ∙ plus (costs es)
  where
    plus : (k : ℕ) → k ≡ 0 + k
    plus k = omega arith
flat_length (other ∷ es) h w = absurd (omega arith)

pub file_length : (es : List Event) → levels es ≡ 1 → Wide es → length (top (written es)) ≡ costs es
file_length es e w = ap length (sym (flat_one (written es) (levels_length es ∙ e))) ∙ flat_length es (omega arith) w

-- a group holds at least three bytes less than the file has
narrow : (es : List Event) → 1 ≤ levels es → Wide es → widest es ≤ costs es - 3
unfolding levels widest costs
narrow [] h w = omega arith
narrow (opened ∷ es) h w =
    let k : 1 ≤ levels es = omega arith in
    omega (arith, narrow es k w.1, top_low (written es), flat_length es k w.1)
  where
    top_low : (st : List (List ℕ)) → length (top st) ≤ length (flat st)
    top_low [] = omega arith
    top_low (g ∷ gs) = omega (arith, length-append g (flat gs))
narrow (used p ∷ es) h w = omega (arith, narrow es h w.1)
narrow (closed ∷ es) h w = omega (arith, narrow es (level_tail closed (levels es) h) w.1)
narrow (other ∷ es) h w = absurd (omega arith)

-- so in a file of at most 65,538 bytes none is too long
pub short_enough : (es : List Event) {total : ℕ} → Wide es → Fine es total → total ≤ 65538 → false ≡ ltb 65535 (widest es)
short_enough es w f h = sym (le-ltb 65535 (widest es) (omega (arith, f.cost, narrow es (omega (arith, f.level)) w)))

pub short_from : (t : List ℕ) (n : ℕ) {total : ℕ} → 16 * n ≤ length t → Fine (events_from t n 0) total → total ≤ 65538
    → false ≡ ltb 65535 (widest (events_from t n 0))
short_from t n r f h = short_enough (events_from t n 0) (wide_from t n 0 (omega arith)) f h

-- ---- The answers
-- a list that is judged well
pub judged_fine : (es : List Event) (n : ℕ) → Ok n ≡ judged es → Fine es n
unfolding judged
judged_fine es n = go (eqb (levels es) 1) (ltb 9 (deepest es)) refl refl
  where
    go : (a b : Bool) → eqb (levels es) 1 ≡ a → ltb 9 (deepest es) ≡ b
        → Ok n ≡ (if a then (if b then Err GroupsTooDeep else Ok (costs es)) else Err PlanUnbalanced) → Fine es n
    go true true p q e = absurd (undone e)
    go true false p q e = record { level = eqb-true (levels es) 1 p; deep = ltb-false 9 (deepest es) q; cost = cc }
    go false b p q e = absurd (undone e)

-- and one that is not
pub judged_no : (t l : List ℕ) (es : List Event) (r : Refusal) → es ≡ events_of t → Err r ≡ judged es → PlanWritten t l (Err r) l
unfolding write_plan judged answer_to left_to
judged_no t l es r a e =
    let z = go (eqb (levels es) 1) (ltb 9 (deepest es)) (if ltb 65535 (widest es) then not GroupTooLong else wrote (top (written es)))
    (costs es) e in
    record { answer = rw (← a) z.0; left = rw (← a) z.1 }
  where
    go : (a b : Bool) (x : Wrote) (n : ℕ) → Err r ≡ (if a then (if b then Err GroupsTooDeep else Ok n) else Err PlanUnbalanced)
        → (Err r ≡ answer_to (if a then (if b then not GroupsTooDeep else x) else not PlanUnbalanced) l)
        × (l ≡ left_to (if a then (if b then not GroupsTooDeep else x) else not PlanUnbalanced) l)
    go true true x n e = (e, refl)
    go true false x n e = absurd (undone (sym e))
    go false b x n e = (e, refl)

-- what is written of a list that is judged well
module _ {es : List Event} {total : ℕ} (f : Fine es total) where
  plan_25 : ltb 65535 (widest es) ≡ true → write_plan es ≡ not GroupTooLong
  unfolding write_plan
  plan_25 h = rw (eq-eqb (levels es) 1 f.level, le-ltb 9 (deepest es) f.deep, h)

  plan_of : ltb 65535 (widest es) ≡ false → write_plan es ≡ wrote (top (written es))
  unfolding write_plan
  plan_of h = rw (eq-eqb (levels es) 1 f.level, le-ltb 9 (deepest es) f.deep, h)

module _ (t l : List ℕ) {es : List Event} {total : ℕ} {long : Bool} (a : es ≡ events_of t) (f : Fine es total)
    (g : long ≡ ltb 65535 (widest es)) where
  length_is : length (top (written es)) ≡ total
  length_is = file_length es f.level (subst Wide (sym a) (wide_events t)) ∙ sym f.cost

  pub writes_25 : long ≡ true → PlanWritten t l (Err GroupTooLong) l
  unfolding answer_to left_to
  writes_25 h = let p = plan_25 f (sym g ∙ h) in record { answer = rw (← a, p); left = rw (← a, p) }

  pub writes_15 : long ≡ false → length l < total → PlanWritten t l (Err NoFreeEntry) l
  unfolding answer_to left_to
  writes_15 h s =
      let p = plan_of f (sym g ∙ h) in
      let b = lt-ltb (length l) (length (top (written es))) (omega (arith, length_is)) in
      record { answer = rw (← a, p, b); left = rw (← a, p, b) }

  pub writes_done : long ≡ false → total ≤ length l → {q : ℕ} {z : List ℕ} → Laid es total l q z → PlanWritten t l (Ok total) z
  unfolding answer_to left_to
  writes_done h s v =
      let p = plan_of f (sym g ∙ h) in
      let b = le-ltb (length l) (length (top (written es))) (omega (arith, length_is)) in
      record { answer = rw (← a, p, b, length_is); left = rw (← a, p, b, length_is) (v.bytes s) }
