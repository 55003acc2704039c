-- The laws by which the list that the writer judges is the definition's, and bytes put at p.
use Rattle.std.specs.Prelude.{◌+◌, ◌*◌, ◌-◌, ◌<◌, ◌≤◌, ◌≡◌, ◌∷◌, ◌++◌, Some, None, Ok, Err}
use Rattle.std.specs.List.{push}
use Rattle.model.specs.Prelude.{ℕ, refl, ap, sym, ◌∙◌, List, [], arith, length, take, drop, get_or, drop_at}
use Rattle.model.specs.Prelude.{length-take-le, le-leb, lt-leb, max, eqb}
use Rattle.model.specs.Prelude.{append_assoc, append-nil, map-append, eq-eqb, ne_eqb, lt-ltb, le-ltb}
use Rattle.model.specs.BoolLaws.{by_test}
use Rattle.model.specs.declared.Refusal.{TheVariants.{GroupsTooDeep, PlanUnbalanced}}
use Rattle.plan_file.specs.declared.kinds.ItemKind.{TheVariants.{Opened, Used, Closed}}
use Rattle.plan_file.specs.{Kinds.kind_of, Plan.{Event, opened, used, closed, other}, Write.{level_at, levels, deepest}}
use Rattle.plan_file.specs.{Writing.{cost, costs, put_at, judged}, Items.{event_in, events_in, event_is}}
use Rattle.plan_file.specs.{Levels.{level_closed, level_deep}, Copies.{copied, copied_over}}
use borrow.Rule.Slice.PartMut.{mid_of, put_mid}

-- ---- Bytes put at p
module _ (l x : List ℕ) (p : ℕ) where
  pub put_at_is : {y : List ℕ} → p + length x ≤ length l → y ≡ x → put_mid p (p + length x - p) l y ≡ put_at p x l
  unfolding put_at
  put_at_is h e = rw (le-leb (p + length x) (length l) h) (copied l x p (p + length x) (omega arith) h e)

  pub put_at_past : length l < p + length x → l ≡ put_at p x l
  unfolding put_at
  put_at_past h = rw (lt-leb (p + length x) (length l) h)

  pub put_at_drop : p + length x ≤ length l → drop p (put_at p x l) ≡ x ++ drop (p + length x) l
  unfolding put_at
  put_at_drop h = rw (le-leb (p + length x) (length l) h) (drop_at (take p l) (x ++ drop (p + length x) l) p
      (length-take-le p l (omega arith)))

-- bytes copied there, as many, are put there
pub put_at_over : (l x y : List ℕ) (p : ℕ) → p + length x ≤ length l
    → y ≡ take (length x) x ++ drop (length x) (mid_of p (p + length x - p) l) → put_mid p (p + length x - p) l y ≡ put_at p x l
unfolding put_at
put_at_over l x y p h e = rw (le-leb (p + length x) (length l) h) (copied_over l x y p (p + length x) (omega arith) h e)

-- ---- One event: the level rises by one at most, and it adds 18 bytes at most
pub level_up : (e : Event) (k : ℕ) → level_at e k ≤ k + 1
level_up opened k = omega arith
level_up (used p) k = omega arith
level_up closed k = by_test (λ (j : ℕ). j ≤ k + 1) (eqb k 0) (λ _. omega arith) (λ _. omega arith)
level_up other k = omega arith

pub cost_low : (e : Event) → cost e ≤ 18
cost_low opened = omega arith
cost_low (used p) = omega arith
cost_low closed = omega arith
cost_low other = omega arith

-- ---- The list is judged
-- what follows an event that is not balanced is not balanced
unbalanced : (xs es : List Event) → levels es ≡ 0 → levels (xs ++ es) ≡ 0
unfolding levels
unbalanced [] es h = h
unbalanced (opened ∷ xs) es h = omega (arith, unbalanced xs es h)
unbalanced (used p ∷ xs) es h = unbalanced xs es h
unbalanced (closed ∷ xs) es h = rw (unbalanced xs es h)
unbalanced (other ∷ xs) es h = refl

-- items gone through from the last to the first: one more, and all
pub next_split : (gone rest₁ : List (List ℕ)) (it : List ℕ) {its rest : List (List ℕ)} → its ≡ rest ++ gone → rest ≡ push rest₁ it
    → its ≡ rest₁ ++ (it ∷ gone)
next_split gone rest₁ it e n = e ∙ ap (λ (x : List (List ℕ)). x ++ gone) n ∙ append_assoc rest₁ (it ∷ []) gone

pub none_left : (rest gone : List (List ℕ)) {its : List (List ℕ)} → its ≡ rest ++ gone → length rest ≡ 0 → its ≡ gone
none_left [] gone e h = e
none_left (x ∷ rest) gone e h = absurd (omega arith)

-- of the items its the last, `gone`, are gone through, and `rest` are left
pub record Weighing (its rest : List (List ℕ)) (k deep total : ℕ) : Type 0 where
  pub gone : List (List ℕ)
  pub split : its ≡ rest ++ gone
  pub level : levels (events_in gone) ≡ k + 1
  pub depth : deepest (events_in gone) ≡ deep + 1
  pub sum : total ≡ costs (events_in gone)
  pub low : k ≤ length gone
  pub few : total ≤ 18 * length gone

pub weigh_starts : (its : List (List ℕ)) → Weighing its its 0 0 0
unfolding levels deepest costs
weigh_starts its = record {
  gone = [];
  split = sym (append-nil its);
  level = refl;
  depth = refl;
  sum = refl;
  low = omega arith;
  few = omega arith;
}

module _ {its rest : List (List ℕ)} {k deep total : ℕ} (g : Weighing its rest k deep total) (rest₁ : List (List ℕ)) (it : List ℕ)
    (n : rest ≡ push rest₁ it) where
  pub weigh_opened : Some Opened ≡ kind_of (get_or it 0 0) → {k₁ : ℕ} → k₁ + 1 ≡ k → Weighing its rest₁ k₁ deep (total + 3)
  unfolding levels deepest costs
  weigh_opened o {k₁} h = let e = event_is it o in record {
    gone = it ∷ g.gone;
    split = next_split g.gone rest₁ it g.split n;
    level = rw e (omega (arith, g.level));
    depth = rw e (omega (arith, g.level, g.depth, level_deep (events_in g.gone)));
    sum = rw e (omega (arith, g.sum));
    low = omega (arith, g.low);
    few = omega (arith, g.few);
  }

  pub weigh_used : Some Used ≡ kind_of (get_or it 0 0) → Weighing its rest₁ k deep (total + 18)
  unfolding levels deepest costs
  weigh_used o = let e = event_is it o in record {
    gone = it ∷ g.gone;
    split = next_split g.gone rest₁ it g.split n;
    level = rw e g.level;
    depth = rw e (omega (arith, g.level, g.depth, level_deep (events_in g.gone)));
    sum = rw e (omega (arith, g.sum));
    low = omega (arith, g.low);
    few = omega (arith, g.few);
  }

  pub weigh_closed : Some Closed ≡ kind_of (get_or it 0 0) → {deep₁ : ℕ} → deep₁ ≡ max deep (k + 1) → Weighing its rest₁ (k + 1) deep₁ total
  unfolding levels deepest costs
  weigh_closed o h = let e = event_is it o in record {
    gone = it ∷ g.gone;
    split = next_split g.gone rest₁ it g.split n;
    level = rw e (level_closed (levels (events_in g.gone)) (omega (arith, g.level)) ∙ ap (λ (j : ℕ). j + 1) g.level);
    depth = rw e (omega (arith, level_closed (levels (events_in g.gone)) (omega (arith, g.level)), g.level, g.depth));
    sum = rw e (omega (arith, g.sum));
    low = omega (arith, g.low);
    few = omega (arith, g.few);
  }

  stuck : level_at (event_in it) (levels (events_in g.gone)) ≡ 0 → Err PlanUnbalanced ≡ judged (events_in its)
  unfolding levels judged
  stuck z =
      let no : levels (events_in its) ≡ 0 = rw (next_split g.gone rest₁ it g.split n, map-append)
      (unbalanced (events_in rest₁) (events_in (it ∷ g.gone)) z) in
      rw (ne_eqb (levels (events_in its)) 1 (λ e. omega arith))

  pub weigh_none : None ≡ kind_of (get_or it 0 0) → Err PlanUnbalanced ≡ judged (events_in its)
  weigh_none o = stuck (rw (event_is it o))

  pub weigh_unopened : Some Opened ≡ kind_of (get_or it 0 0) → k ≡ 0 → Err PlanUnbalanced ≡ judged (events_in its)
  weigh_unopened o z = stuck (rw (event_is it o) (omega (arith, g.level)))

module _ {its rest : List (List ℕ)} {k deep total : ℕ} (g : Weighing its rest k deep total) (h : length rest ≡ 0) where
  all_gone : its ≡ g.gone
  all_gone = none_left rest g.gone g.split h

  pub weigh_open : (k ≡ 0 → ⊥) → Err PlanUnbalanced ≡ judged (events_in its)
  unfolding judged
  weigh_open f = rw (all_gone, ne_eqb (levels (events_in g.gone)) 1 (λ e. f (omega (arith, g.level))))

  module _ (z : k ≡ 0) where
    level_one : levels (events_in g.gone) ≡ 1
    level_one = omega (arith, g.level)

    pub weigh_deep : 8 < deep → Err GroupsTooDeep ≡ judged (events_in its)
    unfolding judged
    weigh_deep d = rw (
      all_gone,
      eq-eqb (levels (events_in g.gone)) 1 level_one,
      lt-ltb 9 (deepest (events_in g.gone)) (omega (arith, g.depth)),
    )

    pub weigh_done : deep ≤ 8 → Ok total ≡ judged (events_in its)
    unfolding judged
    weigh_done d = rw (
      all_gone,
      eq-eqb (levels (events_in g.gone)) 1 level_one,
      le-ltb 9 (deepest (events_in g.gone)) (omega (arith, g.depth)),
    ) (ap Ok g.sum)
