-- The writer's definitions: levels and depths, the bytes of each level and where it ends, and what an accepted list is.
use Rattle.model.specs.Prelude.{ℕ, zero, suc, refl, ap, subst, ◌∙◌, List, [], append_assoc, append-nil, arith, length, get_or, set}
use Rattle.model.specs.Prelude.{length-append, get_or-set_same, get_or-set_other, ltb, eqb, ne_eqb, ltb-false, Bool, true, false, eqb-true}
use Rattle.model.specs.{declared.Refusal.Refusal, declared.Refusal.TheVariants.{GroupsTooDeep, PlanUnbalanced, GroupTooLong}}
use Rattle.std.specs.Prelude.{◌+◌, ◌-◌, ◌<◌, ◌≤◌, ◌≡◌, ◌∷◌, ◌++◌, if◌then◌else◌}
use Rattle.plan_file.specs.Plan.{Event, opened, used, closed, other}
use Rattle.plan_file.specs.Write.{level_at, levels, deepest, head, on_top, push, shut, written, top, widest, wrote, not, write_plan}

-- ---- Levels
pub level_closed : (k : ℕ) → 1 ≤ k → level_at closed k ≡ k + 1
level_closed k h = rw (ne_eqb k 0 (λ z. omega arith))

pub level_tail : (e : Event) (k : ℕ) → 1 ≤ level_at e k → 1 ≤ k
level_tail opened k h = omega arith
level_tail (used p) k h = h
level_tail closed zero h = absurd (omega arith)
level_tail closed (suc k) h = omega arith
level_tail other k h = absurd (omega arith)

pub level_deep : (es : List Event) → levels es ≤ deepest es
unfolding levels deepest
level_deep [] = omega arith
level_deep (e ∷ es) = omega arith

-- ---- The bytes of each level
shut_length : (st : List (List ℕ)) → length (shut st) ≡ length st - 1
shut_length [] = refl
shut_length (g ∷ []) = refl
shut_length (g ∷ (h ∷ gs)) = omega arith

push_length : (st : List (List ℕ)) → length (push st) ≡ level_at closed (length st)
push_length [] = refl
push_length (g ∷ gs) = omega (arith, level_closed (suc (length gs)) (omega arith))

top_length : (x : List ℕ) (st : List (List ℕ)) → length (on_top x st) ≡ length st
top_length x [] = refl
top_length x (g ∷ gs) = refl

pub levels_length : (es : List Event) → length (written es) ≡ levels es
unfolding written levels
levels_length [] = refl
levels_length (opened ∷ es) = shut_length (written es) ∙ ap (λ (k : ℕ). k - 1) (levels_length es)
levels_length (used p ∷ es) = top_length (head 2 15 ++ p) (written es) ∙ levels_length es
levels_length (closed ∷ es) = push_length (written es) ∙ ap (level_at closed) (levels_length es)
levels_length (other ∷ es) = refl

-- the bytes of all levels, the innermost first
abbrev pub flat : List (List ℕ) → List ℕ
flat [] = []
flat (g ∷ gs) = g ++ flat gs

pub flat_push : (st : List (List ℕ)) → flat (push st) ≡ flat st
flat_push [] = refl
flat_push (g ∷ gs) = refl

pub flat_top : (x : List ℕ) (st : List (List ℕ)) → 1 ≤ length st → flat (on_top x st) ≡ x ++ flat st
flat_top x [] h = absurd (omega arith)
flat_top x (g ∷ gs) h = append_assoc x g (flat gs)

pub flat_shut : (st : List (List ℕ)) → 2 ≤ length st → flat (shut st) ≡ head 1 (length (top st)) ++ flat st
flat_shut [] h = absurd (omega arith)
flat_shut (g ∷ []) h = absurd (omega arith)
flat_shut (g ∷ (h ∷ gs)) k = ap (λ (z : List ℕ). head 1 (length g) ++ z) (append_assoc g h (flat gs))

pub flat_one : (st : List (List ℕ)) → length st ≡ 1 → flat st ≡ top st
flat_one [] e = absurd (omega arith)
flat_one (g ∷ []) e = append-nil g
flat_one (g ∷ (h ∷ gs)) e = absurd (omega arith)

-- where each level ends, if the innermost begins at p: the k-th open group's end is the k-th of `ends`
abbrev pub Ends : List (List ℕ) → ℕ → List ℕ → Type 0
Ends [] p ends = Unit
Ends (g ∷ []) p ends = Unit
Ends (g ∷ (h ∷ gs)) p ends = (get_or ends (length gs) 0 ≡ p + length g) × Ends (h ∷ gs) (p + length g) ends

ends_set : (st : List (List ℕ)) (p : ℕ) (ends : List ℕ) (k x : ℕ) → length st ≤ k + 1 → Ends st p ends → Ends st p (set ends k x)
ends_set [] p ends k x h w = tt
ends_set (g ∷ []) p ends k x h w = tt
ends_set (g ∷ (i ∷ gs)) p ends k x h w =
    (get_or-set_other ends k (length gs) x 0 (λ e. omega arith) ∙ w.0, ends_set (i ∷ gs) (p + length g) ends k x (omega arith) w.1)

pub ends_push : (st : List (List ℕ)) (p : ℕ) (ends : List ℕ) (k : ℕ) → length st ≡ k + 1 → k < length ends → Ends st p ends
    → Ends (push st) p (set ends k p)
ends_push [] p ends k e h w = tt
ends_push (g ∷ gs) p ends k e h w =
    let z : p ≡ p + 0 = omega arith in
    let j : length gs ≡ k = omega arith in (
      ap (λ (i : ℕ). get_or (set ends k p) i 0) j ∙ get_or-set_same ends k p 0 h ∙ z,
      subst (λ (q : ℕ). Ends (g ∷ gs) q (set ends k p)) z (ends_set (g ∷ gs) p ends k p (omega arith) w),
    )

pub ends_top : (x : List ℕ) (st : List (List ℕ)) (p q : ℕ) (ends : List ℕ) → p ≡ q + length x → Ends st p ends → Ends (on_top x st) q ends
ends_top x [] p q ends e w = tt
ends_top x (g ∷ []) p q ends e w = tt
ends_top x (g ∷ (h ∷ gs)) p q ends e w =
    let z : p + length g ≡ q + length (x ++ g) = omega (arith, length-append x g) in
    (w.0 ∙ z, subst (λ (j : ℕ). Ends (h ∷ gs) j ends) z w.1)

pub ends_shut : (st : List (List ℕ)) (p q : ℕ) (ends : List ℕ) → p ≡ q + 3 → Ends st p ends → Ends (shut st) q ends
ends_shut [] p q ends e w = tt
ends_shut (g ∷ []) p q ends e w = tt
ends_shut (g ∷ (h ∷ [])) p q ends e w = tt
ends_shut (g ∷ (h ∷ (i ∷ gs))) p q ends e w =
    let z : p + length g + length h ≡ q + length (head 1 (length g) ++ (g ++ h)) = omega (arith, length-append g h) in
    (w.1.0 ∙ z, subst (λ (j : ℕ). Ends (i ∷ gs) j ends) z w.1.1)

-- the innermost group's length, from its end
pub size_of : (st : List (List ℕ)) (p : ℕ) (ends : List ℕ) (level : ℕ) → length st ≡ level + 1 → 1 ≤ level → Ends st p ends
    → get_or ends (level - 1) 0 ≡ p + length (top st)
size_of [] p ends level e h w = absurd (omega arith)
size_of (g ∷ []) p ends level e h w = absurd (omega arith)
size_of (g ∷ (i ∷ gs)) p ends level e h w = let j : level - 1 ≡ length gs = omega arith in ap (λ (k : ℕ). get_or ends k 0) j ∙ w.0

-- ---- What an accepted list is
pub unlike_wrote : {r : Refusal} {f : List ℕ} → not r ≡ wrote f → ⊥
unlike_wrote e = let z : ◌≡◌ {A = ℕ} 0 1 = cc in omega arith

pub record Passed (es : List Event) (f : List ℕ) : Type 0 where
  pub level : levels es ≡ 1
  pub deep : deepest es ≤ 9
  pub width : widest es ≤ 65535
  pub bytes : top (written es) ≡ f

pub passed : (es : List Event) (f : List ℕ) → write_plan es ≡ wrote f → Passed es f
unfolding write_plan
passed es f = go (eqb (levels es) 1) (ltb 9 (deepest es)) (ltb 65535 (widest es)) refl refl refl
  where
    go : (a b c : Bool) → eqb (levels es) 1 ≡ a → ltb 9 (deepest es) ≡ b → ltb 65535 (widest es) ≡ c
        → (if a then (if b then not GroupsTooDeep else if c then not GroupTooLong else wrote (top (written es))) else not PlanUnbalanced)
        ≡ wrote f → Passed es f
    go true true c p q r e = absurd (unlike_wrote e)
    go true false true p q r e = absurd (unlike_wrote e)
    go true false false p q r e = record {
      level = eqb-true (levels es) 1 p;
      deep = ltb-false 9 (deepest es) q;
      width = ltb-false 65535 (widest es) r;
      bytes = cc;
    }
    go false b c p q r e = absurd (unlike_wrote e)
