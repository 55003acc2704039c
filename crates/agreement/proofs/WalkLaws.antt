-- Walks that stop: two of them in step, and one over two lists in parts.
use Rattle.std.specs.Prelude.{◌+◌, ◌-◌, ◌≤◌, ◌≡◌, ◌∷◌, ◌++◌}
use Rattle.model.specs.Prelude.{ℕ, zero, suc, add-suc, suc-add, add-zero, arith, refl, Option, None, Some, option_map}
use Rattle.model.specs.Prelude.{List, [], map, length, replicate, length-replicate}
use Rattle.model.specs.{Base.{Stop, fine, onward, walk, walk₂, All}, ListLaws.all_weak}
use Rattle.agreement.specs.Grid.{tab, band}

pub onward_all : {A C : Type 0} (P : A → Type 0) (x : A) (o : Option C) (was : List A) (w : Stop C (List A))
    → P x → All P was → All P w.value → All P (onward x o was w).value
onward_all P x None was w p t u = (p, u)
onward_all P x (Some z) was w p t u = (p, t)

-- ---- the walk w of one representation is the walk v of the other, element by element
module _ {A B C D : Type 0} (g : A → B) (c : C → D) where
  abbrev pub Sim : Stop C A → Stop D B → Type 0
  Sim w v = (g w.value ≡ v.value) × (option_map c w.conflict ≡ v.conflict)

  abbrev pub Sims : Stop C (List A) → Stop D (List B) → Type 0
  Sims w v = (map g w.value ≡ v.value) × (option_map c w.conflict ≡ v.conflict)

  pub onward_sim : (x : A) (o : Option C) (was : List A) (w : Stop C (List A)) (y : B) (o' : Option D) (v : Stop D (List B))
      → g x ≡ y → option_map c o ≡ o' → Sims w v → Sims (onward x o was w) (onward y o' (map g was) v)
  onward_sim x None was w y o' v p q h = rw (← q) (cc h.0, h.1)
  onward_sim x (Some z) was w y o' v p q h = rw (← q) (cc, refl)

  -- a step takes P to N, which P implies, and is the other's step: then so is the walk
  module _ {G : Type 0} (P N : A → Type 0) (weak : (x : A) → P x → N x) (f : ℕ → A → Stop C A) (h : ℕ → B → G → Stop D B) (n : ℕ → G)
      (one : (k : ℕ) (x : A) → P x → N (f k x).value × Sim (f k x) (h k (g x) (n k))) where
    pub lockstep : (k : ℕ) (s : List A) → All P s
        → All N (walk f k s).value × Sims (walk f k s) (walk₂ h k (map g s) (tab n k (length s)))
    lockstep k [] t = (tt, (refl, refl))
    lockstep k (x ∷ s) t =
        let o = one k x t.0 in let ih = lockstep (suc k) s t.1 in (
          onward_all N (f k x).value (f k x).conflict s (walk f (suc k) s) o.0 (all_weak P N weak s t.1) ih.0,
          onward_sim (f k x).value (f k x).conflict s (walk f (suc k) s) _ _ _ o.1.0 o.1.1 ih.1,
        )

-- ---- a walk over two lists in two parts
abbrev pub join_stop : {C A : Type 0} → List A → Option C → List A → Stop C (List A) → Stop C (List A)
join_stop x None was worked = record { value = x ++ worked.value; conflict = worked.conflict }
join_stop x (Some c) was worked = record { value = x ++ was; conflict = Some c }

module _ {A G C : Type 0} (h : ℕ → A → G → Stop C A) where
  join_onward : (x : A) (o : Option C) (s y : List A) (w more : Stop C (List A))
      → onward x o (s ++ y) (join_stop w.value w.conflict y more) ≡ join_stop (onward x o s w).value (onward x o s w).conflict y more
  join_onward x None s y w more = by_conflict w.conflict
    where
      by_conflict : (o : Option C) → onward x None (s ++ y) (join_stop w.value o y more) ≡ join_stop (x ∷ w.value) o y more
      by_conflict None = refl
      by_conflict (Some c) = refl
  join_onward x (Some c) s y w more = refl

  pub walk_append : (l : ℕ) (s y : List A) (n m : List G) → length s ≡ length n
      → walk₂ h l (s ++ y) (n ++ m) ≡ join_stop (walk₂ h l s n).value (walk₂ h l s n).conflict y (walk₂ h (l + length s) y m)
  walk_append l [] y [] m e = rw add-zero
  walk_append l [] y (b ∷ n) m e = absurd (omega arith)
  walk_append l (x ∷ s) y [] m e = absurd (omega arith)
  walk_append l (x ∷ s) y (b ∷ n) m e =
      rw (walk_append (suc l) s y n m (omega arith), suc-add, ← add-suc)
      (join_onward (h l x b).value (h l x b).conflict s y (walk₂ h (suc l) s n) (walk₂ h (l + suc (length s)) y m))

  onward_length : (x : A) (o : Option C) (was : List A) (w : Stop C (List A)) → length w.value ≡ length was
      → length (onward x o was w).value ≡ suc (length was)
  onward_length x None was w e = rw e
  onward_length x (Some c) was w e = refl

  pub walk_length : (l : ℕ) (s : List A) (n : List G) → length (walk₂ h l s n).value ≡ length s
  walk_length l [] n = refl
  walk_length l (x ∷ s) [] = refl
  walk_length l (x ∷ s) (b ∷ n) = onward_length (h l x b).value (h l x b).conflict s (walk₂ h (suc l) s n) (walk_length (suc l) s n)

  pub walk_none : (l : ℕ) (s : List A) → walk₂ h l s [] ≡ fine s
  walk_none l [] = refl
  walk_none l (x ∷ s) = refl

pub unnamed_of : {C D : Type 0} (h : ℕ → C → Option ℕ → Stop D C) → ((l : ℕ) (c : C) → h l c None ≡ fine c) → (l : ℕ) (s : List C) (n : ℕ)
    → walk₂ h l s (replicate n None) ≡ fine s
unnamed_of h b l [] n = refl
unnamed_of h b l (c ∷ s) zero = refl
unnamed_of h b l (c ∷ s) (suc n) = rw (b l c, unnamed_of h b (suc l) s n)

join_same : {C A : Type 0} (x : List A) (o : Option C) (y : List A) → join_stop x o y (fine y) ≡ record { value = x ++ y; conflict = o }
join_same x None y = refl
join_same x (Some c) y = refl

pub row_parts_of : {C D : Type 0} (f : ℕ → C → Option ℕ → Stop D C) → ((l : ℕ) (c : C) → f l c None ≡ fine c)
    → (new a e w : ℕ) (x y z : List C)
    → length x ≡ a → length y ≡ e - a → a ≤ e → e ≤ w
    → (let v = walk₂ f a y (replicate (e - a) (Some new)) in
    walk₂ f 0 (x ++ (y ++ z)) (band a e w (Some new) None) ≡ record { value = x ++ (v.value ++ z); conflict = v.conflict })
row_parts_of f b new a e w x y z hx hy h g =
    let hx' : length x ≡ length (replicate {A = Option ℕ} a None) = rw length-replicate hx in
    let hy' : length y ≡ length (replicate {A = Option ℕ} (e - a) (Some new)) = rw length-replicate hy in
    let n : 0 + length x ≡ a = omega arith in
    rw (walk_append f 0 x, unnamed_of f b, n, walk_append f a y, unnamed_of f b, join_same)

pub record RunsOf {S C K D : Type 0} (view : S → List C) (Ok : S → Type 0) (cl : K → D) (w : Stop K S) (v : Stop D (List C)) : Type 0 where
  pub ok : Ok w.value
  pub same : view w.value ≡ v.value
  pub conflict : option_map cl w.conflict ≡ v.conflict

pub record GridsOf {S C K D : Type 0} (view : S → List C) (Ok : S → Type 0) (cl : K → D) (d : List (List C)) (w : Stop K (List S))
    (v : Stop D (List (List C))) : Type 0 where
  pub tiled : All Ok w.value
  pub same : map view w.value ≡ d ++ v.value
  pub conflict : option_map cl w.conflict ≡ v.conflict
