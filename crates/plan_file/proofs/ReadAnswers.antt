-- The whole reader: an accepted file's uses have 15 bytes, its items stand one after another, and the answer is the definition's.
use Rattle.std.specs.Prelude.{◌+◌, ◌*◌, ◌/◌, ◌<◌, ◌≤◌, ◌≡◌, ◌∷◌, ◌++◌, Result, Ok, Err}
use Rattle.model.specs.Prelude.{ℕ, suc, refl, ap, sym, subst, ◌∙◌, true, false, List, []}
use Rattle.model.specs.Prelude.{append_assoc, arith, length, drop, length-drop, length-append, take_at, drop-drop, drop-append-add, ltb}
use Rattle.model.specs.Prelude.{lt-ltb, le-ltb}
use Rattle.model.specs.{declared.Refusal.Refusal, declared.Refusal.TheVariants.NoFreeEntry, ListLaws.all_join}
use Rattle.plan_file.specs.Plan.{Event, opened, used, closed, other, Read, took, no, around, after, fields, read_plan, item, items}
use Rattle.plan_file.specs.{Plan.{answer_of, left_of}, Reading.{put_item, put_all, CameAs, GroupRead, PlanRead}}
use Rattle.plan_file.specs.Wide.{WideUse, Wide, WideRead}
use Rattle.plan_file.proofs.ReadingLaws.{undone, same_count, run_has}

-- ---- Uses have 15 bytes
wide_after : (a b : Read) → WideRead a → WideRead b → WideRead (after a b)
wide_after (took x) (took y) p q = all_join WideUse x y p q
wide_after (took x) (no c) p q = tt
wide_after (no c) b p q = tt

wide_around : (a : Read) → WideRead a → WideRead (around a)
wide_around (took x) p = (tt, all_join WideUse x (closed ∷ []) p (tt, tt))
wide_around (no c) p = tt

pub wide_fields : (n d : ℕ) (s : List ℕ) → WideRead (fields n d s)
wide_fields = run_has WideRead tt wide_after wide_around (λ p e. (e, tt)) tt tt tt tt

pub item_long : (e : Event) → WideUse e → length (item e) ≡ 16
item_long opened p = refl
item_long (used b) p = ap suc p
item_long closed p = refl
item_long other p = refl

-- ---- Where there is room, the items stand one after another, and what lies past them stays
put_one : (k : ℕ) (it a b : List ℕ) → length it ≡ 16 → length a ≡ 16 * k → 16 ≤ length b → put_item k it (a ++ b) ≡ (a ++ it) ++ drop 16 b
unfolding put_item
put_one k it a b i e h =
    rw (lt-ltb k (length (a ++ b) / 16) (omega (arith, length-append a b)), take_at a b (16 * k) e, past k a b e)
    (sym (append_assoc a it (drop 16 b)))
  where
    past : (k : ℕ) (a b : List ℕ) → length a ≡ 16 * k → drop (16 * k + 16) (a ++ b) ≡ drop 16 b
    past k a b e = subst (λ (n : ℕ). drop (n + 16) (a ++ b) ≡ drop 16 b) e (drop-append-add a b 16)

put_items : (k : ℕ) (es : List Event) (a b : List ℕ) → length a ≡ 16 * k → 16 * length es ≤ length b → Wide es
    → put_all k es (a ++ b) ≡ a ++ (items es ++ drop (16 * length es) b)
unfolding put_all
put_items k [] a b e h w = refl
put_items k (x ∷ es) a b e h w =
    rw (put_one k (item x) a b (item_long x w.0) e (omega arith))
    (put_items (suc k) es (a ++ item x) (drop 16 b) (omega (arith, length-append a (item x), item_long x w.0))
    (omega (arith, length-drop 16 b)) w.1
    ∙ append_assoc a (item x) (items es ++ drop (16 * length es) (drop 16 b))
    ∙ ap (λ (z : List ℕ). a ++ z) (sym (append_assoc (item x) (items es) (drop (16 * length es) (drop 16 b)))
    ∙ ap (λ (z : List ℕ). (item x ++ items es) ++ z) (far (length es) b)))
  where
    far : (n : ℕ) (b : List ℕ) → drop (16 * n) (drop 16 b) ≡ drop (16 * suc n) b
    far n b = drop-drop (16 * n) 16 b ∙ ap (λ (j : ℕ). drop j b) (more n)
      where
        more : (n : ℕ) → 16 + 16 * n ≡ 16 * suc n
        more n = omega arith

-- ---- The three answers
module _ (f l : List ℕ) where
  pub reads_no : {e : Refusal} {x m : List ℕ} → GroupRead f 8 0 x (Err e) m → PlanRead f l (Err e) l
  unfolding answer_of left_of
  reads_no {e} {x} {m} g = let z = go (read_plan f) g.came.what in record { answer = z.0; left = z.1 }
    where
      go : (rd : Read) → CameAs rd 0 x (Err e) m → (Err e ≡ answer_of rd l) × (l ≡ left_of rd l)
      go (took es) w = absurd (undone (sym w.0))
      go (no c) w = (w, refl)

  module _ {n : ℕ} {x m : List ℕ} (g : GroupRead f 8 0 x (Ok n) m) where
    pub reads_short : length l / 16 < n → PlanRead f l (Err NoFreeEntry) l
    unfolding answer_of left_of
    reads_short h = let z = go (read_plan f) g.came.what in record { answer = z.0; left = z.1 }
      where
        go : (rd : Read) → CameAs rd 0 x (Ok n) m → (Err NoFreeEntry ≡ answer_of rd l) × (l ≡ left_of rd l)
        go (took es) w =
            let t : ltb (length l / 16) (length es) ≡ true = lt-ltb (length l / 16) (length es) (omega (arith, same_count w.0)) in
            (rw t, rw t)
        go (no c) w = absurd (undone w)

    pub reads_done : n ≤ length l / 16 → {r : Result ℕ Refusal} {z : List ℕ} → GroupRead f 8 0 l r z → PlanRead f l r z
    unfolding answer_of left_of
    reads_done h {r} {z} u =
        let q = go (read_plan f) g.came.what u.came.what (wide_fields (length f) 8 f) in record { answer = q.0; left = q.1 }
      where
        go : (rd : Read) → CameAs rd 0 x (Ok n) m → CameAs rd 0 l r z → WideRead rd → (r ≡ answer_of rd l) × (z ≡ left_of rd l)
        go (took es) w v q =
            let e : n ≡ length es = omega (arith, same_count w.0) in
            let t : ltb (length l / 16) (length es) ≡ false = le-ltb (length l / 16) (length es) (omega (arith, e)) in
            (rw t (v.0 ∙ ap Ok (omega arith)), rw t (v.1 ∙ put_items 0 es [] l refl (omega (arith, e)) q))
        go (no c) w v q = absurd (undone w)
