-- The laws by which the reader's code is the definition: how many fields a run wants, how it goes on, and what each field is.
use Rattle.model.specs.Prelude.{ℕ, zero, suc, refl, ap, sym, ◌∙◌, Bool, true, false, List, [], add-one, arith, length, take, drop}
use Rattle.model.specs.Prelude.{length-take, length-drop, length-append, ltb, eq-eqb, ne_eqb, ltb-false, true≢false, eqb, eqb-true}
use Rattle.model.specs.{declared.Refusal.Refusal, declared.Refusal.TheVariants.{FieldCutShort, UnknownTag, UseOfWrongSize, GroupsTooDeep}}
use Rattle.model.specs.BoolLaws.{by_test, by_test₂}
use Rattle.std.specs.Prelude.{◌+◌, ◌-◌, ◌<◌, ◌≤◌, ◌≡◌, ◌∷◌, ◌++◌, Option, Result, Ok, Err}
use Rattle.plan_file.specs.declared.kinds.Tag.{Tag}
use Rattle.plan_file.specs.Plan.{used, Event, opened, closed, Read, took, no, tag_of, length_of, size_of, content, cut_short, as_use}
use Rattle.plan_file.specs.{Plan.{around, after, field, fields, run, item}, Reading.{put_item, put_all, Came, field_by}, Kinds.tag_kind}

-- ---- Fuel: as many fields as there are bytes are always enough
content_short : (s : List ℕ) → length (content s) ≤ length s - 3
content_short s = omega (arith, length-take (length_of s) (drop 3 s), length-drop 3 s)

rest_short : (s : List ℕ) → length (drop (size_of s) s) ≤ length s - 3
rest_short s = omega (arith, length-drop (size_of s) s)

alike : (d : ℕ) (s : List ℕ) {x y z w : Read} → x ≡ y → z ≡ w → after (field x d s) z ≡ after (field y d s) w
alike d s p q = cc

pub enough : (n m d : ℕ) (s : List ℕ) → length s ≤ n → length s ≤ m → fields n d s ≡ fields m d s
unfolding fields
enough zero zero d s a b = refl
enough zero (suc m) d [] a b = refl
enough zero (suc m) d (x ∷ s) a b = absurd (omega arith)
enough (suc n) zero d [] a b = refl
enough (suc n) zero d (x ∷ s) a b = absurd (omega arith)
enough (suc n) (suc m) d [] a b = refl
enough (suc n) (suc m) d (x ∷ s) a b =
    alike d (x ∷ s) (enough n m (d - 1) (content (x ∷ s)) (omega (arith, content_short (x ∷ s))) (omega (arith, content_short (x ∷ s))))
    (enough n m d (drop (size_of (x ∷ s)) (x ∷ s)) (omega (arith, rest_short (x ∷ s))) (omega (arith, rest_short (x ∷ s))))

-- a run is its first field, and then the run of what is left
pub run_step : (d : ℕ) (s : List ℕ) → 0 < length s → run d s ≡ after (field (run (d - 1) (content s)) d s) (run d (drop (size_of s) s))
unfolding fields
run_step d [] h = absurd (omega arith)
run_step d (x ∷ s) h =
    alike d (x ∷ s) (enough (length s) (length (content (x ∷ s))) (d - 1) (content (x ∷ s))
    (omega (arith, content_short (x ∷ s))) (omega arith))
    (enough (length s) (length (drop (size_of (x ∷ s)) (x ∷ s))) d (drop (size_of (x ∷ s)) (x ∷ s))
    (omega (arith, rest_short (x ∷ s))) (omega arith))

-- ---- Items written one after another
put_then : (k : ℕ) (x y : List Event) (l : List ℕ) → put_all k (x ++ y) l ≡ put_all (k + length x) y (put_all k x l)
unfolding put_all
put_then k [] y l = ap (λ (n : ℕ). put_all n y l) (sym (none k))
  where
    none : (k : ℕ) → k + 0 ≡ k
    none k = omega arith
put_then k (e ∷ x) y l = put_then (suc k) x y (put_item k (item e) l)
    ∙ ap (λ (n : ℕ). put_all n y (put_all (suc k) x (put_item k (item e) l))) (near k (length x))
  where
    near : (a b : ℕ) → suc a + b ≡ a + suc b
    near a b = omega arith

-- a refusal is no acceptance
pub undone : {n : ℕ} {r : Refusal} → Ok n ≡ Err r → ⊥
undone e = let z : ◌≡◌ {A = ℕ} 0 1 = cc in omega arith

pub unlike : {r : Refusal} → ◌≡◌ {A = Result (Unit {0}) Refusal} (Ok tt) (Err r) → ⊥
unlike e = let z : ◌≡◌ {A = ℕ} 0 1 = cc in omega arith

pub same_count : {n m : ℕ} → ◌≡◌ {A = Result ℕ Refusal} (Ok n) (Ok m) → n ≡ m
same_count e = cc

pub came_after : (a b : Read) {k n : ℕ} {r : Result ℕ Refusal} {l m z : List ℕ} → Came a k l (Ok n) m → Came b n m r z
    → Came (after a b) k l r z
came_after (took x) (took y) {k} {n} {r} {l} {m} {z} w u =
    let e : n ≡ k + length x = same_count w.what.0 in
    record {
      what = (
        u.what.0 ∙ ap Ok (omega (arith, length-append x y)),
        u.what.1 ∙ go k n l m x y e w.what.1 ∙ sym (put_then k x y l),
      );
    }
  where
    go : (k n : ℕ) (l m : List ℕ) (x y : List Event) → n ≡ k + length x → m ≡ put_all k x l
        → put_all n y m ≡ put_all (k + length x) y (put_all k x l)
    go k n l m x y p q = cc
came_after (took x) (no e) w u = record { what = u.what }
came_after (no e) b w u = absurd (undone w.what)

pub came_stop : (a b : Read) {e : Refusal} {k : ℕ} {l m z : List ℕ} → Came a k l (Err e) m → Came (after a b) k l (Err e) z
came_stop (took x) b w = absurd (undone (sym w.what.0))
came_stop (no e) b w = record { what = w.what }

pub came_around : (a : Read) {k n : ℕ} {l l₁ m z : List ℕ} → l₁ ≡ put_item k (item opened) l → Came a (k + 1) l₁ (Ok n) m
    → z ≡ put_item n (item closed) m → Came (around a) k l (Ok (n + 1)) z
unfolding put_all
came_around (took es) {k} {n} {l} {l₁} {m} {z} o w e =
    let long : n ≡ k + 1 + length es = same_count w.what.0 in
    record {
      what = (
        ap Ok (omega (arith, length-append es (closed ∷ []))),
        e ∙ go k (suc k) n (put_item k (item opened) l) l₁ m (item closed) es (add-one k) long w.what.1 o
            ∙ sym (put_then (suc k) es (closed ∷ []) (put_item k (item opened) l)),
      );
    }
  where
    go : (k j n : ℕ) (l l₁ m i : List ℕ) (es : List Event) → k + 1 ≡ j → n ≡ k + 1 + length es → m ≡ put_all (k + 1) es l₁ → l₁ ≡ l
        → put_item n i m ≡ put_item (j + length es) i (put_all j es l)
    go k j n l l₁ m i es p q r s = cc
came_around (no c) o w e = absurd (undone w.what)

pub around_stop : (a : Read) {e : Refusal} {k j : ℕ} {l l₁ m z : List ℕ} → Came a j l₁ (Err e) m → Came (around a) k l (Err e) z
around_stop (took x) w = absurd (undone (sym w.what.0))
around_stop (no e) w = record { what = w.what }

-- ---- A field that is not cut short
pub uncut : (s : List ℕ) → cut_short s ≡ false → (3 ≤ length s) × (length_of s ≤ length s - 3)
uncut s e = go (ltb (length s) 3) refl
  where
    go : (a : Bool) → ltb (length s) 3 ≡ a → (3 ≤ length s) × (length_of s ≤ length s - 3)
    go true p = absurd (true≢false (sym (rw p) ∙ e))
    go false p = (ltb-false (length s) 3 p, ltb-false (length s - 3) (length_of s) (sym (rw p) ∙ e))

-- it takes three bytes at least, lies within s, and holds what is between its head and its end
pub size_within : (s : List ℕ) → cut_short s ≡ false → (3 ≤ size_of s) × (size_of s ≤ length s)
size_within s e = let u = uncut s e in (omega arith, omega (arith, u.0, u.1))

pub part_long : (s : List ℕ) → cut_short s ≡ false → 3 + length (take (size_of s - 3) (drop 3 s)) ≡ size_of s
part_long s e = let u = uncut s e in omega (arith, u.0, u.1, length-take (size_of s - 3) (drop 3 s), length-drop 3 s)

-- ---- What each field is
module _ (i : Read) (d : ℕ) (s : List ℕ) where
  pub field_cut : cut_short s ≡ true → field i d s ≡ no FieldCutShort
  unfolding field
  field_cut e = rw e

module _ (i : Read) (d : ℕ) (s : List ℕ) (cut : cut_short s ≡ false) where
  pub field_use : tag_of s ≡ 2 → field i d s ≡ as_use (content s)
  unfolding field
  field_use t = rw (cut, eq-eqb (tag_of s) 2 t)

  pub field_group : tag_of s ≡ 1 → (d ≡ 0 → ⊥) → field i d s ≡ around i
  unfolding field
  field_group t z = rw (cut, ne_eqb (tag_of s) 2 (λ u. omega arith), eq-eqb (tag_of s) 1 t, ne_eqb d 0 z)

  pub field_unknown : (tag_of s ≡ 2 → ⊥) → (tag_of s ≡ 1 → ⊥) → field i d s ≡ no UnknownTag
  unfolding field
  field_unknown u t = rw (cut, ne_eqb (tag_of s) 2 u, ne_eqb (tag_of s) 1 t)

  pub field_deep : tag_of s ≡ 1 → d ≡ 0 → field i d s ≡ no GroupsTooDeep
  unfolding field
  field_deep t z = rw (cut, ne_eqb (tag_of s) 2 (λ u. omega arith), eq-eqb (tag_of s) 1 t, eq-eqb d 0 z)

-- as the code tells it
pub field_whole : (d : ℕ) (s : List ℕ) → cut_short s ≡ false
    → field (run (d - 1) (content s)) d s ≡ field_by (tag_kind (tag_of s)) (content s) d
unfolding field
field_whole d s cut = rw cut (by_test₂ (λ (a : Read) (t : Option Tag). a ≡ field_by t (content s) d) (eqb (tag_of s) 2) (λ _. refl)
    (λ _. by_test₂ (λ (a : Read) (t : Option Tag). a ≡ field_by t (content s) d) (eqb (tag_of s) 1) (λ _. refl) (λ _. refl)))

-- ---- What every run has: what no field at all has, a use and a refusal, and what `after` and `around` keep
module _ (P : Read → Type 0) (empty : P (took [])) (both : (a b : Read) → P a → P b → P (after a b))
    (round : (a : Read) → P a → P (around a))
    (one : (p : List ℕ) → length p ≡ 15 → P (took (used p ∷ []))) (cut : P (no FieldCutShort)) (tag : P (no UnknownTag))
    (size : P (no UseOfWrongSize)) (deep : P (no GroupsTooDeep)) where
  field_has : (i : Read) (d : ℕ) (s : List ℕ) → P i → P (field i d s)
  unfolding field
  field_has i d s p =
      by_test P (cut_short s) (λ _. cut) (λ _.
      by_test P (eqb (tag_of s) 2)
      (λ _. by_test P (eqb (length (content s)) 15) (λ e. one (content s) (eqb-true (length (content s)) 15 e)) (λ _. size))
      (λ _. by_test P (eqb (tag_of s) 1) (λ _. by_test P (eqb d 0) (λ _. deep) (λ _. round i p)) (λ _. tag)))

  pub run_has : (n d : ℕ) (s : List ℕ) → P (fields n d s)
  unfolding fields
  run_has zero d s = empty
  run_has (suc n) d [] = empty
  run_has (suc n) d (x ∷ s) = both _ _ (field_has _ d (x ∷ s) (run_has n (d - 1) (content (x ∷ s)))) (run_has n d _)
