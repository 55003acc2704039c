-- A borrowed run of numbers as a list of ranges, and the form of every contract that changes it.
use Rattle.std.specs.Prelude.{◌+◌, ◌*◌, ◌/◌, ◌-◌, ◌≤◌, ◌<◌, ◌≡◌, ◌∷◌, ◌++◌}
use Rattle.model.specs.Prelude.{ℕ, zero, suc, not-suc-le-zero, le_of_suc-le-suc, arith, refl, sym, ap}
use Rattle.model.specs.Prelude.{◌∙◌, List, [], length, get_or, take, drop, set, length-set, take-append-drop, take_at, drop_at}
use Rattle.model.specs.Prelude.{drop-drop, length-take-le, set-append_left}
use Rattle.model.specs.{declared.Range.Range, RangedStates.range}

-- a freed record: zeros (01, "Strips")
abbrev pub blank : Range
blank = range 0 0 0

-- the records of a borrowed run (01: "each a start, an end and a state"), read three by three
unfoldable pub view : List ℕ → List Range
view [] = []
view (a ∷ []) = []
view (a ∷ b ∷ []) = []
view (a ∷ b ∷ c ∷ l) = range a b c ∷ view l

-- the numbers after the last whole record, fewer than three
unfoldable pub spare : List ℕ → List ℕ
spare [] = []
spare (a ∷ []) = a ∷ []
spare (a ∷ b ∷ []) = a ∷ b ∷ []
spare (a ∷ b ∷ c ∷ l) = spare l

-- what a store of the record r at k does
pub record Put (l : List ℕ) (k : ℕ) (r : Range) (l' : List ℕ) : Type 0 where
  pub seen : view l' ≡ set (view l) k r
  pub rest : spare l' ≡ spare l
  pub long : length l' ≡ length l

-- the first n records: those in use (01: the strip, of a told length)
abbrev pub decode : ℕ → List ℕ → List Range
decode n l = take n (view l)

-- THE FORM OF EVERY CONTRACT: the first m records become xs, and all else is as it was
pub record Becomes (l : List ℕ) (m : ℕ) (xs : List Range) (l' : List ℕ) : Type 0 where
  pub size : length xs ≡ m
  pub seen : view l' ≡ xs ++ drop m (view l)
  pub rest : spare l' ≡ spare l
  pub long : length l' ≡ length l

-- three times k, by which a definition recurses
tri : ℕ → ℕ
tri zero = zero
tri (suc k) = suc (suc (suc (tri k)))

tri_is : (k : ℕ) → tri k ≡ 3 * k
unfolding tri
tri_is zero = refl
tri_is (suc k) = let h : tri k ≡ 3 * k = tri_is k in omega arith

pub view_at : (l : List ℕ) (k : ℕ) → 3 * k + 3 ≤ length l
    → range (get_or l (3 * k) 0) (get_or l (3 * k + 1) 0) (get_or l (3 * k + 2) 0) ≡ get_or (view l) k blank
unfolding tri view
view_at l k h =
    let e : 3 * k ≡ tri k = sym (tri_is k) in let e₁ : 3 * k + 1 ≡ suc (tri k) = omega arith in
    let e₂ : 3 * k + 2 ≡ suc (suc (tri k)) = omega arith in
    rw (e₁, e₂, e) (at_tri l k (omega arith))
  where
    at_tri : (l : List ℕ) (k : ℕ) → suc (suc (tri k)) < length l
        → range (get_or l (tri k) 0) (get_or l (suc (tri k)) 0) (get_or l (suc (suc (tri k))) 0) ≡ get_or (view l) k blank
    at_tri [] k h = absurd (not-suc-le-zero h)
    at_tri (a ∷ []) k h = absurd (not-suc-le-zero (le_of_suc-le-suc h))
    at_tri (a ∷ b ∷ []) k h = absurd (not-suc-le-zero (le_of_suc-le-suc (le_of_suc-le-suc h)))
    at_tri (a ∷ b ∷ c ∷ l) zero h = refl
    at_tri (a ∷ b ∷ c ∷ l) (suc k) h = at_tri l k (le_of_suc-le-suc (le_of_suc-le-suc (le_of_suc-le-suc h)))

set3 : List ℕ → ℕ → ℕ → ℕ → Range → List ℕ
set3 l i j k r = set (set (set l i r.start) j r.end) k r.state

spare_set_tri : (l : List ℕ) (k : ℕ) (r : Range) → suc (suc (tri k)) < length l
    → spare (set3 l (tri k) (suc (tri k)) (suc (suc (tri k))) r) ≡ spare l
unfolding tri spare set3
spare_set_tri [] k r h = refl
spare_set_tri (a ∷ []) k r h = absurd (not-suc-le-zero (le_of_suc-le-suc h))
spare_set_tri (a ∷ b ∷ []) k r h = absurd (not-suc-le-zero (le_of_suc-le-suc (le_of_suc-le-suc h)))
spare_set_tri (a ∷ b ∷ c ∷ l) zero r h = refl
spare_set_tri (a ∷ b ∷ c ∷ l) (suc k) r h = spare_set_tri l k r (le_of_suc-le-suc (le_of_suc-le-suc (le_of_suc-le-suc h)))

-- three stores, at the numbers that the code writes, are a `Put`
pub puts : (l : List ℕ) (k : ℕ) (r : Range) → 3 * k + 3 ≤ length l
    → Put l k r (set (set (set l (3 * k) r.start) (3 * k + 1) r.end) (3 * k + 2) r.state)
unfolding tri view set3
puts l k r h =
    let e : 3 * k ≡ tri k = sym (tri_is k) in let e₁ : 3 * k + 1 ≡ suc (tri k) = omega arith in
    let e₂ : 3 * k + 2 ≡ suc (suc (tri k)) = omega arith in
    rw (e₁, e₂, e) record { seen = seen_tri l k r; rest = spare_set_tri l k r (omega arith); long = simp length-set }
  where
    seen_tri : (l : List ℕ) (k : ℕ) (r : Range) → view (set3 l (tri k) (suc (tri k)) (suc (suc (tri k))) r) ≡ set (view l) k r
    seen_tri [] k r = refl
    seen_tri (a ∷ []) zero r = refl
    seen_tri (a ∷ []) (suc k) r = refl
    seen_tri (a ∷ b ∷ []) zero r = refl
    seen_tri (a ∷ b ∷ []) (suc k) r = refl
    seen_tri (a ∷ b ∷ c ∷ l) zero r = refl
    seen_tri (a ∷ b ∷ c ∷ l) (suc k) r = ap (λ (t : List Range). range a b c ∷ t) (seen_tri l k r)

view_long_tri : (l : List ℕ) (n : ℕ) → tri n ≤ length l → n ≤ length (view l)
unfolding tri view
view_long_tri l zero h = omega arith
view_long_tri [] (suc n) h = absurd (not-suc-le-zero h)
view_long_tri (a ∷ []) (suc n) h = absurd (not-suc-le-zero (le_of_suc-le-suc h))
view_long_tri (a ∷ b ∷ []) (suc n) h = absurd (not-suc-le-zero (le_of_suc-le-suc (le_of_suc-le-suc h)))
view_long_tri (a ∷ b ∷ c ∷ l) (suc n) h =
    let t : n ≤ length (view l) = view_long_tri l n (le_of_suc-le-suc (le_of_suc-le-suc (le_of_suc-le-suc h))) in omega arith

-- as many records as the numbers make
pub view_long : (l : List ℕ) (n : ℕ) → 3 * n ≤ length l → n ≤ length (view l)
view_long l n h = view_long_tri l n (omega (arith, tri_is n))

-- exactly as many
pub view_count : (l : List ℕ) → length (view l) ≡ length l / 3
unfolding view
view_count [] = refl
view_count (a ∷ []) = refl
view_count (a ∷ b ∷ []) = refl
view_count (a ∷ b ∷ c ∷ l) = let h = view_count l in omega arith

-- ---- the laws of `Becomes`
pub becomes_none : (l : List ℕ) (m : ℕ) → 3 * m ≤ length l → Becomes l m (decode m l) l
becomes_none l m h = record
    { size = length-take-le m (view l) (view_long l m h); seen = sym (take-append-drop m (view l)); rest = refl; long = refl }

module _ {l : List ℕ} {m : ℕ} {xs : List Range} {l' : List ℕ} (b : Becomes l m xs l') where
  -- what the records in use are now
  pub becomes_live : decode m l' ≡ xs
  becomes_live = rw b.seen (take_at xs (drop m (view l)) m b.size)

  -- records past m are as they were
  pub becomes_past : (k : ℕ) → m ≤ k → drop k (view l') ≡ drop k (view l)
  becomes_past k h =
      let q : k ≡ m + (k - m) = omega arith in
      rw (q, ← drop-drop (k - m) m (view l'), ← drop-drop (k - m) m (view l), b.seen, drop_at xs (drop m (view l)) m b.size)

  -- two changes, the second of at least as many records
  pub becomes_then : {n : ℕ} {ys : List Range} {l'' : List ℕ} → m ≤ n → Becomes l' n ys l'' → Becomes l n ys l''
  becomes_then {n} {ys} {l''} h d =
      record {
        size = d.size;
        seen = d.seen ∙ ap (λ (t : List Range). ys ++ t) (becomes_past n h);
        rest = d.rest ∙ b.rest;
        long = d.long ∙ b.long;
      }

  -- a change, and then a store among its records
  pub becomes_put : {k : ℕ} {r : Range} {l'' : List ℕ} → k < m → Put l' k r l'' → Becomes l m (set xs k r) l''
  becomes_put {k} {r} {l''} h p =
      record {
        size = length-set xs k r ∙ b.size;
        seen = p.seen ∙ rw b.seen (set-append_left xs (drop m (view l)) k r (rw b.size h));
        rest = p.rest ∙ b.rest;
        long = p.long ∙ b.long;
      }

-- ---- back to the numbers
pub flat : List Range → List ℕ
flat [] = []
flat (r ∷ l) = r.start ∷ r.end ∷ r.state ∷ flat l

drop_flat_tri : (l : List ℕ) (n : ℕ) → tri n ≤ length l → drop (tri n) l ≡ flat (drop n (view l)) ++ spare l
unfolding tri view spare flat
drop_flat_tri [] zero h = refl
drop_flat_tri (a ∷ []) zero h = refl
drop_flat_tri (a ∷ b ∷ []) zero h = refl
drop_flat_tri (a ∷ b ∷ c ∷ l) zero h = ap (λ (t : List ℕ). a ∷ b ∷ c ∷ t) (drop_flat_tri l zero (omega arith))
drop_flat_tri [] (suc n) h = absurd (not-suc-le-zero h)
drop_flat_tri (a ∷ []) (suc n) h = absurd (not-suc-le-zero (le_of_suc-le-suc h))
drop_flat_tri (a ∷ b ∷ []) (suc n) h = absurd (not-suc-le-zero (le_of_suc-le-suc (le_of_suc-le-suc h)))
drop_flat_tri (a ∷ b ∷ c ∷ l) (suc n) h = drop_flat_tri l n (le_of_suc-le-suc (le_of_suc-le-suc (le_of_suc-le-suc h)))
