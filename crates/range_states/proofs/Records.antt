-- Numbers at whole records: where a slice of numbers is cut at a record, so are its records.
use Rattle.std.specs.Prelude.{◌+◌, ◌*◌, ◌-◌, ◌≤◌, ◌≡◌, ◌++◌}
use Rattle.model.specs.Prelude.{ℕ, zero, suc, arith, refl, ap, sym, ◌∙◌, List, [], append_assoc, length, take, drop, replicate}
use Rattle.model.specs.Prelude.{drop-drop, length-append, length-drop, length-take-le, length-replicate}
use Rattle.std.specs.Prelude.{◌∷◌}
use borrow.Rule.Slice.PartMut.{put_mid}
use Rattle.range_states.specs.View.{view, spare, blank, decode, Becomes, view_long}

-- three numbers a record
thrice : (n : ℕ) → 3 * suc n ≡ suc (suc (suc (3 * n)))
thrice n = omega arith

pub take_view : (n : ℕ) (l : List ℕ) → view (take (3 * n) l) ≡ take n (view l)
unfolding view
take_view zero l = refl
take_view (suc n) [] = rw (thrice n)
take_view (suc n) (a ∷ []) = rw (thrice n)
take_view (suc n) (a ∷ b ∷ []) = rw (thrice n)
take_view (suc n) (a ∷ b ∷ c ∷ l) = rw (thrice n, take_view n l)

pub drop_view : (n : ℕ) (l : List ℕ) → view (drop (3 * n) l) ≡ drop n (view l)
unfolding view
drop_view zero l = refl
drop_view (suc n) [] = rw (thrice n)
drop_view (suc n) (a ∷ []) = rw (thrice n)
drop_view (suc n) (a ∷ b ∷ []) = rw (thrice n)
drop_view (suc n) (a ∷ b ∷ c ∷ l) = rw (thrice n, drop_view n l)

pub drop_spare : (n : ℕ) (l : List ℕ) → 3 * n ≤ length l → spare (drop (3 * n) l) ≡ spare l
unfolding spare
drop_spare zero l h = refl
drop_spare (suc n) [] h = absurd (omega arith)
drop_spare (suc n) (a ∷ []) h = absurd (omega arith)
drop_spare (suc n) (a ∷ b ∷ []) h = absurd (omega arith)
drop_spare (suc n) (a ∷ b ∷ c ∷ l) h = rw (thrice n, drop_spare n l (omega arith))

pub append_view : (n : ℕ) (l m : List ℕ) → length l ≡ 3 * n → view (l ++ m) ≡ view l ++ view m
unfolding view
append_view n [] m h = refl
append_view n (a ∷ []) m h = absurd (omega arith)
append_view n (a ∷ b ∷ []) m h = absurd (omega arith)
append_view zero (a ∷ b ∷ c ∷ l) m h = absurd (omega arith)
append_view (suc n) (a ∷ b ∷ c ∷ l) m h = rw (append_view n l m (omega arith))

pub append_spare : (n : ℕ) (l m : List ℕ) → length l ≡ 3 * n → spare (l ++ m) ≡ spare m
unfolding spare
append_spare n [] m h = refl
append_spare n (a ∷ []) m h = absurd (omega arith)
append_spare n (a ∷ b ∷ []) m h = absurd (omega arith)
append_spare zero (a ∷ b ∷ c ∷ l) m h = absurd (omega arith)
append_spare (suc n) (a ∷ b ∷ c ∷ l) m h = append_spare n l m (omega arith)

-- zeros are blank records
pub zeros_view : (n : ℕ) → view (replicate (3 * n) 0) ≡ replicate n blank
unfolding view
zeros_view zero = refl
zeros_view (suc n) = rw (thrice n, zeros_view n)

-- n records overwritten from the record at f on: ys are their numbers
module _ (l ys : List ℕ) (f n : ℕ) (room : 3 * (f + n) ≤ length l) (long : length ys ≡ 3 * n) where
  front_long : length (take (3 * f) l) ≡ 3 * f
  front_long = length-take-le (3 * f) l (omega arith)

  pub part_view : view (take (3 * f) l ++ (ys ++ drop (3 * (f + n)) l)) ≡ take f (view l) ++ (view ys ++ drop (f + n) (view l))
  part_view = rw (
    append_view f (take (3 * f) l) (ys ++ drop (3 * (f + n)) l) front_long,
    append_view n ys (drop (3 * (f + n)) l) long,
    take_view f l,
    drop_view (f + n) l,
  )

  pub part_spare : spare (take (3 * f) l ++ (ys ++ drop (3 * (f + n)) l)) ≡ spare l
  part_spare = rw (
    append_spare f (take (3 * f) l) (ys ++ drop (3 * (f + n)) l) front_long,
    append_spare n ys (drop (3 * (f + n)) l) long,
    drop_spare (f + n) l room,
  )

  pub part_long : length (take (3 * f) l ++ (ys ++ drop (3 * (f + n)) l)) ≡ length l
  part_long = simp (length-append, front_long, long, length-drop) (omega arith)

-- the records from `from` up to `to` as zeros
pub cleared : (l : List ℕ) (from to : ℕ) {ys : List ℕ} → from ≤ to → 3 * to ≤ length l
    → ys ≡ replicate (length (take (3 * to - 3 * from) (drop (3 * from) l))) 0
    → Becomes l to (decode from l ++ replicate (to - from) blank) (put_mid (3 * from) (3 * to - 3 * from) l ys)
cleared l from to {ys} h room z =
    let n : ℕ = to - from in let to_is : from + n ≡ to = omega arith in
    let v : to ≤ length (view l) = view_long l to room in
    let part : length (take (3 * to - 3 * from) (drop (3 * from) l)) ≡ 3 * n =
    length-take-le (3 * to - 3 * from) (drop (3 * from) l) (rw length-drop (omega arith)) ∙ omega arith in
    let zeros : ys ≡ replicate (3 * n) 0 = z ∙ ap (λ k. replicate k 0) part in
    let long : length ys ≡ 3 * n = ap length zeros ∙ length-replicate _ _ in
    let at : put_mid (3 * from) (3 * to - 3 * from) l ys ≡ take (3 * from) l ++ (ys ++ drop (3 * (from + n)) l) =
    rw drop-drop (ap (λ k. take (3 * from) l ++ (ys ++ drop k l)) (omega arith)) in
    let fits : 3 * (from + n) ≤ length l = omega arith in
    record {
      size = simp (length-append, length-replicate, length-take-le from (view l) (omega arith)) (omega arith);
      seen =
          ap view at
          ∙ part_view l ys from n fits long
          ∙ rw (ap view zeros, zeros_view n, to_is) (sym (append_assoc (take from (view l)) (replicate n blank) (drop to (view l))));
      rest = ap spare at ∙ part_spare l ys from n fits long;
      long = ap length at ∙ part_long l ys from n fits long;
    }
