-- A run of ranges in the middle of a mip is changed, and what is before and after it stays.
use Rattle.std.specs.Prelude.{◌+◌, ◌*◌, ◌-◌, ◌≤◌, ◌≡◌, ◌++◌}
use Rattle.model.specs.Prelude.{ℕ, arith, sym, ap, ◌∙◌, List, append_assoc, length, take, drop, replicate}
use Rattle.model.specs.Prelude.{length-append, take-take, take_at, drop_at, take-add, length-take-le, take-append-add}
use Rattle.model.specs.{declared.Range.Range, RangedStates.coalesce}
use Rattle.range_states.specs.{View.{view, blank, decode, Becomes, view_long, becomes_live}, Coalescing.Coalesced}

-- a change of the first m records, seen among the first n
becomes_within : {l : List ℕ} {m : ℕ} {xs : List Range} {l' : List ℕ} → 3 * m ≤ length l → Becomes l m xs l' → (n : ℕ) (ys zs : List Range)
    → m ≤ n → length ys ≡ m → decode n l ≡ ys ++ zs → decode n l' ≡ xs ++ zs
becomes_within {l} {m} {xs} {l'} room b n ys zs h e w =
    let k : ℕ = n - m in let q : n ≡ m + k = omega arith in
    let v : length (take m (view l)) ≡ m = length-take-le m (view l) (view_long l m room) in
    let w' : take (m + k) (view l) ≡ ys ++ zs = rw (← q) w in
    let z : zs ≡ take k (drop m (view l)) =
    sym (drop_at ys zs m e) ∙ ap (drop m) (sym w' ∙ take-add m k (view l)) ∙ drop_at (take m (view l)) (take k (drop m (view l))) m v
    in
    rw (q, b.seen, z) (rw b.size at (take-append-add xs (drop m (view l)) k))

pub coalesced_live : {l : List ℕ} {len r : ℕ} {l' : List ℕ} → Coalesced l len r l' → decode r l' ≡ coalesce (decode len l)
coalesced_live {l} {len} {r} {l'} c =
    sym (take-take r len (view l') c.few)
    ∙ rw (becomes_live c.into) (take_at (coalesce (decode len l)) (replicate (len - r) blank) r (sym c.count))

-- f is what is done to the run from position `from` up to `to`
module _ (f : List Range → List Range) (l₁ : List ℕ) (n : ℕ) (before run after : List Range) (from to : ℕ) (l₂ : List ℕ)
    (fits : 3 * n ≤ length l₁) (all : decode n l₁ ≡ before ++ (run ++ after)) (ef : from ≡ length before) (et : to ≡ from + length run)
    (b : Becomes l₁ to (decode from l₁ ++ f (drop from (decode to l₁))) l₂) where
  to_in : to ≤ n
  to_in =
      let w : length (decode n l₁) ≡ n = length-take-le n (view l₁) (view_long l₁ n fits) in
      let v : n ≡ length before + (length run + length after) = sym w ∙ ap length all ∙ simp length-append in
      omega arith

  front_run : decode to l₁ ≡ before ++ run
  front_run =
      let s : length (before ++ run) ≡ to = length-append before run ∙ omega arith in
      sym (take-take to n (view l₁) to_in) ∙ rw (all, ← append_assoc before run after) (take_at (before ++ run) after to s)

  the_front : decode from l₁ ≡ before
  the_front = sym (take-take from to (view l₁) (omega arith)) ∙ rw front_run (take_at before run from (sym ef))

  pub the_run : drop from (decode to l₁) ≡ run
  the_run = rw front_run (drop_at before run from (sym ef))

  pub into_run : Becomes l₁ to (before ++ f run) l₂
  into_run = rw (the_front, the_run) at b

  pub ran : decode n l₂ ≡ before ++ (f run ++ after)
  ran =
      let s : length (before ++ run) ≡ to = length-append before run ∙ omega arith in
      becomes_within (omega (arith, to_in)) into_run n (before ++ run) after to_in s (all ∙ sym (append_assoc before run after))
      ∙ append_assoc before (f run) after
