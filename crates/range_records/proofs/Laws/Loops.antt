-- What the passes' definitions say of one turn of their loops.
use Rattle.model.specs.Prelude.{ℕ, zero, suc, not-suc-le-zero, le_of_suc-le-suc, add-one, unary_clauses}
use Rattle.model.specs.Prelude.{arith, refl, ap, ◌∙◌, List, [], length, take, drop, get_or}
use Rattle.model.specs.Prelude.{set, length-set, length-take, get_or-take, get_or-drop}
use Rattle.model.specs.declared.{Range.Range}
use Rattle.std.specs.Prelude.{◌+◌, ◌-◌, ◌<◌, ◌≡◌, ◌∷◌}
use Rattle.range_states.specs.{View.blank, Filtering.{clip}}
use Rattle.range_records.specs.declared.decisions.Scan.{Scan}
use Rattle.range_records.specs.Passes.{look_of, scanned, cut_piece, cutting, join_of, joining, clipping}

-- ---- survey
pub scanned_none : (a e : ℕ) (s : Scan) (xs : List Range) → s ≡ scanned a e s (take 0 xs)
unfolding scanned
scanned_none a e s xs = refl

scanned_suc : (k a e : ℕ) (s : Scan) (xs : List Range) → k < length xs
    → look_of a e (scanned a e s (take k xs)) (get_or xs k blank) ≡ scanned a e s (take (suc k) xs)
unfolding scanned
scanned_suc k a e s [] l = absurd (not-suc-le-zero l)
scanned_suc zero a e s (x ∷ xs) l = refl
scanned_suc (suc k) a e s (x ∷ xs) l = scanned_suc k a e (look_of a e s x) xs (le_of_suc-le-suc l)

pub scanned_more : (k a e : ℕ) (s : Scan) (xs : List Range) → k < length xs
    → look_of a e (scanned a e s (take k xs)) (get_or xs k blank) ≡ scanned a e s (take (k + 1) xs)
scanned_more k a e s xs l = rw add-one (scanned_suc k a e s xs l)

-- ---- clip
pub clipping_none : (f a e : ℕ) (xs ys : List Range) → ys ≡ clipping 0 f a e xs ys
unfolding clipping
clipping_none f a e xs ys = refl

-- the next record, read from the n records from f on
pub clipping_more : (w n f a e : ℕ) (xs ys : List Range) → w < length (take (f + n - f) (drop f xs))
    → set (clipping w f a e xs ys) w (clip a e (get_or (take (f + n - f) (drop f xs)) w blank)) ≡ clipping (w + 1) f a e xs ys
unfolding clipping
clipping_more w n f a e xs ys h =
    let k : w < f + n - f = omega (arith, length-take (f + n - f) (drop f xs)) in
    rw (add-one, get_or-take (f + n - f) (drop f xs) w blank k, get_or-drop f xs w blank)

pub clipping_length : (w f a e : ℕ) (xs ys : List Range) → length (clipping w f a e xs ys) ≡ length ys
unfolding clipping
clipping_length zero f a e xs ys = refl
clipping_length (suc w) f a e xs ys = length-set (clipping w f a e xs ys) w (clip a e (get_or xs (f + w) blank))
    ∙ clipping_length w f a e xs ys

-- ---- cut
pub cutting_none : (i g a e d : ℕ) (l : List Range) → cutting 0 i g a e d l ≡ l
unfolding cutting
cutting_none i g a e d l = refl

pub cutting_less : (w i g a e d : ℕ) (l : List Range) → 0 < w
    → cutting w i g a e d l ≡ cutting (w - 1) (cut_piece i (get_or l (i - 1) blank) g a e d).left (cut_piece i
    (get_or l (i - 1) blank) g a e d).range.start a e d (set l (w - 1) (cut_piece i (get_or l (i - 1) blank) g a e d).range)
unfolding cutting
cutting_less zero i g a e d l p = absurd (not-suc-le-zero p)
cutting_less (suc w) i g a e d l p = simp unary_clauses refl

-- ---- join
pub joining_none : (i len : ℕ) (last : Range) (l : List Range) → record { len = len; records = l } ≡ joining 0 i len last l
unfolding joining
joining_none i len last l = refl

joining_suc : (k i len : ℕ) (last : Range) (l : List Range)
    → joining (suc k) i len last l
    ≡ joining k (i + 1) (join_of last len (get_or l i blank)).len (join_of last len (get_or l i blank)).range (set (set l i blank)
    (join_of last len (get_or l i blank)).at (join_of last len (get_or l i blank)).range)
unfolding joining
joining_suc k i len last l = refl

pub joining_more : (n i len : ℕ) (last : Range) (l : List Range) → i < n
    → joining (n - i) i len last l ≡ joining (n - (i + 1)) (i + 1) (join_of last len (get_or l i blank)).len (join_of last len
    (get_or l i blank)).range (set (set l i blank) (join_of last len (get_or l i blank)).at (join_of last len (get_or l i blank)).range)
joining_more n i len last l p =
    let rest : n - i ≡ suc (n - (i + 1)) = omega arith in
    ap (λ (k : ℕ). joining k i len last l) rest ∙ joining_suc (n - (i + 1)) i len last l
