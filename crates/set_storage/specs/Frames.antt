-- What a change of one texture leaves as it was, and how changes of its mips follow one another.
use Rattle.model.specs.Prelude.{ℕ, suc, min-le_right, arith, refl, ap, ◌∙◌, inl, inr, true, List, leb, length, get_or, set, take, drop}
use Rattle.model.specs.Prelude.{get_or-set_same, get_or-set_other, le-leb, leb-true, not-true}
use Rattle.model.specs.{declared.Range.Range, Sets.{Numbers, numbers_fit, capacity}, BoolLaws.and_both, CheckLaws.inside}
use Rattle.std.specs.Prelude.{◌+◌, ◌*◌, ◌/◌, ◌≤◌, ◌<◌, ◌≡◌, ◌⊎◌, ◌++◌}
use Rattle.range_states.specs.View.{decode}
use Rattle.set_storage.specs.Part.{base_of, part_of, put_part, put_length, put_part_lem, put_before, put_after, put_apart, part_length}
use Rattle.set_storage.specs.Part.{mips_apart, places_fit, Within}
use Rattle.set_storage.specs.Storage.{numbers_of, table_indices, state_at, ranges_at, mips_in, count_at, mip_part, mip_of, mips_of}
use Rattle.set_storage.specs.Storage.{end_half, mips_at, table_length, start_half, textures_at, mip_limit_at, layer_limit_at}
use Rattle.set_storage.specs.Stays.{Frame, HalfFrame, stays_refl, stays_at, stays_of, stays_set, keeps_more, mip_first, mip_last}
use Rattle.set_storage.specs.Lists.{list_set, list_long, list_at}

-- ---- What the code needs of storage to index it, in the half that begins at h
pub record Measured (d : Numbers) (h : ℕ) (t r : List ℕ) : Type 0 where
  pub dims : numbers_of t ≡ d
  pub textures : d.textures ≤ 64
  pub mips : d.mips ≤ 16
  pub some : 0 < d.layers
  pub layers : d.layers ≤ 256
  pub fits : d.textures * d.mips * d.layers * 3 ≤ length r
  pub half : (start_half ≤ h) × (h ≤ end_half)
  pub table : length t ≡ table_length

-- what the test of its numbers and of its room tells
pub measured_of : (h : ℕ) (t r : List ℕ) → (start_half ≤ h) × (h ≤ end_half) → length t ≡ table_length → numbers_fit (numbers_of t) ≡ true
    → leb (capacity (numbers_of t)) (length r / 3) ≡ true → Measured (numbers_of t) h t r
measured_of h t r half size e room =
    let a = and_both _ _ e in let b = and_both _ _ a.0 in
    let n = inside (get_or t textures_at 0) 64 (not-true _ b.0) in let m = inside (get_or t mip_limit_at 0) 16 (not-true _ b.1) in
    let w = inside (get_or t layer_limit_at 0) 256 (not-true _ a.1) in let c = leb-true (capacity (numbers_of t)) (length r / 3) room in
    record { dims = refl; textures = n.1; mips = m.1; some = w.0; layers = w.1; fits = omega arith; half = half; table = size }

-- ---- Only the counts and the ranges of texture i in the half h may differ: the words below its counts, and past them
module _ {d : Numbers} {h i : ℕ} {t r t' r' : List ℕ} (f : Frame d h i t r t' r') where
  pub frame_below : (x : ℕ) → x < count_at h i 0 → get_or t' x 0 ≡ get_or t x 0
  frame_below x q = stays_at f.words x (record { off = inl q })

  pub frame_above : (x : ℕ) → count_at h i 16 ≤ x → get_or t' x 0 ≡ get_or t x 0
  frame_above x q = stays_at f.words x (record { off = inr q })

-- ---- The mips of texture i become ss, and all else is as it was
pub record MipsBecome (d : Numbers) (h i : ℕ) (ss : List (List Range)) (t r t' r' : List ℕ) : Type 0 where
  pub mips : mips_of d h t' r' i ≡ ss
  pub frame : Frame d h i t r t' r'

-- mip m of texture i is one of its own
pub record MipReady (d : Numbers) (h : ℕ) (t r : List ℕ) (i m : ℕ) : Type 0 where
  pub measured : Measured d h t r
  pub texture : i < d.textures
  pub mip : m < mips_in d t i
  pub top : mips_in d t i ≤ d.mips

pub mips_top : (d : Numbers) (t : List ℕ) (i : ℕ) → mips_in d t i ≤ d.mips
unfolding mips_in
mips_top d t i = min-le_right (get_or t (mips_at i) 0) d.mips

pub mips_same : (d : Numbers) (t t' : List ℕ) (i : ℕ) → get_or t' (mips_at i) 0 ≡ get_or t (mips_at i) 0 → mips_in d t' i ≡ mips_in d t i
unfolding mips_in
mips_same d t t' i e = rw e

pub mip_at : (d : Numbers) (h : ℕ) (t r : List ℕ) (i m : ℕ) (z : List Range) → m < mips_in d t i
    → get_or (mips_of d h t r i) m z ≡ mip_of d h t r i m
mip_at d h t r i m z q = list_at (mip_of d h t r i) (mips_in d t i) m z q

pub mips_long : (d : Numbers) (h : ℕ) (t r : List ℕ) (i : ℕ) → length (mips_of d h t r i) ≡ mips_in d t i
mips_long d h t r i = list_long (mip_of d h t r i) 0 (mips_in d t i)

-- a count that is not past the room reads its ranges
pub mip_is : (d : Numbers) (h : ℕ) (t r : List ℕ) (i k : ℕ) → get_or t (count_at h i k) 0 ≤ d.layers
    → mip_of d h t r i k ≡ decode (get_or t (count_at h i k) 0) (mip_part d r i k)
unfolding mip_of
mip_is d h t r i k few = rw (le-leb (get_or t (count_at h i k) 0) d.layers few)

pub room_of : {d : Numbers} {h : ℕ} {t r : List ℕ} → Measured d h t r → (j k : ℕ) → j < d.textures → k < d.mips
    → base_of j k d.mips d.layers + 3 * d.layers ≤ length r
unfolding base_of
room_of {d} {h} {t} {r} s j k a b = (places_fit j k d.textures d.mips d.layers (length r) a b s.some s.fits).end

pub within : {d : Numbers} {h i m : ℕ} {t r : List ℕ} → MipReady d h t r i m → Within i m d.mips d.layers (length r)
within {d} {h} {i} {m} {t} {r} q =
    record {
      count = d.textures;
      texture = q.texture;
      mip = omega (arith, q.mip, q.top);
      some = q.measured.some;
      fits = q.measured.fits;
    }

-- ---- A mip's part is put back, and its count written
module _ {d : Numbers} {h i m : ℕ} {t r : List ℕ} (q : MipReady d h t r i m) (p : List ℕ) (size : length p ≡ 3 * d.layers) (n : ℕ) where
  abbrev base : ℕ
  base = base_of i m d.mips d.layers

  abbrev r' : List ℕ
  r' = put_part r base (3 * d.layers) p

  abbrev t' : List ℕ
  t' = set t (count_at h i m) n

  in_mips : m < d.mips
  in_mips = omega (arith, q.mip, q.top)

  room : base + 3 * d.layers ≤ length r
  room = room_of q.measured i m q.texture in_mips

  in_table : count_at h i m < length t
  in_table = omega (arith, q.measured.table, q.measured.half.1, q.measured.textures, q.measured.mips, q.texture, in_mips)

  put_frame : Frame d h i t r t' r'
  put_frame =
      let few : i < table_indices = omega (arith, q.texture, q.measured.textures) in
      record {
        words = stays_set t (count_at h i m) n few (λ x o z. off_count x o.off z);
        ranges = stays_of few (λ x o. off_part x o.off) (put_length r base (3 * d.layers) p room size);
      }
    where
      off_count : (x : ℕ) → (x < count_at h i 0) ⊎ (count_at h i 16 ≤ x) → x ≡ count_at h i m → ⊥
      off_count x (inl o) z = omega arith
      off_count x (inr o) z = omega (arith, q.measured.mips, in_mips)

      off_part : (x : ℕ) → (x < ranges_at d i) ⊎ (ranges_at d (suc i) ≤ x) → get_or r' x 0 ≡ get_or r x 0
      off_part x (inl o) = put_before r base (3 * d.layers) p room size x 0 (omega (arith, mip_first d i m))
      off_part x (inr o) = put_after r base (3 * d.layers) p room size x 0 (omega (arith, mip_last d i m in_mips))

  put_here : n ≤ d.layers → mip_of d h t' r' i m ≡ decode n p
  unfolding mip_of
  put_here few = rw (get_or-set_same t (count_at h i m) n 0 in_table, le-leb n d.layers few, put_part_lem r base (3 * d.layers) p room size)

  put_there : (k : ℕ) → k < d.mips → (k ≡ m → ⊥) → mip_of d h t' r' i k ≡ mip_of d h t r i k
  unfolding mip_of
  put_there k b c =
      rw (
        get_or-set_other t (count_at h i m) (count_at h i k) n 0 (λ z. c (omega arith)),
        put_apart r base (3 * d.layers) p room size (base_of i k d.mips d.layers) (room_of q.measured i k q.texture b)
            (mips_apart i m k d.mips d.layers c),
      )

  pub put_mips : n ≤ d.layers → MipsBecome d h i (set (mips_of d h t r i) m (decode n p)) t r t' r'
  put_mips few =
      let e : mips_in d t' i ≡ mips_in d t i =
      mips_same d t t' i (frame_below put_frame (mips_at i) (omega (arith, q.measured.half.0, q.measured.textures, q.texture))) in
      let z : 0 + m ≡ m = omega arith in
      record {
        mips = rw e (list_set (mip_of d h t r i) (mip_of d h t' r' i) 0 (mips_in d t i) m (decode n p) q.mip
            (ap (λ (x : ℕ). mip_of d h t' r' i x) z ∙ put_here few)
            (λ x a b c. put_there x (omega (arith, q.top)) (λ w. c (omega arith))));
        frame = put_frame;
      }

-- as the code puts it: the part of (i, m) becomes xs, n of them
pub mip_put : {d : Numbers} {h i m : ℕ} {t r : List ℕ} → MipReady d h t r i m → (b k n : ℕ) (p : List ℕ) (xs : List Range)
    → b ≡ base_of i m d.mips d.layers → k ≡ 3 * d.layers → length p ≡ length (take k (drop b r)) → 3 * n ≤ k → decode n p ≡ xs
    → MipsBecome d h i (set (mips_of d h t r i) m xs) t r (set t (count_at h i m) n) (take b r ++ (p ++ drop k (drop b r)))
unfolding part_of put_part
mip_put {d} {h} {i} {m} {t} {r} q b k n p xs eb ek long fits seen =
    let pl = part_length r (base_of i m d.mips d.layers) (3 * d.layers)
    (room_of q.measured i m q.texture (omega (arith, q.mip, q.top))) in
    let long' : length p ≡ length (part_of r (base_of i m d.mips d.layers) (3 * d.layers)) = rw (eb, ek) at long in
    let x = put_mips q p (long' ∙ pl) n (omega arith) in
    rw (eb, ek) record { mips = x.mips ∙ ap (λ (ys : List Range). set (mips_of d h t r i) m ys) seen; frame = x.frame }

-- ---- Only the state, the counts and the ranges of texture i in the half h may differ
pub half_of : {d : Numbers} {h i : ℕ} {t r t' r' : List ℕ} → Frame d h i t r t' r' → HalfFrame d h i t r t' r'
half_of f = keeps_more (λ j e. e) (λ j x o. o.counts) f

-- the state alone
pub half_word_lem : (d : Numbers) (h i v : ℕ) (t r : List ℕ) → i < table_indices → HalfFrame d h i t r (set t (state_at h i) v) r
half_word_lem d h i v t r few = record { words = stays_set t (state_at h i) v few (λ x o. o.state); ranges = stays_refl r }

module _ {d : Numbers} {h i : ℕ} {t r t' r' : List ℕ} (f : HalfFrame d h i t r t' r') where
  pub half_below : (x : ℕ) → x < count_at h i 0 → (x ≡ state_at h i → ⊥) → get_or t' x 0 ≡ get_or t x 0
  half_below x q n = stays_at f.words x (record { state = n; counts = record { off = inl q } })

  pub half_above : (x : ℕ) → count_at h i 16 ≤ x → get_or t' x 0 ≡ get_or t x 0
  half_above x q = stays_at f.words x (record { state = λ z. omega arith; counts = record { off = inr q } })

pub half_measured : {d : Numbers} {h i : ℕ} {t r t' r' : List ℕ} → Measured d h t r → HalfFrame d h i t r t' r' → Measured d h t' r'
half_measured {d} {h} {i} {t} {r} {t'} {r'} s f =
    let e₀ = half_below f 0 (omega (arith, s.half.0)) (λ z. omega (arith, s.half.0)) in
    let e₁ = half_below f 1 (omega (arith, s.half.0)) (λ z. omega (arith, s.half.0)) in
    let e₂ = half_below f 2 (omega (arith, s.half.0)) (λ z. omega (arith, s.half.0)) in
    record {
      dims = rw (e₀, e₁, e₂) s.dims;
      textures = s.textures;
      mips = s.mips;
      some = s.some;
      layers = s.layers;
      fits = rw f.ranges.long s.fits;
      half = s.half;
      table = f.words.long ∙ s.table;
    }

pub measured_then : {d : Numbers} {h i : ℕ} {t r t' r' : List ℕ} → Measured d h t r → Frame d h i t r t' r' → Measured d h t' r'
measured_then s f = half_measured s (half_of f)
