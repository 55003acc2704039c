-- How many entries a texture adds at most: one for each range of its mips to a state, one for each two ranges to another texture.
use Rattle.model.specs.Prelude.{ℕ, zero, suc, suc-mul, mul-le-mul, arith, refl, Option, None, Some, List, [], length, length-append}
use Rattle.model.specs.Prelude.{min-le_left, leb, leb-true, get_or}
use Rattle.model.specs.{declared.{Extent.Extent, Range.Range, Selector.Selector, UsageFlags.UsageFlags}, Base.{each, each_at}}
use Rattle.model.specs.{BoolLaws.{by_eq, by_test}, StateRules.{Move, move_of}}
use Rattle.model.specs.{Representation.{select, full, mip_start, mip_end, layer_start, layer_end}, RangedStates.range}
use Rattle.model.specs.Texture.{Entry, entry, from_held}
use Rattle.std.specs.Prelude.{◌-◌, ◌*◌, ◌≤◌, ◌∷◌}
use Rattle.std.specs.Option.{unwrap_or}
use Rattle.std.proofs.lemmas.List.{length-take, length-map}
use Rattle.range_states.specs.{View.view, Filtering.{overlaps, clip}}
use Rattle.set_storage.specs.{declared.stored.Stored.Stored, Storage.{numbers_of, flags_of, list_from, mip_of, mip_part, count_at}}
use Rattle.set_storage.specs.{Stored.{HeldAs, held_in, ranges_of, word_of}, Uses.{use_of, PartWithin}}
use Rattle.texture_barrier.specs.{Entries.entries_at, Mips.mips_entries, Steps.{step_entries, to_state, from_state, within, against}}
use Rattle.texture_barrier.specs.Textures.{barrier_at, task_of}
use Rattle.texture_barrier.proofs.Holding.{IsMany, use_single, all_many, part_many, given_single_lem, given_many_lem, given_from}

-- ---- Lists made element by element, each making n at most
pub each_few : {A B : Type 0} (n : ℕ) (f : A → List B) → ((x : A) → length (f x) ≤ n) → (s : List A) → length (each f s) ≤ length s * n
each_few n f h [] = omega arith
each_few n f h (x ∷ s) = let e = each_few n f h s in rw (length-append (f x) (each f s), suc-mul (length s) n) (omega (arith, h x, e))

mips_few : {A B : Type 0} (n : ℕ) (f : ℕ → A → List B) (G : ℕ → A) → ((k : ℕ) → length (f k (G k)) ≤ n) → (k m : ℕ)
    → length (each_at f k (list_from G k m)) ≤ m * n
unfolding list_from
mips_few n f G h k zero = omega arith
mips_few n f G h k (suc m) =
    let e = mips_few n f G h (suc k) m in
    rw (length-append (f k (G k)) (each_at f (suc k) (list_from G (suc k) m)), suc-mul m n) (omega (arith, h k, e))

-- ---- One transition at most for a range
pub entry_few : (q : Selector) (m : Option Move) → length (entry q m) ≤ 1
entry_few q None = omega arith
entry_few q (Some m) = omega arith

pub within_few : (g : Range) (u mask k : ℕ) (r : Range) → length (within g u mask k r) ≤ 1
within_few g u mask k r =
    let c = clip g.start g.end r in let q = select k (suc k) c.start c.end in let m = move_of u mask c.state g.state in
    by_test (λ (x : List Entry). length x ≤ 1) (overlaps g.start g.end r) {x = entry q m} {y = []} (λ b. entry_few q m) (λ b. omega arith)

-- ---- A mip has no more than 256 ranges, as a set has no more layers
module _ (s : Stored) (w : (numbers_of s.table.now).layers ≤ 256) where
  pub ranges_few : (k : ℕ) → length (ranges_of s k) ≤ 256
  unfolding mip_of
  ranges_few k =
      let d = numbers_of s.table.now in let n = get_or s.table.now (count_at s.half s.i k) 0 in
      by_test (λ (x : List Range). length x ≤ 256) (leb n d.layers)
      (λ b. let e = length-take n (view (mip_part d s.ranges.now s.i k)) in rw e (omega (
        arith,
        min-le_left n
            (length (view (mip_part d s.ranges.now s.i k))),
        leb-true n d.layers b,
        w,
      )))
      (λ b. omega arith)

  pub run_few : (n : ℕ) (f : Range → List Entry) → ((r : Range) → length (f r) ≤ n) → (k : ℕ) → length (each f (ranges_of s k)) ≤ 256 * n
  run_few n f h k =
      let a = each_few n f h (ranges_of s k) in
      let b : length (ranges_of s k) * n ≤ 256 * n = mul-le-mul (ranges_few k) (let z : n ≤ n = omega arith in z) in omega (arith, a, b)

  pub texture_few : (n : ℕ) (f : ℕ → Range → List Entry) → ((k : ℕ) (r : Range) → length (f k r) ≤ n) → (i lo hi : ℕ) → hi ≤ 16
      → length (entries_at i (mips_entries (step_entries f) (ranges_of s) lo hi)) ≤ 16 * (256 * n)
  texture_few n f h i lo hi l =
      let a = mips_few (256 * n) (step_entries f) (ranges_of s) (λ k. run_few n (f k) (h k) k) lo (hi - lo) in
      let m : hi - lo ≤ 16 = omega arith in
      let b : (hi - lo) * (256 * n) ≤ 16 * (256 * n) = mul-le-mul m (let z : 256 * n ≤ 256 * n = omega arith in z) in
      rw length-map (omega (arith, a, b))

layers_few : (s : Stored) (sh : Extent) → HeldAs s sh → (numbers_of s.table.now).layers ≤ 256
layers_few s sh q = q.ready.measured.layers

-- ---- A state is given: of all of the texture, or of a part
module _ (s : Stored) {sh : Extent} (q : HeldAs s sh) (p : UsageFlags) (mask : ℕ) where
  one_few : (i : ℕ) (x : Selector) (m : Option Move) → length (entries_at i (entry x m)) ≤ 4096
  one_few i x m = let e = entry_few x m in rw length-map (omega (arith, e))

  top : sh.mips ≤ 16
  top = omega (arith, q.ready.top, q.ready.measured.mips)

  pub use_few : (part : Option Selector) → PartWithin sh part → (new : ℕ) → length (barrier_at p mask sh s (use_of part new)) ≤ 4096
  use_few part w new =
      by_eq (word_of s) (flags_of s.table.now).complex (λ c. many c part w)
      (λ n. rw (use_single s q p mask {k = task_of s.i p mask} refl part new n refl refl)
      (let e = one_few s.i (unwrap_or part (full sh)) (move_of p.unknown mask (word_of s) new) in omega (arith, e)))
    where
      many : IsMany s → (o : Option Selector) → PartWithin sh o → length (barrier_at p mask sh s (use_of o new)) ≤ 4096
      many c None z =
          rw (all_many s q p mask {k = task_of s.i p mask} refl c new)
          (let e = texture_few s (layers_few s sh q) 1 (to_state new p.unknown mask) (λ k r. entry_few _ _) s.i 0 sh.mips top in
          omega (arith, e))
      many c (Some x) z =
          rw (part_many s q p mask {k = task_of s.i p mask} refl c new x z)
          (let e = texture_few s (layers_few s sh q) 1 (within (range (layer_start x) (layer_end x) new) p.unknown mask)
          (λ k r. within_few (range (layer_start x) (layer_end x) new) p.unknown mask k r) s.i (mip_start x) (mip_end x)
          (omega (arith, z.in_mips, top)) in omega (arith, e))

  -- ---- a texture g is given
  pub texture_adds_few : (g : Stored) → HeldAs g sh → length (barrier_at p mask sh s (from_held (held_in g))) ≤ 1048576
  texture_adds_few g w =
      by_eq (word_of g) (flags_of g.table.now).complex given
      (λ n. rw (given_single_lem s q p mask g w n refl) (let e = use_few None tt (word_of g) in omega (arith, e)))
    where
      given : IsMany g → length (barrier_at p mask sh s (from_held (held_in g))) ≤ 1048576
      given c =
          by_eq (word_of s) (flags_of s.table.now).complex
          (λ z. rw (given_many_lem s q p mask g w {k = task_of s.i p mask} refl c z)
          (let e = texture_few g (layers_few g sh w) 256 (against (ranges_of s) p.unknown mask)
          (λ k r. let f = each_few 1 (within r p.unknown mask k) (λ x. within_few r p.unknown mask k x) (ranges_of s k) in
          omega (arith, f, ranges_few s (layers_few s sh q) k)) s.i 0 sh.mips top in omega (arith, e)))
          (λ n. rw (given_from s q p mask g w {k = task_of s.i p mask} refl c n refl)
          (let e = texture_few g (layers_few g sh w) 1 (from_state (word_of s) p.unknown mask) (λ k r. entry_few _ _) s.i 0 sh.mips top in
          omega (arith, e)))
