-- A texture as it stands in one half of a set: what is read of it, what a reader may count on, and where the ranges of a mip are found.
use Rattle.model.specs.Prelude.{ℕ, suc, arith, sym, List, length, get_or, take, drop, length-drop, length-take-le}
use Rattle.model.specs.{declared.{Extent.Extent, Range.Range}, Texture.Held}
use Rattle.std.specs.Prelude.{◌+◌, ◌*◌, ◌-◌, ◌≤◌, ◌<◌, ◌≡◌}
use Rattle.range_states.specs.View.{decode}
use Rattle.set_storage.specs.{declared.Located.Located, declared.stored.Stored.Stored, Part.part_of, Locate.LocatedAt}
use Rattle.set_storage.specs.Storage.{numbers_of, mips_in, count_at, mip_of, mips_of, held_of, complex_at}
use Rattle.set_storage.specs.{Frames.{Measured, MipReady, mip_is, mips_top}, Texture.{TextureHeld, tiles_few, texture_mips}}

-- its word: its state where it is Single, COMPLEX where it is Many
abbrev pub word_of : Stored → ℕ
word_of s = get_or s.table.now (s.half + s.i) 0

-- the ranges of its mips, by their number and one after another
abbrev pub ranges_of : Stored → ℕ → List Range
ranges_of s = mip_of (numbers_of s.table.now) s.half s.table.now s.ranges.now s.i

abbrev pub mips_stored : Stored → List (List Range)
mips_stored s = mips_of (numbers_of s.table.now) s.half s.table.now s.ranges.now s.i

-- what it holds
abbrev pub held_in : Stored → Held
held_in s = held_of (numbers_of s.table.now) s.half s.table.now s.ranges.now s.i

-- it is a texture of the extent sh
abbrev pub HeldAs : Stored → Extent → Type 0
HeldAs s sh = TextureHeld (numbers_of s.table.now) s.half s.table.now s.ranges.now s.i sh

-- the first n mips of texture i, which is Many
pub record Ready (h : ℕ) (t r : List ℕ) (i n : ℕ) : Type 0 where
  pub measured : Measured (numbers_of t) h t r
  pub texture : i < (numbers_of t).textures
  pub top : n ≤ 16
  pub inside : n ≤ mips_in (numbers_of t) t i
  pub few : (k : ℕ) → k < n → get_or t (count_at h i k) 0 ≤ (numbers_of t).layers

-- and what its first n mips may be counted on for
abbrev pub ReadyUpTo : Stored → ℕ → Type 0
ReadyUpTo s = Ready s.half s.table.now s.ranges.now s.i

-- ---- A texture that is Many
pub ready : {h : ℕ} {t r : List ℕ} {i : ℕ} {sh : Extent} → TextureHeld (numbers_of t) h t r i sh
    → get_or t (h + i) 0 ≡ get_or t complex_at 0
    → (n : ℕ) → n ≤ sh.mips → Ready h t r i n
ready {h} {t} {r} {i} {sh} q c n l =
    let x = q.ready in
    record {
      measured = x.measured;
      texture = x.index;
      top = omega (arith, x.top, x.measured.mips);
      inside = omega (arith, texture_mips x);
      few = λ k a. tiles_few (numbers_of t) h t r i k sh.layers x.some (q.tiled c k (omega arith));
    }

-- ---- Its mip m, whose ranges were found: the part that a function over one mip borrows
abbrev pub lent_part : Located → List ℕ → List ℕ
lent_part x r = take (x.end - x.base) (drop x.base r)

module _ {h : ℕ} {t r : List ℕ} {i n : ℕ} (q : Ready h t r i n) {m : ℕ} (l : m < n) where
  pub mip_ready : MipReady (numbers_of t) h t r i m
  mip_ready = record { measured = q.measured; texture = q.texture; mip = omega (arith, q.inside); top = mips_top (numbers_of t) t i }

  module _ {x : Located} (f : LocatedAt t h i m (length r) x) where
    pub run_is : decode x.len (lent_part x r) ≡ mip_of (numbers_of t) h t r i m
    unfolding part_of
    run_is = rw (f.size, f.base, f.len) (sym (mip_is (numbers_of t) h t r i m (q.few m l)))

-- mip m alone
pub ready_at : {h : ℕ} {t r : List ℕ} {i n : ℕ} → Ready h t r i n → {m : ℕ} → m < n → Ready h t r i (suc m)
ready_at q l = record {
  measured = q.measured;
  texture = q.texture;
  top = omega (arith, q.top);
  inside = omega (arith, q.inside);
  few = λ k a. q.few k (omega arith);
}
