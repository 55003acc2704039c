-- Where the ranges of a mip lie: what `locate` asks for and tells.
use Rattle.std.specs.Prelude.{◌*◌, ◌-◌, ◌≤◌, ◌<◌, ◌≡◌}
use Rattle.model.specs.Prelude.{ℕ, arith, List, length, get_or}
use Rattle.set_storage.specs.{declared.Located.Located, Part.{base_of, Within}}
use Rattle.set_storage.specs.{Storage.{numbers_of, count_at, end_half, layer_limit_at, mip_limit_at}, Frames.{MipReady, within}}

pub record Locates (t : List ℕ) (h i m room : ℕ) : Type 0 where
  pub within : Within i m (get_or t mip_limit_at 0) (get_or t layer_limit_at 0) room
  pub half : h ≤ end_half
  pub texture : i < 64
  pub mip : m < 16

pub record LocatedAt (t : List ℕ) (h i m room : ℕ) (x : Located) : Type 0 where
  pub base : x.base ≡ base_of i m (get_or t mip_limit_at 0) (get_or t layer_limit_at 0)
  pub size : x.end - x.base ≡ 3 * get_or t layer_limit_at 0
  pub order : x.base ≤ x.end
  pub end : x.end ≤ room
  pub len : x.len ≡ get_or t (count_at h i m) 0

pub locates : {t r : List ℕ} {h i m : ℕ} → MipReady (numbers_of t) h t r i m → Locates t h i m (length r)
locates {t} {r} {h} {i} {m} q = record {
  within = within q;
  half = q.measured.half.1;
  texture = omega (arith, q.texture, q.measured.textures);
  mip = omega (arith, q.mip, q.top, q.measured.mips);
}
