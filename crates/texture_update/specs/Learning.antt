-- Every mip of the start learns from the end's: what the code needs, and the model's `learn_all` as a walk.
use Rattle.std.specs.Prelude.{◌≡◌}
use Rattle.model.specs.Prelude.{ℕ, zero, suc, refl, List, get_or}
use Rattle.model.specs.{declared.Range.Range, Base.{fine, walk}, Texture.{learn, learn_all}}
use Rattle.set_storage.specs.Storage.{numbers_of, start_half, end_half, list_from, layers_at}
use Rattle.texture_merge.specs.Ready.{MipTiled, HalfTiled}

-- ---- What the code needs: one mip of both halves, or all of them, that tile the layers
pub record PairTiled (t s e : List ℕ) (i m : ℕ) : Type 0 where
  pub start : MipTiled (numbers_of t) start_half t s i m (get_or t (layers_at i) 0)
  pub end : MipTiled (numbers_of t) end_half t e i m (get_or t (layers_at i) 0)

pub record BothReady (t s e : List ℕ) (i : ℕ) : Type 0 where
  pub start : HalfTiled start_half t s i
  pub end : HalfTiled end_half t e i

-- ---- `learn_all` is a walk over the mips of the start, each by the end's: G and H tell them
pub walk_learn : {C : Type 0} (part : ℕ → List Range → List Range) (u new : ℕ) (G H : ℕ → List Range) (k n : ℕ)
    → walk {C = C} (λ j x. fine (learn u new (part j (G j)) x)) k (list_from H k n)
    ≡ fine (learn_all part u new k (list_from G k n) (list_from H k n))
unfolding list_from
walk_learn part u new G H k zero = refl
walk_learn {C = C} part u new G H k (suc n) = rw (walk_learn {C = C} part u new G H (suc k) n)
