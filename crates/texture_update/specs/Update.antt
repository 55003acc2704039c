-- `update` of one texture of a tracker: what the code needs, and the model's `update` of one use, case by case.
use Rattle.std.specs.Prelude.{◌≡◌}
use Rattle.model.specs.Prelude.{ℕ, refl, ap, ◌∙◌, Some, List, get_or, ne_eqb}
use Rattle.model.specs.{declared.{UsageFlags.UsageFlags, Extent.Extent, Selector.Selector, Range.Range}, CheckLaws.SelectorWithin}
use Rattle.model.specs.Texture.{Held, single, many, given_single, learn_all, met_by, spread_end, update_all, update}
use Rattle.set_storage.specs.Storage.{numbers_of, flags_of, start_half, end_half, complex_at, state_at}
use Rattle.set_storage.specs.{Texture.TextureHeld, Uses.{piece, use_of}}
use Rattle.texture_merge.specs.{Ready.{updated_mips, HalfTiled, many_of}, Uses.{UseReady, broken_up}}
use Rattle.texture_update.specs.Learning.{BothReady}

-- ---- What the checks and the test of the set have shown
pub record UpdateReady (t s e : List ℕ) (i : ℕ) (sh : Extent) (p : UsageFlags) (new : ℕ) : Type 0 where
  pub start : TextureHeld (numbers_of t) start_half t s i sh
  pub end : TextureHeld (numbers_of t) end_half t e i sh
  pub flags : p ≡ flags_of t
  pub plain : new ≡ p.complex → ⊥

-- a selector within the texture, with a state that is not UNKNOWN
pub record Selecting (sh : Extent) (q : Selector) (p : UsageFlags) (new : ℕ) : Type 0 where
  pub selector : SelectorWithin sh q
  pub known : new ≡ p.unknown → ⊥

module _ {t s e : List ℕ} {i : ℕ} {sh : Extent} {p : UsageFlags} {new : ℕ} (r : UpdateReady t s e i sh p new) where
  pub complex_is : p.complex ≡ get_or t complex_at 0
  complex_is = ap (λ (y : UsageFlags). y.complex) r.flags

  pub start_many : get_or t (state_at start_half i) 0 ≡ p.complex → HalfTiled start_half t s i
  start_many c = many_of r.start (c ∙ complex_is) _ r.start.ready.layers

  pub end_many : get_or t (state_at end_half i) 0 ≡ p.complex → HalfTiled end_half t e i
  end_many c = many_of r.end (c ∙ complex_is) _ r.end.ready.layers

  pub both_many : get_or t (state_at start_half i) 0 ≡ p.complex → get_or t (state_at end_half i) 0 ≡ p.complex → BothReady t s e i
  both_many a b = record { start = start_many a; end = end_many b }

  pub end_use : {q : Selector} → Selecting sh q p new → UseReady (numbers_of t) end_half t e i sh (Some q) p new
  end_use x = record { texture = r.end.ready; within = x.selector; flags = r.flags; plain = r.plain }

-- ---- The model's update, case by case: one state for all
module _ (p : UsageFlags) (sh : Extent) (new : ℕ) where
  pub state_single : (x : Held) (cur : ℕ)
      → update p sh (record { start = x; end = single cur }) (given_single new) ≡ record { start = x; end = single new }
  unfolding update
  state_single x cur = refl

  pub state_kept : (st : ℕ) (es : List (List Range))
      → update p sh (record { start = single st; end = many es }) (given_single new) ≡ record { start = single st; end = single new }
  unfolding update
  state_kept st es = refl

  pub state_learnt : (ss es : List (List Range))
      → update p sh (record { start = many ss; end = many es }) (given_single new)
      ≡ record { start = many (learn_all (λ k x. x) p.unknown new 0 es ss); end = single new }
  unfolding update
  state_learnt ss es = refl

  -- a selector with a state that is not UNKNOWN
  module _ (q : Selector) (n : new ≡ p.unknown → ⊥) where
    pub use_single : (x : Held) (cur : ℕ)
        → update p sh (record { start = x; end = single cur }) (use_of (Some q) new)
        ≡ record { start = x; end = broken_up sh cur q p.unknown new }
    unfolding update spread_end broken_up
    use_single x cur = rw (ne_eqb new p.unknown n)

    pub use_kept : (st : ℕ) (es : List (List Range))
        → update p sh (record { start = single st; end = many es }) (use_of (Some q) new)
        ≡ record { start = single st; end = many (updated_mips p.unknown q new es) }
    unfolding update update_all
    use_kept st es = rw (ne_eqb new p.unknown n)

    pub use_learnt : (ss es : List (List Range))
        → update p sh (record { start = many ss; end = many es }) (use_of (Some q) new)
        ≡ record {
          start = many (learn_all (met_by p.unknown (piece q new)) p.unknown new 0 es ss);
          end = many (updated_mips p.unknown q new es);
        }
    unfolding update update_all
    use_learnt ss es = rw (ne_eqb new p.unknown n)
