-- `update` from a texture of another set, case by case: what the code leaves is what the model's update gives.
use Rattle.model.specs.Prelude.{ℕ, suc, arith, sym, ap, subst, ◌∙◌, List, [], get_or, set, replicate}
use Rattle.model.specs.{declared.{UsageFlags.UsageFlags, Extent.Extent, Range.Range, InvalidUse.InvalidUse}, Base.{Stop, passes}}
use Rattle.model.specs.{Representation.Ends, RangedStates.range}
use Rattle.model.specs.{Texture.{Held, single, Given, given_single, pieces_of, from_held, spread_end, update}, BoolLaws.by_eq}
use Rattle.std.specs.Prelude.{◌≡◌, ◌∷◌}
use Rattle.set_storage.specs.{Storage.{numbers_of, start_half, end_half, mips_of, held_of, ends_of, layers_at, state_at}, Frames.MipsBecome}
use Rattle.set_storage.specs.{declared.stored.Stored.Stored, Stored.{word_of, mips_stored, held_in}}
use Rattle.texture_merge.specs.{Walks.{Stopped, MipsWalked}, Ready.ManyReady}
use Rattle.texture_merge.specs.{Giving.{covered, covers, GivenTexture, many_tiled}, FromSet.{given_state_lem, given_pieces, given_many_lem}}
use Rattle.texture_update.specs.{Both.BothBecome, Update.{UpdateReady, start_many, end_many}}
use Rattle.texture_update.specs.Pieces.{updates, HeldTiled, ManyTiled, PairReady}
use Rattle.texture_update.specs.FromSet.{UpdateFromReady, from_use_lem, pieces_single, pieces_many}
use Rattle.texture_merge.proofs.Breaking.{break_many, break_texture, break_then}
use Rattle.texture_update.proofs.Cases as cases

module _ {t s e : List ℕ} {sh : Extent} {g : Stored} {p : UsageFlags} (x : UpdateFromReady t s e sh g p) where
  abbrev i : ℕ
  i = g.i

  abbrev gs : List (List Range)
  gs = mips_stored g

  abbrev given : Given
  given = from_held (held_in g)

  -- any state but COMPLEX makes a use of all of the texture
  any : UpdateReady t s e i sh p (suc p.complex)
  any = from_use_lem x (suc p.complex) (λ z. omega arith)

  -- ---- the given texture is Single
  pub state_given : {t' s' e' : List ℕ} → (word_of g ≡ p.complex → ⊥)
      → BothBecome (numbers_of t) i (update p sh (ends_of (numbers_of t) t s e i) (given_single (word_of g))) t s e t' s' e'
      → BothBecome (numbers_of t) i (update p sh (ends_of (numbers_of t) t s e i) given) t s e t' s' e'
  state_given {t'} {s'} {e'} c b =
      subst (λ (y : Given). BothBecome (numbers_of t) i (update p sh (ends_of (numbers_of t) t s e i) y) t s e t' s' e')
      (sym (given_state_lem x.given c)) b

  -- ---- the given texture is Many
  module _ (c : word_of g ≡ p.complex) where
    -- and so is the end: it takes the pieces in turn
    module _ (m : get_or t (state_at end_half i) 0 ≡ p.complex) where
      start_tiled : HeldTiled (get_or t (layers_at i) 0) (held_of (numbers_of t) start_half t s i)
      start_tiled =
          by_eq (get_or t (state_at start_half i) 0) p.complex
          (λ k. subst (λ (y : Held). HeldTiled (get_or t (layers_at i) 0) y) (sym (cases.start_many any k)) (many_tiled (start_many any k)))
          (λ n. subst (λ (y : Held). HeldTiled (get_or t (layers_at i) 0) y) (sym (cases.start_single any n)) tt)

      pub pieces_ready : PairReady t s e i p × GivenTexture t sh.mips g
      pieces_ready = (
        record {
          starts = x.start.ready.measured;
          ends = x.end.ready.measured;
          texture = x.start.ready.index;
          some = rw x.start.ready.layers x.start.ready.some;
          low = rw x.start.ready.layers x.start.ready.low;
          flags = x.flags;
          tiled = record {
            start = start_tiled;
            end = subst (λ (y : Held). ManyTiled (get_or t (layers_at i) 0) y)
                (sym (cases.end_many any m)) (many_tiled (end_many any m));
          };
        },
        given_many_lem x.given c x.end.ready,
      )

      pub pieces_done : {t' s' e' : List ℕ}
          → BothBecome (numbers_of t) i (updates p.unknown (pieces_of gs) (ends_of (numbers_of t) t s e i)) t s e t' s' e'
          → BothBecome (numbers_of t) i (update p sh (ends_of (numbers_of t) t s e i) given) t s e t' s' e'
      pieces_done {t'} {s'} {e'} b =
          subst (λ (y : Ends Held). BothBecome (numbers_of t) i y t s e t' s' e')
          (rw (given_pieces x.given c, cases.end_many any m)
          (sym (pieces_many p sh (pieces_of gs) (held_of (numbers_of t) start_half t s i) (mips_of (numbers_of t) end_half t e i)))) b

    -- the end is Single: it is broken up, and covered by the pieces
    module _ {cur : ℕ} (z : cur ≡ get_or t (state_at end_half i) 0) (n : cur ≡ p.complex → ⊥) {t₃ e₃ : List ℕ}
        (b : MipsBecome (numbers_of (set t (state_at end_half i) p.complex)) end_half i (replicate sh.mips (range 0 sh.layers cur ∷ []))
        (set t (state_at end_half i) p.complex) e t₃ e₃) where
      pub cover_ready : ManyReady (numbers_of t₃) end_half t₃ e₃ i (get_or t₃ (layers_at i) 0) × GivenTexture t₃ sh.mips g
      cover_ready = (break_many x.end.ready x.flags cur b, given_many_lem x.given c (break_texture x.end.ready x.flags cur b))

      pub cover_done : {y : Stopped} {t₄ e₄ : List ℕ}
          → MipsWalked (numbers_of t₃) end_half i (passes (covered p cur) (pieces_of gs)
          (mips_of (numbers_of t₃) end_half t₃ e₃ i)) t₃ e₃ y t₄ e₄
          → BothBecome (numbers_of t) i (update p sh (ends_of (numbers_of t) t s e i) given) t s e t₄ s e₄
      cover_done {y} {t₄} {e₄} w =
          let v = subst (λ (k : Stop InvalidUse (List (List Range))). MipsBecome (numbers_of t₃) end_half i k.value t₃ e₃ t₄ e₄)
          (covers p cur (pieces_of gs) (mips_of (numbers_of t₃) end_half t₃ e₃ i)) w.into in
          cases.ended any given (cases.end_single any (λ k. n (z ∙ k)) ∙ ap single (sym z))
          (rw (given_pieces x.given c) (pieces_single p sh (pieces_of gs) (held_of (numbers_of t) start_half t s i) cur))
          (break_then x.end.ready x.flags cur b (spread_end p.unknown cur (pieces_of gs)) v)
