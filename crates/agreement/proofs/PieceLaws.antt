-- Passes over the mips of ranged states: the general laws (Passes) where a mip is seen by its states and its ranges tile all layers.
use Rattle.std.specs.Prelude.{◌≤◌, ◌<◌, ◌≡◌, ◌∷◌}
use Rattle.model.specs.Prelude.{ℕ, arith, refl, Option, Some, List, [], map, length}
use Rattle.model.specs.{declared.{Extent.Extent, InvalidUse.InvalidUse, Range.Range}, Base.{Stop, passes, walk, All}}
use Rattle.model.specs.{RangedStates.{layer_states, Tiles}, Texture.{Piece, pieces_of}, RangeLaws.tiles_length}
use Rattle.agreement.specs.{Grid.{SubresourceConflict, unite_state, unite_states, tab, named_row}, Shared.first_of}
use Rattle.agreement.proofs.WalkLaws.{GridsOf}
use Rattle.agreement.proofs.MergeLaws.{Tiled}
use Rattle.agreement.proofs.Passes

abbrev pub Tiling : Extent → List Range → Type 0
Tiling sh s = Tiles 0 s sh.layers

pub tiling_length : (sh : Extent) (s : List Range) → Tiling sh s → length (layer_states s) ≡ sh.layers
tiling_length sh s t = omega (arith, tiles_length s 0 sh.layers t)

abbrev pub GridsAll : Extent → List (List ℕ) → Stop InvalidUse (List (List Range)) → Stop SubresourceConflict (List (List ℕ)) → Type 0
GridsAll sh = GridsOf layer_states (Tiling sh) first_of

abbrev pub Pass : Extent → (ℕ → ℕ → Option ℕ) → (ℕ → Type 0) → (Piece → ℕ → List Range → Stop InvalidUse (List Range)) → Type 0
Pass sh f Q pass = Passes.Pass layer_states (Tiling sh) first_of sh (tiling_length sh) (λ k. unite_state f k) (λ k l c. refl) Q pass

module _ (sh : Extent) (f : ℕ → ℕ → Option ℕ) (Q : ℕ → Type 0) (pass : Piece → ℕ → List Range
    → Stop InvalidUse (List Range)) (R : Pass sh f Q pass) where
  -- a Many texture handed in: its pieces, and all of its subresources
  pub set_passes : (l t : List (List Range)) → length l ≡ length t → Tiled sh l → Tiled sh t
      → All (λ (s : List Range). All Q (layer_states s)) l
      → GridsAll sh [] (passes (λ (q : Piece). walk (pass q) 0) (pieces_of t) l) (unite_states f (map layer_states l)
      (map (map Some) (map layer_states t)))
  set_passes = Passes.set_passes layer_states (Tiling sh) first_of sh (tiling_length sh) (λ k. unite_state f k) (λ k l c. refl) Q pass R

  -- a selector handed in: one piece
  pub place_pass : (q : Piece) (l : List (List Range)) → length l ≡ sh.mips → Tiled sh l
      → All (λ (s : List Range). All Q (layer_states s)) l
      → q.selector.layers.start.0 < q.selector.layers.end.0 → q.selector.layers.end.0 ≤ sh.layers
      → GridsAll sh [] (passes (λ (q : Piece). walk (pass q) 0) (q ∷ []) l) (unite_states f (map layer_states l)
      (tab (named_row sh q.selector q.state) 0 sh.mips))
  place_pass = Passes.place_pass layer_states (Tiling sh) first_of sh (tiling_length sh) (λ k. unite_state f k) (λ k l c. refl) Q pass R
