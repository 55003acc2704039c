-- The checks of a selector and of a texture, in their parts.
use Rattle.std.specs.Prelude.{◌≤◌, ◌<◌, ◌≡◌, ◌++◌, ◌∷◌, if◌then◌else◌}
use Rattle.model.specs.Prelude.{ℕ, ap, ◌∙◌, Option, None, Some, List, [], get_or, lt-ltb, le-ltb}
use Rattle.model.specs.declared.Refusal.TheVariants.{NoSuchIndex, ExtentOutOfLimits, ExtentDiffers, SelectorPastExtent}
use Rattle.model.specs.declared.{Refusal.Refusal, Extent.Extent}
use Rattle.model.specs.{declared.Selector.Selector, Representation.{mip_start, mip_end, layer_start, layer_end}, Log.or_next}
use Rattle.model.specs.Refusals.{first_failing, check, tracker_index, extent_outside, other_extent, mips_checks, layers_checks}
use Rattle.model.specs.{Refusals.selector_past, CheckLaws.checks_append}
use Rattle.set_storage.specs.Storage.{numbers_of, textures_at}
use Rattle.set_checks.specs.Head.{owned_extent, extent_at, texture_refusal, selector_refusal}

-- a selector's checks: of its mips, of its layers, and whether an end is past the extent
pub selector_splits : (sh : Extent) (q : Selector)
    → selector_refusal sh (Some q) ≡ or_next (or_next (first_failing (mips_checks (mip_start q) (mip_end q)))
    (first_failing (layers_checks (layer_start q) (layer_end q)))) (if selector_past sh q then Some SelectorPastExtent else None)
unfolding selector_refusal first_failing
selector_splits sh q =
    let past = check (selector_past sh q) SelectorPastExtent ∷ [] in
    let mips = mips_checks (mip_start q) (mip_end q) in let layers = layers_checks (layer_start q) (layer_end q) in
    checks_append (mips ++ layers) past ∙ ap (λ (o : Option Refusal). or_next o (first_failing past)) (checks_append mips layers)

-- a texture's checks, of an index within the set: of its extent, and of the one that the index is owned with
pub texture_splits : (t : List ℕ) (i : ℕ) (sh : Extent) → i < get_or t textures_at 0
    → texture_refusal t i sh ≡ (if extent_outside (numbers_of t) sh then Some (ExtentOutOfLimits (tracker_index i))
    else if other_extent (owned_extent t i) sh then Some (ExtentDiffers (tracker_index i)) else None)
unfolding texture_refusal first_failing
texture_splits t i sh h = rw (lt-ltb i (get_or t textures_at 0) h, extent_at t i h)

-- and of one that is not
pub texture_past : (t : List ℕ) (i : ℕ) (sh : Extent) → get_or t textures_at 0 ≤ i
    → texture_refusal t i sh ≡ Some (NoSuchIndex (tracker_index i))
unfolding texture_refusal first_failing
texture_past t i sh h = rw (le-ltb i (get_or t textures_at 0) h)
