-- A mip that tiles its layers goes on tiling them under every function here, and has room for it with as many records as layers.
use Rattle.std.specs.Prelude.{◌*◌, ◌≤◌, ◌<◌, ◌≡◌, ◌∷◌, ◌++◌}
use Rattle.model.specs.Prelude.{ℕ, suc, arith, refl, Option, None, Some, List, [], eqb, length}
use Rattle.model.specs.{declared.{Range.Range, UsageFlags.UsageFlags}, Base.walk, StateRules.unite_known}
use Rattle.model.specs.{RangedStates.{isolate, paint, coalesce, Tiles}, Texture.{merge_range, settled, learn}, BoolLaws.by_test}
use Rattle.model.specs.RangeLaws.{tiles_append, isolate_cuts, isolate_few, paint_tiles, coalesce_tiles}
use Rattle.range_states.specs.View.{decode}
use Rattle.texture_mips.specs.{Merge.merge_run, Learn.{learnt, LearnFits, LearnRoom}}

-- ---- merging: a range keeps its layers
walk_tiles : (p : UsageFlags) (k new i : ℕ) (s : List Range) (a e : ℕ) → Tiles a s e
    → Tiles a (walk (λ (j : ℕ). merge_range p k new) i s).value e
walk_tiles p k new i [] a e t = t
walk_tiles p k new i (r ∷ s) a e t = go (unite_known p r.state new) refl (walk_tiles p k new (suc i) s r.end e t.2)
  where
    go : (o : Option ℕ) → unite_known p r.state new ≡ o → Tiles r.end (walk (λ (j : ℕ). merge_range p k new) (suc i) s).value e
        → Tiles a (walk (λ (j : ℕ). merge_range p k new) i (r ∷ s)).value e
    go None q ih = rw q t
    go (Some u) q ih = rw q (t.0, t.1, ih)

settled_tiles : {C : Type 0} (c : Option C) (s : List Range) (a e : ℕ) → Tiles a s e → Tiles a (settled c s) e
settled_tiles None s a e t = coalesce_tiles s a e t
settled_tiles (Some c) s a e t = t

pub run_tiles : (p : UsageFlags) (k a e new : ℕ) (s : List Range) (w : ℕ) → a < e → e ≤ w → Tiles 0 s w
    → Tiles 0 (merge_run p k a e new s).value w
unfolding merge_run
run_tiles p k a e new s w h g t =
    let c = isolate_cuts s 0 a e p.unknown w (omega arith) h g t in let i = isolate a e p.unknown s in
    let v = walk (λ (j : ℕ). merge_range p k new) 0 i.run in
    settled_tiles v.conflict (i.before ++ (v.value ++ i.after)) 0 w
    (tiles_append i.before (v.value ++ i.after) 0 a w c.before
    (tiles_append v.value i.after a e w (walk_tiles p k new 0 i.run a e c.run) c.after))

-- ---- painting
pub update_tiles : (u a e st : ℕ) (s : List Range) (w : ℕ) → a < e → e ≤ w → Tiles 0 s w → Tiles 0 (coalesce (paint u a e st s)) w
update_tiles u a e st s w h g t = coalesce_tiles (paint u a e st s) 0 w (paint_tiles s 0 a e u st w (omega arith) h g t)

-- ---- learning: the ranges of the end lie within the layers
-- each range has layers, and none past w
abbrev pub Within : List Range → ℕ → Type 0
Within [] w = Unit {0}
Within (r ∷ s) w = (r.start < r.end) × (r.end ≤ w) × Within s w

learnt_tiles : (u new : ℕ) (r : Range) (s : List Range) (w : ℕ) → r.start < r.end → r.end ≤ w → Tiles 0 s w
    → Tiles 0 (learnt u new r s) w
learnt_tiles u new r s w h g t = by_test (λ (x : List Range). Tiles 0 x w) (eqb r.state u)
    (λ b. update_tiles u r.start r.end new s w h g t) (λ b. t)

pub learn_tiles : (u new : ℕ) (ends s : List Range) (w : ℕ) → Within ends w → Tiles 0 s w → Tiles 0 (learn u new ends s) w
unfolding learn
learn_tiles u new [] s w i t = t
learn_tiles u new (r ∷ ends) s w i t = learn_tiles u new ends (learnt u new r s) w i.2 (learnt_tiles u new r s w i.0 i.1 t)

learn_fits : (room u new : ℕ) (ends s : List Range) (w : ℕ) → 3 * w ≤ room → Within ends w → Tiles 0 s w → LearnFits room u new ends s
learn_fits room u new [] s w h i t = tt
learn_fits room u new (r ∷ ends) s w h i t = (
  (λ e. let c = isolate_few s r.start r.end u w i.0 i.1 t in omega arith),
  learn_fits room u new ends (learnt u new r s) w h i.2 (learnt_tiles u new r s w i.0 i.1 t),
)

-- as many records as layers are enough
pub learn_room : (l : List ℕ) (len u new : ℕ) (ends : List Range) (w : ℕ) → 3 * w ≤ length l → 3 * len ≤ length l → Within ends w
    → Tiles 0 (decode len l) w → LearnRoom l len u new ends
learn_room l len u new ends w h k i t = record { fits = k; grown = learn_fits (length l) u new ends (decode len l) w h i t }

-- a part of a tiling lies within its layers
pub tiles_within : (s : List Range) (a e w : ℕ) → e ≤ w → Tiles a s e → Within s w
tiles_within [] a e w h t = tt
tiles_within (r ∷ s) a e w h t = (omega arith, omega (arith, past s r.end e t.2), tiles_within s r.end e w h t.2)
  where
    past : (s : List Range) (a e : ℕ) → Tiles a s e → a ≤ e
    past [] a e t = omega arith
    past (x ∷ s) a e t = omega (arith, past s x.end e t.2)
