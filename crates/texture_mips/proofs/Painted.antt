-- A run that takes one state, and a mip made anew.
use Rattle.std.specs.Prelude.{◌*◌, ◌≤◌, ◌≡◌, ◌∷◌, ◌++◌}
use Rattle.model.specs.Prelude.{ℕ, arith, refl, ap, ◌∙◌, Bool, false, List, [], map, length, drop, take-suc-set}
use Rattle.model.specs.{declared.Range.Range, RangedStates.{range, in_state, isolate, coalesce, paint}}
use Rattle.range_states.specs.{View.{view, decode, Put, Becomes, view_long, becomes_live}, Coalescing.Coalesced}
use Rattle.range_isolate.specs.{declared.isolation.Isolated.Isolated, Isolation.Isolating}
use Rattle.texture_mips.specs.{Pass.passed, Paint.Leaves}
use Rattle.texture_mips.proofs.{Passing.{Passing, finish}, Runs.{coalesced_live, ran}}

-- ---- `set_run`: a pass that nothing stops
abbrev pub never : Range → Bool
never r = false

passed_never : (f : Range → Range) (l : List Range) → passed never f l ≡ map f l
unfolding passed
passed_never f [] = refl
passed_never f (x ∷ l) = ap (λ (t : List Range). f x ∷ t) (passed_never f l)

pub set_all : {st : ℕ} {l : List ℕ} {from to k : ℕ} {l' : List ℕ} → 3 * to ≤ length l → Passing never (in_state st) l from to l' k → to ≤ k
    → Becomes l to (decode from l ++ map (in_state st) (drop from (decode to l))) l'
set_all {st} {l} {from} {to} room j t = rw (← passed_never (in_state st) (drop from (decode to l))) (finish room j t).into

pub paint_is : {a e u : ℕ} (st : ℕ) {l : List ℕ} {len : ℕ} {i : Isolated} {l₁ l₂ : List ℕ} → Isolating l len a e u i l₁
    → Becomes l₁ i.end (decode i.position l₁ ++ map (in_state st) (drop i.position (decode i.end l₁))) l₂
    → Leaves l i.len (paint u a e st (decode len l)) l₂
unfolding paint
paint_is {a} {e} {u} st {l} {len} {i} {l₁} {l₂} is b =
    let x = isolate a e u (decode len l) in
    record {
      long = b.long ∙ is.into.long;
      fits = is.fits;
      seen = ran (map (in_state st)) l₁ i.len x.before x.run x.after i.position i.end l₂
          (omega (arith, is.fits, is.into.long)) (becomes_live is.into) is.position is.end b;
    }

pub update_is : (a e u st : ℕ) {l : List ℕ} (len : ℕ) {n c : ℕ} {l₁ l₂ : List ℕ} → Leaves l n (paint u a e st (decode len l)) l₁
    → Coalesced l₁ n c l₂ → Leaves l c (coalesce (paint u a e st (decode len l))) l₂
update_is a e u st len f g =
    record { long = g.into.long ∙ f.long; fits = omega (arith, g.few, f.fits); seen = coalesced_live g ∙ rw f.seen }

pub fresh_is : {l l' : List ℕ} {layers st : ℕ} → 3 ≤ length l → Put l 0 (range 0 layers st) l' → Leaves l 1 (range 0 layers st ∷ []) l'
fresh_is {l} {l'} {layers} {st} h p =
    record {
      long = p.long;
      fits = omega arith;
      seen = rw p.seen (take-suc-set (view l) 0 (range 0 layers st) (view_long l 1 (omega arith)));
    }
