-- One use merged into a Many texture: the ranges and the grid's subresources go the same way.
use Rattle.model.specs.Prelude.{ℕ, zero, suc, arith, refl, ◌∙◌, Bool, true, false, Option, None, Some, option_map, List, [], replicate}
use Rattle.model.specs.Prelude.{length, length-replicate, replicate-append-replicate}
use Rattle.model.specs.declared.{Extent.Extent, InvalidUse.InvalidUse, Range.Range, UsageFlags.UsageFlags}
use Rattle.model.specs.{Base.{Stop, fine, stopped, ruled, and_then, onward, walk, walk₂, All}, Representation.{select, in_mips}}
use Rattle.model.specs.{StateRules.unite_known, RangedStates.{Cut, isolate, in_state, layer_states, Tiles}}
use Rattle.model.specs.Texture.{Piece, invalid_use, merge_range, merge_mip, settled}
use Rattle.model.specs.RangeLaws.{Same, coalesce_same, Cuts, isolate_cuts, tiles_le, states_append, tiles_append, tiles_length}
use Rattle.std.specs.Prelude.{◌-◌, ◌+◌, ◌≤◌, ◌<◌, ◌≡◌, ◌∷◌, ◌++◌, if◌then◌else◌}
use Rattle.agreement.specs.{Grid.{SubresourceConflict, unite_state, band, named_row}, Shared.first_of}
use Rattle.agreement.proofs.WalkLaws.{join_stop, walk_append, RunsOf, row_parts_of, unnamed_of}

-- ---- equal subresources that are given one state
module _ (f : ℕ → ℕ → Option ℕ) (k : ℕ) where
  pub row_united : (st new u : ℕ) → f st new ≡ Some u → (l n : ℕ)
      → walk₂ (unite_state f k) l (replicate n st) (replicate n (Some new)) ≡ fine (replicate n u)
  row_united st new u e l zero = refl
  row_united st new u e l (suc n) = rw (e, row_united st new u e (suc l) n)

  pub row_conflict : (st new : ℕ) → f st new ≡ None → (l n : ℕ) → 0 < n
      → walk₂ (unite_state f k) l (replicate n st) (replicate n (Some new))
      ≡ stopped (replicate n st) (record { mip = k; layer = l; old = st; new = new })
  row_conflict st new e l zero h = absurd (omega arith)
  row_conflict st new e l (suc n) h = rw e

  row_unnamed : (l : ℕ) (s : List ℕ) (n : ℕ) → walk₂ (unite_state f k) l s (replicate n None) ≡ fine s
  row_unnamed = unnamed_of (unite_state f k) (λ l c. refl)

-- ---- a run of ranges that are given one state

-- the walk over ranges from a to e is the walk over their subresources
abbrev pub Runs : ℕ → ℕ → Stop InvalidUse (List Range) → Stop SubresourceConflict (List ℕ) → Type 0
Runs a e = RunsOf layer_states (λ (s : List Range). Tiles a s e) first_of

module _ (p : UsageFlags) (k new : ℕ) where
  abbrev pub over_ranges : ℕ → List Range → Stop InvalidUse (List Range)
  over_ranges i s = walk (λ j. merge_range p k new) i s

  abbrev over_states : ℕ → List ℕ → ℕ → Stop SubresourceConflict (List ℕ)
  over_states l s n = walk₂ (unite_state (unite_known p) k) l s (replicate n (Some new))

  row_split : (l b e st : ℕ) (s : List ℕ) → l < b → b ≤ e
      → over_states l (replicate (b - l) st ++ s) (e - l)
      ≡ join_stop (over_states l (replicate (b - l) st) (b - l)).value (over_states l (replicate (b - l) st)
      (b - l)).conflict s (over_states b s (e - b))
  row_split l b e st s h g =
      let n : e - l ≡ (b - l) + (e - b) = omega arith in let m : l + (b - l) ≡ b = omega arith in
      let c : length (replicate (b - l) st) ≡ length (replicate {A = Option ℕ} (b - l) (Some new)) =
      rw (length-replicate, length-replicate) in
      rw (n, ← replicate-append-replicate, walk_append (unite_state (unite_known p) k), length-replicate, m)

  pub run_sim : (s : List Range) (a e i : ℕ) → Tiles a s e → Runs a e (over_ranges i s) (over_states a (layer_states s) (e - a))
  unfolding layer_states
  run_sim [] a e i t = record { ok = t; same = refl; conflict = refl }
  run_sim (r ∷ s) a e i t = go (unite_known p r.state new) refl (run_sim s r.end e (suc i) t.2)
    where
      row : Stop SubresourceConflict (List ℕ)
      row = over_states a (layer_states (r ∷ s)) (e - a)

      go : (o : Option ℕ) → unite_known p r.state new ≡ o
          → Runs r.end e (over_ranges (suc i) s) (over_states r.end (layer_states s) (e - r.end))
          → (let x = ruled r (invalid_use (select k (suc k) r.start r.end) r.state new) (option_map (λ u. in_state u r) o) in
          Runs a e (onward x.value x.conflict s (over_ranges (suc i) s)) row)
      go None q ih =
          let h : r.start < r.end = omega arith in let g = tiles_le s r.end e t.2 in let n : 0 < r.end - r.start = omega arith in
          rw (← t.0, row_split r.start r.end e r.state (layer_states s), row_conflict (unite_known p) k r.state new q)
          record { ok = (refl, h, t.2); same = refl; conflict = refl }
      go (Some u) q ih =
          let h : r.start < r.end = omega arith in let g = tiles_le s r.end e t.2 in
          rw (← t.0, row_split r.start r.end e r.state (layer_states s), row_united (unite_known p) k r.state new u q)
          record { ok = (refl, h, ih.ok); same = rw ih.same; conflict = ih.conflict }

pub settled_same : {C : Type 0} (o : Option C) (s : List Range) (a e : ℕ) → Tiles a s e → Same a e (settled o s) s
settled_same None s a e t = coalesce_same s a e t
settled_same (Some c) s a e t = (t, refl)

-- three parts of a row, the middle one named
pub row_parts : (f : ℕ → ℕ → Option ℕ) (k new a e w : ℕ) (x y z : List ℕ) → length x ≡ a → length y ≡ e - a → a ≤ e → e ≤ w
    → (let v = walk₂ (unite_state f k) a y (replicate (e - a) (Some new)) in
    walk₂ (unite_state f k) 0 (x ++ (y ++ z)) (band a e w (Some new) None) ≡ record { value = x ++ (v.value ++ z); conflict = v.conflict })
row_parts f k = row_parts_of (unite_state f k) (λ l c. refl)

-- one piece on one mip
pub ranges_sim : (p : UsageFlags) (sh : Extent) (q : Piece) (k : ℕ) (s : List Range)
    → q.selector.layers.start.0 < q.selector.layers.end.0 → q.selector.layers.end.0 ≤ sh.layers → Tiles 0 s sh.layers
    → Runs 0 sh.layers (merge_mip p q k s) (walk₂ (unite_state (unite_known p) k) 0 (layer_states s)
    (named_row sh q.selector q.state k))
unfolding merge_mip
ranges_sim p sh q k s h g t = go (in_mips q.selector k)
  where
    a : ℕ
    a = q.selector.layers.start.0

    e : ℕ
    e = q.selector.layers.end.0

    c : Cut
    c = isolate a e p.unknown s

    cuts : Cuts 0 a e sh.layers s c
    cuts = isolate_cuts s 0 a e p.unknown sh.layers (omega arith) h g t

    w : Stop InvalidUse (List Range)
    w = over_ranges p k q.state 0 c.run

    sim : Runs a e w (over_states p k q.state a (layer_states c.run) (e - a))
    sim = run_sim p k q.state c.run a e 0 cuts.run

    go : (b : Bool) → Runs 0 sh.layers
        (if b then record { value = settled w.conflict (c.before ++ (w.value ++ c.after)); conflict = w.conflict } else fine s)
        (walk₂ (unite_state (unite_known p) k) 0 (layer_states s) (if b then band a e sh.layers (Some q.state) None
        else replicate sh.layers None))
    go true =
        let tiled = tiles_append c.before (w.value ++ c.after) 0 a sh.layers cuts.before
        (tiles_append w.value c.after a e sh.layers sim.ok cuts.after) in
        let same = settled_same w.conflict (c.before ++ (w.value ++ c.after)) 0 sh.layers tiled in
        let hx : length (layer_states c.before) ≡ a = omega (arith, tiles_length c.before 0 a cuts.before) in
        let hy = tiles_length c.run a e cuts.run in
        rw (
          ← cuts.same,
          row_parts (unite_known p) k q.state a e sh.layers (layer_states c.before) (layer_states c.run)
              (layer_states c.after) hx hy (omega arith) g,
        )
        record { ok = same.0; same = same.1 ∙ rw (states_append, states_append, sim.same); conflict = sim.conflict }
    go false = rw row_unnamed record { ok = t; same = refl; conflict = refl }

-- every mip's ranges tile all layers
abbrev pub Tiled : Extent → List (List Range) → Type 0
Tiled sh = All (λ (s : List Range). Tiles 0 s sh.layers)

-- one thing, then nothing more
pub one_pass : {C A : Type 0} (w : Stop C A) → and_then w.conflict w.value (fine w.value) ≡ w
one_pass {C} w = go w.conflict
  where
    go : (o : Option C) → and_then o w.value (fine w.value) ≡ record { value = w.value; conflict = o }
    go None = refl
    go (Some c) = refl
