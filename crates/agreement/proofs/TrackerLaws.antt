-- One texture in a tracker: what holds of it, and that insert and update keep it and are the grid's.
use Rattle.model.specs.Prelude.{ℕ, zero, suc, arith, refl, sym, ap, ◌∙◌, true, false, Option, None, Some, List, [], map, append-nil, eqb}
use Rattle.model.specs.Prelude.{bit_and, and_self, replicate, length, length-replicate, length-map, ne_eqb, eqb-false}
use Rattle.model.specs.declared.{Extent.Extent, InvalidUse.InvalidUse, Range.Range, UsageFlags.UsageFlags}
use Rattle.model.specs.{Base.{zip₂, zip₃, Stop, fine, passes, walk, All}, Representation.{in_mips, Ends}, StateRules.end_after}
use Rattle.model.specs.RangedStates.{range, coalesce, paint, layer_states, Tiles}
use Rattle.model.specs.Texture.{Held, single, many, Given, given_single, given_many, Piece, fresh_mips, spread_end, learn_all, update_all}
use Rattle.model.specs.{Texture.{update, insert}, Subresources.everywhere, ListLaws.{all_replicate, all_map}, BoolLaws.by_test}
use Rattle.model.specs.RangeLaws.{tiles_length}
use Rattle.std.specs.Prelude.{◌-◌, ◌≡◌, ◌∷◌, if◌then◌else◌}
use Rattle.agreement.specs.{Grid.{Named, unite_state, named_or, grid_insert}, Shared.grid_of}
use Rattle.agreement.proofs.{PaintLaws.{painted_states, learned, learn_states}, RulesAgree.{rule_end, rule_start}}
use Rattle.agreement.proofs.{MergeLaws.{Tiled, row_united}, PieceLaws.Pass}
use Rattle.agreement.proofs.TextureLaws.{Measured, Fit, Gives, gives_one, gives_place, gives_set, many_pass, fills, all_same, all_cur}
use Rattle.agreement.proofs.TextureLaws.{mips_states, mips_tiled, walk_fine, grids_length, inserted}
use Rattle.agreement.proofs.UpdateLaws.{Dims, updated_pairs, update_many, update_single, twos, twos_ends, twos_starts, ends_of, starts_of}
use Rattle.agreement.proofs.{UpdateLaws.{run_all, Two, Ok}, GridLaws.{all_of, grid_map, grid_everywhere, grid_zip, grid_walks}}

-- ---- what holds
abbrev pub Known : ℕ → ℕ → Type 0
Known u c = c ≡ u → ⊥

abbrev pub KnownAll : ℕ → List (List ℕ) → Type 0
KnownAll u g = All (All (Known u)) g

abbrev pub Clear : UsageFlags → ℕ → Type 0
Clear p st = bit_and st p.unknown ≡ 0

abbrev pub ClearHeld : UsageFlags → Held → Type 0
ClearHeld p (single st) = Clear p st
ClearHeld p (many ss) = Unit {0}

abbrev pub ClearGiven : UsageFlags → Given → Type 0
ClearGiven p (given_single st) = Clear p st
ClearGiven p (given_many qs) = Unit {0}

abbrev pub UnknownNonzero : UsageFlags → Type 0
UnknownNonzero p = p.unknown ≡ 0 → ⊥

-- where the start is Single, the end has no UNKNOWN subresource
abbrev pub KnownEnd : UsageFlags → Held → List (List ℕ) → Type 0
KnownEnd p (single st) g = KnownAll p.unknown g
KnownEnd p (many ss) g = Unit {0}

pub record FitEnds (p : UsageFlags) (sh : Extent) (e : Ends Held) : Type 0 where
  pub sure : UnknownNonzero p
  pub measured : Measured sh
  pub start : Fit sh e.start
  pub start_clear : ClearHeld p e.start
  pub end : Fit sh e.end
  pub end_clear : ClearHeld p e.end
  pub known : KnownEnd p e.start (grid_of sh e.end).states

pub clear_known : (p : UsageFlags) (st : ℕ) → UnknownNonzero p → Clear p st → Known p.unknown st
clear_known p st s c e = s (sym (and_self p.unknown) ∙ ap (λ (x : ℕ). bit_and x p.unknown) (sym e) ∙ c)

-- ---- grids of the extent
dims_everywhere : {A : Type 0} (sh : Extent) (x : A) → Dims sh (everywhere sh x)
dims_everywhere {A} sh x = (
  length-replicate sh.mips _,
  all_replicate (λ (r : List A). length r ≡ sh.layers) (replicate sh.layers x) sh.mips
      (length-replicate sh.layers x),
)

dims_states : (sh : Extent) (ss : List (List Range)) → length ss ≡ sh.mips → Tiled sh ss → Dims sh (map layer_states ss)
dims_states sh ss h t = (length-map ss layer_states ∙ h, go ss t)
  where
    go : (ss : List (List Range)) → Tiled sh ss → All (λ (r : List ℕ). length r ≡ sh.layers) (map layer_states ss)
    go [] t = tt
    go (s ∷ ss) t = (tiles_length s 0 sh.layers t.0 ∙ omega arith, go ss t.1)

dims_held : (sh : Extent) (h : Held) → Fit sh h → Dims sh (grid_of sh h).states
unfolding grid_of
dims_held sh (single st) f = dims_everywhere sh st
dims_held sh (many ss) f = dims_states sh ss f.1 f.2

known_everywhere : (u st : ℕ) (sh : Extent) → Known u st → KnownAll u (everywhere sh st)
known_everywhere u st sh k = grid_everywhere (Known u) sh st k

-- ---- the end of a use of one state
row_end_one : (p : UsageFlags) (new : ℕ) → eqb new p.unknown ≡ false → (r : List ℕ) (w : ℕ) → length r ≡ w
    → zip₂ (rule_end p) r (replicate w (Some new)) ≡ replicate w new
row_end_one p new e [] zero h = refl
row_end_one p new e [] (suc w) h = absurd (omega arith)
row_end_one p new e (c ∷ r) zero h = absurd (omega arith)
row_end_one p new e (c ∷ r) (suc w) h = rw (e, row_end_one p new e r w (omega arith))

grid_end_one : (p : UsageFlags) (new w : ℕ) → eqb new p.unknown ≡ false → (g : List (List ℕ)) (m : ℕ) → length g ≡ m
    → All (λ (r : List ℕ). length r ≡ w) g
    → zip₂ (zip₂ (rule_end p)) g (replicate m (replicate w (Some new))) ≡ replicate m (replicate w new)
grid_end_one p new w e [] zero h t = refl
grid_end_one p new w e [] (suc m) h t = absurd (omega arith)
grid_end_one p new w e (r ∷ g) zero h t = absurd (omega arith)
grid_end_one p new w e (r ∷ g) (suc m) h t = rw (row_end_one p new e r w t.0, grid_end_one p new w e g m (omega arith) t.1)

-- ---- a start under a known end stays
state_start : (p : UsageFlags) (s c : ℕ) (n : Option ℕ) → Known p.unknown c → rule_start p s c n ≡ s
state_start p s c None k = refl
state_start p s c (Some new) k = by_test (λ (x : ℕ). x ≡ s) (eqb new p.unknown) (λ b. refl) (λ b. rw (ne_eqb c p.unknown k))

row_start_known : (p : UsageFlags) (s e : List ℕ) (n : List (Option ℕ)) (w : ℕ) → length s ≡ w → length e ≡ w
    → length n ≡ w → All (Known p.unknown) e
    → zip₃ (rule_start p) s e n ≡ s
row_start_known p [] e n w a b c k = refl
row_start_known p (x ∷ s) [] n w a b c k = absurd (omega arith)
row_start_known p (x ∷ s) (y ∷ e) [] w a b c k = absurd (omega arith)
row_start_known p (x ∷ s) (y ∷ e) (z ∷ n) zero a b c k = absurd (omega arith)
row_start_known p (x ∷ s) (y ∷ e) (z ∷ n) (suc w) a b c k =
    rw (state_start p x y z k.0, row_start_known p s e n w (omega arith) (omega arith) (omega arith) k.1)

grid_start_known : (p : UsageFlags) (w : ℕ) (s e : List (List ℕ)) (n : List (List (Option ℕ))) (m : ℕ)
    → length s ≡ m → length e ≡ m → length n ≡ m
    → All (λ (r : List ℕ). length r ≡ w) s → All (λ (r : List ℕ). length r ≡ w) e
    → All (λ (r : List (Option ℕ)). length r ≡ w) n → KnownAll p.unknown e
    → zip₃ (zip₃ (rule_start p)) s e n ≡ s
grid_start_known p w [] e n m a b c ds de dn k = refl
grid_start_known p w (x ∷ s) [] n m a b c ds de dn k = absurd (omega arith)
grid_start_known p w (x ∷ s) (y ∷ e) [] m a b c ds de dn k = absurd (omega arith)
grid_start_known p w (x ∷ s) (y ∷ e) (z ∷ n) zero a b c ds de dn k = absurd (omega arith)
grid_start_known p w (x ∷ s) (y ∷ e) (z ∷ n) (suc m) a b c ds de dn k =
    rw (
      row_start_known p x y z w ds.0 de.0 dn.0 k.0,
      grid_start_known p w s e n m (omega arith) (omega arith) (omega arith)
          ds.1 de.1 dn.1 k.1,
    )

start_known : (p : UsageFlags) (sh : Extent) (s e : List (List ℕ)) (n : List (List (Option ℕ))) → Dims sh s → Dims sh e
    → Dims sh n → KnownAll p.unknown e
    → zip₃ (zip₃ (rule_start p)) s e n ≡ s
start_known p sh s e n ds de dn k = grid_start_known p sh.layers s e n sh.mips ds.0 de.0 dn.0 ds.1 de.1 dn.1 k

-- ---- a known end stays known
state_end_known : (p : UsageFlags) (c : ℕ) (n : Option ℕ) → Known p.unknown c → Known p.unknown (rule_end p c n)
state_end_known p c None k = k
state_end_known p c (Some new) k = by_test (Known p.unknown) (eqb new p.unknown) (λ b. k) (λ b. eqb-false new p.unknown b)

end_known : (p : UsageFlags) (e : List (List ℕ)) (n : List (List (Option ℕ))) → KnownAll p.unknown e
    → KnownAll p.unknown (zip₂ (zip₂ (rule_end p)) e n)
end_known p e n k = grid_zip (Known p.unknown) (λ o. Unit {0}) (Known p.unknown) (rule_end p) (λ c o x t. state_end_known p c o x) e n
    k (all_of _ (λ r. all_of _ (λ o. tt) r) n)

-- ---- a Single end that is given pieces
end_fine : (p : UsageFlags) (m l c : ℕ) (o : Option ℕ)
    → unite_state (λ c new. Some (end_after p.unknown c new)) m l c o ≡ fine (rule_end p c o)
end_fine p m l c None = refl
end_fine p m l c (Some new) = refl

abbrev end_pass : ℕ → ℕ → Piece → ℕ → List Range → Stop InvalidUse (List Range)
end_pass u cur q k s = fine (if in_mips q.selector k
    then coalesce (paint u q.selector.layers.start.0 q.selector.layers.end.0 (end_after u cur q.state) s) else s)

end_pass_lem : (p : UsageFlags) (sh : Extent) (cur : ℕ)
    → Pass sh (λ c new. Some (end_after p.unknown c new)) (λ (c : ℕ). c ≡ cur) (end_pass p.unknown cur)
end_pass_lem p sh cur = record {
  skips = λ q k s e. rw e;
  names = λ q k s x y z b h g t hx hy e o.
      let n = q.selector.layers.end.0 - q.selector.layers.start.0 in
      let c : y ≡ replicate n cur = all_same cur y o ∙ ap (λ (n : ℕ). replicate n cur) hy in
      let w = row_united (λ c new. Some (end_after p.unknown c new)) k cur q.state (end_after p.unknown cur q.state) refl
      q.selector.layers.start.0 n in
      let m = painted_states p.unknown q.selector.layers.start.0 q.selector.layers.end.0
      (end_after p.unknown cur q.state) sh.layers s x y z h g t hx hy e in
      rw (b, c, w) record { ok = m.0; same = m.1; conflict = refl };
}

end_passes : (u cur : ℕ) (qs : List Piece) (ss : List (List Range))
    → passes (λ (q : Piece). walk (end_pass u cur q) 0) qs ss ≡ fine (spread_end u cur qs ss)
unfolding spread_end
end_passes u cur [] ss = refl
end_passes u cur (q ∷ qs) ss =
    rw (walk_fine q.selector
    (λ s. coalesce (paint u q.selector.layers.start.0 q.selector.layers.end.0 (end_after u cur q.state) s)) 0 ss)
    (end_passes u cur qs _)

single_spread : (p : UsageFlags) (sh : Extent) (cur : ℕ) (qs : List Piece) (n : Named) → Measured sh → Gives sh (given_many qs) n
    → (length (spread_end p.unknown cur qs (fresh_mips sh cur)) ≡ sh.mips) × Tiled sh (spread_end p.unknown cur qs (fresh_mips sh cur))
    × (map layer_states (spread_end p.unknown cur qs (fresh_mips sh cur)) ≡ zip₂ (zip₂ (rule_end p)) (everywhere sh cur) n.states)
single_spread p sh cur qs n e g =
    let long = length-replicate sh.mips (range 0 sh.layers cur ∷ []) in
    let m = many_pass sh (λ c new. Some (end_after p.unknown c new)) (λ (c : ℕ). c ≡ cur) (end_pass p.unknown cur) (end_pass_lem p sh cur)
    (fresh_mips sh cur) long (mips_tiled sh cur e.1) (all_cur sh cur) qs n g in
    let r = rw (end_passes p.unknown cur qs (fresh_mips sh cur)) at m.grids in
    let d = fills sh qs n g in let ev = dims_everywhere sh cur in
    let z = grid_walks (rule_end p) (unite_state (λ c new. Some (end_after p.unknown c new))) (end_fine p) 0 sh.layers
    (everywhere sh cur) n.states (ev.0 ∙ sym d.0) ev.1 d.1 in (
      grids_length sh (λ c new. Some (end_after p.unknown c new)) (fine (spread_end p.unknown cur qs (fresh_mips sh cur)))
          (fresh_mips sh cur) n.states r ∙ long,
      r.tiled,
      r.same ∙ rw (mips_states sh cur, z),
    )

-- ---- a Many end that is given one state
row_learned : (p : UsageFlags) (new : ℕ) → eqb new p.unknown ≡ false → (s e : List ℕ) (w : ℕ) → length s ≡ w → length e ≡ w
    → zip₃ (rule_start p) s e (replicate w (Some new)) ≡ zip₂ (learned p.unknown new) s e
row_learned p new b [] e w h g = refl
row_learned p new b (x ∷ s) [] w h g = absurd (omega arith)
row_learned p new b (x ∷ s) (y ∷ e) zero h g = absurd (omega arith)
row_learned p new b (x ∷ s) (y ∷ e) (suc w) h g = rw (b, row_learned p new b s e w (omega arith) (omega arith))

learn_grid : (p : UsageFlags) (sh : Extent) (new k : ℕ) → eqb new p.unknown ≡ false → (ss ts : List (List Range)) (m : ℕ) → length ss ≡ m
    → length ts ≡ m → Tiled sh ss → Tiled sh ts
    → (length (learn_all (λ k s. s) p.unknown new k ss ts) ≡ m) × Tiled sh (learn_all (λ k s. s) p.unknown new k ss ts)
    × (map layer_states (learn_all (λ k s. s) p.unknown new k ss ts)
    ≡ zip₃ (zip₃ (rule_start p)) (map layer_states ts) (map layer_states ss) (replicate m (replicate sh.layers (Some new))))
learn_grid p sh new k b [] [] zero h g a c = (refl, tt, refl)
learn_grid p sh new k b [] [] (suc m) h g a c = absurd (omega arith)
learn_grid p sh new k b [] (t ∷ ts) m h g a c = absurd (omega arith)
learn_grid p sh new k b (s ∷ ss) [] m h g a c = absurd (omega arith)
learn_grid p sh new k b (s ∷ ss) (t ∷ ts) zero h g a c = absurd (omega arith)
learn_grid p sh new k b (s ∷ ss) (t ∷ ts) (suc m) h g a c =
    let ih = learn_grid p sh new (suc k) b ss ts m (omega arith) (omega arith) a.1 c.1 in
    let ls = tiles_length s 0 sh.layers a.0 in let lt = tiles_length t 0 sh.layers c.0 in
    let l = learn_states p.unknown new sh.layers sh.layers s t 0 [] (layer_states t) [] (omega arith) a.0 c.0 refl lt
    (sym (append-nil (layer_states t))) in (
      ap suc ih.0,
      (l.0, ih.1),
      rw (l.1, append-nil, row_learned p new b (layer_states t) (layer_states s) sh.layers (omega arith) (omega arith), ih.2),
    )

-- ---- update
known_of : (p : UsageFlags) (s : Held) (g : List (List ℕ)) → KnownAll p.unknown g → KnownEnd p s g
known_of p (single st) g k = k
known_of p (many ss) g k = tt

known_zip : (p : UsageFlags) (s : Held) (g : List (List ℕ)) (n : List (List (Option ℕ))) → KnownEnd p s g
    → KnownEnd p s (zip₂ (zip₂ (rule_end p)) g n)
known_zip p (single st) g n k = end_known p g n k
known_zip p (many ss) g n k = tt

many_flag : (sh : Extent) (qs : List Piece) (n : Named) → Gives sh (given_many qs) n → n.single ≡ false
many_flag sh qs n (gives_place a b c d) = refl
many_flag sh qs n (gives_set g hg tg) = refl

abbrev held_ends : Held → Held → Ends Held
held_ends s d = record { start = s; end = d }

pub record Keeps (p : UsageFlags) (sh : Extent) (s d : Held) (g : Given) (n : Named) : Type 0 where
  pub fit : FitEnds p sh (update p sh (held_ends s d) g)
  pub start : grid_of sh (update p sh (held_ends s d) g).start
      ≡ record { single = (grid_of sh s).single; states = zip₃ (zip₃ (rule_start p)) (grid_of sh s).states (grid_of sh d).states n.states }
  pub end : grid_of sh (update p sh (held_ends s d) g).end
      ≡ record { single = n.single; states = zip₂ (zip₂ (rule_end p)) (grid_of sh d).states n.states }

-- the start stays, under an end without UNKNOWN subresources
stays : (p : UsageFlags) (sh : Extent) (s : Held) (e : List (List ℕ)) (n : List (List (Option ℕ))) → Fit sh s → Dims sh e
    → Dims sh n → KnownAll p.unknown e
    → grid_of sh s ≡ record { single = (grid_of sh s).single; states = zip₃ (zip₃ (rule_start p)) (grid_of sh s).states e n }
stays p sh s e n f de dn k = let x = sym (start_known p sh (grid_of sh s).states e n (dims_held sh s f) de dn k) in
    λ i. record { single = (grid_of sh s).single; states = x i }

-- what holds of a texture whose start or end is another
fit_ends : (p : UsageFlags) (sh : Extent) (e : Ends Held) (s d : Held) → FitEnds p sh e → Fit sh s → ClearHeld p s → Fit sh d
    → ClearHeld p d → KnownEnd p s (grid_of sh d).states → FitEnds p sh (held_ends s d)
fit_ends p sh e s d f a b c g k =
    record { sure = f.sure; measured = f.measured; start = a; start_clear = b; end = c; end_clear = g; known = k }

keeps_single_one : (p : UsageFlags) (sh : Extent) (s : Held) (cur new : ℕ) → FitEnds p sh (held_ends s (single cur)) → Clear p new
    → Keeps p sh s (single cur) (given_single new) (record { single = true; states = everywhere sh (Some new) })
unfolding update grid_of
keeps_single_one p sh s cur new f c =
    let k = clear_known p new f.sure c in let ev = dims_everywhere sh cur in
    record {
      fit = fit_ends p sh _ s (single new) f f.start f.start_clear f.measured c
          (known_of p s _ (known_everywhere p.unknown new sh k));
      start = stays p sh s (everywhere sh cur) (everywhere sh (Some new)) f.start ev (dims_everywhere sh (Some new))
          (known_everywhere p.unknown cur sh (clear_known p cur f.sure f.end_clear));
      end = rw (grid_end_one p new sh.layers (ne_eqb new p.unknown k) (everywhere sh cur) sh.mips ev.0 ev.1);
    }

keeps_single_many : (p : UsageFlags) (sh : Extent) (s : Held) (cur : ℕ) (qs : List Piece) (n : Named)
    → FitEnds p sh (held_ends s (single cur)) → Gives sh (given_many qs) n
    → Keeps p sh s (single cur) (given_many qs) n
unfolding update grid_of
keeps_single_many p sh s cur qs n f g =
    let w = single_spread p sh cur qs n f.measured g in
    let k = known_everywhere p.unknown cur sh (clear_known p cur f.sure f.end_clear) in let mk = many_flag sh qs n g in
    record {
      fit = fit_ends p sh _ s (many (spread_end p.unknown cur qs (fresh_mips sh cur))) f f.start
          f.start_clear (f.measured, w.0, w.1) tt
          (rw w.2 (known_zip p s (everywhere sh cur) n.states (known_of p s (everywhere sh cur) k)));
      start = stays p sh s (everywhere sh cur) n.states f.start (dims_everywhere sh cur) (fills sh qs n g) k;
      end = λ i. record { single = sym mk i; states = w.2 i };
    }

keeps_many_one : (p : UsageFlags) (sh : Extent) (s : Held) (ss : List (List Range)) (new : ℕ)
    → FitEnds p sh (held_ends s (many ss)) → Clear p new
    → Keeps p sh s (many ss) (given_single new) (record { single = true; states = everywhere sh (Some new) })
unfolding update grid_of
keeps_many_one p sh (single st) ss new f c =
    let k = clear_known p new f.sure c in let d = dims_states sh ss f.end.1 f.end.2 in
    record {
      fit = record {
        sure = f.sure;
        measured = f.measured;
        start = f.start;
        start_clear = f.start_clear;
        end = f.measured;
        end_clear = c;
        known = known_everywhere p.unknown new sh k;
      };
      start = stays p sh (single st) (map layer_states ss) (everywhere sh (Some new)) f.start d
          (dims_everywhere sh (Some new)) f.known;
      end = rw (grid_end_one p new sh.layers (ne_eqb new p.unknown k) (map layer_states ss) sh.mips d.0 d.1);
    }
keeps_many_one p sh (many ts) ss new f c =
    let k = clear_known p new f.sure c in let d = dims_states sh ss f.end.1 f.end.2 in
    let l = learn_grid p sh new 0 (ne_eqb new p.unknown k) ss ts sh.mips f.end.1 f.start.1 f.end.2 f.start.2 in
    record {
      fit = record {
        sure = f.sure;
        measured = f.measured;
        start = (f.measured, l.0, l.1);
        start_clear = tt;
        end = f.measured;
        end_clear = c;
        known = tt;
      };
      start = λ i. record { single = false; states = l.2 i };
      end = rw (grid_end_one p new sh.layers (ne_eqb new p.unknown k) (map layer_states ss) sh.mips d.0 d.1);
    }

-- a result that is known under another name
rw_keeps : (p : UsageFlags) (sh : Extent) (s : Held) (ss : List (List Range)) (qs : List Piece) (n : Named) (r : Ends Held)
    → update_all p.unknown qs ss s ≡ r
    → FitEnds p sh r
    → grid_of sh r.start ≡ record
    { single = (grid_of sh s).single; states = zip₃ (zip₃ (rule_start p)) (grid_of sh s).states (map layer_states ss) n.states }
    → grid_of sh r.end ≡ record { single = n.single; states = zip₂ (zip₂ (rule_end p)) (map layer_states ss) n.states }
    → Keeps p sh s (many ss) (given_many qs) n
unfolding update grid_of
rw_keeps p sh s ss qs n r u f a b = record { fit = rw u f; start = rw u a; end = rw u b }

ends_tiled : (sh : Extent) (l : List Two) → All (Ok sh) l → Tiled sh (ends_of l)
ends_tiled sh = all_map (Ok sh) (λ (s : List Range). Tiles 0 s sh.layers) (λ (t : Two). t.end) (λ t o. o.0)

starts_tiled : (sh : Extent) (l : List Two) → All (Ok sh) l → Tiled sh (starts_of l)
starts_tiled sh = all_map (Ok sh) (λ (s : List Range). Tiles 0 s sh.layers) (λ (t : Two). t.start) (λ t o. o.1)

keeps_many_many : (p : UsageFlags) (sh : Extent) (s : Held) (ss : List (List Range)) (qs : List Piece) (n : Named)
    → FitEnds p sh (held_ends s (many ss)) → Gives sh (given_many qs) n
    → Keeps p sh s (many ss) (given_many qs) n
unfolding update grid_of
keeps_many_many p sh (single st) ss qs n f g =
    let ts = fresh_mips sh st in let ht = length-replicate sh.mips (range 0 sh.layers st ∷ []) in
    let m = updated_pairs p sh ss ts qs n f.end.1 ht f.end.2 (mips_tiled sh st f.measured.1) g in
    let r = (run_all p.unknown qs (twos ss ts)).value in
    let u = rw (twos_ends ss ts (f.end.1 ∙ sym ht)) at (update_single p.unknown qs (twos ss ts) st) in
    let mk = many_flag sh qs n g in let d = dims_states sh ss f.end.1 f.end.2 in
    rw_keeps p sh (single st) ss qs n (record { start = single st; end = many (ends_of r) }) u
    (fit_ends p sh _ (single st) (many (ends_of r)) f f.start f.start_clear
    (f.measured, length-map r (λ (t : Two). t.end) ∙ m.count, ends_tiled sh r m.ok) tt
    (rw m.end (end_known p (map layer_states ss) n.states f.known)))
    (stays p sh (single st) (map layer_states ss) n.states f.start d (fills sh qs n g) f.known)
    (λ i. record { single = sym mk i; states = m.end i })
keeps_many_many p sh (many ts) ss qs n f g =
    let same = f.end.1 ∙ sym f.start.1 in
    let m = updated_pairs p sh ss ts qs n f.end.1 f.start.1 f.end.2 f.start.2 g in
    let r = (run_all p.unknown qs (twos ss ts)).value in
    let u = rw (twos_ends ss ts same, twos_starts ss ts same) at (update_many p.unknown qs (twos ss ts)) in
    let mk = many_flag sh qs n g in
    rw_keeps p sh (many ts) ss qs n (record { start = many (starts_of r); end = many (ends_of r) }) u
    (fit_ends p sh _ (many (starts_of r)) (many (ends_of r)) f
    (f.measured, length-map r (λ (t : Two). t.start) ∙ m.count, starts_tiled sh r m.ok) tt
    (f.measured, length-map r (λ (t : Two). t.end) ∙ m.count, ends_tiled sh r m.ok) tt tt)
    (λ i. record { single = false; states = m.start i })
    (λ i. record { single = sym mk i; states = m.end i })

pub updated : (p : UsageFlags) (sh : Extent) (s d : Held) (g : Given) (n : Named) → FitEnds p sh (held_ends s d) → Gives sh g n
    → ClearGiven p g → Keeps p sh s d g n
updated p sh s (single cur) (given_single new) n f gives_one c = keeps_single_one p sh s cur new f c
updated p sh s (single cur) (given_many qs) n f g c = keeps_single_many p sh s cur qs n f g
updated p sh s (many ss) (given_single new) n f gives_one c = keeps_many_one p sh s ss new f c
updated p sh s (many ss) (given_many qs) n f g c = keeps_many_many p sh s ss qs n f g

-- ---- insert, of a start and an end
abbrev pub KnownO : ℕ → Option ℕ → Type 0
KnownO u None = ⊥
KnownO u (Some c) = Known u c

-- where the given start is one state, every subresource of the given end is known
abbrev pub KnownGiven : UsageFlags → Given → Named → Type 0
KnownGiven p (given_single st) n = All (All (KnownO p.unknown)) n.states
KnownGiven p (given_many qs) n = Unit {0}

insert_known : (u : ℕ) (g : List (List (Option ℕ))) → All (All (KnownO u)) g → KnownAll u (map (map (named_or u)) g)
insert_known u = grid_map (KnownO u) (Known u) (named_or u) one
  where
    one : (o : Option ℕ) → KnownO u o → Known u (named_or u o)
    one None k = absurd k
    one (Some c) k = k

pub insert_clear : (p : UsageFlags) (sh : Extent) (g : Given) → ClearGiven p g → ClearHeld p (insert p sh g)
unfolding insert
insert_clear p sh (given_single st) c = c
insert_clear p sh (given_many qs) c = tt

insert_ends : (p : UsageFlags) (sh : Extent) (a c : Given) (b d : Named) → KnownGiven p a d
    → grid_of sh (insert p sh c) ≡ grid_insert p sh d
    → KnownEnd p (insert p sh a) (grid_of sh (insert p sh c)).states
unfolding insert
insert_ends p sh (given_single st) c b d k e = rw e (insert_known p.unknown d.states k)
insert_ends p sh (given_many qs) c b d k e = tt

pub inserted_ends : (p : UsageFlags) (sh : Extent) (a c : Given) (b d : Named) → UnknownNonzero p → Measured sh → Gives sh a b
    → Gives sh c d → ClearGiven p a → ClearGiven p c → KnownGiven p a d
    → FitEnds p sh (held_ends (insert p sh a) (insert p sh c)) × (grid_of sh (insert p sh a) ≡ grid_insert p sh b)
    × (grid_of sh (insert p sh c) ≡ grid_insert p sh d)
inserted_ends p sh a c b d s e ga gc ca cc k =
    let x = inserted p sh a b e ga in let y = inserted p sh c d e gc in (
      record {
        sure = s;
        measured = e;
        start = x.0;
        start_clear = insert_clear p sh a ca;
        end = y.0;
        end_clear = insert_clear p sh c cc;
        known = insert_ends p sh a c b d k y.1;
      },
      x.1,
      y.1,
    )
