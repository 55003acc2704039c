-- From one texture to the sets of any two representations: where the rules for a texture agree, the two merges do.
use Rattle.model.specs.Prelude.{ℕ, suc, refl, ap, ◌∙◌, true, Option, None, Some, option_map, List, [], set}
use Rattle.model.specs.{declared.{Extent.Extent, Selector.Selector, UsageFlags.UsageFlags}, Base.{Stop, walk₂, All}, Flags.flags_fit}
use Rattle.model.specs.{Representation.Representation, Sets.{Numbers, Slot, Set, Head, head_of, slot_at, with_slots}}
use Rattle.model.specs.Refusals.{single_refusal, set_refusal}
use Rattle.model.specs.Calls.{owning, Indexed, Answer, done, refused, in_conflict, answer, CallResult, merge_slot, merge_given}
use Rattle.model.specs.{Calls.{merge_single, merge_usage_scope}, BoolLaws.by_test₂, ListLaws.set_map}
use Rattle.std.specs.Prelude.{◌≡◌, ◌∷◌}
use Rattle.agreement.specs.{Shared.grid_slots, Fits.{SlotFits, SetFits}}
use Rattle.agreement.proofs.WalkLaws.{Sim, Sims, onward_sim, onward_all, walk_length}
use Rattle.agreement.proofs.SlotLaws.{unless_by₂, image_slot, image_set, extents_image, slot_image, slot_fits_lem, put_slots, put_slot, At}
use Rattle.agreement.proofs.SlotLaws.{single_at, flags_same, each_owned_lem}

abbrev map_conflict : {C D : Type 0} → (C → D) → Indexed C → Indexed D
map_conflict cl c = record { index = c.index; what = cl c.what }

abbrev pub map_answer : {C D : Type 0} → (C → D) → Answer C → Answer D
map_answer cl done = done
map_answer cl (refused r) = refused r
map_answer cl (in_conflict c) = in_conflict (map_conflict cl c)

module _ (K L : Representation) (v : Extent → K.Held → L.Held) (cl : K.Conflict → L.Conflict) (Word : ℕ → Type 0)
    (Fit : UsageFlags → Extent → K.Held → Type 0) (Gives : UsageFlags → Extent → K.Given → L.Given → Type 0) where
  -- what is to be proved of one texture
  pub record Textures : Type 0 where
    pub fresh : (n : ℕ) → v (record { mips = 0; layers = 0 }) (K.fresh n) ≡ L.fresh n
    pub used : (h : Head) (i : ℕ) (sh : Extent) (sel : Option Selector) (st : ℕ) → flags_fit h.flags ≡ true → Word st
        → single_refusal h i sh sel st ≡ None
        → Gives h.flags sh (K.use_of sh sel st) (L.use_of sh sel st)
    pub passed_on : (p : UsageFlags) (sh : Extent) (h : K.Held) → Fit p sh h → Gives p sh (K.pass h) (L.pass (v sh h))
    pub inserted : (p : UsageFlags) (sh : Extent) (g : K.Given) (n : L.Given) → Gives p sh g n
        → Fit p sh (K.insert p sh g) × (v sh (K.insert p sh g) ≡ L.insert p sh n)
    pub merged : (p : UsageFlags) (sh : Extent) (h : K.Held) (g : K.Given) (n : L.Given) → Gives p sh g n → Fit p sh h
        → Fit p sh (K.merge p sh h g).value × Sim (v sh) cl (K.merge p sh h g) (L.merge p sh (v sh h) n)

  -- a call on a scope, and the same call on its image
  pub record Matches (r : CallResult K.Conflict K.Log (Set K.Held))
      (u : CallResult L.Conflict L.Log (Set L.Held)) : Type 0 where
    pub fit : SetFits Fit r.after
    pub answer : map_answer cl r.answer ≡ u.answer
    pub after : image_set v r.after ≡ u.after
    pub quiet : (r.log ≡ []) × (u.log ≡ [])

  answer_map : (o : Option (Indexed K.Conflict)) → map_answer cl (answer o) ≡ answer (option_map (map_conflict cl) o)
  answer_map None = refl
  answer_map (Some c) = refl

  index_map : (i : ℕ) (o : Option K.Conflict)
      → option_map (map_conflict cl) (option_map (λ (c : K.Conflict). record { index = i; what = c }) o)
      ≡ option_map (λ (c : L.Conflict). record { index = i; what = c }) (option_map cl o)
  index_map i None = refl
  index_map i (Some c) = refl

  module _ (R : Textures) where
    abbrev Slots : Numbers → UsageFlags → Stop (Indexed K.Conflict) (Slot K.Held)
        → Stop (Indexed L.Conflict) (Slot L.Held) → Type 0
    Slots n p w u = SlotFits Fit n p w.value × Sim (image_slot v) (map_conflict cl) w u

    slot_sim : (n : Numbers) (p : UsageFlags) (sh : Extent) (g : K.Given) (m : L.Given) (i : ℕ) (s : Slot K.Held) → Gives p sh g m
        → SlotFits Fit n p s → At n s sh
        → Slots n p (merge_slot K p sh g i s) (merge_slot L p sh m i (image_slot v s))
    slot_sim n p sh g m i s r f h =
        by_test₂ (Slots n p) s.owned
        (λ e. let w = R.merged p sh s.held g m r (rw (h.own e) at (f.held e)) in
        rw (h.own e) (
          record { extent = λ o. h.within; held = λ o. w.0 },
          (
            ap (owning sh) w.1.0,
            index_map i (K.merge p sh s.held g).conflict
                ∙ ap (option_map (λ (c : L.Conflict). record { index = i; what = c })) w.1.1,
          ),
        ))
        (λ e. let w = R.inserted p sh g m r in (record { extent = λ o. h.within; held = λ o. w.0 }, (ap (owning sh) w.1, refl)))

    pub single_sim : (s : Set K.Held) (i : ℕ) (sh : Extent) (sel : Option Selector) (st : ℕ) → Word st → SetFits Fit s
        → Matches (merge_single K s i sh sel st) (merge_single L (image_set v s) i sh sel st)
    single_sim s i sh sel st word t =
        rw (extents_image v s.slots) (unless_by₂ Matches (single_refusal (head_of s) i sh sel st)
        (λ r. record { fit = t; answer = refl; after = refl; quiet = (refl, refl) }) λ e.
        let slot = slot_at (K.fresh 0) s i in let out = merge_slot K s.flags sh (K.use_of sh sel st) i slot in
        let m = slot_sim s.numbers s.flags sh _ (L.use_of sh sel st) i slot (R.used (head_of s) i sh sel st t.flags word e)
        (slot_fits_lem Fit s (K.fresh 0) i t) (single_at s (K.fresh 0) i sh sel st e) in
        rw (slot_image v (K.fresh 0) (L.fresh 0) (R.fresh 0) s i) record {
          fit = put_slot Fit s i out.value t m.0;
          answer = answer_map out.conflict ∙ ap answer m.1.1;
          after = ap (with_slots (image_set v s)) (set_map (image_slot v) s.slots i out.value
              ∙ ap (set (grid_slots v s.slots) i) m.1.0);
          quiet = (refl, refl);
        })

    -- an index of a given scope whose checks passed
    given_sim : (n l : Numbers) (p : UsageFlags) (i : ℕ) (s g : Slot K.Held) → SlotFits Fit n p s → SlotFits Fit l p g
        → (g.owned ≡ true → At n s g.extent)
        → Slots n p (merge_given K p i s g) (merge_given L p i (image_slot v s) (image_slot v g))
    given_sim n l p i s g f f' h =
        by_test₂ (Slots n p) g.owned (λ e. slot_sim n p g.extent (K.pass g.held) _ i s
        (R.passed_on p g.extent g.held (f'.held e)) f (h e)) (λ e. (f, (refl, refl)))

    pub scope_sim : (s g : Set K.Held) → SetFits Fit s → SetFits Fit g
        → Matches (merge_usage_scope K s g) (merge_usage_scope L (image_set v s) (image_set v g))
    scope_sim s g t u =
        rw (extents_image v s.slots, extents_image v g.slots)
        (unless_by₂ Matches (set_refusal (head_of s) (head_of g))
        (λ r. record { fit = t; answer = refl; after = refl; quiet = (refl, refl) }) λ e.
        let out = walk₂ (merge_given K p) 0 s.slots g.slots in
        let m = each_owned_lem s g e (SlotFits Fit s.numbers p) (SlotFits Fit g.numbers p) All_sim (λ k xs c. (tt, (refl, refl)))
        (λ k l a. rest k l a) next t.slots (rw (flags_same s g e) u.slots) in
        record {
          fit = put_slots Fit s out.value t (walk_length (merge_given K p) 0 s.slots g.slots) m.0;
          answer = answer_map out.conflict ∙ ap answer m.1.1;
          after = ap (with_slots (image_set v s)) m.1.0;
          quiet = (refl, refl);
        })
      where
        p : UsageFlags
        p = s.flags

        All_sim : ℕ → List (Slot K.Held) → List (Slot K.Held) → Type 0
        All_sim k l xs = All (SlotFits Fit s.numbers s.flags) (walk₂ (merge_given K s.flags) k l xs).value
            × Sims (image_slot v) (map_conflict cl) (walk₂ (merge_given K s.flags) k l xs) (walk₂ (merge_given L s.flags) k
            (grid_slots v l) (grid_slots v xs))

        rest : (k : ℕ) (l : List (Slot K.Held)) → All (SlotFits Fit s.numbers s.flags) l → All_sim k l []
        rest k [] a = (tt, (refl, refl))
        rest k (x ∷ l) a = (a, (refl, refl))

        next : (k : ℕ) (x : Slot K.Held) (l : List (Slot K.Held)) (y : Slot K.Held) (ys : List (Slot K.Held))
            → SlotFits Fit s.numbers s.flags x → All (SlotFits Fit s.numbers s.flags) l
            → SlotFits Fit g.numbers s.flags y → (y.owned ≡ true → At s.numbers x y.extent)
            → All_sim (suc k) l ys → All_sim k (x ∷ l) (y ∷ ys)
        next k x l y ys a b c h ih =
            let m = given_sim s.numbers g.numbers p k x y a c h in let w = merge_given K p k x y in (
              onward_all (SlotFits Fit s.numbers p) w.value w.conflict l (walk₂ (merge_given K p) (suc k) l ys) m.0 b ih.0,
              onward_sim (image_slot v) (map_conflict cl) w.value w.conflict l (walk₂ (merge_given K p) (suc k) l ys) _ _
                  _ m.1.0 m.1.1 ih.1,
            )
