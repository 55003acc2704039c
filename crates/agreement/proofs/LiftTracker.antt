-- From one texture to the trackers of any two representations: the four tracker calls, with the transitions of each subresource.
use Rattle.model.specs.Prelude.{ℕ, zero, suc, arith, refl, sym, ap, ◌∙◌, Bool, true, false, false≢true, true≢false, Option, None, Some}
use Rattle.model.specs.Prelude.{List, [], append-nil, eqb, leb, length, get_or, set, List_get_D_map, get_or-set_other, eqb-true, not-false}
use Rattle.model.specs.Prelude.{ne_eqb, lt-leb, leb-false}
use Rattle.model.specs.declared.{Extent.Extent, Refusal.Refusal, Selector.Selector, UsageFlags.UsageFlags}
use Rattle.model.specs.{Base.{each, over₂, each_at₂, All}, Flags.flags_fit, Representation.{Representation, Ends}}
use Rattle.model.specs.Sets.{Numbers, Slot, Set, Tracker, Head, head_of, own_extent, empty_slot, slot_at, with_slots, with_tracker}
use Rattle.model.specs.Refusals.{sparse_checks, texture_checks, owned_checks, single_refusal, set_refusal, sparse_refusal}
use Rattle.model.specs.Calls.{owning, Indexed, Answer, done, refused, CallResult, set_slot, log_slot, set_single, set_given, log_given}
use Rattle.model.specs.{Calls.{set_from, sparse_all, set_and_remove_sparse, no_ends}, StateRules.Move, BoolLaws.{by_test, by_test₂, by_eq}}
use Rattle.model.specs.{ListLaws.{all_weak, all_left, all_right, set_map, each_append}, CheckLaws.{Passed, passed, same_flags_lem}}
use Rattle.std.specs.Prelude.{◌≤◌, ◌≡◌, ◌∷◌, ◌++◌}
use Rattle.agreement.specs.{Shared.{of_index, grid_slots}, Fits.{SlotFits, SetFits}}
use Rattle.agreement.proofs.SlotLaws.{unless_by₂, image_slot, image_set, image_ends, image_tracker, extents_image, slot_image, no_owner}
use Rattle.agreement.proofs.SlotLaws.{slot_fits_lem, put_slots, put_slot, At, texture_at, single_at, flags_same, each_owned_lem}

-- ---- logs
-- two logs tell the same of each subresource, at most one transition each, and only of the indices in `has`
pub record Logs {A B : Type 0} (f : ℕ → ℕ → A → List Move) (g : ℕ → ℕ → B → List Move) (has : ℕ → Bool) (r : List (Indexed A))
    (u : List (Indexed B)) : Type 0 where
  pub same : (j m l : ℕ) → of_index j (f m l) r ≡ of_index j (g m l) u
  pub once : (j m l : ℕ) → length (of_index j (f m l) r) ≤ 1
  pub only : (j m l : ℕ) → has j ≡ false → of_index j (f m l) r ≡ []

module _ {A B : Type 0} (f : ℕ → ℕ → A → List Move) (g : ℕ → ℕ → B → List Move) where
  no_logs : (has : ℕ → Bool) → Logs f g has [] []
  no_logs has = record { same = λ j m l. refl; once = λ j m l. omega arith; only = λ j m l e. refl }

  join_logs : (has₁ has₂ has : ℕ → Bool) (r r' : List (Indexed A)) (u u' : List (Indexed B))
      → ((j : ℕ) → has₁ j ≡ true → has₂ j ≡ false) → ((j : ℕ) → has j ≡ false → (has₁ j ≡ false) × (has₂ j ≡ false))
      → Logs f g has₁ r u → Logs f g has₂ r' u' → Logs f g has (r ++ r') (u ++ u')
  join_logs has₁ has₂ has r r' u u' apart cover x y = record {
    same = λ j m l. rw (each_append, each_append, x.same j m l, y.same j m l);
    once = λ j m l. rw (each_append _ r r') (one j m l (has₁ j) refl);
    only = λ j m l e. rw (each_append _ r r', x.only j m l (cover j e).0, y.only j m l (cover j e).1);
  }
    where
      one : (j m l : ℕ) (b : Bool) → has₁ j ≡ b → length (of_index j (f m l) r ++ of_index j (f m l) r') ≤ 1
      one j m l true e = rw (y.only j m l (apart j e), append-nil) (x.once j m l)
      one j m l false e = rw (x.only j m l e) (y.once j m l)

  one_log : (i : ℕ) (a : A) (b : B) → ((m l : ℕ) → f m l a ≡ g m l b) → ((m l : ℕ) → length (f m l a) ≤ 1)
      → Logs f g (λ j. eqb i j) (record { index = i; what = a } ∷ []) (record { index = i; what = b } ∷ [])
  one_log i a b h o = record {
    same = λ j m l. rw (h m l);
    once = λ j m l. by_test (λ (x : List Move). length (x ++ []) ≤ 1) (eqb i j) (λ e. rw append-nil (o m l)) (λ e. omega arith);
    only = λ j m l e. rw e;
  }

  -- of any index
  all_indices : {has : ℕ → Bool} {r : List (Indexed A)} {u : List (Indexed B)} → Logs f g has r u → Logs f g (λ j. true) r u
  all_indices x = record { same = x.same; once = x.once; only = λ j m l (q : true ≡ false). absurd (true≢false q) }

-- ---- trackers: no call on them conflicts
abbrev pub plain : {C : Type 0} → Option Refusal → Answer C
plain None = done
plain (Some r) = refused r

-- logs that tell nothing more of the indices in `has`
abbrev any : ℕ → Bool
any j = true

over_length : {A B : Type 0} (f : ℕ → A → B → A) (k : ℕ) (l : List A) (xs : List B) → length (over₂ f k l xs) ≡ length l
over_length f k [] xs = refl
over_length f k (s ∷ l) [] = refl
over_length f k (s ∷ l) (x ∷ xs) = ap suc (over_length f (suc k) l xs)

module _ (K L : Representation) (v : Extent → K.Held → L.Held) (Word : ℕ → Type 0)
    (Fit : UsageFlags → Extent → K.Held → Type 0) (FitE : UsageFlags → Extent → Ends K.Held → Type 0)
    (Pairs : UsageFlags → Extent → K.Given → L.Given → K.Given → L.Given → Type 0)
    (f : ℕ → ℕ → K.Log → List Move) (g : ℕ → ℕ → L.Log → List Move) where
  abbrev ends : Slot (Ends K.Held) → Slot (Ends L.Held)
  ends = image_slot (image_ends v)

  -- what is to be proved of one texture in a tracker
  pub record Tracks : Type 0 where
    pub fresh : (n : ℕ) → v (record { mips = 0; layers = 0 }) (K.fresh n) ≡ L.fresh n
    pub used : (h : Head) (i : ℕ) (sh : Extent) (sel : Option Selector) (st : ℕ) → flags_fit h.flags ≡ true → Word st
        → single_refusal h i sh sel st ≡ None
        → Pairs h.flags sh (K.use_of sh sel st) (L.use_of sh sel st) (K.use_of sh sel st) (L.use_of sh sel st)
    pub passed_on : (p : UsageFlags) (sh : Extent) (h : K.Held) → Fit p sh h
        → Pairs p sh (K.pass h) (L.pass (v sh h)) (K.pass h) (L.pass (v sh h))
    pub joined : (p : UsageFlags) (sh : Extent) (e : Ends K.Held) → FitE p sh e
        → Pairs p sh (K.pass e.start) (L.pass (v sh e.start)) (K.pass e.end) (L.pass (v sh e.end))
    pub inserted : (p : UsageFlags) (sh : Extent) (a : K.Given) (b : L.Given) (c : K.Given) (d : L.Given) → Pairs p sh a b c d
        → FitE p sh (record { start = K.insert p sh a; end = K.insert p sh c }) × (v sh (K.insert p sh a) ≡ L.insert p sh b)
        × (v sh (K.insert p sh c) ≡ L.insert p sh d)
    pub updated : (p : UsageFlags) (sh : Extent) (e : Ends K.Held) (a : K.Given) (b : L.Given) (c : K.Given) (d : L.Given)
        → Pairs p sh a b c d → FitE p sh e
        → FitE p sh (K.update p sh e c) × (image_ends v sh (K.update p sh e c) ≡ L.update p sh (image_ends v sh e) d)
    pub logged : (p : UsageFlags) (mask : ℕ) (sh : Extent) (e : Ends K.Held) (a : K.Given) (b : L.Given) (c : K.Given) (d : L.Given)
        → Pairs p sh a b c d → FitE p sh e
        → (m l : ℕ)
        → (f m l (K.log p mask sh e.end a) ≡ g m l (L.log p mask sh (v sh e.end) b))
        × (length (f m l (K.log p mask sh e.end a)) ≤ 1)

  pub record MatchesT (has : ℕ → Bool) (r : CallResult K.Conflict K.Log (Tracker K.Held))
      (u : CallResult L.Conflict L.Log (Tracker L.Held)) : Type 0 where
    pub fit : SetFits FitE r.after.set
    pub answer : (o : Option Refusal) × (r.answer ≡ plain o) × (u.answer ≡ plain o)
    pub after : image_tracker v r.after ≡ u.after
    pub logs : Logs f g has r.log u.log

  module _ (R : Tracks) where
    module _ (n : Numbers) (p : UsageFlags) (sh : Extent) (a : K.Given) (b : L.Given) (c : K.Given) (d : L.Given)
        (i : ℕ) (s : Slot (Ends K.Held))
        (r : Pairs p sh a b c d) (t : SlotFits FitE n p s) (h : At n s sh) where
      slot_set : SlotFits FitE n p (set_slot K p sh a c s) × (ends (set_slot K p sh a c s) ≡ set_slot L p sh b d (ends s))
      slot_set =
          by_test₂ (λ (x : Slot (Ends K.Held)) (y : Slot (Ends L.Held)). SlotFits FitE n p x × (ends x ≡ y)) s.owned
          (λ e. let m = R.updated p sh s.held a b c d r (rw (h.own e) at (t.held e)) in
          rw (h.own e) (record { extent = λ o. h.within; held = λ o. m.0 }, ap (owning sh) m.1))
          (λ e. let m = R.inserted p sh a b c d r in
          (record { extent = λ o. h.within; held = λ o. m.0 }, λ j. owning sh (record { start = m.1 j; end = m.2 j })))

      slot_log : (mask : ℕ) → Logs f g (λ j. eqb i j) (log_slot K p mask sh a i s) (log_slot L p mask sh b i (ends s))
      slot_log mask =
          by_test₂ (λ (x : List (Indexed K.Log)) (y : List (Indexed L.Log)). Logs f g (λ j. eqb i j) x y) s.owned
          (λ e. let m = R.logged p mask sh s.held a b c d r (rw (h.own e) at (t.held e)) in
          rw (h.own e) (one_log f g i _ _ (λ x y. (m x y).0) (λ x y. (m x y).1)))
          (λ e. no_logs f g (λ j. eqb i j))

    scope_same : (s : Set K.Held) (i : ℕ) → slot_at (L.fresh 0) (image_set v s) i ≡ image_slot v (slot_at (K.fresh 0) s i)
    scope_same = slot_image v (K.fresh 0) (L.fresh 0) (R.fresh 0)

    track_same : (t : Tracker K.Held) (i : ℕ) → slot_at (no_ends L) (image_tracker v t).set i ≡ ends (slot_at (no_ends K) t.set i)
    track_same t = slot_image (image_ends v) (no_ends K) (no_ends L) (λ i. record { start = R.fresh 0 i; end = R.fresh 0 i }) t.set

    away : (t : Tracker K.Held) (r : Refusal) → SetFits FitE t.set
        → MatchesT any (record { answer = refused r; log = []; after = t }) (record
        { answer = refused r; log = []; after = image_tracker v t })
    away t r w = record { fit = w; answer = (Some r, refl, refl); after = refl; logs = no_logs f g any }

    pub single_set : (t : Tracker K.Held) (i : ℕ) (sh : Extent) (sel : Selector) (st : ℕ) → Word st → SetFits FitE t.set
        → MatchesT any (set_single K t i sh sel st) (set_single L (image_tracker v t) i sh sel st)
    single_set t i sh sel st word w =
        rw (extents_image (image_ends v) t.set.slots)
        (unless_by₂ (MatchesT any) (single_refusal (head_of t.set) i sh (Some sel) st) (λ r. away t r w) λ e.
        let p = t.set.flags in let a = K.use_of sh (Some sel) st in let b = L.use_of sh (Some sel) st in
        let slot = slot_at (no_ends K) t.set i in let r = R.used (head_of t.set) i sh (Some sel) st w.flags word e in
        let x = slot_fits_lem FitE t.set (no_ends K) i w in let y = single_at t.set (no_ends K) i sh (Some sel) st e in
        let m = slot_set t.set.numbers p sh a b a b i slot r x y in
        rw (track_same t i) record {
          fit = put_slot FitE t.set i (set_slot K p sh a a slot) w m.0;
          answer = (None, refl, refl);
          after = ap (with_tracker (image_tracker v t)) (set_map ends t.set.slots i (set_slot K p sh a a slot)
              ∙ ap (set (grid_slots (image_ends v) t.set.slots) i) m.1);
          logs = all_indices f g (slot_log t.set.numbers p sh a b a b i slot r x y t.mask);
        })

    -- every index of a given set; h is what that set holds, G what is said of it
    module _ {H H' : Type 0} (u : Extent → H → H') (Good : UsageFlags → Extent → H → Type 0) (from to : H
        → K.Given) (from' to' : H' → L.Given)
        (hands : (p : UsageFlags) (sh : Extent) (h : H) → Good p sh h → Pairs p sh (from h) (from' (u sh h)) (to h) (to' (u sh h))) where
      -- one index
      slot_given : (n l : Numbers) (p : UsageFlags) (mask i : ℕ) (s : Slot (Ends K.Held)) (x : Slot H) → SlotFits FitE n p s
          → SlotFits Good l p x → (x.owned ≡ true → At n s x.extent)
          → (SlotFits FitE n p (set_given K from to p i s x)
          × (ends (set_given K from to p i s x) ≡ set_given L from' to' p i (ends s) (image_slot u x)))
          × Logs f g (λ j. eqb i j) (log_given K from to p mask i s x) (log_given L from' to' p mask i (ends s) (image_slot u x))
      slot_given n l p mask i s x t w h = (
        by_test₂ (λ (a : Slot (Ends K.Held)) (b : Slot (Ends L.Held)). SlotFits FitE n p a × (ends a ≡ b)) x.owned
            (λ e. slot_set n p x.extent _ _ _ _ i s (hands p x.extent x.held (w.held e)) t (h e)) (λ e. (t, refl)),
        by_test₂ (Logs f g (λ j. eqb i j)) x.owned
            (λ e. slot_log n p x.extent _ _ _ _ i s (hands p x.extent x.held (w.held e)) t (h e) mask)
            (λ e. no_logs f g (λ j. eqb i j)),
      )

      pub from_set : (t : Tracker K.Held) (x : Set H) → SetFits FitE t.set → SetFits Good x
          → MatchesT any (set_from K from to t x) (set_from L from' to' (image_tracker v t) (image_set u x))
      from_set t x w y =
          rw (extents_image (image_ends v) t.set.slots, extents_image u x.slots)
          (unless_by₂ (MatchesT any) (set_refusal (head_of t.set) (head_of x)) (λ r. away t r w) λ e.
          let m = each_owned_lem t.set x e (SlotFits FitE n p) (SlotFits Good x.numbers p) F
          (λ k xs c. ((tt, refl), no_logs f g (λ j. leb k j))) rest next w.slots (rw (flags_same t.set x e) y.slots) in
          record {
            fit = put_slots FitE t.set _ w (over_length _ 0 t.set.slots x.slots) m.0.0;
            answer = (None, refl, refl);
            after = ap (with_tracker (image_tracker v t)) m.0.1;
            logs = all_indices f g m.1;
          })
        where
          n : Numbers
          n = t.set.numbers

          p : UsageFlags
          p = t.set.flags

          F : ℕ → List (Slot (Ends K.Held)) → List (Slot H) → Type 0
          F k l xs = (All (SlotFits FitE n p) (over₂ (set_given K from to p) k l xs)
              × (grid_slots (image_ends v) (over₂ (set_given K from to p) k l xs)
              ≡ over₂ (set_given L from' to' p) k (grid_slots (image_ends v) l) (grid_slots u xs)))
              × Logs f g (λ j. leb k j) (each_at₂ (log_given K from to p t.mask) k l xs) (each_at₂ (log_given L from' to' p t.mask) k
              (grid_slots (image_ends v) l) (grid_slots u xs))

          rest : (k : ℕ) (l : List (Slot (Ends K.Held))) → All (SlotFits FitE n p) l → F k l []
          rest k [] a = ((tt, refl), no_logs f g (λ j. leb k j))
          rest k (s ∷ l) a = ((a, refl), no_logs f g (λ j. leb k j))

          next : (k : ℕ) (s : Slot (Ends K.Held)) (l : List (Slot (Ends K.Held))) (y : Slot H) (ys : List (Slot H))
              → SlotFits FitE n p s → All (SlotFits FitE n p) l
              → SlotFits Good x.numbers p y → (y.owned ≡ true → At n s y.extent) → F (suc k) l ys → F k (s ∷ l) (y ∷ ys)
          next k s l y ys a b c h ih =
              let m = slot_given n x.numbers p t.mask k s y a c h in (
                (
                  (m.0.0, ih.0.0),
                  rw ih.0.1
                      (ap (λ (z : Slot (Ends L.Held)). z
                      ∷ over₂ (set_given L from' to' p) (suc k) (grid_slots (image_ends v) l) (grid_slots u ys)) m.0.1),
                ),
                join_logs f g (λ j. eqb k j) (λ j. leb (suc k) j) (λ j. leb k j) _ _ _ _
                    (λ j e. lt-leb (suc k) j (omega (arith, eqb-true k j e)))
                    (λ j e. let q = leb-false k j e in (ne_eqb k j (λ z. omega arith), lt-leb (suc k) j (omega arith))) m.1 ih.1,
              )

    -- ---- the sparse call
    abbrev scope_slot : Set K.Held → ℕ → Slot K.Held
    scope_slot s i = slot_at (K.fresh 0) s i

    abbrev track_slot : Tracker K.Held → ℕ → Slot (Ends K.Held)
    track_slot t i = slot_at (no_ends K) t.set i

    -- what the checks tell of a listed index
    abbrev Alike : Tracker K.Held → Set K.Held → ℕ → Type 0
    Alike t s i = (scope_slot s i).owned ≡ true → At t.set.numbers (track_slot t i) (scope_slot s i).extent

    -- what a listed index that the scope owns hands in, and the sets after it
    module _ (t : Tracker K.Held) (s : Set K.Held) (i : ℕ) where
      abbrev pub given : K.Given
      given = K.pass (scope_slot s i).held

      abbrev pub given_l : L.Given
      given_l = L.pass (v (scope_slot s i).extent (scope_slot s i).held)

      abbrev pub t₁ : Tracker K.Held
      t₁ = with_tracker t (set t.set.slots i (set_slot K t.set.flags (scope_slot s i).extent given given (track_slot t i)))

      abbrev pub s₁ : Set K.Held
      s₁ = with_slots s (set s.slots i (record { owned = false; extent = (scope_slot s i).extent; held = (scope_slot s i).held }))

      left : (l : List (Slot K.Held)) (k : ℕ) (y : Slot K.Held) → y.owned ≡ false
          → (get_or (set l k y) k (empty_slot (K.fresh 0))).owned ≡ false
      left [] k y e = refl
      left (z ∷ l) zero y e = e
      left (z ∷ l) (suc k) y e = left l k y e

      -- what is left of the claims once index i is done
      still : (j : ℕ) → Alike t s j → Alike t₁ s₁ j
      still j h =
          by_eq j i (λ e. rw e (λ o. absurd (false≢true (sym (left s.slots i _ refl) ∙ o))))
          (λ e. rw (
            get_or-set_other s.slots i j _ (empty_slot (K.fresh 0)) e,
            get_or-set_other t.set.slots i j _ (empty_slot (no_ends K)) e,
          ) h)

      fewer : (j : ℕ) → (scope_slot s j).owned ≡ false → (scope_slot s₁ j).owned ≡ false
      fewer j h = by_eq j i (λ e. rw e (left s.slots i _ refl)) (λ e. rw (get_or-set_other s.slots i j _ (empty_slot (K.fresh 0)) e) h)

      -- what is known of one index that the call takes from the scope
      pub record Taken : Type 0 where
        pub owned : (scope_slot s i).owned ≡ true
        pub pairs : Pairs t.set.flags (scope_slot s i).extent given given_l given given_l
        pub slot : SlotFits FitE t.set.numbers t.set.flags (track_slot t i)
        pub at : At t.set.numbers (track_slot t i) (scope_slot s i).extent

    -- one index after the other: by what holds of the sets after each that is taken, and of those that are passed over
    module _ (F : List ℕ → Tracker K.Held → Set K.Held → Type 0) (end : (t : Tracker K.Held) (s : Set K.Held)
        → SetFits FitE t.set → SetFits Fit s → F [] t s)
        (take : (i : ℕ) (is : List ℕ) (t : Tracker K.Held) (s : Set K.Held) → Taken t s i
        → F is (t₁ t s i) (s₁ t s i) → F (i ∷ is) t s)
        (skip : (i : ℕ) (is : List ℕ) (t : Tracker K.Held) (s : Set K.Held) → (scope_slot s i).owned ≡ false
        → F is t s → F (i ∷ is) t s) where
      one_by_one : (is : List ℕ) (t : Tracker K.Held) (s : Set K.Held) → SetFits FitE t.set → SetFits Fit s
          → t.set.flags ≡ s.flags → All (Alike t s) is → F is t s
      one_by_one [] t s w y q h = end t s w y
      one_by_one (i ∷ is) t s w y q h = go (scope_slot s i).owned refl (one_by_one is)
        where
          go : (b : Bool) → (scope_slot s i).owned ≡ b
              → ((t : Tracker K.Held) (s : Set K.Held) → SetFits FitE t.set → SetFits Fit s → t.set.flags ≡ s.flags
              → All (Alike t s) is → F is t s) → F (i ∷ is) t s
          go false e ih = skip i is t s e (ih t s w y q h.1)
          go true e ih =
              let fx : Fit t.set.flags (scope_slot s i).extent (scope_slot s i).held =
              rw q ((slot_fits_lem Fit s (K.fresh 0) i y).held e) in
              let r = R.passed_on t.set.flags (scope_slot s i).extent (scope_slot s i).held fx in
              let x = slot_fits_lem FitE t.set (no_ends K) i w in
              let m = slot_set t.set.numbers t.set.flags (scope_slot s i).extent (given t s i) (given_l t s i) (given t s i)
              (given_l t s i) i (track_slot t i) r x (h.0 e) in
              take i is t s (record { owned = e; pairs = r; slot = x; at = h.0 e })
              (ih (t₁ t s i) (s₁ t s i) (put_slot FitE t.set i _ w m.0)
              (put_slot Fit s i _ y (no_owner Fit s.numbers s.flags _ refl)) q
              (all_weak (Alike t s) (Alike (t₁ t s i) (s₁ t s i)) (still t s i) is h.1))

      -- the checks passed: each listed index is alike
      alike : (t : Tracker K.Held) (s : Set K.Held) (is : List ℕ)
          → Passed (each (sparse_checks (head_of t.set) (head_of s)) is) → All (Alike t s) is
      alike t s [] c = tt
      alike t s (i ∷ is) c =
          let here = all_left _ (sparse_checks (head_of t.set) (head_of s) i) _ c in (
            one (rw (List_get_D_map own_extent s.slots i (empty_slot (K.fresh 0))) at here.1),
            alike t s is (all_right _ (sparse_checks (head_of t.set) (head_of s) i) _ c),
          )
        where
          one : Passed (owned_checks (head_of t.set) i (own_extent (scope_slot s i))) → Alike t s i
          one d o = let checks : Passed (texture_checks (head_of t.set) i (scope_slot s i).extent) = rw o at d in
              texture_at (head_of t.set) i (track_slot t i) (scope_slot s i).extent
              (List_get_D_map own_extent t.set.slots i (empty_slot (no_ends K))) checks

      pub each_listed : (t : Tracker K.Held) (s : Set K.Held) (is : List ℕ) → SetFits FitE t.set → SetFits Fit s
          → sparse_refusal (head_of t.set) (head_of s) is ≡ None → F is t s
      each_listed t s is w y e =
          let c = passed _ e in one_by_one is t s w y (same_flags_lem t.set.flags s.flags (not-false _ c.0)) (alike t s is c.1)

    abbrev KB : Type 0
    KB = CallResult K.Conflict K.Log (Tracker K.Held × Set K.Held)

    abbrev LB : Type 0
    LB = CallResult L.Conflict L.Log (Tracker L.Held × Set L.Held)

    pub record MatchesB (has : ℕ → Bool) (r : KB) (u : LB) : Type 0 where
      pub fit : SetFits FitE r.after.0.set
      pub fits : SetFits Fit r.after.1
      pub answer : (o : Option Refusal) × (r.answer ≡ plain o) × (u.answer ≡ plain o)
      pub tracker : image_tracker v r.after.0 ≡ u.after.0
      pub scope : image_set v r.after.1 ≡ u.after.1
      pub logs : Logs f g has r.log u.log

    abbrev Owned : List ℕ → Tracker K.Held → Set K.Held → Type 0
    Owned is t s = MatchesB (λ j. (scope_slot s j).owned) (sparse_all K is (t, s)) (sparse_all L is (image_tracker v t, image_set v s))

    take_one : (i : ℕ) (is : List ℕ) (t : Tracker K.Held) (s : Set K.Held) → Taken t s i
        → Owned is (t₁ t s i) (s₁ t s i) → Owned (i ∷ is) t s
    take_one i is t s k ih =
        let p = t.set.flags in let x = scope_slot s i in let y = track_slot t i in
        let m = slot_set t.set.numbers p x.extent (given t s i) (given_l t s i) (given t s i) (given_l t s i) i y
        k.pairs k.slot k.at in
        let tracker : image_tracker v (t₁ t s i)
        ≡ with_tracker (image_tracker v t) (set (grid_slots (image_ends v) t.set.slots) i
        (set_slot L p x.extent (given_l t s i) (given_l t s i) (ends y))) =
        ap (with_tracker (image_tracker v t)) (set_map ends t.set.slots i _
        ∙ ap (set (grid_slots (image_ends v) t.set.slots) i) m.1) in
        let scope : image_set v (s₁ t s i)
        ≡ with_slots (image_set v s) (set (grid_slots v s.slots) i
        (record { owned = false; extent = x.extent; held = v x.extent x.held })) =
        ap (with_slots (image_set v s)) (set_map (image_slot v) s.slots i _) in
        rw (scope_same s i, track_same t i, k.owned, ← tracker, ← scope) record {
          fit = ih.fit;
          fits = ih.fits;
          answer = (None, refl, refl);
          tracker = ih.tracker;
          scope = ih.scope;
          logs = join_logs f g (λ j. eqb i j) (λ j. (scope_slot (s₁ t s i) j).owned) (λ j. (scope_slot s j).owned) _ _ _ _
              (λ j z. rw (← eqb-true i j z) (left t s i s.slots i _ refl))
              (λ j z. (ne_eqb i j (λ h. true≢false (sym k.owned ∙ ap (λ (h : ℕ). (scope_slot s h).owned) h ∙ z)), fewer t s i j z))
              (slot_log t.set.numbers p x.extent (given t s i) (given_l t s i) (given t s i) (given_l t s i) i y k.pairs k.slot
              k.at t.mask) ih.logs;
        }

    skip_one : (i : ℕ) (is : List ℕ) (t : Tracker K.Held) (s : Set K.Held) → (scope_slot s i).owned ≡ false
        → Owned is t s → Owned (i ∷ is) t s
    skip_one i is t s e ih =
        rw (scope_same s i, e) record
        { fit = ih.fit; fits = ih.fits; answer = (None, refl, refl); tracker = ih.tracker; scope = ih.scope; logs = ih.logs }

    pub sparse_set : (t : Tracker K.Held) (s : Set K.Held) (is : List ℕ) → SetFits FitE t.set → SetFits Fit s
        → MatchesB any (set_and_remove_sparse K t s is) (set_and_remove_sparse L (image_tracker v t) (image_set v s) is)
    sparse_set t s is w y =
        rw (extents_image (image_ends v) t.set.slots, extents_image v s.slots)
        (unless_by₂ (MatchesB any) (sparse_refusal (head_of t.set) (head_of s) is)
        (λ r. record { fit = w; fits = y; answer = (Some r, refl, refl); tracker = refl; scope = refl; logs = no_logs f g any }) λ e.
        let m = each_listed Owned
        (λ t s w y. record {
          fit = w;
          fits = y;
          answer = (None, refl, refl);
          tracker = refl;
          scope = refl;
          logs = no_logs f g (λ j. (scope_slot s j).owned);
        }) take_one skip_one t s is w y e in
        record {
          fit = m.fit;
          fits = m.fits;
          answer = m.answer;
          tracker = m.tracker;
          scope = m.scope;
          logs = all_indices f g m.logs;
        })
