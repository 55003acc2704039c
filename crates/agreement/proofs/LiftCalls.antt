-- From one texture to any list of calls on any sets, for any two representations.
use Rattle.model.specs.Prelude.{ℕ, arith, refl, ap, ◌∙◌, true, Option, None, Some, option_map, List, [], map, eqb, length, set, slice_get}
use Rattle.model.specs.{declared.{Extent.Extent, Refusal.Refusal, UsageFlags.UsageFlags}, Base.{each, All, AllO}}
use Rattle.model.specs.{Representation.{Representation, Ends}, Sets.{Set, Tracker, Opening, open_set, open_tracker}, Refusals.opens}
use Rattle.model.specs.Calls.{Answer, CallResult, Call, call_merge_single, call_merge_usage_scope, call_set_single}
use Rattle.model.specs.Calls.{call_set_from_usage_scope, call_set_from_tracker, call_set_and_remove_sparse, Sets, step, newly, into}
use Rattle.model.specs.{Calls.{with_scopes, with_trackers, nothing, with₁, with₂, set_and_remove_sparse}, StateRules.Move}
use Rattle.model.specs.{BoolLaws.by_test₂, ListLaws.{all_set, all_elem, elem_map, set_map}}
use Rattle.std.specs.Prelude.{◌≤◌, ◌≡◌, ◌∷◌, ◌++◌, if◌then◌else◌}
use Rattle.agreement.specs.{Shared.{after_calls, of_index}, Fits.SetFits}
use Rattle.agreement.proofs.SlotLaws.{image_set, image_ends, image_tracker, open_image, open_fits}
use Rattle.agreement.proofs.LiftScope.{Textures, Matches, map_answer, single_sim, scope_sim}
use Rattle.agreement.proofs.LiftTracker.{Tracks, MatchesT, plain, single_set, from_set, sparse_set}

-- what is asked of the states that a merge and that a tracker call are given
abbrev pub Words : (ℕ → Type 0) → (ℕ → Type 0) → Call → Type 0
Words W N (call_merge_single n i sh sel st) = W st
Words W N (call_merge_usage_scope n m) = Unit {0}
Words W N (call_set_single n i sh sel st) = N st
Words W N (call_set_from_usage_scope n m) = Unit {0}
Words W N (call_set_from_tracker n m) = Unit {0}
Words W N (call_set_and_remove_sparse n m is) = Unit {0}

-- what the openings that are not refused make, and what becomes of it
new_sets : {A B : Type 0} (P : A → Type 0) (F : A → B) (a : Opening → A) (b : Opening → B)
    → ((o : Opening) → opens o ≡ true → P (a o) × (F (a o) ≡ b o)) → (os : List Opening)
    → All P (each (λ o. if opens o then a o ∷ [] else []) os)
    × (map F (each (λ o. if opens o then a o ∷ [] else []) os) ≡ each (λ o. if opens o then b o ∷ [] else []) os)
new_sets P F a b h [] = (tt, refl)
new_sets {A} {B} P F a b h (o ∷ os) =
    let ih = new_sets P F a b h os in
    by_test₂ (λ (x : List A) (y : List B). All P (x ++ each (λ o. if opens o then a o ∷ [] else []) os)
    × (map F (x ++ each (λ o. if opens o then a o ∷ [] else []) os) ≡ y ++ each (λ o. if opens o then b o ∷ [] else []) os)) (opens o)
    (λ e. let m = h o e in ((m.0, ih.0), rw (m.1, ih.1))) (λ e. ih)

module _ (K L : Representation) (v : Extent → K.Held → L.Held) (cl : K.Conflict → L.Conflict) (W N : ℕ → Type 0)
    (Fit : UsageFlags → Extent → K.Held → Type 0) (FitE : UsageFlags → Extent → Ends K.Held → Type 0)
    (Gives : UsageFlags → Extent → K.Given → L.Given → Type 0) (Pairs : UsageFlags → Extent → K.Given → L.Given
    → K.Given → L.Given → Type 0)
    (f : ℕ → ℕ → K.Log → List Move) (g : ℕ → ℕ → L.Log → List Move) where
  abbrev GoodTracker : Tracker K.Held → Type 0
  GoodTracker t = SetFits FitE t.set

  abbrev pub image_sets : Sets K → Sets L
  image_sets k = record { scopes = map (image_set v) k.scopes; trackers = map (image_tracker v) k.trackers }

  abbrev pub Good : Sets K → Type 0
  Good k = All (SetFits Fit) k.scopes × All GoodTracker k.trackers

  abbrev ResultK : Type 0
  ResultK = CallResult K.Conflict K.Log (Sets K)

  abbrev ResultL : Type 0
  ResultL = CallResult L.Conflict L.Log (Sets L)

  pub record Stepped (r : ResultK) (u : ResultL) : Type 0 where
    pub good : Good r.after
    pub after : image_sets r.after ≡ u.after
    pub answer : map_answer cl r.answer ≡ u.answer
    pub moves : (i m l : ℕ) → of_index i (f m l) r.log ≡ of_index i (g m l) u.log
    pub once : (i m l : ℕ) → length (of_index i (f m l) r.log) ≤ 1

  module _ (X : Textures K L v cl W Fit Gives) (T : Tracks K L v N Fit FitE Pairs f g) where
    -- a call that is none
    idle : (k : Sets K) → Good k → Stepped (nothing K k) (nothing L (image_sets k))
    idle k t = record { good = t; after = refl; answer = refl; moves = λ i m l. refl; once = λ i m l. omega arith }

    -- a call's result put back among the sets
    put_scope_lem : (k : Sets K) (n : ℕ) (r : CallResult K.Conflict K.Log (Set K.Held)) (u : CallResult L.Conflict
        L.Log (Set L.Held)) → Good k
        → Matches K L v cl W Fit Gives r u
        → Stepped (into K r (λ x. with_scopes K k (set k.scopes n x))) (into L u
        (λ x. with_scopes L (image_sets k) (set (map (image_set v) k.scopes) n x)))
    put_scope_lem k n r u t m = record {
      good = (all_set (SetFits Fit) k.scopes n r.after m.fit t.0, t.1);
      after = ap (with_scopes L (image_sets k)) (set_map (image_set v) k.scopes n r.after
          ∙ ap (set (map (image_set v) k.scopes) n) m.after);
      answer = m.answer;
      moves = λ i j l. rw (m.quiet.0, m.quiet.1);
      once = λ i j l. rw m.quiet.0 (omega arith);
    }

    plain_answer : (a : Answer K.Conflict) (b : Answer L.Conflict)
        → (o : Option Refusal) × (a ≡ plain o) × (b ≡ plain o) → map_answer cl a ≡ b
    plain_answer a b m = rw (m.1, m.2) (go m.0)
      where
        go : (o : Option Refusal) → map_answer cl (plain o) ≡ plain o
        go None = refl
        go (Some r) = refl

    put_tracker_lem : (k : Sets K) (n : ℕ) (r : CallResult K.Conflict K.Log (Tracker K.Held)) (u : CallResult L.Conflict
        L.Log (Tracker L.Held)) → Good k
        → MatchesT K L v N Fit FitE Pairs f g (λ j. true) r u
        → Stepped (into K r (λ x. with_trackers K k (set k.trackers n x))) (into L u
        (λ x. with_trackers L (image_sets k) (set (map (image_tracker v) k.trackers) n x)))
    put_tracker_lem k n r u t m = record {
      good = (t.0, all_set GoodTracker k.trackers n r.after m.fit t.1);
      after = ap (with_trackers L (image_sets k)) (set_map (image_tracker v) k.trackers n r.after
          ∙ ap (set (map (image_tracker v) k.trackers) n) m.after);
      answer = plain_answer r.answer u.answer m.answer;
      moves = m.logs.same;
      once = m.logs.once;
    }

    put_both : (k : Sets K) (n m : ℕ) (t : Tracker K.Held) (s : Set K.Held) (is : List ℕ) → Good k → GoodTracker t → SetFits Fit s
        → Stepped (into K (set_and_remove_sparse K t s is)
        (λ x. record { scopes = set k.scopes m x.1; trackers = set k.trackers n x.0 }))
        (into L (set_and_remove_sparse L (image_tracker v t) (image_set v s) is)
        (λ x. record {
          scopes = set (map (image_set v) k.scopes) m x.1;
          trackers = set (map (image_tracker v) k.trackers) n x.0;
        }))
    put_both k n m t s is ok w y =
        let b = sparse_set K L v N Fit FitE Pairs f g T t s is w y in let r = set_and_remove_sparse K t s is in
        record {
          good = (all_set (SetFits Fit) k.scopes m _ b.fits ok.0, all_set GoodTracker k.trackers n _ b.fit ok.1);
          after = λ i. record {
            scopes = (set_map (image_set v) k.scopes m r.after.1 ∙ ap (set (map (image_set v) k.scopes) m) b.scope) i;
            trackers = (set_map (image_tracker v) k.trackers n r.after.0
                ∙ ap (set (map (image_tracker v) k.trackers) n) b.tracker) i;
          };
          answer = plain_answer r.answer (set_and_remove_sparse L (image_tracker v t) (image_set v s) is).answer b.answer;
          moves = b.logs.same;
          once = b.logs.once;
        }

    -- with one set, and with two
    with_one : {A B : Type 0} (P : A → Type 0) (F : A → B) (k : Sets K) (l : List A) (n : ℕ) (r : A → ResultK) (u : B → ResultL) → Good k
        → All P l
        → ((x : A) → P x → Stepped (r x) (u (F x)))
        → Stepped (with₁ K k (slice_get l n) r) (with₁ L (image_sets k) (slice_get (map F l) n) u)
    with_one {A} P F k l n r u t w h = rw (elem_map F l n) (go (slice_get l n) (all_elem P l n w))
      where
        go : (o : Option A) → AllO P o → Stepped (with₁ K k o r) (with₁ L (image_sets k) (option_map F o) u)
        go None p = idle k t
        go (Some x) p = h x p

    with_two : {A B C D : Type 0} (P : A → Type 0) (Q : C → Type 0) (F : A → B) (G : C → D) (k : Sets K) (l : List A)
        (n : ℕ) (l' : List C) (n' : ℕ)
        (r : A → C → ResultK) (u : B → D → ResultL) → Good k → All P l → All Q l'
        → ((x : A) (y : C) → P x → Q y → Stepped (r x y) (u (F x) (G y)))
        → Stepped (with₂ K k (slice_get l n) (slice_get l' n') r) (with₂ L (image_sets k)
        (slice_get (map F l) n) (slice_get (map G l') n') u)
    with_two {A} {B} {C} {D} P Q F G k l n l' n' r u t w w' h =
        rw (elem_map F l n, elem_map G l' n') (go (slice_get l n) (slice_get l' n') (all_elem P l n w) (all_elem Q l' n' w'))
      where
        go : (o : Option A) (o' : Option C) → AllO P o → AllO Q o'
            → Stepped (with₂ K k o o' r) (with₂ L (image_sets k) (option_map F o) (option_map G o') u)
        go None o' p q = idle k t
        go (Some x) None p q = idle k t
        go (Some x) (Some y) p q = h x y p q

    pub stepped : (c : Call) (k : Sets K) → Words W N c → Good k → Stepped (step K c k) (step L c (image_sets k))
    unfolding step
    stepped (call_merge_single n i sh sel st) k word ok =
        with_one (SetFits Fit) (image_set v) k k.scopes n _ _ ok ok.0
        (λ s w. put_scope_lem k n _ _ ok (single_sim K L v cl W Fit Gives X s i.0 sh sel st word w))
    stepped (call_merge_usage_scope n m) k word ok =
        by_test₂ Stepped (eqb n m) (λ e. idle k ok)
        (λ e. with_two (SetFits Fit) (SetFits Fit) (image_set v) (image_set v) k k.scopes n k.scopes m _ _ ok ok.0 ok.0
        (λ s x w y. put_scope_lem k n _ _ ok (scope_sim K L v cl W Fit Gives X s x w y)))
    stepped (call_set_single n i sh sel st) k word ok =
        with_one GoodTracker (image_tracker v) k k.trackers n _ _ ok ok.1
        (λ t w. put_tracker_lem k n _ _ ok (single_set K L v N Fit FitE Pairs f g T t i.0 sh sel st word w))
    stepped (call_set_from_usage_scope n m) k word ok =
        with_two GoodTracker (SetFits Fit) (image_tracker v) (image_set v) k k.trackers n k.scopes m _ _ ok ok.1 ok.0
        (λ t s w y. put_tracker_lem k n _ _ ok (from_set K L v N Fit FitE Pairs f g T v Fit K.pass K.pass L.pass
        L.pass T.passed_on t s w y))
    stepped (call_set_from_tracker n m) k word ok =
        by_test₂ Stepped (eqb n m) (λ e. idle k ok)
        (λ e. with_two GoodTracker GoodTracker (image_tracker v) (image_tracker v) k k.trackers n k.trackers m _ _ ok ok.1 ok.1
        (λ t s w y. put_tracker_lem k n _ _ ok (from_set K L v N Fit FitE Pairs f g T (image_ends v) FitE (λ (e : Ends K.Held).
        K.pass e.start) (λ (e : Ends K.Held). K.pass e.end)
        (λ (e : Ends L.Held). L.pass e.start) (λ (e : Ends L.Held). L.pass e.end) T.joined t s.set w y)))
    stepped (call_set_and_remove_sparse n m is) k word ok =
        with_two GoodTracker (SetFits Fit) (image_tracker v) (image_set v) k k.trackers n k.scopes m _ _ ok ok.1 ok.0
        (λ t s w y. put_both k n m t s is ok w y)

    -- newly opened
    pub opened : (os ts : List Opening) → Good (newly K os ts) × (image_sets (newly K os ts) ≡ newly L os ts)
    unfolding newly
    opened os ts =
        let a = new_sets (SetFits Fit) (image_set v) (open_set K.fresh) (open_set L.fresh)
        (λ o e. (open_fits Fit K.fresh o e, open_image v K.fresh L.fresh X.fresh o)) os in
        let b = new_sets GoodTracker (image_tracker v) (open_tracker K.fresh) (open_tracker L.fresh) (λ o e. (
          open_fits FitE (λ n. record { start = K.fresh n; end = K.fresh n }) o e,
          ap (λ (s : Set (Ends L.Held)). record { mask = o.mask; set = s })
              (open_image (image_ends v) (λ n. record { start = K.fresh n; end = K.fresh n })
              (λ n. record { start = L.fresh n; end = L.fresh n }) (λ n i. record { start = X.fresh n i; end = X.fresh n i }) o),
        )) ts in
        ((a.0, b.0), λ i. record { scopes = a.1 i; trackers = b.1 i })

    pub runs : (cs : List Call) (k : Sets K) → All (Words W N) cs → Good k
        → Good (after_calls K cs k) × (image_sets (after_calls K cs k) ≡ after_calls L cs (image_sets k))
    runs [] k w ok = (ok, refl)
    runs (c ∷ cs) k w ok =
        let m = stepped c k w.0 ok in let r = runs cs (step K c k).after w.1 m.good in
        (r.0, r.1 ∙ ap (after_calls L cs) m.after)

    -- every list of calls, from newly opened sets
    pub ran : (os ts : List Opening) (cs : List Call) → All (Words W N) cs
        → Good (after_calls K cs (newly K os ts)) × (image_sets (after_calls K cs (newly K os ts)) ≡ after_calls L cs (newly L os ts))
    ran os ts cs w = let o = opened os ts in let r = runs cs (newly K os ts) w o.0 in (r.0, r.1 ∙ ap (after_calls L cs) o.1)
