-- The merge itself: an entry that moves, what is merged so far, and the loop's invariant with its turns and its ends.
use Rattle.std.specs.Prelude.{◌+◌, ◌-◌, ◌*◌, ◌%◌, ◌≤◌, ◌<◌, ◌≡◌, ◌∷◌, ◌++◌}
use Rattle.model.specs.Prelude.{ℕ, arith, refl, sym, ap, ◌∙◌, List, []}
use Rattle.model.specs.Prelude.{append_assoc, append-nil, length, drop, get_or, length-append, length-drop, drop-cons}
use Rattle.model.specs.{declared.PendingTransition.PendingTransition, BoolLaws.by_lt}
use Rattle.texture_barrier.specs.Entries.{entries_of, entries_long, blank_entry, Added, PutEntry, get_entry_is, entries_drop}
use Rattle.texture_barrier.specs.Written.{Written, written_none, written_one, written_then, written_added}
use Rattle.log_merge.specs.Merge.{index_of, Merge, put, merge, merge_of}
use Rattle.log_merge.specs.{MergeLaws.{merge_second, merge_first, merge_no_first, merge_no_second}, Calls.rest_from}
use Rattle.log_merge.specs.Weaves.{Weavable, Weaves}
use Rattle.log_merge.specs.declared.Rest.TheVariants.{First, Second}
use Rattle.log_merge.proofs.Needing.{no_entries}

-- ---- The first entry of a log
-- it, and those behind it
entries_next : (a : List ℕ) → 7 ≤ length a → entries_of a ≡ get_or (entries_of a) 0 blank_entry ∷ entries_of (drop 7 a)
entries_next a h =
    drop-cons (entries_of a) 0 blank_entry (rw (entries_long a) (omega arith))
    ∙ ap (λ (t : List PendingTransition). get_or (entries_of a) 0 blank_entry ∷ t) (sym (entries_drop a 1 (omega arith)))

-- its index, as the code reads it
index_is : (a : List ℕ) → 7 ≤ length a → get_or a 0 0 ≡ index_of (get_or (entries_of a) 0 blank_entry)
index_is a h = ap index_of (get_entry_is a 0 h)

-- ---- A step of a merge of s and t, which begin with a and b
module _ {s t : List PendingTransition} {a b : PendingTransition} {s' t' : List PendingTransition} (p : s ≡ a ∷ s') (q : t ≡ b ∷ t') where
  second_goes : index_of b < index_of a → merge s t ≡ put b (merge s t')
  second_goes h = rw (p, q) (merge_second a s' b t' h)

  first_goes : index_of a ≤ index_of b → merge s t ≡ put a (merge s' t)
  first_goes h = rw (p, q) (merge_first a s' b t' h)

  some_merged : 1 ≤ length (merge s t).merged
  some_merged = by_lt (index_of b) (index_of a) (λ h. rw (second_goes h) (omega arith)) (λ h. rw (first_goes h) (omega arith))

-- ---- What is merged so far
-- the entries `done` are written, and the merge of what is left of the two logs, a and b, gives the others
pub record Woven (a₀ b₀ l₀ : List ℕ) (at : ℕ) (a b : List ℕ) (done : List PendingTransition) (l : List ℕ) : Type 0 where
  pub written : Written l₀ at done l
  pub merged : (merge_of a₀ b₀).merged ≡ done ++ (merge_of a b).merged
  pub first : (merge_of a₀ b₀).first ≡ (merge_of a b).first
  pub second : (merge_of a₀ b₀).second ≡ (merge_of a b).second

woven_start : (a b l : List ℕ) (at : ℕ) → Woven a b l at a b [] l
woven_start a b l at = record { written = written_none l at; merged = refl; first = refl; second = refl }

module _ {a₀ b₀ l₀ : List ℕ} {at : ℕ} {a b : List ℕ} {done : List PendingTransition} {l : List ℕ} (w : Woven a₀ b₀ l₀ at a b done l)
    (room : 7 * (at + length (merge_of a₀ b₀).merged) ≤ length l₀) where
  -- the next entry is e, and the merge goes on with a' and b'
  woven_on : (e : PendingTransition) (a' b' : List ℕ) {l' : List ℕ} → merge_of a b ≡ put e (merge_of a' b')
      → Written l (at + length done) (e ∷ []) l' → Woven a₀ b₀ l₀ at a' b' (done ++ (e ∷ [])) l'
  woven_on e a' b' {l'} z u =
      let m = merge_of a' b' in
      let c : (merge_of a₀ b₀).merged ≡ (done ++ (e ∷ [])) ++ m.merged =
      w.merged ∙ ap (λ (x : Merge). done ++ x.merged) z ∙ sym (append_assoc done (e ∷ []) m.merged) in
      let n : length (merge_of a₀ b₀).merged ≡ length (done ++ (e ∷ [])) + length m.merged =
      ap length c ∙ length-append (done ++ (e ∷ [])) m.merged in
      record {
        written = written_then (omega arith) w.written u;
        merged = c;
        first = w.first ∙ ap (λ (x : Merge). x.first) z;
        second = w.second ∙ ap (λ (x : Merge). x.second) z;
      }

-- ---- The loop
-- a and b are left of the two logs, each with an entry, whose indices are x and y
pub record Weaving (a₀ b₀ l₀ : List ℕ) (at k : ℕ) (a b : List ℕ) (x y : ℕ) (l : List ℕ) : Type 0 where
  pub fits : Weavable a₀ b₀ l₀ at
  pub done : List PendingTransition
  pub third_at : k ≡ at + length done
  pub first_whole : length a % 7 ≡ 0
  pub second_whole : length b % 7 ≡ 0
  pub first_left : (0 < length a) × (length a ≤ length a₀)
  pub second_left : (0 < length b) × (length b ≤ length b₀)
  pub first_index : x ≡ get_or a 0 0
  pub second_index : y ≡ get_or b 0 0
  pub woven : Woven a₀ b₀ l₀ at a b done l
  pub long : length l ≡ length l₀

pub weaving_start : (a b l : List ℕ) (at : ℕ) → (0 < length a) × (0 < length b) → Weavable a b l at
    → Weaving a b l at at a b (get_or a 0 0) (get_or b 0 0) l
weaving_start a b l at h f = record {
  fits = f;
  done = [];
  third_at = omega arith;
  first_whole = f.first;
  second_whole = f.second;
  first_left = (h.0, omega arith);
  second_left = (h.1, omega arith);
  first_index = refl;
  second_index = refl;
  woven = woven_start a b l at;
  long = refl;
}

some_left : (s t : List PendingTransition) (a b : List ℕ) → 0 < length s → rest_from s t a b ≡ First (length a - 7 * length s)
some_left [] t a b h = absurd (omega arith)
some_left (e ∷ s) t a b h = refl

module _ {a₀ b₀ l₀ : List ℕ} {at k : ℕ} {a b : List ℕ} {x y : ℕ} {l : List ℕ} (s : Weaving a₀ b₀ l₀ at k a b x y l) where
  abbrev A : PendingTransition
  A = get_or (entries_of a) 0 blank_entry

  abbrev B : PendingTransition
  B = get_or (entries_of b) 0 blank_entry

  pub first_seven : 7 ≤ length a
  first_seven = omega (arith, s.first_whole, s.first_left.0)

  pub second_seven : 7 ≤ length b
  second_seven = omega (arith, s.second_whole, s.second_left.0)

  -- there is room for one
  pub third_room : 7 * k + 7 ≤ length l
  third_room =
      let m = some_merged (entries_next a first_seven) (entries_next b second_seven) in
      let c : length (merge_of a₀ b₀).merged ≡ length s.done + length (merge_of a b).merged =
      ap length s.woven.merged ∙ length-append s.done _ in
      omega (arith, s.third_at, s.fits.room, s.long)

  -- ---- the second's entry goes
  module _ {l' : List ℕ} {e : PendingTransition} (h : y < x) (v : e ≡ B) (u : PutEntry l k e l') where
    second_woven : Woven a₀ b₀ l₀ at a (drop 7 b) (s.done ++ (B ∷ [])) l'
    second_woven =
        let i : index_of B < index_of A =
        omega (arith, s.first_index, s.second_index, index_is a first_seven, index_is b second_seven) in
        woven_on s.woven s.fits.room B a (drop 7 b) (second_goes (entries_next a first_seven) (entries_next b second_seven) i)
        (rw (← s.third_at, ← v) (written_one u))

    pub second_turn : (0 < length (drop 7 b)) → Weaving a₀ b₀ l₀ at (k + 1) a (drop 7 b) x (get_or (drop 7 b) 0 0) l'
    second_turn f =
        let n = length-drop 7 b in record {
          fits = s.fits;
          done = s.done ++ (B ∷ []);
          third_at = omega (arith, s.third_at, length-append s.done (B ∷ []));
          first_whole = s.first_whole;
          second_whole = omega (arith, n, s.second_whole, second_seven);
          first_left = s.first_left;
          second_left = (f, omega (arith, n, s.second_left.1));
          first_index = s.first_index;
          second_index = refl;
          woven = second_woven;
          long = u.long ∙ s.long;
        }

    pub second_end : length (drop 7 b) ≡ 0 → Weaves a₀ b₀ l₀ at (First (length a₀ - length a)) l'
    second_end f =
        let z : merge_of a (drop 7 b) ≡ record { merged = []; first = entries_of a; second = [] } =
        rw (no_entries (drop 7 b) (omega arith)) (merge_no_second (entries_of a)) in
        let c : (merge_of a₀ b₀).merged ≡ s.done ++ (B ∷ []) =
        second_woven.merged ∙ ap (λ (o : Merge). (s.done ++ (B ∷ [])) ++ o.merged) z ∙ append-nil (s.done ++ (B ∷ [])) in
        let r : (merge_of a₀ b₀).first ≡ entries_of a = second_woven.first ∙ ap (λ (o : Merge). o.first) z in
        let n : 7 * length (entries_of a) ≡ length a = rw (entries_long a) (omega (arith, s.first_whole)) in
        let o = some_left (entries_of a) (merge_of a₀ b₀).second a₀ b₀ (omega (arith, n, s.first_left.0)) in
        record {
          added = rw c (written_added (rw (← c) s.fits.room) second_woven.written);
          rest = rw (r, o, n);
        }

  -- ---- the first's entry goes
  module _ {l' : List ℕ} {e : PendingTransition} (h : x ≤ y) (v : e ≡ A) (u : PutEntry l k e l') where
    first_woven : Woven a₀ b₀ l₀ at (drop 7 a) b (s.done ++ (A ∷ [])) l'
    first_woven =
        let i : index_of A ≤ index_of B =
        omega (arith, s.first_index, s.second_index, index_is a first_seven, index_is b second_seven) in
        woven_on s.woven s.fits.room A (drop 7 a) b (first_goes (entries_next a first_seven) (entries_next b second_seven) i)
        (rw (← s.third_at, ← v) (written_one u))

    pub first_turn : (0 < length (drop 7 a)) → Weaving a₀ b₀ l₀ at (k + 1) (drop 7 a) b (get_or (drop 7 a) 0 0) y l'
    first_turn f =
        let n = length-drop 7 a in record {
          fits = s.fits;
          done = s.done ++ (A ∷ []);
          third_at = omega (arith, s.third_at, length-append s.done (A ∷ []));
          first_whole = omega (arith, n, s.first_whole, first_seven);
          second_whole = s.second_whole;
          first_left = (f, omega (arith, n, s.first_left.1));
          second_left = s.second_left;
          first_index = refl;
          second_index = s.second_index;
          woven = first_woven;
          long = u.long ∙ s.long;
        }

    pub first_end : length (drop 7 a) ≡ 0 → Weaves a₀ b₀ l₀ at (Second (length b₀ - length b)) l'
    first_end f =
        let z : merge_of (drop 7 a) b ≡ record { merged = []; first = []; second = entries_of b } =
        rw (no_entries (drop 7 a) (omega arith)) (merge_no_first (entries_of b)) in
        let c : (merge_of a₀ b₀).merged ≡ s.done ++ (A ∷ []) =
        first_woven.merged ∙ ap (λ (o : Merge). (s.done ++ (A ∷ [])) ++ o.merged) z ∙ append-nil (s.done ++ (A ∷ [])) in
        let r : (merge_of a₀ b₀).first ≡ [] = first_woven.first ∙ ap (λ (o : Merge). o.first) z in
        let t : (merge_of a₀ b₀).second ≡ entries_of b = first_woven.second ∙ ap (λ (o : Merge). o.second) z in
        let n : 7 * length (entries_of b) ≡ length b = rw (entries_long b) (omega (arith, s.second_whole)) in
        record {
          added = rw c (written_added (rw (← c) s.fits.room) first_woven.written);
          rest = rw (r, t, n);
        }

-- ---- One log is empty: nothing is merged
nothing_added : {new : List PendingTransition} (l : List ℕ) (at : ℕ) → new ≡ [] → 7 * (at + length new) ≤ length l → Added l at new l
nothing_added l at e h = rw e (written_added (rw e at h) (written_none l at))

module _ {a b l : List ℕ} {at : ℕ} (f : Weavable a b l at) where
  pub first_empty : length a ≡ 0 → Weaves a b l at (Second 0) l
  first_empty h =
      let z : merge_of a b ≡ record { merged = []; first = []; second = entries_of b } =
      rw (no_entries a (omega arith)) (merge_no_first (entries_of b)) in
      let o : length b - 7 * length (entries_of b) ≡ 0 = rw (entries_long b) (omega (arith, f.second)) in
      record { added = nothing_added l at (ap (λ (m : Merge). m.merged) z) f.room; rest = rw (z, o) }

  pub second_empty : (length a ≡ 0 → ⊥) → length b ≡ 0 → Weaves a b l at (First 0) l
  second_empty k h =
      let z : merge_of a b ≡ record { merged = []; first = entries_of a; second = [] } =
      rw (no_entries b (omega arith)) (merge_no_second (entries_of a)) in
      let r = some_left (entries_of a) [] a b (rw (entries_long a) (omega (arith, f.first))) in
      let o : length a - 7 * length (entries_of a) ≡ 0 = rw (entries_long a) (omega (arith, f.first)) in
      record { added = nothing_added l at (ap (λ (m : Merge). m.merged) z) f.room; rest = rw (z, r, o) }
