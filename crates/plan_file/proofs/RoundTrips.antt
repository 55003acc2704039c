-- The round trips: an accepted file read and written is the same bytes, an accepted list written and read is the same events.
use Rattle.std.specs.Prelude.{◌+◌, ◌-◌, ◌<◌, ◌≤◌, ◌≡◌, ◌∷◌, ◌++◌}
use Rattle.model.specs.Prelude.{ℕ, zero, suc, refl, ap, sym, subst, ◌∙◌, false, List, [], append_assoc}
use Rattle.model.specs.Prelude.{append-nil, arith, length, take, drop, length-take, length-drop, length-append, take-append-drop, take_at}
use Rattle.model.specs.Prelude.{drop_at, length-take-le, eqb, le-ltb, eq-eqb, eqb-true, eqb-false}
use Rattle.model.specs.BoolLaws.{by_test}
use Rattle.plan_file.specs.Plan.{Event, opened, used, closed, other, Read, took, no, tag_of, length_of, size_of, content, cut_short}
use Rattle.plan_file.specs.Plan.{as_use, around, after, field, fields, run, read_plan}
use Rattle.plan_file.specs.Bytes.{Bytes, bytes_take, bytes_drop, number_back, number_there}
use Rattle.plan_file.specs.Wide.{Wide}
use Rattle.plan_file.proofs.ReadingLaws.{uncut, run_step, field_use, field_group}
use Rattle.plan_file.specs.Write.{levels, deepest, head, on_top, push, shut, written, top, widest, wrote, write_plan}
use Rattle.plan_file.specs.Levels.{level_closed, level_tail, level_deep, levels_length, passed}

-- ---- A file read and written
-- a list of events that may follow fields, where d groups may still be nested
record Behind (d : ℕ) (es : List Event) : Type 0 where
  pub level : levels es + d ≡ 9
  pub some : 1 ≤ levels es
  pub deep : deepest es ≤ 9
  pub width : widest es ≤ 65535

-- what is read from s, written, is s
abbrev Same : List ℕ → ℕ → Read → Type 0
Same s d (no c) = Unit
Same s d (took a) = (es : List Event) → Behind d es → Behind d (a ++ es) × (written (a ++ es) ≡ on_top s (written es))

top_top : (x y : List ℕ) (st : List (List ℕ)) → on_top x (on_top y st) ≡ on_top (x ++ y) st
top_top x y [] = refl
top_top x y (g ∷ gs) = ap (λ (z : List ℕ). z ∷ gs) (sym (append_assoc x y g))

top_none : (st : List (List ℕ)) → on_top [] st ≡ st
top_none [] = refl
top_none (g ∷ gs) = refl

same_after : (d : ℕ) (s t : List ℕ) (a b : Read) → Same s d a → Same t d b → Same (s ++ t) d (after a b)
same_after d s t (took x) (took y) p q = λ es h.
    let v = q es h in
    let w = p (y ++ es) v.0 in (
      subst (Behind d) (sym (append_assoc x y es)) w.0,
      ap written (append_assoc x y es) ∙ w.1
          ∙ ap (on_top s) v.1 ∙ top_top s t (written es),
    )
same_after d s t (took x) (no c) p q = tt
same_after d s t (no c) b p q = tt

-- a use, written
same_use : (d : ℕ) (p : List ℕ) → Same (head 2 15 ++ p) d (took (used p ∷ []))
unfolding levels deepest widest written
same_use d p es h = (
  record {
    level = h.level;
    some = h.some;
    deep = omega (arith, h.deep, level_deep es);
    width = h.width;
  },
  refl,
)

-- a group, written
same_group : (d : ℕ) (s : List ℕ) (a : Read) → (d ≡ 0 → ⊥) → length s ≤ 65535 → Same s (d - 1) a
    → Same (head 1 (length s) ++ s) d (around a)
unfolding levels deepest widest written
same_group d s (no r) k n p = tt
same_group d s (took x) k n p = λ es h.
    let more : 0 < d = omega (arith, k) in
    let up : levels (closed ∷ es) ≡ levels es + 1 = level_closed (levels es) h.some in
    let v = p (closed ∷ es) (record {
      level = omega (arith, h.level, up);
      some = omega (arith, up);
      deep = omega (arith, h.level, h.deep, up);
      width = h.width;
    }) in
    let w : written (x ++ (closed ∷ es)) ≡ on_top s (push (written es)) = v.1 in
    let one : levels (x ++ (closed ∷ es)) + (d - 1) ≡ 9 = v.0.level in
    let tops : length (top (written (x ++ (closed ∷ es)))) ≡ length s =
    ap (λ (z : List (List ℕ)). length (top z)) w ∙ inner s (written es) (levels_length es) h.some in
    let whole : written (opened ∷ (x ++ (closed ∷ es))) ≡ on_top (head 1 (length s) ++ s) (written es) = ap shut w ∙ shuts s (written es) in
    let behind : Behind d (opened ∷ (x ++ (closed ∷ es))) = record {
      level = omega (arith, one, h.level, h.some);
      some = omega (arith, one, h.level, h.some);
      deep = omega (arith, one, v.0.deep);
      width = omega (arith, tops, v.0.width);
    } in
    let shape : (opened ∷ (x ++ (closed ∷ []))) ++ es ≡ opened ∷ (x ++ (closed ∷ es)) =
    ap (λ (z : List Event). opened ∷ z) (append_assoc x (closed ∷ []) es) in
    (subst (Behind d) (sym shape) behind, ap written shape ∙ whole)
  where
    inner : (s : List ℕ) (st : List (List ℕ)) {k : ℕ} → length st ≡ k → 1 ≤ k → length (top (on_top s (push st))) ≡ length s
    inner s [] e h = absurd (omega arith)
    inner s (g ∷ gs) e h = ap length (append-nil s)

    shuts : (s : List ℕ) (st : List (List ℕ)) → shut (on_top s (push st)) ≡ on_top (head 1 (length s) ++ s) st
    shuts s [] = refl
    shuts s (g ∷ gs) = ap (λ (z : List ℕ). (head 1 (length z) ++ (z ++ g)) ∷ gs) (append-nil s)

-- the first three bytes of a field are its tag and its length, and what it holds follows
front : (s : List ℕ) → Bytes s → 3 ≤ length s → take (size_of s) s ≡ head (tag_of s) (length_of s) ++ content s
front [] b h = absurd (omega arith)
front (x ∷ []) b h = absurd (omega arith)
front (x ∷ (y ∷ [])) b h = absurd (omega arith)
front (x ∷ (y ∷ (z ∷ s))) b h =
    let n = length_of (x ∷ (y ∷ (z ∷ s))) in
    let e : 3 + n ≡ suc (suc (suc n)) = omega arith in
    ap (λ (m : ℕ). take m (x ∷ (y ∷ (z ∷ s)))) e
    ∙ sym (ap (λ (p : List ℕ). x ∷ (p ++ take n s)) (number_back (y ∷ (z ∷ [])) (b.1.0, (b.1.1.0, tt))))

low_length : (s : List ℕ) → Bytes s → 3 ≤ length s → length_of s ≤ 65535
low_length [] b h = absurd (omega arith)
low_length (x ∷ []) b h = absurd (omega arith)
low_length (x ∷ (y ∷ [])) b h = absurd (omega arith)
low_length (x ∷ (y ∷ (z ∷ s))) b h = omega (arith, b.1.0, b.1.1.0)

same_field : (i : Read) (d : ℕ) (s : List ℕ) → Bytes s → Same (content s) (d - 1) i → Same (take (size_of s) s) d (field i d s)
unfolding field
same_field i d s b p =
    by_test (Same (take (size_of s) s) d) (cut_short s) (λ _. tt) (λ e.
    by_test (Same (take (size_of s) s) d) (eqb (tag_of s) 2)
    (λ t. by_test (Same (take (size_of s) s) d) (eqb (length (content s)) 15)
    (λ n. a_use_lem (uncut s e) (eqb-true (tag_of s) 2 t) (eqb-true (length (content s)) 15 n)) (λ _. tt))
    (λ _. by_test (Same (take (size_of s) s) d) (eqb (tag_of s) 1)
    (λ t. by_test (Same (take (size_of s) s) d) (eqb d 0) (λ _. tt) (λ k. a_group (uncut s e) (eqb-true (tag_of s) 1 t) (eqb-false d 0 k)))
    (λ _. tt)))
  where
    long : (3 ≤ length s) × (length_of s ≤ length s - 3) → length (content s) ≡ length_of s
    long u = length-take-le (length_of s) (drop 3 s) (omega (arith, u.1, length-drop 3 s))

    a_use_lem : (3 ≤ length s) × (length_of s ≤ length s - 3) → tag_of s ≡ 2 → length (content s) ≡ 15
        → Same (take (size_of s) s) d (took (used (content s) ∷ []))
    a_use_lem u t n =
        subst (λ (z : List ℕ). Same z d (took (used (content s) ∷ [])))
        (sym (front s b u.0 ∙ ap (λ (k : ℕ). head k (length_of s) ++ content s) t
        ∙ ap (λ (k : ℕ). head 2 k ++ content s) (sym (long u) ∙ n))) (same_use d (content s))

    a_group : (3 ≤ length s) × (length_of s ≤ length s - 3) → tag_of s ≡ 1 → (d ≡ 0 → ⊥) → Same (take (size_of s) s) d (around i)
    a_group u t k =
        subst (λ (z : List ℕ). Same z d (around i))
        (sym (front s b u.0 ∙ ap (λ (k : ℕ). head k (length_of s) ++ content s) t ∙ ap (λ (k : ℕ). head 1 k ++ content s) (sym (long u))))
        (same_group d (content s) i k (omega (arith, long u, low_length s b u.0)) p)

same_fields : (n d : ℕ) (s : List ℕ) → length s ≤ n → Bytes s → Same s d (fields n d s)
unfolding fields
same_fields zero d [] h b = λ es q. (q, sym (top_none (written es)))
same_fields zero d (x ∷ s) h b = absurd (omega arith)
same_fields (suc n) d [] h b = λ es q. (q, sym (top_none (written es)))
same_fields (suc n) d (x ∷ s) h b =
    let t = x ∷ s in
    subst (λ (z : List ℕ). Same z d (after (field (fields n (d - 1) (content t)) d t) (fields n d (drop (size_of t) t))))
    (take-append-drop (size_of t) t)
    (same_after d (take (size_of t) t) (drop (size_of t) t) (field (fields n (d - 1) (content t)) d t) (fields n d (drop (size_of t) t))
    (same_field (fields n (d - 1) (content t)) d t b
    (same_fields n (d - 1) (content t) (omega (arith, length-take (length_of t) (drop 3 t), length-drop 3 t))
    (bytes_take (length_of t) (drop 3 t) (bytes_drop 3 t b))))
    (same_fields n d (drop (size_of t) t) (omega (arith, length-drop (size_of t) t)) (bytes_drop (size_of t) t b)))

-- AN ACCEPTED FILE READ AND WRITTEN IS THE SAME BYTES
pub file_round_trip : (f : List ℕ) (es : List Event) → Bytes f → read_plan f ≡ took es → write_plan es ≡ wrote f
unfolding write_plan levels deepest widest written
file_round_trip f es b e =
    let v : Behind 8 (es ++ []) × (written (es ++ []) ≡ on_top f (written [])) =
    subst (Same f 8) e (same_fields (length f) 8 f (omega arith) b) []
    (record { level = refl; some = omega arith; deep = omega arith; width = omega arith }) in
    let w : Behind 8 es = subst (Behind 8) (append-nil es) v.0 in
    let bytes : top (written es) ≡ f = ap (λ (z : List Event). top (written z)) (sym (append-nil es)) ∙ ap top v.1 ∙ append-nil f in
    rw (eq-eqb (levels es) 1 (omega (arith, w.level)), le-ltb 9 (deepest es) w.deep, le-ltb 65535 (widest es) w.width)
    (ap wrote bytes)

-- ---- A list written and read
-- a field of a tag, a length and so many bytes x, with g behind it
module _ (t : ℕ) (x g : List ℕ) (h : length x ≤ 65535) where
  field_length : length_of (head t (length x) ++ (x ++ g)) ≡ length x
  field_length = number_there 2 (length x) (omega arith)

  field_content : content (head t (length x) ++ (x ++ g)) ≡ x
  field_content = ap (λ (n : ℕ). take n (x ++ g)) field_length ∙ take_at x g (length x) refl

  field_rest : drop (size_of (head t (length x) ++ (x ++ g))) (head t (length x) ++ (x ++ g)) ≡ g
  field_rest =
      let e : size_of (head t (length x) ++ (x ++ g)) ≡ suc (suc (suc (length x))) = omega (arith, field_length) in
      ap (λ (n : ℕ). drop n (head t (length x) ++ (x ++ g))) e ∙ drop_at x g (length x) refl

  field_run : (d : ℕ) → run d (head t (length x) ++ (x ++ g)) ≡ after (field (run (d - 1) x) d (head t (length x) ++ (x ++ g))) (run d g)
  field_run d =
      run_step d (head t (length x) ++ (x ++ g)) (omega arith)
      ∙ ap (λ (z : List ℕ). after (field (run (d - 1) z) d (head t (length x) ++ (x ++ g)))
      (run d (drop (size_of (head t (length x) ++ (x ++ g))) (head t (length x) ++ (x ++ g))))) field_content
      ∙ ap (λ (z : List ℕ). after (field (run (d - 1) x) d (head t (length x) ++ (x ++ g))) (run d z)) field_rest

  field_whole : cut_short (head t (length x) ++ (x ++ g)) ≡ false
  field_whole =
      let s = head t (length x) ++ (x ++ g) in
      rw (le-ltb (length s) 3 (omega arith), le-ltb (length s - 3) (length_of s) (omega (arith, field_length, length-append x g)))

a_use_lem : (p : List ℕ) → length p ≡ 15 → as_use p ≡ took (used p ∷ [])
a_use_lem p e = rw (eq-eqb (length p) 15 e)

use_run : (d : ℕ) (p g : List ℕ) (a : List Event) → length p ≡ 15 → run d g ≡ took a → run d ((head 2 15 ++ p) ++ g) ≡ took (used p ∷ a)
use_run d p g a e w =
    let low : length p ≤ 65535 = omega arith in
    ap (λ (n : ℕ). run d (head 2 n ++ (p ++ g))) (sym e)
    ∙ field_run 2 p g low d
    ∙ ap (λ (z : Read). after z (run d g)) (field_use (run (d - 1) p) d (head 2 (length p) ++ (p ++ g)) (field_whole 2 p g low) refl
    ∙ ap as_use (field_content 2 p g low) ∙ a_use_lem p e)
    ∙ ap (after (took (used p ∷ []))) w

group_run : (d : ℕ) (g h : List ℕ) (a b : List Event) → (d ≡ 0 → ⊥) → length g ≤ 65535 → run (d - 1) g ≡ took a → run d h ≡ took b
    → run d (head 1 (length g) ++ (g ++ h)) ≡ took (opened ∷ (a ++ (closed ∷ b)))
group_run d g h a b k low v w =
    field_run 1 g h low d
    ∙ ap (λ (z : Read). after z (run d h)) (field_group (run (d - 1) g) d (head 1 (length g) ++ (g ++ h)) (field_whole 1 g h low) refl k
    ∙ ap around v)
    ∙ ap (after (around (took a))) w
    ∙ ap (λ (z : List Event). took (opened ∷ z)) (append_assoc a (closed ∷ []) b)

-- es is what the innermost level reads as, closed, what the next one reads as, and so on
abbrev Reads : List (List ℕ) → List Event → Type 0
Reads [] es = ⊥
Reads (g ∷ []) es = run 8 g ≡ took es
Reads (g ∷ (h ∷ gs)) es = (a : List Event)
    × ((r : List Event) × ((run (7 - length gs) g ≡ took a) × ((es ≡ a ++ (closed ∷ r)) × Reads (h ∷ gs) r)))

reads_closed : (st : List (List ℕ)) (es : List Event) → Reads st es → Reads (push st) (closed ∷ es)
unfolding fields
reads_closed [] es w = w
reads_closed (g ∷ gs) es w = ([], (es, (refl, (refl, w))))

reads_used : (p : List ℕ) (st : List (List ℕ)) (es : List Event) → length p ≡ 15 → Reads st es
    → Reads (on_top (head 2 15 ++ p) st) (used p ∷ es)
reads_used p [] es e w = w
reads_used p (g ∷ []) es e w = use_run 8 p g es e w
reads_used p (g ∷ (h ∷ gs)) es e w = (
  used p ∷ w.0,
  (
    w.1.0,
    (use_run (7 - length gs) p g w.0 e w.1.1.0, (ap (λ (z : List Event). used p ∷ z) w.1.1.1.0, w.1.1.1.1)),
  ),
)

reads_opened : (st : List (List ℕ)) (es : List Event) → 2 ≤ length st → length st ≤ 9 → length (top st) ≤ 65535 → Reads st es
    → Reads (shut st) (opened ∷ es)
reads_opened [] es two nine low w = w
reads_opened (g ∷ []) es two nine low w = absurd (omega arith)
reads_opened (g ∷ (h ∷ [])) es two nine low w =
    group_run 8 g h w.0 w.1.0 (λ z. omega arith) low w.1.1.0 w.1.1.1.1
    ∙ ap (λ (z : List Event). took (opened ∷ z)) (sym w.1.1.1.0)
reads_opened (g ∷ (h ∷ (i ∷ gs))) es two nine low w =
    let a = w.0 in
    let v = w.1.1.1.1 in
    let b = v.0 in
    let r = v.1.0 in (
      opened ∷ (a ++ (closed ∷ b)),
      (
        r,
        (
          group_run (7 - length gs) g h a b (λ z. omega arith) low
              (ap (λ (n : ℕ). run n g) (one_less (length gs)) ∙ w.1.1.0) v.1.1.0,
          (
            ap (λ (z : List Event). opened ∷ z) (w.1.1.1.0 ∙ ap (λ (z : List Event). a ++ (closed ∷ z)) v.1.1.1.0
                ∙ sym (append_assoc a (closed ∷ b) (closed ∷ r))),
            v.1.1.1.1,
          ),
        ),
      ),
    )
  where
    one_less : (n : ℕ) → 7 - n - 1 ≡ 7 - suc n
    one_less n = omega arith

reads_all : (es : List Event) → 1 ≤ levels es → deepest es ≤ 9 → widest es ≤ 65535 → Wide es → Reads (written es) es
unfolding levels deepest widest written fields
reads_all [] l d v w = refl
reads_all (opened ∷ es) l d v w =
    let d₁ : deepest es ≤ 9 = omega arith in
    reads_opened (written es) es (omega (arith, levels_length es)) (omega (arith, levels_length es, level_deep es))
    (omega arith)
    (reads_all es (omega arith) d₁ (omega arith) w.1)
reads_all (used p ∷ es) l d v w =
    reads_used p (written es) es w.0 (reads_all es l (omega arith) v w.1)
reads_all (closed ∷ es) l d v w =
    reads_closed (written es) es
    (reads_all es (level_tail closed (levels es) l) (omega arith) v w.1)
reads_all (other ∷ es) l d v w = absurd (omega arith)

-- AN ACCEPTED LIST WRITTEN AND READ IS THE SAME EVENTS
pub list_round_trip : (es : List Event) (f : List ℕ) → Wide es → write_plan es ≡ wrote f → read_plan f ≡ took es
list_round_trip es f w e =
    let q = passed es f e in
    only (written es) es (levels_length es ∙ q.level) q.bytes (reads_all es (omega (arith, q.level)) q.deep q.width w)
  where
    only : {f : List ℕ} (st : List (List ℕ)) (es : List Event) → length st ≡ 1 → top st ≡ f → Reads st es → read_plan f ≡ took es
    only [] es n e w = absurd w
    only (g ∷ []) es n e w = ap read_plan (sym e) ∙ w
    only (g ∷ (h ∷ gs)) es n e w = absurd (omega arith)
