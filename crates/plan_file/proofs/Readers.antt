-- The reader's functions: an item written, a field split off, what is answered of a use, of a field and of a run.
use Rattle.model.specs.Prelude.{ℕ, refl, true, ap, ◌∙◌, List, [], append_assoc, add-one, arith, length, take, drop, set, length-set}
use Rattle.model.specs.Prelude.{take_all, take-suc-set, drop-set-lt, length-take, length-drop, lt-ltb, le-ltb, eq-eqb, ne_eqb}
use Rattle.model.specs.{declared.Refusal.Refusal, declared.Refusal.TheVariants.FieldCutShort}
use Rattle.std.specs.Prelude.{◌+◌, ◌*◌, ◌-◌, ◌/◌, ◌<◌, ◌≤◌, ◌≡◌, ◌∷◌, ◌++◌, Some, Result, Ok, Err}
use Rattle.plan_file.specs.{declared.kinds.Tag.TheVariants.Group, Plan.{opened, closed, content, cut_short, after, fields, run, item}}
use Rattle.plan_file.specs.{Reading.{put_item, put_all, Came, FieldSplit, field_by, UseRead, FieldRead, GroupRead}, Kinds.tag_kind}
use Rattle.plan_file.specs.Copies.{copied, copied_over}
use Rattle.plan_file.proofs.ReadingLaws.{came_after, came_stop, came_around, run_step, field_cut, field_whole}
use borrow.Rule.Slice.PartMut.{mid_of, put_mid}

-- ---- An item is written
pub put_is : (l it : List ℕ) (k : ℕ) {y : List ℕ} → k < length l / 16
    → length y ≡ length (take (16 * k + 16 - 16 * k) (drop (16 * k) l)) → y ≡ it
    → put_mid (16 * k) (16 * k + 16 - 16 * k) l y ≡ put_item k it l
unfolding put_item
put_is l it k h q e =
    let n : length it ≡ 16 =
    omega (arith, q, ap length e, length-take (16 * k + 16 - 16 * k) (drop (16 * k) l), length-drop (16 * k) l) in
    rw (lt-ltb k (length l / 16) h) (copied l it (16 * k) (16 * k + 16) (omega arith) (omega arith) e)

-- the same of its kind and of the 15 bytes behind it, copied over what stood there
pub put_behind : (l p y : List ℕ) (k x : ℕ) → k < length l / 16 → length p ≡ 15
    → y ≡ take (length p) p ++ drop (length p) (mid_of (16 * k + 1) (16 * k + 16 - (16 * k + 1)) (set l (16 * k) x))
    → put_mid (16 * k + 1) (16 * k + 16 - (16 * k + 1)) (set l (16 * k) x) y ≡ put_item k (x ∷ p) l
unfolding put_item
put_behind l p y k x h q e =
    let room : 16 * k + 16 ≤ length l = omega arith in
    let front : take (16 * k + 1) (set l (16 * k) x) ≡ take (16 * k) l ++ (x ∷ []) = rw add-one (take-suc-set l (16 * k) x (omega arith)) in
    let back : drop (16 * k + 16) (set l (16 * k) x) ≡ drop (16 * k + 16) l = drop-set-lt (16 * k + 16) l (16 * k) x (omega arith) in
    let whole = copied_over (set l (16 * k) x) p y (16 * k + 1) (16 * k + 16) (omega arith) (omega (arith, length-set l (16 * k) x)) e in
    rw (lt-ltb k (length l / 16) h) (whole ∙ rw (front, back) (append_assoc (take (16 * k) l) (x ∷ []) (p ++ drop (16 * k + 16) l)))

pub put_past : (l it : List ℕ) (k : ℕ) → length l / 16 ≤ k → l ≡ put_item k it l
unfolding put_item
put_past l it k h = rw (le-ltb k (length l / 16) h)

-- ---- What a use is
module _ {p : List ℕ} {k : ℕ} {l m : List ℕ} where
  pub use_taken : length p ≡ 15 → m ≡ put_item k (2 ∷ p) l → UseRead p k l (Ok (k + 1)) m
  unfolding put_all
  use_taken n w = record { came = rw (eq-eqb (length p) 15 n) record { what = (refl, w) }; few = omega arith }

-- ---- A group, whose content was read
pub takes_group : {tag : ℕ} {p : List ℕ} {d k n : ℕ} {l l₁ m₁ m : List ℕ} → Some Group ≡ tag_kind tag → (d ≡ 0 → ⊥)
    → l₁ ≡ put_item k (item opened) l → GroupRead p (d - 1) (k + 1) l₁ (Ok n) m₁ → m ≡ put_item n (item closed) m₁
    → FieldRead tag p d k l (Ok (n + 1)) m
takes_group {p = p} {d = d} t z o g w =
    record { came = rw (← t, ne_eqb d 0 z) (came_around (run (d - 1) p) o g.came w); few = omega (arith, g.few) }

-- ---- The group reader's loop: what is told of the rest is told of all
pub record Going (s : List ℕ) (d k : ℕ) (l rest : List ℕ) (count : ℕ) (m : List ℕ) : Type 0 where
  pub on : (r : Result ℕ Refusal) (z : List ℕ) → Came (run d rest) count m r z → Came (run d s) k l r z
  pub few : count + length rest ≤ k + length s

pub starts : (s : List ℕ) {d k : ℕ} {l : List ℕ} → Going s d k l s k l
starts s = record { on = λ r z w. w; few = omega arith }

module _ {s : List ℕ} {d k : ℕ} {l rest : List ℕ} {count : ℕ} {m : List ℕ} (g : Going s d k l rest count m) where
  pub finishes : length rest ≡ 0 → GroupRead s d k l (Ok count) m
  unfolding fields put_all
  finishes h = record { came = g.on (Ok count) m (go rest h); few = omega (arith, g.few) }
    where
      go : (x : List ℕ) → length x ≡ 0 → Came (run d x) count m (Ok count) m
      go [] e = record { what = (ap Ok (omega arith), refl) }
      go (b ∷ x) e = absurd (omega arith)

  module _ (h : 0 < length rest) where
    pub refuses_cut : {z : List ℕ} → cut_short rest ≡ true → GroupRead s d k l (Err FieldCutShort) z
    refuses_cut {z} c = record {
      came = g.on (Err FieldCutShort) z (rw (run_step d rest h, field_cut (run (d - 1) (content rest)) d rest c) record { what = refl });
      few = tt;
    }

    module _ {tag : ℕ} {p more : List ℕ} (f : FieldSplit rest tag p more) where
      step : run d rest ≡ after (field_by (tag_kind tag) p d) (run d more)
      step = run_step d rest h ∙ rw (f.kind, f.bytes, f.on, field_whole d rest f.cut)

      pub turns : {n : ℕ} {z : List ℕ} → FieldRead tag p d count m (Ok n) z → Going s d k l more n z
      turns w = record {
        on = λ r y u. g.on r y (rw step (came_after (field_by (tag_kind tag) p d) (run d more) w.came u));
        few = omega (arith, g.few, f.long, w.few);
      }

      pub stops : {e : Refusal} {z : List ℕ} → FieldRead tag p d count m (Err e) z → GroupRead s d k l (Err e) z
      stops {e} {z} w = record {
        came = g.on (Err e) z (rw step (came_stop (field_by (tag_kind tag) p d) (run d more) w.came));
        few = tt;
      }

-- ---- What is left of a slice from `at` on
pub tail_long : (s : List ℕ) (at : ℕ) → length (take (length s - at) (drop at s)) ≡ length s - at
tail_long s at = omega (arith, length-take (length s - at) (drop at s), length-drop at s)

pub tail_is : (s : List ℕ) (at : ℕ) → take (length s - at) (drop at s) ≡ drop at s
tail_is s at = take_all (length s - at) (drop at s) (omega (arith, length-drop at s))
