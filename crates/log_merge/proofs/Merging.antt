-- The call, way by way: turned away, or done; and what is handed over of the rest.
use Rattle.std.specs.Prelude.{◌+◌, ◌/◌, ◌≤◌, ◌<◌, ◌≡◌, ◌&&◌}
use Rattle.model.specs.Prelude.{ℕ, arith, refl, sym, ap, subst, ◌∙◌, true, false, false≢true, min}
use Rattle.model.specs.Prelude.{None, Some, Result, List, ltb, length, lt-ltb, le-ltb, not-true, not-false}
use Rattle.model.specs.declared.Refusal.TheVariants.{LogTooShort, LogOutOfOrder, NoFreeEntry}
use Rattle.model.specs.{declared.{LogHead.LogHead, Refusal.Refusal}, Refusals.first_failing, Calls.done}
use Rattle.model.specs.{Log.{Log, Logged, added}, BoolLaws.and_both}
use Rattle.texture_barrier.specs.Entries.{entries_of}
use Rattle.log_head.specs.Log.{log_of, head_within, refused_with, moved_on, lent_is, head_le, log_stays, log_moves}
use Rattle.log_merge.specs.{declared.{Rest.Rest, Unmerged.Unmerged}, declared.Rest.TheVariants.{First, Second}, Merge.merge_of}
use Rattle.log_merge.specs.Calls.{in_order, merge_checks, end_of, rest_at, merging_logs, MergesLogs, which_of, begins_at, PartOf, RestOf}
use Rattle.log_merge.specs.{Calls.{Room, handed, rest_handed, HandsOver}, Rest.{rest_within, in_order_lem}, Weaves.{Weavable, Weaves}}
use denote.Ref.{Bor}
use Rattle.model.specs.Calls as calls

module _ (a b l : List ℕ) (h : LogHead) where
  pub away : (r : Refusal) → first_failing (merge_checks a b (log_of l h)) ≡ Some r → MergesLogs a b h l (refused_with r h) (end_of b) l
  unfolding merging_logs
  away r e =
      let z : merging_logs a b (log_of l h) ≡ record { answer = calls.refused r; log = log_of l h; after = end_of b } = rw e in
      record { log = log_stays (end_of b) r z; rest = ap (λ (y : Logged Rest). y.after) (sym z); kept = λ _. refl }

  pub short_fails : head_within (length l / 7) h ≡ false → first_failing (merge_checks a b (log_of l h)) ≡ Some LogTooShort
  unfolding first_failing
  short_fails e = let z : ltb (length (entries_of l)) (h.written + h.free) ≡ true = not-false _ (lent_is l h e) in rw z

  pub away_short : head_within (length l / 7) h ≡ false → MergesLogs a b h l (refused_with LogTooShort h) (end_of b) l
  away_short e = away LogTooShort (short_fails e)

  -- ---- Once the head fits
  module _ (fits : head_within (length l / 7) h ≡ true) where
    head_in_lem : ltb (length (entries_of l)) (h.written + h.free) ≡ false
    head_in_lem = not-true _ (lent_is l h fits)

    pub disordered_fails : (in_order a && in_order b) ≡ false → first_failing (merge_checks a b (log_of l h)) ≡ Some LogOutOfOrder
    unfolding first_failing
    disordered_fails e = rw (head_in_lem, e)

    pub away_disordered : (in_order a && in_order b) ≡ false → MergesLogs a b h l (refused_with LogOutOfOrder h) (end_of b) l
    away_disordered e = away LogOutOfOrder (disordered_fails e)

    -- and both logs are in order, with n entries to merge
    module _ (n : ℕ) (needs : ((in_order a && in_order b) ≡ true) × (n ≡ length (merge_of a b).merged)) where
      pub few_fails : h.free < n → first_failing (merge_checks a b (log_of l h)) ≡ Some NoFreeEntry
      unfolding first_failing
      few_fails f =
          let total = length (merge_of a b).merged in
          let z : ltb h.free total ≡ true = lt-ltb h.free total (omega (arith, needs.1)) in rw (head_in_lem, needs.0, z)

      pub away_few : h.free < n → MergesLogs a b h l (refused_with NoFreeEntry h) (end_of b) l
      away_few f = away NoFreeEntry (few_fails f)

      pub room_is : n ≤ h.free → Room a b h l n
      room_is f = record { fits = fits; ordered = needs.0; needs = needs.1; free = f }

  -- ---- Where no check fails
  module _ {n : ℕ} (room : Room a b h l n) where
    pub weavable : Weavable a b l h.written
    weavable =
        let p = and_both (in_order a) (in_order b) room.ordered in record {
          first = omega (arith, (in_order_lem a p.0).0);
          second = omega (arith, (in_order_lem b p.1).0);
          room = omega (arith, room.needs, room.free, head_le (length l / 7) h room.fits);
        }

    none_fails : first_failing (merge_checks a b (log_of l h)) ≡ None
    unfolding first_failing
    none_fails =
        let total = length (merge_of a b).merged in
        let z : ltb h.free total ≡ false = le-ltb h.free total (omega (arith, room.needs, room.free)) in
        rw (head_in_lem room.fits, room.ordered, z)

    pub merges : {r : Rest} {l' : List ℕ} → Weaves a b l h.written r l' → MergesLogs a b h l (moved_on h n) r l'
    unfolding merging_logs
    merges {r} {l'} w =
        let z : merging_logs a b (log_of l h)
        ≡ record { answer = done; log = added (merge_of a b).merged (log_of l h); after = rest_at (merge_of a b) a b } =
        rw none_fails in
        record {
          log = log_moves h (rest_at (merge_of a b) a b) (merge_of a b).merged z room.needs w.added;
          rest = w.rest ∙ ap (λ (y : Logged Rest). y.after) (sym z);
          kept = λ q. absurd (false≢true q);
        }

-- ---- The rest itself is handed over
module _ (a b : Bor (List ℕ)) where
  now_within : (y : Rest) → begins_at y ≤ length (which_of y a.now b.now) → begins_at y ≤ length (which_of y a b).now
  now_within (First n) h = h
  now_within (Second n) h = h

  within : {r : Bor (List ℕ)} (third : Log) (y : Rest) → y ≡ (merging_logs a.now b.now third).after → RestOf a b y r
      → let o = (merging_logs a.now b.now third).after in PartOf (which_of o a b) (begins_at o) r
  within {r} third y q p =
      let o = (merging_logs a.now b.now third).after in
      let z = subst (λ (o : Rest). RestOf a b o r) q p in
      let m : min (begins_at o) (length (which_of o a b).now) ≡ begins_at o =
      omega (arith, now_within o (rest_within a.now b.now third)) in
      rw m at z

  pub handed_over : {h h' : LogHead} {l l' : List ℕ} {y : Rest} (x : Result (Bor (List ℕ)) (Unmerged (Bor (List ℕ))))
      → MergesLogs a.now b.now h l (record { outcome = handed x; head = h' }) y l' → RestOf a b y (rest_handed x)
      → HandsOver a b h l h' x l'
  handed_over {h} {l = l} {y = y} x w p = record { log = w.log; kept = w.kept; rest = within (log_of l h) y w.rest p }
