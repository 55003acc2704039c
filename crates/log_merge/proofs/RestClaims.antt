-- WHAT HOLDS of the rest that a merge tells: where the call is done both logs are in order, and the rest, read as entries, is what the
-- definition leaves; where it is refused, it is the empty end of the second log.
use Rattle.std.specs.Prelude.{◌-◌, ◌*◌, ◌≤◌, ◌≡◌, ◌&&◌, ◌∷◌, ◌++◌, ◌⊎◌, if◌then◌else◌}
use Rattle.model.specs.Prelude.{ℕ, suc, arith, refl, sym, ap, ◌∙◌, Bool, true, false, true≢false, false≢true, not}
use Rattle.model.specs.Prelude.{Option, None, Some, Err, List, [], append-nil, inl, inr, length, drop}
use Rattle.model.specs.Prelude.{length-drop}
use Rattle.model.specs.declared.Refusal.TheVariants.{LogOutOfOrder}
use Rattle.model.specs.declared.CallError.TheVariants.{Refused}
use Rattle.model.specs.declared.{InvalidUse.InvalidUse, LogHead.LogHead, PendingTransition.PendingTransition, Refusal.Refusal}
use Rattle.model.specs.{BoolLaws.and_both, Refusals.{Check, check, first_failing, accepted}, Calls.{Answer, done}}
use Rattle.model.specs.Log.{Log, Logged, head_check, free_check, unless_logged, is_refused, outcome_of}
use Rattle.texture_barrier.specs.Entries.{entries_of, entries_drop}
use Rattle.log_head.specs.Log.{log_of}
use Rattle.log_merge.specs.{declared.Rest.Rest, Merge.{merge_of, rest_of, first_count, second_count}}
use Rattle.log_merge.specs.{Claims.one_used_up, Rest.in_order_lem}
use Rattle.log_merge.proofs.ClosedForm.{left_is, first_few, second_few}
use Rattle.log_merge.specs.Calls.{in_order, merge_checks, end_of, rest_from, merging_logs, MergesLogs, which_of, begins_at}

-- ---- It is the definition's
not_refused : (f : Option Refusal) (third : Log) (was : Rest) (o : Logged Rest) → (unless_logged f third was o).answer ≡ done → f ≡ None
not_refused None third was o e = refl
not_refused (Some r) third was o e = absurd (true≢false (ap (λ (x : Answer InvalidUse). is_refused (outcome_of x)) e))

-- where no check fails both logs are in order
second_passes : (x : Check) (b : Bool) (r : Refusal) (cs : List Check) → first_failing (x ∷ check (not b) r ∷ cs) ≡ None → b ≡ true
unfolding first_failing
second_passes x b r cs e = go x.fails b e
  where
    go : (v w : Bool) → (if v then Some x.answer else if not w then Some r else first_failing cs) ≡ None → w ≡ true
    go true w e = absurd (false≢true (ap accepted e))
    go false true e = refl
    go false false e = absurd (false≢true (ap accepted e))

-- where the call is done both logs are in order: what Claims ask for
pub done_ordered : (a b : List ℕ) (third : Log) → (merging_logs a b third).answer ≡ done → (in_order a ≡ true) × (in_order b ≡ true)
unfolding merging_logs
done_ordered a b third e =
    let f = not_refused (first_failing (merge_checks a b third)) third (end_of b) _ e in
    and_both (in_order a) (in_order b) (second_passes (head_check third) (in_order a && in_order b) LogOutOfOrder
    (free_check (length (merge_of a b).merged) third ∷ []) f)

-- its entries after the first k are those of its last numbers
tail_is : (a : List ℕ) (k : ℕ) (s : List PendingTransition) → length a ≡ 7 * length (entries_of a) → k ≤ length (entries_of a)
    → s ≡ drop k (entries_of a) → entries_of (drop (length a - 7 * length s) a) ≡ s
tail_is a k s e h q =
    let n : length s ≡ length (entries_of a) - k = ap length q ∙ length-drop k (entries_of a) in
    let z : length a - 7 * length s ≡ 7 * k = omega arith in
    rw z (entries_drop a k (omega arith)) ∙ sym q

pub rest_is : (a b : List ℕ) (third : Log) → (merging_logs a b third).answer ≡ done
    → entries_of (drop (begins_at (merging_logs a b third).after) (which_of (merging_logs a b third).after a b)) ≡ rest_of (merge_of a b)
unfolding merging_logs
rest_is a b third e =
    let f = not_refused (first_failing (merge_checks a b third)) third (end_of b) _ e in
    let o = done_ordered a b third e in
    let p = in_order_lem a o.0 in
    let q = in_order_lem b o.1 in
    let l = left_is (entries_of a) (entries_of b) 0 0 p.1 q.1 in
    let x = tail_is a (first_count (entries_of a) (entries_of b)) (merge_of a b).first p.0 (first_few (entries_of a) (entries_of b)) l.0 in
    let y = tail_is b (second_count (entries_of a) (entries_of b)) (merge_of a b).second q.0
    (second_few (entries_of a) (entries_of b)) l.1 in
    rw f (go (merge_of a b).first (merge_of a b).second x y (one_used_up (entries_of a) (entries_of b)))
  where
    go : (s t : List PendingTransition) → entries_of (drop (length a - 7 * length s) a) ≡ s
        → entries_of (drop (length b - 7 * length t) b) ≡ t
        → (s ≡ []) ⊎ (t ≡ []) → entries_of (drop (begins_at (rest_from s t a b)) (which_of (rest_from s t a b) a b)) ≡ s ++ t
    go [] t x y u = y
    go (c ∷ s) [] x y u = x ∙ sym (append-nil (c ∷ s))
    go (c ∷ s) (d ∷ t) x y (inl z) = absurd (let n : suc (length s) ≡ 0 = ap length z in omega arith)
    go (c ∷ s) (d ∷ t) x y (inr z) = absurd (let n : suc (length t) ≡ 0 = ap length z in omega arith)

-- ---- Turned away
pub refused_rest : {a b l : List ℕ} {h h' : LogHead} {y : Rest} {l' : List ℕ} {r : Refusal}
    → MergesLogs a b h l (record { outcome = Err (Refused r); head = h' }) y l' → y ≡ end_of b
unfolding merging_logs
refused_rest {a} {b} {l} {h} {r = r} w = w.rest ∙ go (first_failing (merge_checks a b (log_of l h))) _ refl w.log.answer
  where
    go : (f : Option Refusal) (o : Logged Rest) → o.answer ≡ done
        → Err (Refused r) ≡ outcome_of (unless_logged f (log_of l h) (end_of b) o).answer
        → (unless_logged f (log_of l h) (end_of b) o).after ≡ end_of b
    go None o d e = absurd (true≢false (ap is_refused (rw d at e)))
    go (Some s) o d e = refl
