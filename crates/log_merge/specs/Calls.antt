-- THE CONTRACTS: the call on borrowed numbers. `merging_logs` is what it answers, `MergesLogs` and `HandsOver` what becomes of what is
-- borrowed.
use Rattle.std.specs.Prelude.{◌+◌, ◌-◌, ◌*◌, ◌/◌, ◌%◌, ◌≤◌, ◌≡◌, ◌&&◌, ◌∷◌}
use Rattle.model.specs.Prelude.{ℕ, Bool, true, not, Result, Ok, Err, List, [], eqb, length, drop, min}
use Rattle.model.specs.{declared.Refusal.TheVariants.LogOutOfOrder, declared.CallError.TheVariants.Refused}
use Rattle.model.specs.declared.{LogHead.LogHead, PendingTransition.PendingTransition}
use Rattle.model.specs.{Refusals.{Check, check, first_failing}, Calls.done}
use Rattle.model.specs.Log.{Answered, Log, Logged, Outcome, added, head_check, free_check, unless_logged, is_refused}
use Rattle.texture_barrier.specs.Entries.{entries_of}
use Rattle.log_head.specs.Log.{log_of, head_within, Logs}
use Rattle.log_merge.specs.{declared.{Merged.Merged, Rest.Rest, Unmerged.Unmerged}, Merge.{Merge, merge_of, ascending}}
use Rattle.log_merge.specs.declared.Rest.TheVariants.{First, Second}
use Rattle.std.specs.Borrow.{Bor}

-- ---- The call
-- not "a log that descends or stops inside an entry"
unfoldable pub in_order : List ℕ → Bool
in_order a = eqb (length a % 7) 0 && ascending (entries_of a)

-- 5 for the third's head, 31, and 15 for the entries that are merged
abbrev pub merge_checks : List ℕ → List ℕ → Log → List Check
merge_checks a b third =
    head_check third ∷ check (not (in_order a && in_order b)) LogOutOfOrder ∷ free_check (length (merge_of a b).merged) third ∷ []

-- "the empty end of the second"
abbrev pub end_of : List ℕ → Rest
end_of b = Second (length b)

-- "the rest of the other log": the last numbers of the first, if any of its entries are left, otherwise of the second
abbrev pub rest_from : List PendingTransition → List PendingTransition → List ℕ → List ℕ → Rest
rest_from [] t a b = Second (length b - 7 * length t)
rest_from (e ∷ s) t a b = First (length a - 7 * length (e ∷ s))

abbrev pub rest_at : Merge → List ℕ → List ℕ → Rest
rest_at m a b = rest_from m.first m.second a b

-- what it answers, the third log after it, and the rest; turned away, everything stays and the rest is the empty end of the second
unfoldable pub merging_logs : List ℕ → List ℕ → Log → Logged Rest
unfolding first_failing
merging_logs a b third =
    unless_logged (first_failing (merge_checks a b third)) third (end_of b)
    (record { answer = done; log = added (merge_of a b).merged third; after = rest_at (merge_of a b) a b })

-- as the code answers it, which was told the head h: turned away, the head stays
abbrev pub told : LogHead → Result Merged (Unmerged Rest) → Answered
told h (Ok m) = record { outcome = Ok tt; head = m.head }
told h (Err u) = record { outcome = Err (Refused u.refusal); head = h }

-- and the rest that it tells, turned away too
abbrev pub rest_told : Result Merged (Unmerged Rest) → Rest
rest_told (Ok m) = m.rest
rest_told (Err u) = u.rest

-- no check fails, and n entries are merged
pub record Room (a b : List ℕ) (h : LogHead) (l : List ℕ) (n : ℕ) : Type 0 where
  pub fits : head_within (length l / 7) h ≡ true
  pub ordered : (in_order a && in_order b) ≡ true
  pub needs : n ≡ length (merge_of a b).merged
  pub free : n ≤ h.free

-- THE CONTRACT of the call by value: a, b are the two logs, l the third's numbers and h its head
pub record MergesLogs (a b : List ℕ) (h : LogHead) (l : List ℕ) (x : Answered) (r : Rest) (l' : List ℕ) : Type 0 where
  pub log : Logs (merging_logs a b (log_of l h)) l x l'
  pub rest : r ≡ (merging_logs a b (log_of l h)).after
  -- "Everything lent stays."
  pub kept : is_refused x.outcome ≡ true → l' ≡ l

-- ---- The rest, "not copied"
-- r is the part of s from its number `from` on: the same numbers, at their place in s, four bytes each
pub record PartOf (s : Bor (List ℕ)) (from : ℕ) (r : Bor (List ℕ)) : Type 0 where
  pub numbers : r.now ≡ drop from s.now
  pub block : r.ref_ptr.0 ≡ s.ref_ptr.0
  pub place : r.ref_ptr.1 ≡ s.ref_ptr.1 + 4 * from

-- of two the one that a rest is of
abbrev pub which_of : {A : Type 0} → Rest → A → A → A
which_of (First n) a b = a
which_of (Second n) a b = b

-- the number of it that the rest begins at
abbrev pub begins_at : Rest → ℕ
begins_at (First n) = n
begins_at (Second n) = n

-- THE CONTRACT of `rest_of`: a part that would begin past its log's end begins there
abbrev pub RestOf : Bor (List ℕ) → Bor (List ℕ) → Rest → Bor (List ℕ) → Type 0
RestOf a b x r = let s = which_of x a b in PartOf s (min (begins_at x) (length s.now)) r

-- what a call that hands over a rest answers
abbrev pub handed : {R : Type 0} → Result R (Unmerged R) → Outcome
handed (Ok r) = Ok tt
handed (Err u) = Err (Refused u.refusal)

-- and the rest, turned away too
abbrev pub rest_handed : {R : Type 0} → Result R (Unmerged R) → R
rest_handed (Ok r) = r
rest_handed (Err u) = u.rest

-- what a call that comes to c hands over: h' is the third's head after it
pub record HandedOver (c : Logged Rest) (a b : Bor (List ℕ)) (l : List ℕ) (h' : LogHead)
    (x : Result (Bor (List ℕ)) (Unmerged (Bor (List ℕ)))) (l' : List ℕ) : Type 0 where
  pub log : Logs c l (record { outcome = handed x; head = h' }) l'
  pub kept : is_refused (handed x) ≡ true → l' ≡ l
  pub rest : PartOf (which_of c.after a b) (begins_at c.after) (rest_handed x)

-- THE CONTRACT of the call that hands over the rest itself
abbrev pub HandsOver : Bor (List ℕ) → Bor (List ℕ) → LogHead → List ℕ → LogHead → Result (Bor (List ℕ)) (Unmerged (Bor (List ℕ))) → List ℕ
    → Type 0
HandsOver a b h l = HandedOver (merging_logs a.now b.now (log_of l h)) a b l
