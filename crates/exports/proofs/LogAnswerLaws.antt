-- Nothing is lost in the numbers of an answer of a merge of two logs, and they meet its contract.
use Rattle.std.specs.Prelude.{◌≤◌, ◌≡◌, if◌then◌else◌}
use Rattle.model.specs.Prelude.{ℕ, refl, sym, ap, subst, ◌∙◌, List, eqb, length}
use Rattle.model.specs.declared.LogHead.{LogHead}
use Rattle.log_head.specs.Log.{log_of}
use Rattle.log_merge.specs.{declared.Rest.Rest, declared.Rest.TheVariants.{First, Second}}
use Rattle.log_merge.specs.{Calls.{begins_at, which_of, MergesLogs}, Rest.rest_within}
use Rattle.exports.specs.declared.MergedAnswer.{MergedAnswer}
use Rattle.exports.specs.LogAnswers.{MergeTold, flag_of, merged_of, merged_in}
use Rattle.exports.proofs.AnswerLaws.{outcome_told}

-- ---- Nothing is lost
rest_back : (r : Rest) → (if eqb (flag_of r) 1 then First (begins_at r) else Second (begins_at r)) ≡ r
rest_back (First n) = refl
rest_back (Second n) = refl

pub merged_told : (x : MergeTold) (n m : ℕ) → merged_in (merged_of x n m) ≡ x
merged_told x n m = rw (outcome_told x.answered.outcome, rest_back x.rest)

-- ---- What a merge answers, in numbers
which_length : (r : Rest) (a b : List ℕ) → length (which_of r a b) ≡ which_of r (length a) (length b)
which_length (First n) a b = refl
which_length (Second n) a b = refl

module _ {a b : List ℕ} {h : LogHead} {l : List ℕ} {x : MergeTold} {l' : List ℕ} (w : MergesLogs a b h l x.answered x.rest l') where
  -- the rest lies in its own log
  pub rest_lies : begins_at x.rest ≤ which_of x.rest (length a) (length b)
  rest_lies =
      let lies : begins_at x.rest ≤ length (which_of x.rest a b) = rw w.rest (rest_within a b (log_of l h)) in
      rw (which_length x.rest a b) at lies

  -- the numbers tell an answer that meets the contract of the call beneath, and they are its numbers
  pub merge_meets : {r : MergedAnswer} → r ≡ merged_of x (length a) (length b)
      → (r ≡ merged_of (merged_in r) (length a) (length b)) × MergesLogs a b h l (merged_in r).answered (merged_in r).rest l'
  merge_meets {r} e =
      let i : merged_in r ≡ x = ap merged_in e ∙ merged_told x (length a) (length b) in (
        e ∙ ap (λ (y : MergeTold). merged_of y (length a) (length b)) (sym i),
        subst (λ (y : MergeTold). MergesLogs a b h l y.answered y.rest l') (sym i) w,
      )
