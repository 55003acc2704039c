-- `merge_usage_scope`: from what the code found to the contract.
use Rattle.model.specs.Prelude.{ℕ, ap, ◌∙◌, Bool, true, Option, None, Some, List, Err, Ok}
use Rattle.model.specs.{declared.{UsageFlags.UsageFlags, Refusal.Refusal}, Sets.{Head, head_of}, Refusals.set_refusal}
use Rattle.model.specs.declared.CallError.TheVariants.{Refused}
use Rattle.model.specs.{Calls.{unless, merge_usage_scope}, Log.Outcome, Texture.ranged}
use Rattle.std.specs.Prelude.{◌≡◌}
use Rattle.set_storage.specs.{Storage.{flags_of, scope_of}, Stays.{OwnedBy, keeps_more}}
use Rattle.set_checks.specs.{Head.{head_in, scope_head}, Sets.SetTold, Passed.set_passed}
use Rattle.set_ready.specs.Tested.{ScopeTested}
use Rattle.call_merge.specs.{Merged.Merged, Scope.{merged_slots, SlotsReady, SlotsMerged}}
use Rattle.call_merge.proofs.OneUse.{walked, went, away}

-- ---- The model's call
module _ (t r g l : List ℕ) where
  merge_is : (o : Option Refusal) → set_refusal (head_in t) (head_in g) ≡ o
      → merge_usage_scope ranged (scope_of t r) (scope_of g l)
      ≡ unless o (scope_of t r) (walked t r (merged_slots (scope_of t r).flags t r g l))
  merge_is o e =
      let done = walked t r (merged_slots (scope_of t r).flags t r g l) in
      ap (λ (h : Head). unless (set_refusal h (head_of (scope_of g l))) (scope_of t r) done) (scope_head t r)
      ∙ ap (λ (h : Head). unless (set_refusal (head_in t) h) (scope_of t r) done) (scope_head g l)
      ∙ ap (λ (q : Option Refusal). unless q (scope_of t r) done) e

  merged_is : SetTold t g (Ok tt)
      → merge_usage_scope ranged (scope_of t r) (scope_of g l) ≡ walked t r (merged_slots (flags_of t) t r g l)
  unfolding scope_of
  merged_is z = merge_is None z.is

-- ---- The answers
module _ {t r g : List ℕ} (l : List ℕ) {fits : Bool} (e : fits ≡ true) where
  pub scope_away : {x : Refusal} → SetTold t g (Err x)
      → Merged (OwnedBy g) fits (merge_usage_scope ranged (scope_of t r) (scope_of g l)) t r (Err (Refused x)) t r
  scope_away {x} z = away x e (merge_is t r g l (Some x) z.is)

  pub scope_done : {x : Outcome} {t' r' : List ℕ} → SetTold t g (Ok tt)
      → SlotsMerged (OwnedBy g) (merged_slots (flags_of t) t r g l) t r x t' r'
      → Merged (OwnedBy g) fits (merge_usage_scope ranged (scope_of t r) (scope_of g l)) t r x t' r'
  scope_done z q = went (merged_slots (flags_of t) t r g l) e (merged_is t r g l z) (record {
    answer = q.answer;
    view = q.view;
    frame = keeps_more (λ j n. (((set_passed t g z.is).each j n.0 n.1).texture, n)) (λ j y o. o) q.frame;
  })

-- what the walk over the textures asks for
pub scope_ready : {t r g l : List ℕ} {p : UsageFlags} → ScopeTested t r → ScopeTested g l → SetTold t g (Ok tt)
    → p ≡ flags_of t → SlotsReady t r g l p
scope_ready {t} {r} {g} {l} a b z e = record { into = a; given = b; passed = set_passed t g z.is; flags = e }
