-- A LOOP OVER A SINK: what it has taken so far of all that it is to take, and what is left.
use Rattle.std.specs.Prelude.{◌+◌, ◌≤◌, ◌<◌, ◌≡◌, ◌++◌}
use Rattle.model.specs.Prelude.{ℕ, arith, sym, subst, ◌∙◌, List, [], append_assoc, append-nil}
use Rattle.model.specs.declared.{PendingTransition.PendingTransition}
use Rattle.texture_barrier.specs.Sinks.{SinkLaws}

-- ---- What a loop has left: ys at turn k, and then what is left after it
pub record NextLeft (rest : ℕ → List PendingTransition) (k : ℕ) (ys : List PendingTransition) : Type 0 where
  pub is : rest k ≡ ys ++ rest (k + 1)

-- and nothing at its end
pub record NoneLeft (rest : ℕ → List PendingTransition) (hi : ℕ) : Type 0 where
  pub is : rest hi ≡ []

-- ---- Before turn k of hi the sink s₀, which is to take `all`, became s, and `rest k` is left
pub record Taking {S : Type 0} (takes : S → List PendingTransition → S → Type 0) (s₀ : S) (all : List PendingTransition)
    (rest : ℕ → List PendingTransition) (hi k : ℕ) (s : S) : Type 0 where
  pub done : List PendingTransition
  pub left : done ++ rest k ≡ all
  pub high : k ≤ hi
  pub into : takes s₀ done s

module _ {S : Type 0} {room : S → List PendingTransition → Type 0} {takes : S → List PendingTransition → S → Type 0}
    (laws : SinkLaws room takes) where
  -- nothing yet
  pub taking_start : (s : S) (rest : ℕ → List PendingTransition) (hi k : ℕ) → k ≤ hi
      → {all : List PendingTransition} → rest k ≡ all → Taking takes s all rest hi k s
  taking_start s rest hi k h e = record { done = []; left = e; high = h; into = laws.none s }

  module _ {s₀ : S} {all : List PendingTransition} {rest : ℕ → List PendingTransition} {hi k : ℕ} {s : S}
      (j : Taking takes s₀ all rest hi k s) where
    module _ (enough : room s₀ all) {ys : List PendingTransition} (next : NextLeft rest k ys) where
      all_are : (j.done ++ ys) ++ rest (k + 1) ≡ all
      all_are = append_assoc j.done ys (rest (k + 1)) ∙ rw next.is at j.left

      -- there is room for what it has taken and the next ones
      front_room : room s₀ (j.done ++ ys)
      front_room = laws.first s₀ (j.done ++ ys) (rest (k + 1)) (subst (room s₀) (sym all_are) enough)

      -- so there is for the next ones
      pub taking_room : room s ys
      taking_room = laws.next s₀ s j.done ys front_room j.into

      -- which it takes
      pub taking_turn : {t : S} → k < hi → takes s ys t → Taking takes s₀ all rest hi (k + 1) t
      taking_turn {t} h a =
          record { done = j.done ++ ys; left = all_are; high = omega arith; into = laws.both s₀ s t j.done ys front_room j.into a }

    -- none is left
    pub taking_end : hi ≤ k → NoneLeft rest hi → takes s₀ all s
    taking_end past e =
        let z : k ≡ hi = omega (arith, j.high) in let d : j.done ≡ all = sym (append-nil j.done) ∙ rw (z, e.is) at j.left in
        subst (λ (y : List PendingTransition). takes s₀ y s) d j.into
