-- A loop over the records from `from` up to `to` that changes each and stops at the first where a test says so, over plain lists.
use Rattle.std.specs.Prelude.{◌+◌, ◌*◌, ◌≤◌, ◌<◌, ◌≡◌, ◌∷◌, ◌++◌}
use Rattle.model.specs.Prelude.{ℕ, suc, add-one, arith, sym, subst, ◌∙◌, Bool, true, false, List, []}
use Rattle.model.specs.Prelude.{append_assoc, length, get_or, take, drop, take-append-drop, length-append, length-drop, drop-set-lt}
use Rattle.model.specs.Prelude.{take-suc-set, slice-cons, slice_empty, length-take-le}
use Rattle.model.specs.declared.{Range.Range}
use Rattle.range_states.specs.View.{view, spare, decode, blank, Put, view_long}
use Rattle.texture_mips.specs.Pass.{passed, passed_count, Passed}
use Rattle.range_states.proofs.Agree.{agree_drop, agree_at, drop_cut}

pub record Passing (stop : Range → Bool) (f : Range → Range) (s₀ : List ℕ) (from to : ℕ) (s : List ℕ) (k : ℕ) : Type 0 where
  pub low : from ≤ k
  pub high : k ≤ to
  pub made : take k (view s) ++ passed stop f (drop k (decode to s₀)) ≡ take from (view s₀) ++ passed stop f (drop from (decode to s₀))
  pub count : k + passed_count stop f (drop k (decode to s₀)) ≡ from + passed_count stop f (drop from (decode to s₀))
  pub unread : drop k (view s) ≡ drop k (view s₀)
  pub rest : spare s ≡ spare s₀
  pub long : length s ≡ length s₀

module _ {stop : Range → Bool} {f : Range → Range} {s₀ : List ℕ} {from to : ℕ} {s : List ℕ} {k : ℕ} (room : 3 * to ≤ length s₀)
    (j : Passing stop f s₀ from to s k) where
  next_is : (x : Range) → k < to → x ≡ get_or (view s) k blank → drop k (decode to s₀) ≡ x ∷ drop (k + 1) (decode to s₀)
  next_is x t e =
      rw (add-one, e, agree_at (view s) (view s₀) k j.unread k blank (omega arith))
      (slice-cons k to (view s₀) blank t (view_long s₀ to room))

  pub turn : {x : Range} {s' : List ℕ} → k < to → x ≡ get_or (view s) k blank → stop x ≡ false → Put s k (f x) s'
      → Passing stop f s₀ from to s' (k + 1)
  unfolding passed passed_count
  turn {x} {s'} t e g p =
      let v : to ≤ length (view s) = view_long s to (omega (arith, j.long)) in
      let q : take (k + 1) (view s') ≡ take k (view s) ++ (f x ∷ []) =
      rw (p.seen, add-one) (take-suc-set (view s) k (f x) (omega arith)) in
      let l : List Range = drop (k + 1) (decode to s₀) in
      let m : take k (view s) ++ passed stop f (x ∷ l) ≡ take from (view s₀) ++ passed stop f (drop from (decode to s₀)) =
      rw (next_is x t e) at j.made in
      let n : k + passed_count stop f (x ∷ l) ≡ from + passed_count stop f (drop from (decode to s₀)) = rw (next_is x t e) at j.count in
      record {
        low = omega (arith, j.low);
        high = omega arith;
        made = rw (q, append_assoc) (rw g at m);
        count = let n' : k + suc (passed_count stop f l) ≡ from + passed_count stop f (drop from (decode to s₀)) = rw g at n in omega arith;
        unread = rw p.seen (drop-set-lt (k + 1) (view s) k (f x) (omega arith))
            ∙ agree_drop (view s) (view s₀) k j.unread (k + 1) (omega arith);
        rest = p.rest ∙ j.rest;
        long = p.long ∙ j.long;
      }

  ended : passed stop f (drop k (decode to s₀)) ≡ drop k (decode to s₀) → passed_count stop f (drop k (decode to s₀)) ≡ 0
      → Passed stop f s₀ from to k s
  ended e n =
      let v : to ≤ length (view s) = view_long s to (omega (arith, j.long)) in let v₀ : to ≤ length (view s₀) = view_long s₀ to room in
      let m : take k (view s) ++ drop k (decode to s₀) ≡ take from (view s₀)
      ++ passed stop f (drop from (decode to s₀)) = rw e at j.made in
      let h : k ≤ to = j.high in
      record {
        low = j.low;
        high = j.high;
        at = omega (arith, j.count);
        into =
            record {
              size = rw (← m) (simp (length-append, length-drop, length-take-le k (view s) (omega arith), length-take-le to (view s₀) v₀)
                  (omega arith));
              seen = rw (← m, append_assoc, drop_cut k to (view s₀) h v₀, ← j.unread) (sym (take-append-drop k (view s)));
              rest = j.rest;
              long = j.long;
            };
      }

  pub halt : {x : Range} → k < to → x ≡ get_or (view s) k blank → stop x ≡ true → Passed stop f s₀ from to k s
  unfolding passed passed_count
  halt {x} t e g = ended (rw (next_is x t e, g)) (rw (next_is x t e, g))

  pub finish : to ≤ k → Passed stop f s₀ from to to s
  unfolding passed passed_count
  finish t =
      let e : k ≡ to = omega (arith, j.high) in
      subst (λ (r : ℕ). Passed stop f s₀ from to r s) e (ended (rw (e, slice_empty to (view s₀))) (rw (e, slice_empty to (view s₀))))
