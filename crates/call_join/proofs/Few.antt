-- How many entries a set adds at most: 1,048,576 a texture.
use Rattle.model.specs.Prelude.{ℕ, zero, suc, suc-mul, mul-le-mul, arith, List, length, length-append}
use Rattle.model.specs.{declared.PendingTransition.PendingTransition, BoolLaws.by_test, Texture.Entry}
use Rattle.std.specs.Prelude.{◌*◌, ◌≤◌, ◌<◌}
use Rattle.set_storage.specs.{declared.stored.Stored.Stored, Storage.{owned_of, end_half}}
use Rattle.texture_barrier.specs.Entries.{entries_at}
use Rattle.texture_barrier.proofs.Few.{texture_adds_few}
use Rattle.set_ready.specs.{Checked.texture_held, Given.given_textured}
use Rattle.texture_track.specs.GivenSlot.{LogsBy, start_of, entries_by}
use Rattle.log_head.specs.UpTo.{up_to}
use Rattle.call_join.specs.{declared.every.Joining.Joining, Join.{JoiningReady, joining_entries}}

-- of lists that are made one by one, n at most each
up_few : {A : Type 0} (n : ℕ) (f : ℕ → List A) (m : ℕ) → ((k : ℕ) → k < m → length (f k) ≤ n) → length (up_to f m) ≤ m * n
unfolding up_to
up_few n f zero h = omega arith
up_few n f (suc m) h =
    let e = up_few n f m (λ k l. h k (omega arith)) in
    rw (length-append (up_to f m) (f m), suc-mul m n) (omega (arith, h m (omega arith), e))

module _ (j : Joining) where
  abbrev held : ℕ → Stored
  held i = record { table = j.table; ranges = j.ends; half = end_half; i = i }

  abbrev one : ℕ → List PendingTransition
  one i = entries_at i (entries_by j.p j.mask j.table.now j.ends.now j.given i)

  one_few : (i : ℕ) → LogsBy j.table.now j.ends.now i j.given → length (one i) ≤ 1048576
  one_few i w =
      by_test (λ (x : List Entry). length (entries_at i x) ≤ 1048576) (owned_of j.given.table.now i)
      (λ g. by_test (λ (x : List Entry). length (entries_at i x) ≤ 1048576) (owned_of j.table.now i)
      (λ o. let x = w.ready g in
      texture_adds_few (held i) (texture_held x.measured x.texture (x.texture.own o) (x.held o)) j.p j.mask (start_of j.given i)
      (given_textured (start_of j.given i) (w.given g)))
      (λ n. omega arith))
      (λ n. omega arith)

  pub joining_few : JoiningReady j → length (joining_entries j) ≤ 67108864
  joining_few w =
      let a = up_few 1048576 one j.n (λ k l. one_few k (w.each k l)) in
      let b : j.n * 1048576 ≤ 64 * 1048576 = mul-le-mul w.few (let z : 1048576 ≤ 1048576 = omega arith in z) in omega (arith, a, b)
