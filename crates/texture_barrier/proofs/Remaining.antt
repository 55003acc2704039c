-- What a loop has left of texture i: the entries of a run's ranges from the one at k on, and those of its mips from mip m on.
use Rattle.model.specs.Prelude.{ℕ, suc, add-one, arith, List, length, get_or, drop}
use Rattle.model.specs.{declared.{PendingTransition.PendingTransition, Range.Range}, Base.{each, each_at}, Texture.Entry}
use Rattle.std.specs.Prelude.{◌+◌, ◌*◌, ◌-◌, ◌≤◌, ◌<◌, ◌≡◌}
use Rattle.range_states.specs.View.{view, blank, decode}
use Rattle.set_storage.specs.Storage.{list_from}
use Rattle.texture_barrier.specs.{Entries.{entries_at, entries_at_append}, Taking.{NextLeft, NoneLeft}, Mips.mips_next}
use Rattle.range_states.proofs.Inserting.{next_is}

-- g tells the entries of a range
module _ (i : ℕ) (g : Range → List Entry) (run : List ℕ) (len : ℕ) where
  abbrev pub run_left : ℕ → List PendingTransition
  run_left k = entries_at i (each g (drop k (decode len run)))

  -- the range at k, and those behind it
  pub run_next : {k : ℕ} {r : Range} → 3 * len ≤ length run → k < len → r ≡ get_or (view run) k blank
      → NextLeft run_left k (entries_at i (g r))
  run_next {k} {r} fits t e =
      record { is = rw (next_is run len k r fits t e) (entries_at_append i (g r) (each g (drop (k + 1) (decode len run)))) }

-- F tells the entries of a mip with its ranges, which G tells
module _ (i : ℕ) (F : ℕ → List Range → List Entry) (G : ℕ → List Range) (hi : ℕ) where
  abbrev pub mips_left : ℕ → List PendingTransition
  mips_left m = entries_at i (each_at F m (list_from G m (hi - m)))

  -- mip m, and those behind it
  pub mips_left_lem : {m : ℕ} → m < hi → NextLeft mips_left m (entries_at i (F m (G m)))
  mips_left_lem {m} t = record {
    is = rw (add-one, mips_next F G m (hi - m) (hi - suc m) (omega arith))
        (entries_at_append i (F m (G m)) (each_at F (suc m) (list_from G (suc m) (hi - suc m))));
  }

  -- none behind the last
  pub mips_done : NoneLeft mips_left hi
  unfolding list_from
  mips_done = let z : hi - hi ≡ 0 = omega arith in record { is = rw z }
