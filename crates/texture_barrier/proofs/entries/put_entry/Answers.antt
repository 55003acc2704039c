-- `put_entry` makes seven stores, which are one entry in the view.
use Rattle.std.specs.Prelude.{◌+◌, ◌*◌, ◌≡◌}
use Rattle.model.specs.Prelude.{suc, arith}
use Rattle.texture_barrier.specs.Entries.{put_entry_is}
use Rattle.texture_barrier.proofs.entries.put_entry.Goals as goal

pub returns : goal.returns
returns c =
    let e1 : 7 * c.args.n + 1 ≡ suc (7 * c.args.n) = omega arith in
    let e2 : 7 * c.args.n + 2 ≡ suc (suc (7 * c.args.n)) = omega arith in
    let e3 : 7 * c.args.n + 3 ≡ suc (suc (suc (7 * c.args.n))) = omega arith in
    let e4 : 7 * c.args.n + 4 ≡ suc (suc (suc (suc (7 * c.args.n)))) = omega arith in
    let e5 : 7 * c.args.n + 5 ≡ suc (suc (suc (suc (suc (7 * c.args.n))))) = omega arith in
    let e6 : 7 * c.args.n + 6 ≡ suc (suc (suc (suc (suc (suc (7 * c.args.n)))))) = omega arith in
    rw (e1, e2, e3, e4, e5, e6) (put_entry_is _ _ _ c.requires)
