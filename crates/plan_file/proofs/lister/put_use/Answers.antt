-- `put_use` writes the eight numbers one by one.
use Rattle.std.proofs.Common.{suc, ◌+◌, arith, ◌≡◌, ap}
use Rattle.std.proofs.lemmas.List.Edits.{sets}
use Rattle.plan_file.specs.UsesLaws.{eight_are}
use Rattle.plan_file.proofs.lister.put_use.Goals as goal

pub returns : goal.returns
returns c =
    let n = c.args.at in
    let e1 : n + 1 ≡ suc n = omega arith in
    let e2 : n + 2 ≡ suc (suc n) = omega arith in
    let e3 : n + 3 ≡ suc (suc (suc n)) = omega arith in
    let e4 : n + 4 ≡ suc (suc (suc (suc n))) = omega arith in
    let e5 : n + 5 ≡ suc (suc (suc (suc (suc n)))) = omega arith in
    let e6 : n + 6 ≡ suc (suc (suc (suc (suc (suc n))))) = omega arith in
    let e7 : n + 7 ≡ suc (suc (suc (suc (suc (suc (suc n)))))) = omega arith in
    rw (e1, e2, e3, e4, e5, e6, e7) (ap (sets c.args.list.now n)
    (eight_are c.args.item.now c.told-item (omega (arith, c.from_le_bytes-index.ensures)) c.from-mips.ensures c.two-layers.ensures
    c.from-mip_start.ensures c.from-mip_end.ensures c.two-layer_start.ensures c.two-layer_end.ensures c.two-state.ensures))
