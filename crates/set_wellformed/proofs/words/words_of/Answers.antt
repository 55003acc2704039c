-- One index more is one test more of each kind and its part of the union; what the union leaves is tested last.
use Rattle.model.specs.Prelude.{arith, sym, ◌∙◌}
use Rattle.std.specs.Prelude.{◌≡◌}
use Rattle.set_wellformed.proofs.Parting.{passing_none, passing_more, words_unfit}
use Rattle.set_wellformed.proofs.words.words_of.Goals as goal

pub loop-i-init : goal.loop-i-init
loop-i-init c = passing_none

pub loop-i-preserved : goal.loop-i-preserved
loop-i-preserved c =
    let p = c.requires.n_bound.1 in
    passing_more c.loop-i.invariant (rw p at c.pair_proper.ensures) (rw p at c.plain_pair.ensures)
    (rw p at c.exclusive_part.ensures) (rw p at c.exclusive_part-in-loop-i.ensures)

pub returns-else-fit : goal.returns-else-fit
returns-else-fit c =
    let z : c.loop-i.i ≡ c.args.n = omega (arith, c.loop-i-test.false, c.loop-i.auto.i-end) in
    let w = rw z at c.loop-i.invariant in
    record { fit = c.if-fit.false ∙ sym (words_unfit c.args.end c.args.table.now _ (sym w.fit ∙ c.if-fit.false)); plain = w.plain }
