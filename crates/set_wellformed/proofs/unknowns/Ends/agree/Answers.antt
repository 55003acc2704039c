-- `agree` is the four cases of Single and Many.
use Rattle.model.specs.Prelude.{sym, ◌∙◌}
use Rattle.set_wellformed.proofs.Ends.{start_mips, end_mips, ends_single, ends_start, ends_end, ends_many}
use Rattle.set_wellformed.proofs.unknowns.Ends.agree.Goals as goal

pub mips_agree-requires-clause-starts_fit : goal.mips_agree-requires-clause-starts_fit
mips_agree-requires-clause-starts_fit c =
    let s = c.args.self.now in start_mips c.requires.halves_fit (rw s.first at (sym c.in-true-true.ensures))

pub mips_agree-requires-clause-ends_fit : goal.mips_agree-requires-clause-ends_fit
mips_agree-requires-clause-ends_fit c =
    let s = c.args.self.now in end_mips c.requires.halves_fit (rw (s.one_table, s.last) at (sym c.in-true-true.ensures'))

pub mips_known-requires-clause-fit : goal.mips_known-requires-clause-fit
mips_known-requires-clause-fit c =
    let s = c.args.self.now in rw s.first (start_mips c.requires.halves_fit (rw s.first at (sym c.in-true-false.ensures)))

pub mips_known-requires-in-false-true-clause-fit : goal.mips_known-requires-in-false-true-clause-fit
mips_known-requires-in-false-true-clause-fit c =
    let s = c.args.self.now in
    rw (s.one_table, s.last) (end_mips c.requires.halves_fit (rw (s.one_table, s.last) at (sym c.in-false-true.ensures')))

pub returns-in-true-true : goal.returns-in-true-true
returns-in-true-true c =
    let s = c.args.self.now in
    c.mips_agree.ensures ∙ ends_many c.requires.halves_fit c.requires.texture
    (rw s.first at (sym c.in-true-true.ensures)) (rw (s.one_table, s.last) at (sym c.in-true-true.ensures'))

pub returns-in-true-false : goal.returns-in-true-false
returns-in-true-false c =
    let s = c.args.self.now in rw s.first at c.mips_known.ensures ∙ ends_start c.requires.halves_fit c.requires.texture
    (rw s.first at (sym c.in-true-false.ensures)) (rw (s.one_table, s.last) at (sym c.in-true-false.ensures'))

pub returns-in-false-true : goal.returns-in-false-true
returns-in-false-true c =
    let s = c.args.self.now in
    rw (s.one_table, s.last) at c.mips_known-in-false-true.ensures ∙ ends_end c.requires.halves_fit c.requires.texture
    (rw s.first at (sym c.in-false-true.ensures)) (rw (s.one_table, s.last) at (sym c.in-false-true.ensures'))

pub returns-in-false-false : goal.returns-in-false-false
returns-in-false-false c =
    let s = c.args.self.now in ends_single c.requires.halves_fit
    (rw s.first at (sym c.in-false-false.ensures)) (rw (s.one_table, s.last) at (sym c.in-false-false.ensures'))
