-- `fits` tests the state, or, where it tells COMPLEX, the mips.
use Rattle.model.specs.Prelude.{sym, ◌∙◌, eqb-true, eqb-false}
use Rattle.set_storage.specs.Storage.{numbers_of, flags_of}
use Rattle.set_wellformed.proofs.Holding.{fits_many, fits_single}
use Rattle.set_wellformed.proofs.half.Half.fits.Goals as goal

pub returns-then-is_many : goal.returns-then-is_many
returns-then-is_many c = let s = c.args.self.now in let t = s.table.now in c.mips_fit.ensures
    ∙ fits_many (flags_of t) (numbers_of t) s.at t s.ranges.now c.args.i
    (eqb-true _ _ (sym c.is_many.ensures ∙ c.if-is_many.true)) c.requires.top

pub returns : goal.returns
returns c = let s = c.args.self.now in let t = s.table.now in rw s.flags_are at c.single_fits.ensures
    ∙ fits_single (flags_of t) (numbers_of t) s.at t s.ranges.now c.args.i
    (eqb-false _ _ (sym c.is_many.ensures ∙ c.if-is_many.false))
