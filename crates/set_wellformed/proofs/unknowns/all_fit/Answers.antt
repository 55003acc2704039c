-- The words decide where one does not fit, or where none is Many; otherwise every index is looked at.
use Rattle.set_wellformed.proofs.{Told.{is_unfit, is_plain}, Telling.{tracker_not, tracker_all}}
use Rattle.set_wellformed.proofs.unknowns.all_fit.Goals as goal

pub returns-in-Unfit : goal.returns-in-Unfit
returns-in-Unfit c = tracker_not _ _ _ _ (is_unfit _ _ c.read_words.ensures c.in-Unfit.is)

pub returns-in-Plain : goal.returns-in-Plain
returns-in-Plain c = let x = is_plain _ _ c.read_words.ensures c.in-Plain.is in tracker_all _ _ _ _ x.0 x.1
