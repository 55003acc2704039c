-- One index more is one test more of each kind and its part of the union; what the union leaves is tested last.
use Rattle.set_wellformed.proofs.Parting.{Passing}
use Rattle.set_wellformed.proofs.words.words_of.Given as goal

abbrev pub invariant-loop-i : goal.invariant-loop-i
invariant-loop-i l = Passing l.end l.table l.i l.fit l.plain l.exclusive
