-- What a walk by hand names of the library, of the logic and of this crate's rules, passed on, so that a walk's header brings it by one line.
pub use Rattle.std.specs.Prelude.{◌≡◌, refl, List, [], ◌∷◌, ℕ, ◌<◌, ◌≤◌, ◌^◌, ◌+◌, ◌-◌, min, length, take, get_or, set}
pub use Rattle.std.proofs.Common.{sym, ap, subst, ◌∙◌, ⊎_elim, zero-le, eq-or-lt_of_le, le_refl, add-one-le, arith, length-set, length-take, lit<, lt-ltb, le-ltb}
pub use Rattle.std.proofs.Math.Option.{none, some}
pub use Rattle.std.proofs.Math.Numerals.{add-one-dec, unary_clauses}
pub use seplogic.Ra.Ura.{Ura}
pub use base.Fraction.{full_share}
pub use mir.Syntax.{named, w32, w64}
pub use mir.Val.{Val, vint}
pub use base.Logic.{SProp, emp, id⊢}
pub use base.Fml.{Lft, Share, ftrue, flft}
pub use prog.Model.{Model}
pub use prog.Wp.{Heap, Env}
unfoldable pub use prog.Wp.{after_turn}
pub use sound.WpLaws.{fm_of}
pub use contract.Monad.{fact_i, fact_mono}
pub use contract.Running.{Running}
pub use types.Kit.{Item, ‵, ◌⊛◌, Sq, at_ret, ◌$◌, ◌∵◌, !, qed, by, move, keep, drop, split, join, rewrite, use1, fsplit, fjoin, feq_l, frame, updating}
pub use types.Part.{whole, sub, look_in}
pub use types.Run.{stop, fld, from, load, lit, unit_lit, and_then, no_more, of_opd, bin, assigns, exec}
pub use borrow.Author.Rules.{scaled_Fits}
pub use denote.RattleType.{owns}
pub use Rattle.std.specs.Borrow.{u32, usize, unit}
pub use denote.Ref.{as_bor}
pub use denote.Slice.{ShrSlice, MutSlice, Room, shr_slice_copy}
pub use denote.Signature.{plain}
pub use denote.Steps.{nothing}
pub use denote.Struct.Laws.{owed}
pub use denote.Triple.Walked.{says, needs}
pub use Rattle.walk.specs.Values.{Data, number, variant, UnitOf, fits_in, Valid, word, half}
pub use Rattle.walk.specs.Locals.{Blocks, env_of, held, enters, var, part, within, lets, lets_last, points, turning, whiles, again, goes_on, breaks, spent, leaves}
pub use Rattle.walk.specs.Site.{rules, tables_at, known}
pub use Rattle.walk.specs.Calling.{of, own, gives, asks}
pub use Rattle.walk.specs.Params.{by_value, shared, lent, given, Function, args, Walks, free, Post, ends, proved, settled, bare}
pub use Rattle.walk.specs.Slices.{Row, OfE, a_value, spell, IsE, typed, Slice, SliceMut, ref, run, knows, elem, put_elem, Shared, Looking, Writing, looks_run, shuts_run, opens_run, closes_run}
pub use Rattle.walk.specs.Lending.{relent, shares, shared_back}
