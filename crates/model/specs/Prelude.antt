-- What every file takes of the libraries, passed on under one name: numbers, paths, lists and tests. A file takes operators from std
-- itself, as the gate wants it, so that none stands for anything but std's.
pub use Rattle.std.specs.Prelude.{max, min, suc, zero, ℕ, refl, Bool, slice_get}
pub use Rattle.std.specs.Prelude.{false, not, true, List, [], map, eqb, leb, ltb, drop, get_or, length, replicate, set, take}
pub use Rattle.std.proofs.Common.{add-le-add, add-suc, add-zero, le-mul_of_pos_right, le_of_lt, le_of_suc-le-suc, le_trans}
pub use Rattle.std.proofs.Common.{mul_assoc, mul-le-mul, mul-le-mul_right, not-suc-le-zero, suc-add, suc-mul, zero-add}
pub use Rattle.std.proofs.Common.{add-one, arith, ◌∙◌, ap, ap₂, subst, sym, inl, inr, true≢false, append_assoc, append-nil}
pub use Rattle.std.proofs.Common.{drop_of_length-le, length-append, length-drop, length-set, length-take, take-append-drop, drop_at}
pub use Rattle.std.proofs.Common.{drop-cons, drop-drop, drop-set-lt, ext_get_or, get_or-append-add, get_or-drop, get_or-set_other}
pub use Rattle.std.proofs.Common.{get_or-set_same, get_or-take, length-take-le, take-add, take_all, take_at, take-suc, take-suc-set}
pub use Rattle.std.proofs.Common.{take-take, eq-eqb, eqb-true, le-leb, le-ltb, leb-false, leb-true, lt-ltb, ltb-false, ltb-true, ne_eqb}
pub use Rattle.std.proofs.Math.Nat.{le-min, min-eq_left, min-le_left, min-le_right, sub-zero, suc-sub-suc}
pub use Rattle.std.proofs.Math.Numerals.{unary_clauses}
pub use Rattle.std.proofs.Math.Decide.{dec_le, dec_lt, le_ind, ℕ_discrete}
pub use Rattle.std.proofs.Math.Path.{fun_ext}
pub use Rattle.std.proofs.Math.Bool.{and_assoc, and-eq-true_iff, and-false, and-true}
pub use Rattle.std.proofs.lemmas.Bool.{false≢true, eqb-false, lt-leb, not-false, not-true}
pub use Rattle.std.specs.Prelude.{Option, None, Some, option_map, Result, Ok, Err}
pub use Rattle.std.specs.Result.{result_err, result_unwrap_or}
pub use Rattle.std.proofs.lemmas.List.{map-append, get_or-replicate, length-map, length-replicate, replicate-append-replicate}
pub use Rattle.std.proofs.lemmas.List.{drop-append-le, get_or_at, set-append_left, set_at, set-get_or, set_split, take-append-le}
pub use Rattle.std.proofs.lemmas.List.{take-set-le}
pub use Rattle.std.proofs.Math.Dec.{eqb-suc-zero as eqb_suc_zero}
pub use Rattle.std.proofs.lemmas.Nat.{and_comm, and_le_l, and_le_r, and_mask, or_comm, or_disjoint, or_lt}
pub use Rattle.std.specs.Int.Bits.{and_self, and_step, and_zero_l, and_zero_r, bit_and, bit_or, bit_xor, or_add_and, or_self, or_step}
pub use Rattle.std.specs.Int.Bits.{or_zero_l, or_zero_r, xor_add_and}
pub use Rattle.std.proofs.Math.ListN.{get_or-append as List_get_D_append, get_or-eq_default as List_get_D_eq_default}
pub use Rattle.std.proofs.Math.ListN.{get_or-map as List_get_D_map}
pub use Rattle.std.proofs.Math.Seq.{drop-append-add, drop-length, set_out, slice-cons, slice_empty, take-append-add, take-length}
pub use Rattle.std.proofs.lemmas.List.Edits.{sets, sets-eq}
