-- Files and lists by which the definitions can be read, each proved by computation.
use Rattle.std.specs.Prelude.{◌≡◌, ◌∷◌, ◌++◌}
use Rattle.model.specs.Prelude.{ℕ, refl, List, [], replicate}
use Rattle.model.specs.declared.Refusal.TheVariants.{FieldCutShort, UnknownTag, UseOfWrongSize, GroupsTooDeep, PlanUnbalanced}
use Rattle.plan_file.specs.Plan.{opened, used, closed, other, took, no, field, fields, read_plan}
use Rattle.plan_file.specs.Write.{levels, deepest, written, widest, wrote, not, write_plan}

-- a use of texture 7: 4 mips, 8 layers, mips 0 to 1, layers 2 to 3, state 5
a_use : List ℕ
a_use = 7 ∷ 0 ∷ 0 ∷ 0 ∷ 4 ∷ 8 ∷ 0 ∷ 0 ∷ 1 ∷ 2 ∷ 0 ∷ 3 ∷ 0 ∷ 5 ∷ 0 ∷ []

-- a group with the use in it, and an empty group behind it
two_groups : List ℕ
two_groups = 1 ∷ 18 ∷ 0 ∷ 2 ∷ 15 ∷ 0 ∷ (a_use ++ (1 ∷ 0 ∷ 0 ∷ []))

empty : read_plan [] ≡ took []
unfolding fields
empty = refl

groups_read : read_plan two_groups ≡ took (opened ∷ used a_use ∷ closed ∷ opened ∷ closed ∷ [])
unfolding fields field two_groups a_use
groups_read = refl

-- the length comes before the tag
past_its_end : read_plan (7 ∷ 1 ∷ 0 ∷ []) ≡ no FieldCutShort
unfolding fields field
past_its_end = refl

unknown_tag : read_plan (7 ∷ 0 ∷ 0 ∷ []) ≡ no UnknownTag
unfolding fields field
unknown_tag = refl

short_use : read_plan (2 ∷ 1 ∷ 0 ∷ 9 ∷ []) ≡ no UseOfWrongSize
unfolding fields field
short_use = refl

-- a use of 14 bytes, and of 16
use_of_14 : read_plan (2 ∷ 14 ∷ 0 ∷ replicate 14 9) ≡ no UseOfWrongSize
unfolding fields field
use_of_14 = refl

use_of_16 : read_plan (2 ∷ 16 ∷ 0 ∷ replicate 16 9) ≡ no UseOfWrongSize
unfolding fields field
use_of_16 = refl

-- cut short inside a group, though the file goes on
past_its_group : read_plan (1 ∷ 1 ∷ 0 ∷ 1 ∷ 0 ∷ 0 ∷ []) ≡ no FieldCutShort
unfolding fields field
past_its_group = refl

-- the first field stands before the second
first_field : read_plan (2 ∷ 0 ∷ 0 ∷ 9 ∷ 0 ∷ 0 ∷ []) ≡ no UseOfWrongSize
unfolding fields field
first_field = refl

-- eight groups one in another, and nine
eight_groups : List ℕ
eight_groups = 1 ∷ 21 ∷ 0 ∷ 1 ∷ 18 ∷ 0 ∷ 1 ∷ 15 ∷ 0 ∷ 1 ∷ 12 ∷ 0 ∷ 1 ∷ 9 ∷ 0 ∷ 1 ∷ 6 ∷ 0 ∷ 1 ∷ 3 ∷ 0 ∷ 1 ∷ 0 ∷ 0 ∷ []

eight : read_plan eight_groups ≡ took (replicate 8 opened ++ replicate 8 closed)
unfolding fields field eight_groups
eight = refl

nine : read_plan (1 ∷ 24 ∷ 0 ∷ eight_groups) ≡ no GroupsTooDeep
unfolding fields field eight_groups
nine = refl

groups_written : write_plan (opened ∷ used a_use ∷ closed ∷ opened ∷ closed ∷ []) ≡ wrote two_groups
unfolding write_plan levels deepest widest written two_groups a_use
groups_written = refl

not_closed : write_plan (opened ∷ []) ≡ not PlanUnbalanced
unfolding write_plan levels
not_closed = refl

not_opened : write_plan (closed ∷ opened ∷ []) ≡ not PlanUnbalanced
unfolding write_plan levels
not_opened = refl

no_such_kind : write_plan (other ∷ []) ≡ not PlanUnbalanced
unfolding write_plan levels
no_such_kind = refl

-- not balanced comes before too deep
deep_and_open : write_plan (replicate 9 opened ++ replicate 8 closed) ≡ not PlanUnbalanced
unfolding write_plan levels
deep_and_open = refl

eight_written : write_plan (replicate 8 opened ++ replicate 8 closed) ≡ wrote eight_groups
unfolding write_plan levels deepest widest written eight_groups
eight_written = refl

nine_written : write_plan (replicate 9 opened ++ replicate 9 closed) ≡ not GroupsTooDeep
unfolding write_plan levels deepest
nine_written = refl
