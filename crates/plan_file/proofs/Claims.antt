-- Claims: what holds of plan files, from the definitions (Plan, Write) and from the contracts of the calls (Reading, Writing).
use Rattle.std.specs.Prelude.{◌+◌, ◌*◌, ◌%◌, ◌≤◌, ◌≡◌, ◌++◌, Result, Ok}
use Rattle.model.specs.Prelude.{ℕ, true, List, length, take, drop}
use Rattle.model.specs.{declared.Refusal.Refusal, Refusals.number_of}
use Rattle.plan_file.specs.{Plan.{Event, took, no, read_plan}}
use Rattle.plan_file.specs.{Write.{events_of, levels, deepest, widest, wrote, not, write_plan}, Reading.PlanRead, Writing.PlanWritten}
use Rattle.plan_file.specs.{Wide.{Wide}, Bytes.Bytes, Forward.{balanced_from, deepest_from}, Uses.{widths, numbers_of, count_of}}
use Rattle.plan_file.specs.Packing.{bytes_of, Fit}
use Rattle.plan_file.proofs.RoundTrips as RoundTrips
use Rattle.plan_file.proofs.Together as Together
use Rattle.plan_file.specs.Forward as Forward
use Rattle.plan_file.proofs.Measures as Measures
use Rattle.plan_file.specs.Packing as Packing

-- ---- "An accepted file read and written is the same bytes, an accepted list written and read the same list."
-- f are bytes, as a file's elements are by their type
pub file_round_trip : (f : List ℕ) (es : List Event) → Bytes f → read_plan f ≡ took es → write_plan es ≡ wrote f
file_round_trip = RoundTrips.file_round_trip

-- the uses of es have 15 bytes, as those of items have by their layout (`wide_events` of WriteAnswers)
pub list_round_trip : (es : List Event) (f : List ℕ) → Wide es → write_plan es ≡ wrote f → read_plan f ≡ took es
list_round_trip = RoundTrips.list_round_trip

-- ---- The same of the two calls
-- where `read` accepts a file f, `write` of the n items that it left, with room for the file, writes f, and what lies past it stays
pub read_write_lem : (f l m t o z : List ℕ) (n : ℕ) (r : Result ℕ Refusal) → Bytes f
    → PlanRead f l (Ok n) m → t ≡ take (16 * n) m → PlanWritten t o r z → length f ≤ length o
    → (r ≡ Ok (length f)) × (z ≡ f ++ drop (length f) o)
read_write_lem = Together.read_write_lem

-- where `write` accepts items t, `read` of the n bytes that it left, with room for the items, leaves items of the same events
pub write_read : (t l z f o m : List ℕ) (n : ℕ) (r : Result ℕ Refusal)
    → PlanWritten t l (Ok n) z → f ≡ take n z → PlanRead f o r m → 16 * length (events_of t) ≤ length o
    → (r ≡ Ok (length (events_of t))) × (events_of (take (16 * length (events_of t)) m) ≡ events_of t)
write_read = Together.write_read

-- ---- Every file and every list is accepted, or turned away by its own numbers
pub read_refusals : (f : List ℕ) (r : Refusal) → read_plan f ≡ no r → (20 ≤ number_of r) × (number_of r ≤ 23)
read_refusals = Measures.read_refusals

pub write_refusals : (es : List Event) (r : Refusal) → write_plan es ≡ not r → (23 ≤ number_of r) × (number_of r ≤ 25)
write_refusals = Measures.write_refusals

-- ---- What 24 and 23 say from the end of a list, a walk from its front says too
pub balanced_forward : (es : List Event) → (levels es ≡ 1 → balanced_from es 0 ≡ true) × (balanced_from es 0 ≡ true → levels es ≡ 1)
balanced_forward = Forward.balanced_forward

-- of a balanced list `deepest` is one more than the most groups open at once
pub deepest_forward : (es : List Event) → levels es ≡ 1 → deepest es ≡ deepest_from es 0 + 1
deepest_forward = Forward.deepest_forward

-- ---- Room that is always enough: two items for three bytes, 18 bytes and one use for an item
pub items_few : (f : List ℕ) (es : List Event) → Bytes f → read_plan f ≡ took es → 3 * length es ≤ 2 * length f
items_few = Measures.items_few

pub bytes_few : (es : List Event) (f : List ℕ) → Wide es → write_plan es ≡ wrote f → length f ≤ 18 * length es
bytes_few = Measures.bytes_few

pub uses_few : (es : List Event) → count_of es ≤ length es
uses_few = Measures.uses_few

-- the longest group holds a multiple of three bytes: after 65,535, which passes, the next is 65,538
pub widest_third : (es : List Event) → Wide es → widest es % 3 ≡ 0
widest_third = Measures.widest_third

-- ---- The eight numbers of a use are its bytes, told in another way
pub bytes_of_numbers : (p : List ℕ) → length p ≡ 15 → Bytes p → bytes_of (numbers_of p) ≡ p
bytes_of_numbers = Packing.bytes_of_numbers

pub numbers_of_bytes : (us : List ℕ) → Fit widths us → numbers_of (bytes_of us) ≡ us
numbers_of_bytes = Packing.numbers_of_bytes
