-- The records in use cut at a position, and what a store and an insertion there make of them.
use Rattle.std.specs.Prelude.{◌+◌, ◌*◌, ◌≤◌, ◌<◌, ◌≡◌, ◌∷◌, ◌++◌}
use Rattle.model.specs.Prelude.{ℕ, le_of_lt, add-one, arith, ◌∙◌, List, length, get_or, take, drop, set}
use Rattle.model.specs.Prelude.{take-append-drop, take-take, slice-cons, length-take-le, set_split}
use Rattle.model.specs.declared.{Range.Range}
use Rattle.range_states.specs.View.{view, decode, blank, Put, Becomes, view_long, becomes_none, becomes_live, becomes_then}
use Rattle.range_states.specs.{View.becomes_put, Insert.{insert_at, insert_at_is, insert_at_at}}

module _ (l : List ℕ) (len pos : ℕ) (room : 3 * len ≤ length l) (h : pos ≤ len) where
  pub long_is : length (decode len l) ≡ len
  long_is = length-take-le len (view l) (view_long l len room)

  pub front_is : take pos (decode len l) ≡ decode pos l
  front_is = take-take pos len (view l) h

  pub front_long : length (decode pos l) ≡ pos
  front_long = length-take-le pos (view l) (view_long l pos (omega arith))

  -- an insertion at pos, as the front, the record and the back
  pub insert_is : (r : Range) → insert_at pos r (decode len l) ≡ decode pos l ++ (r ∷ drop pos (decode len l))
  insert_is r = insert_at_is pos r (decode len l) (rw long_is h) ∙ rw front_is

  pub joined_is : decode pos l ++ drop pos (decode len l) ≡ decode len l
  joined_is = rw (← front_is) (take-append-drop pos (decode len l))

-- the record at pos, and what is behind it
pub next_is : (l : List ℕ) (len pos : ℕ) (x : Range) → 3 * len ≤ length l → pos < len → x ≡ get_or (view l) pos blank
    → drop pos (decode len l) ≡ x ∷ drop (pos + 1) (decode len l)
next_is l len pos x room h e = rw (add-one, e) (slice-cons pos len (view l) blank h (view_long l len room))

-- a store at pos and then an insertion there: two records where one was
module _ {l : List ℕ} {len pos : ℕ} (q : Range) {r : Range} {l₁ l₂ : List ℕ} (room : 3 * (len + 1) ≤ length l) (h : pos < len)
    (p : Put l pos r l₁) (b : Becomes l₁ (len + 1) (insert_at pos q (decode len l₁)) l₂) where
  pub put_insert : Becomes l (len + 1) (decode pos l ++ (q ∷ r ∷ drop (pos + 1) (decode len l))) l₂
  put_insert =
      let k : Becomes l len (set (decode len l) pos r) l₁ = becomes_put (becomes_none l len (omega arith)) h p in
      let long : length (decode len l) ≡ len = long_is l len pos (omega arith) (le_of_lt h) in
      let m : decode len l₁ ≡ decode pos l ++ (r ∷ drop (pos + 1) (decode len l)) =
      becomes_live k ∙ rw (add-one, ← front_is l len pos (omega arith) (le_of_lt h)) (set_split (decode len l) pos r (rw long h))
      in
      let i : insert_at pos q (decode len l₁) ≡ decode pos l ++ (q ∷ r ∷ drop (pos + 1) (decode len l)) =
      rw m (insert_at_at (decode pos l) (r ∷ drop (pos + 1) (decode len l)) pos q (front_long l len pos (omega arith) (le_of_lt h)))
      in
      rw (← i) (becomes_then k (omega arith) b)
