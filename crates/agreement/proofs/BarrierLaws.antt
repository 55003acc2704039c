-- One texture in a tracker: the log's entries that hold a subresource are the grid's transition of it.
use Rattle.model.specs.Prelude.{ℕ, zero, suc, min, max, add-zero, add-suc, suc-add, zero-add, dec_le, dec_lt, arith, refl, sym, ap, ◌∙◌}
use Rattle.model.specs.Prelude.{Bool, true, false, and-false, and-eq-true_iff, Option, None, Some, List, [], map, append-nil, leb, ltb}
use Rattle.model.specs.Prelude.{replicate, length, length-replicate, get_or, get_or-replicate, List_get_D_append, List_get_D_eq_default}
use Rattle.model.specs.Prelude.{get_or-append-add, le-leb, lt-ltb, lt-leb, le-ltb, leb-true, ltb-true, ltb-false}
use Rattle.model.specs.{declared.{Extent.Extent, Range.Range, Selector.Selector, UsageFlags.UsageFlags}, Base.{each, each_at, zip₂}}
use Rattle.model.specs.{Representation.{select, full, in_mips, holds}, StateRules.{Move, move_of}}
use Rattle.model.specs.RangedStates.{iter_filter, layer_states, Tiles}
use Rattle.model.specs.Texture.{Held, single, many, Given, given_single, given_many, Piece, Entry, entry, mip_entries, barrier, pieces_of}
use Rattle.model.specs.{Subresources.everywhere, ListLaws.{all_at, all_get_d, all_weak, map_replicate, each_append}}
use Rattle.model.specs.{BoolLaws.{by_test, by_lt}, RangeLaws.{tiles_le, tiles_length}}
use Rattle.std.specs.Prelude.{◌-◌, ◌+◌, ◌≤◌, ◌<◌, ◌≡◌, ◌&&◌, ◌∷◌, ◌++◌, if◌then◌else◌}
use Rattle.agreement.specs.{Grid.{Named, tab, band, named_row, grid_barrier}, Shared.{grid_of, to_list, entries_at, grid_at}}
use Rattle.agreement.proofs.{FilterLaws.{held, held_state, held_filter}, RulesAgree.{rule_move, rule_log, log_rule}, MergeLaws.Tiled}
use Rattle.agreement.proofs.Passes.{piece_at, own_mip, other_mip}
use Rattle.agreement.proofs.TextureLaws.{Fit, Gives, gives_one, gives_place, gives_set, Fills, fills}

-- an entry counts by its move where it holds the subresource
in_append : (m l : ℕ) (x y : List Entry) → entries_at m l (x ++ y) ≡ entries_at m l x ++ entries_at m l y
in_append m l x y = each_append _ x y

-- an option is at most one
pub at_most_one : {A : Type 0} (o : Option A) → length (to_list o) ≤ 1
at_most_one None = omega arith
at_most_one (Some x) = omega arith

in_entry : (m l : ℕ) (q : Selector) (o : Option Move) → entries_at m l (entry q o) ≡ (if holds q m l then to_list o else [])
in_entry m l q None = by_test (λ (x : List Move). [] ≡ x) (holds q m l) (λ b. refl) (λ b. refl)
in_entry m l q (Some v) = append-nil (if holds q m l then v ∷ [] else [])

-- the entries of mip k's ranges
in_ranges : (m l : ℕ) (f : ℕ → Option Move) (s : List Range) → entries_at m l (mip_entries f m s) ≡ held (λ c. to_list (f c)) l s
in_ranges m l f [] = refl
in_ranges m l f (r ∷ s) =
    rw (
      in_append m l (entry (select m (suc m) r.start r.end) (f r.state)),
      in_entry m l (select m (suc m) r.start r.end)
          (f r.state),
      own_mip m r.start r.end,
      in_ranges m l f s,
    )

off_ranges : (m k l : ℕ) (f : ℕ → Option Move) (s : List Range) → (m ≡ k → ⊥) → entries_at m l (mip_entries f k s) ≡ []
off_ranges m k l f [] h = refl
off_ranges m k l f (r ∷ s) h =
    rw (
      in_append m l (entry (select k (suc k) r.start r.end) (f r.state)),
      in_entry m l (select k (suc k) r.start r.end)
          (f r.state),
      other_mip k m r.start r.end h,
      off_ranges m k l f s h,
    )

-- ---- of what the mips make, only what mip m makes counts
module _ {A B : Type 0} (h : B → List Move) (g : ℕ → A → List B) (m : ℕ) (d : A) (off : (j : ℕ) (x : A) → (m ≡ j → ⊥) → each h (g j x) ≡ [])
    (past : each h (g m d) ≡ []) where
  off_mips : (k : ℕ) (s : List A) → m < k → each h (each_at g k s) ≡ []
  off_mips k [] e = refl
  off_mips k (x ∷ s) e = rw (each_append h (g k x), off k x (λ z. omega arith), off_mips (suc k) s (omega arith))

  from_mip : (k i : ℕ) (s : List A) → m ≡ k + i → each h (each_at g k s) ≡ each h (g m (get_or s i d))
  from_mip k i [] e = sym past
  from_mip k zero (x ∷ s) e = let q : k ≡ m = omega arith in rw (each_append h (g k x), off_mips (suc k) s (omega arith), append-nil, q)
  from_mip k (suc i) (x ∷ s) e = rw (each_append h (g k x), off k x (λ z. omega arith)) (from_mip (suc k) i s (omega arith))

  at_mip : (s : List A) → each h (each_at g 0 s) ≡ each h (g m (get_or s m d))
  at_mip s = from_mip 0 m s (omega arith)

-- ---- the state of a subresource, if the rows have it
abbrev look : List (List ℕ) → ℕ → ℕ → Option ℕ
look g m l = get_or (get_or (map (map Some) g) m []) l None

-- the rule's transition, if the subresource is there
abbrev moved : UsageFlags → ℕ → Option ℕ → Option ℕ → List Move
moved p mask None o = []
moved p mask (Some c) o = to_list (rule_move p mask c o)

moved_none : (p : UsageFlags) (mask : ℕ) (c : Option ℕ) → moved p mask c None ≡ []
moved_none p mask None = refl
moved_none p mask (Some c) = refl

row_at : (p : UsageFlags) (mask : ℕ) (r : List ℕ) (q : List (Option ℕ)) (l : ℕ)
    → to_list (get_or (zip₂ (rule_move p mask) r q) l None) ≡ moved p mask (get_or (map Some r) l None) (get_or q l None)
row_at p mask [] q l = refl
row_at p mask (c ∷ r) [] l = sym (moved_none p mask (get_or (map Some (c ∷ r)) l None))
row_at p mask (c ∷ r) (o ∷ q) zero = refl
row_at p mask (c ∷ r) (o ∷ q) (suc l) = row_at p mask r q l

grid_at_lem : (p : UsageFlags) (mask : ℕ) (g : List (List ℕ)) (n : List (List (Option ℕ))) (m l : ℕ)
    → grid_at m l (zip₂ (zip₂ (rule_move p mask)) g n) ≡ moved p mask (look g m l) (get_or (get_or n m []) l None)
grid_at_lem p mask [] n m l = refl
grid_at_lem p mask (r ∷ g) [] m l = sym (moved_none p mask (look (r ∷ g) m l))
grid_at_lem p mask (r ∷ g) (q ∷ n) zero l = row_at p mask r q l
grid_at_lem p mask (r ∷ g) (q ∷ n) (suc m) l = grid_at_lem p mask g n m l

-- ---- what the given pieces say of a subresource
abbrev given_state : (ℕ → List Move) → ℕ → ℕ → List Piece → List Move
given_state f m l qs = each (λ (q : Piece). if holds q.selector m l then f q.state else []) qs

abbrev pub or_none : (ℕ → List Move) → Option ℕ → List Move
or_none f None = []
or_none f (Some st) = f st

given_ranges : (f : ℕ → List Move) (m l : ℕ) (t : List Range) → given_state f m l (map (piece_at m) t) ≡ held f l t
given_ranges f m l [] = refl
given_ranges f m l (r ∷ t) = rw (own_mip m r.start r.end, given_ranges f m l t)

given_off : (f : ℕ → List Move) (m k l : ℕ) (t : List Range) → (m ≡ k → ⊥) → given_state f m l (map (piece_at k) t) ≡ []
given_off f m k l [] h = refl
given_off f m k l (r ∷ t) h = rw (other_mip k m r.start r.end h, given_off f m k l t h)

held_after : {A : Type 0} (f : ℕ → List A) (l : ℕ) (s : List Range) (a e : ℕ) → Tiles a s e → e ≤ l → held f l s ≡ []
held_after f l [] a e t h = refl
held_after f l (r ∷ s) a e t h =
    let x = tiles_le s r.end e t.2 in let y : r.end ≤ l = omega arith in
    rw (le-ltb l r.end y, and-false, held_after f l s r.end e t.2 h)

get_d_some : (s : List ℕ) (l d : ℕ) → l < length s → get_or (map Some s) l None ≡ Some (get_or s l d)
get_d_some [] l d h = absurd (omega arith)
get_d_some (c ∷ s) zero d h = refl
get_d_some (c ∷ s) (suc l) d h = get_d_some s l d (omega arith)

some_out : (s : List ℕ) (l : ℕ) → length s ≤ l → get_or (map {A = ℕ} {B = Option ℕ} Some s) l None ≡ None
some_out [] l h = refl
some_out (c ∷ s) zero h = absurd (omega arith)
some_out (c ∷ s) (suc l) h = some_out s l (omega arith)

-- what the ranges that hold layer l make, by the layer's state
held_some : (w : ℕ) (f : ℕ → List Move) (l : ℕ) (s : List Range) → Tiles 0 s w
    → held f l s ≡ or_none f (get_or (map Some (layer_states s)) l None)
held_some w f l s t =
    let c = tiles_length s 0 w t in
    by_lt l w
    (λ k. let z : l - 0 ≡ l = omega arith in
    rw (get_d_some (layer_states s) l 0 (omega arith), held_state f l s 0 w 0 t (omega arith) k, z))
    (λ k. rw (held_after f l s 0 w t k, some_out (layer_states s) l (omega arith)))

rows_some : (ts : List (List Range)) (m : ℕ)
    → get_or (map (map {A = ℕ} {B = Option ℕ} Some) (map layer_states ts)) m [] ≡ map Some (layer_states (get_or ts m []))
unfolding layer_states
rows_some [] m = refl
rows_some (t ∷ ts) zero = refl
rows_some (t ∷ ts) (suc m) = rows_some ts m

held_look : (sh : Extent) (f : ℕ → List Move) (m l : ℕ) (ts : List (List Range)) → Tiled sh ts
    → held f l (get_or ts m []) ≡ or_none f (look (map layer_states ts) m l)
unfolding layer_states
held_look sh f m l ts t =
    rw (rows_some ts m) (all_get_d (λ (s : List Range). held f l s ≡ or_none f (get_or (map Some (layer_states s)) l None)) ts m [] refl
    (all_weak (λ (s : List Range). Tiles 0 s sh.layers) (λ (s : List Range). held f l s
    ≡ or_none f (get_or (map Some (layer_states s)) l None)) (held_some sh.layers f l) ts t))

lookup_set : (sh : Extent) (f : ℕ → List Move) (m l : ℕ) (ts : List (List Range)) → Tiled sh ts
    → given_state f m l (pieces_of ts) ≡ or_none f (look (map layer_states ts) m l)
lookup_set sh f m l ts t =
    at_mip (λ (q : Piece). if holds q.selector m l then f q.state else []) (λ j. map (piece_at j)) m []
    (λ j x e. given_off f m j l x e) refl ts
    ∙ given_ranges f m l (get_or ts m []) ∙ held_look sh f m l ts t

-- ---- a place
get_d_blank : {A : Type 0} (n i : ℕ) → get_or (replicate {A = Option A} n None) i None ≡ None
get_d_blank zero i = refl
get_d_blank (suc n) zero = refl
get_d_blank (suc n) (suc i) = get_d_blank n i

get_d_band : (a e w st l : ℕ) → a ≤ e → get_or (band a e w (Some st) None) l None ≡ (if leb a l && ltb l e then Some st else None)
get_d_band a e w st l h = go (dec_lt l a) (dec_lt l e)
  where
    B : List (Option ℕ)
    B = replicate (e - a) (Some st) ++ replicate (w - e) None

    go : Dec (l < a) → Dec (l < e) → get_or (replicate a None ++ B) l None ≡ (if leb a l && ltb l e then Some st else None)
    go (yes d) k =
        let n : l < length (replicate {A = Option ℕ} a None) = rw length-replicate d in
        rw (lt-leb a l d, List_get_D_append (replicate a None) B None l n, get_d_blank)
    go (no d) (yes k) =
        let n : l ≡ length (replicate {A = Option ℕ} a None) + (l - a) = rw length-replicate (omega arith) in
        let x : l - a < e - a = omega arith in
        let m : l - a < length (replicate {A = Option ℕ} (e - a) (Some st)) = rw length-replicate x in
        rw (le-leb a l (omega arith), lt-ltb l e k) (ap (λ (i : ℕ). get_or (replicate a None ++ B) i None) n
        ∙ get_or-append-add (replicate a None) B (l - a) None
        ∙ List_get_D_append (replicate (e - a) (Some st)) (replicate (w - e) None) None (l - a) m
        ∙ get_or-replicate (e - a) (l - a) (Some st) None x)
    go (no d) (no k) =
        let n : l ≡ length (replicate {A = Option ℕ} a None) + (l - a) = rw length-replicate (omega arith) in
        let m : l - a ≡ length (replicate {A = Option ℕ} (e - a) (Some st)) + (l - e) = rw length-replicate (omega arith) in
        rw (le-ltb l e (omega arith), and-false) (ap (λ (i : ℕ). get_or (replicate a None ++ B) i None) n
        ∙ get_or-append-add (replicate a None) B (l - a) None
        ∙ ap (λ (i : ℕ). get_or B i None) m ∙ get_or-append-add (replicate (e - a) (Some st)) (replicate (w - e) None) (l - e) None
        ∙ get_d_blank (w - e) (l - e))

get_d_tab : {A : Type 0} (f : ℕ → A) (k n i : ℕ) (d : A) → i < n → get_or (tab f k n) i d ≡ f (k + i)
get_d_tab f k zero i d h = absurd (omega arith)
get_d_tab f k (suc n) zero d h = rw add-zero
get_d_tab f k (suc n) (suc i) d h = get_d_tab f (suc k) n i d (omega arith) ∙ rw (suc-add, add-suc)

tab_out : {A : Type 0} (f : ℕ → A) (k n i : ℕ) (d : A) → n ≤ i → get_or (tab f k n) i d ≡ d
tab_out f k zero i d h = refl
tab_out f k (suc n) zero d h = absurd (omega arith)
tab_out f k (suc n) (suc i) d h = tab_out f (suc k) n i d (omega arith)

none_if : (f : ℕ → List Move) (b : Bool) (st : ℕ) → (if b then f st else []) ++ [] ≡ or_none f (if b then Some st else None)
none_if f true st = append-nil (f st)
none_if f false st = refl

pub lookup_place : (sh : Extent) (f : ℕ → List Move) (m l : ℕ) (q : Selector) (st : ℕ)
    → q.layers.start.0 < q.layers.end.0 → q.mips.end.0 ≤ sh.mips
    → (if holds q m l then f st else []) ++ [] ≡ or_none f (get_or (get_or (tab (named_row sh q st) 0 sh.mips) m []) l None)
lookup_place sh f m l q st h g = go (dec_lt m sh.mips)
  where
    go : Dec (m < sh.mips)
        → (if holds q m l then f st else []) ++ [] ≡ or_none f (get_or (get_or (tab (named_row sh q st) 0 sh.mips) m []) l None)
    go (no d) = rw (tab_out (named_row sh q st) 0 sh.mips m [] (omega arith), le-ltb m q.mips.end.0 (omega arith), and-false)
    go (yes d) = rw (get_d_tab (named_row sh q st) 0 sh.mips m [] d, zero-add) (row (in_mips q m))
      where
        row : (b : Bool) → (if b && leb q.layers.start.0 l && ltb l q.layers.end.0 then f st else []) ++ []
            ≡ or_none f (get_or (if b then band q.layers.start.0 q.layers.end.0 sh.layers (Some st) None
            else replicate sh.layers None) l None)
        row true = rw (get_d_band q.layers.start.0 q.layers.end.0 sh.layers st l (omega arith))
            (none_if f (leb q.layers.start.0 l && ltb l q.layers.end.0) st)
        row false = rw get_d_blank

read_at : (sh : Extent) (f : ℕ → List Move) (m l : ℕ) (qs : List Piece) (n : Named) → Gives sh (given_many qs) n
    → given_state f m l qs ≡ or_none f (get_or (get_or n.states m []) l None)
read_at sh f m l qs n (gives_place {q} a b c d) = lookup_place sh f m l q.selector q.state a d
read_at sh f m l qs n (gives_set ts h t) = lookup_set sh f m l ts t

-- a use of every subresource
pub everywhere_at : (sh : Extent) (x m l : ℕ)
    → get_or (get_or (everywhere sh (Some x)) m []) l None ≡ (if holds (full sh) m l then Some x else None)
everywhere_at sh x m l =
    by_lt m sh.mips
    (λ a. rw (
      get_or-replicate sh.mips m (replicate sh.layers (Some x)) [] a,
      le-leb 0 m (omega arith),
      lt-ltb m sh.mips a,
      le-leb 0 l (omega arith),
    ) (by_lt l sh.layers
    (λ b. rw (get_or-replicate sh.layers l (Some x) None b, lt-ltb l sh.layers b))
    (λ b. rw (le-ltb l sh.layers b) (List_get_D_eq_default (replicate sh.layers (Some x)) None {n = l} (rw length-replicate b)))))
    (λ a. let e : length (everywhere sh (Some x)) ≤ m = rw length-replicate a in
    rw (List_get_D_eq_default (everywhere sh (Some x)) [] {n = m} e, le-ltb m sh.mips a, and-false))

look_everywhere : (sh : Extent) (x m l : ℕ) → look (everywhere sh x) m l ≡ (if holds (full sh) m l then Some x else None)
look_everywhere sh x m l =
    rw (
      map_replicate (map {A = ℕ} {B = Option ℕ} Some) sh.mips (replicate sh.layers x),
      map_replicate {A = ℕ} {B = Option ℕ} Some
          sh.layers x,
    ) (everywhere_at sh x m l)

unlike : (st : ℕ) → None ≡ Some st → ⊥
unlike st e = let h : ◌≡◌ {A = ℕ} 0 1 = cc in omega arith

-- a named subresource is one of the extent
named_inside : (sh : Extent) (n : List (List (Option ℕ))) (m l st : ℕ) → Fills sh n
    → get_or (get_or n m []) l None ≡ Some st → holds (full sh) m l ≡ true
named_inside sh n m l st f e =
    by_lt m sh.mips
    (λ a. let r = all_at (λ (r : List (Option ℕ)). length r ≡ sh.layers) n m [] f.1 (omega arith) in by_lt l sh.layers
    (λ b. rw (le-leb 0 m (omega arith), lt-ltb m sh.mips a, le-leb 0 l (omega arith), lt-ltb l sh.layers b))
    (λ b. absurd (unlike st (sym (List_get_D_eq_default (get_or n m []) None {n = l} (omega arith)) ∙ e))))
    (λ a. absurd (unlike st ((rw (List_get_D_eq_default n [] {n = m} (omega arith)) at e))))

-- ---- the four cases
-- the entries of pieces on a Single texture
in_pieces : (m l : ℕ) (f : ℕ → Option Move) (qs : List Piece)
    → entries_at m l (each (λ (q : Piece). entry q.selector (f q.state)) qs) ≡ given_state (λ st. to_list (f st)) m l qs
in_pieces m l f [] = refl
in_pieces m l f (q ∷ qs) =
    rw (in_append m l (entry q.selector (f q.state)), in_entry m l q.selector (f q.state), in_pieces m l f qs)

-- one piece on the mips: what mip m has of it
abbrev piece_log : UsageFlags → ℕ → Piece → ℕ → List Range → List Entry
piece_log p mask q k s = if in_mips q.selector k
    then mip_entries (λ cur. move_of p.unknown mask cur q.state) k (iter_filter q.selector.layers.start.0
    q.selector.layers.end.0 s) else []

off_piece : (p : UsageFlags) (mask l : ℕ) (q : Piece) (m k : ℕ) (s : List Range) → (m ≡ k → ⊥)
    → entries_at m l (piece_log p mask q k s) ≡ []
off_piece p mask l q m k s h =
    by_test (λ (x : List Entry). entries_at m l x ≡ []) (in_mips q.selector k)
    (λ b. off_ranges m k l (λ cur. move_of p.unknown mask cur q.state)
    (iter_filter q.selector.layers.start.0 q.selector.layers.end.0 s) h) (λ b. refl)

filter_out : {A : Type 0} (f : ℕ → List A) (l a e : ℕ) (s : List Range) → leb a l && ltb l e ≡ false → held f l (iter_filter a e s) ≡ []
unfolding iter_filter
filter_out f l a e [] h = refl
filter_out {A} f l a e (r ∷ s) h =
    let ih = filter_out f l a e s h in
    by_test (λ (x : List Range). held f l x ≡ []) (ltb a r.end && ltb r.start e)
    (λ b. rw (outside (dec_le a l), ih)) (λ b. ih)
  where
    outside : Dec (a ≤ l) → leb (max r.start a) l && ltb l (min r.end e) ≡ false
    outside (yes d) = let x = ltb-false l e (rw (le-leb a l d) at h) in rw (le-ltb l (min r.end e) (omega arith), and-false)
    outside (no d) = rw (lt-leb (max r.start a) l (omega arith))

on_piece : (p : UsageFlags) (mask l : ℕ) (q : Piece) (m : ℕ) (s : List Range)
    → entries_at m l (piece_log p mask q m s)
    ≡ (if holds q.selector m l then held (λ c. to_list (move_of p.unknown mask c q.state)) l s else [])
on_piece p mask l q m s = go (in_mips q.selector m)
  where
    a : ℕ
    a = q.selector.layers.start.0

    e : ℕ
    e = q.selector.layers.end.0

    go : (b : Bool) → entries_at m l (if b then mip_entries (λ cur. move_of p.unknown mask cur q.state) m (iter_filter a e s) else [])
        ≡ (if b && leb a l && ltb l e then held (λ c. to_list (move_of p.unknown mask c q.state)) l s else [])
    go false = refl
    go true =
        in_ranges m l (λ cur. move_of p.unknown mask cur q.state) (iter_filter a e s)
        ∙ by_test (λ (x : List Move). held (λ c. to_list (move_of p.unknown mask c q.state)) l (iter_filter a e s) ≡ x) (leb a l
        && ltb l e)
        (λ b. let h = (and-eq-true_iff (leb a l) (ltb l e)).0 b in
        held_filter _ l a e s (leb-true _ _ h.0) (ltb-true _ _ h.1)) (λ b. filter_out _ l a e s b)

module _ (p : UsageFlags) (mask : ℕ) (sh : Extent) (m l : ℕ) where
  -- the pieces on a Many texture
  in_many : (ss : List (List Range)) (qs : List Piece) → Tiled sh ss
      → entries_at m l (each (λ (q : Piece). each_at (piece_log p mask q) 0 ss) qs)
      ≡ given_state (λ st. or_none (λ c. to_list (move_of p.unknown mask c st)) (look (map layer_states ss) m l)) m l qs
  unfolding iter_filter
  in_many ss [] t = refl
  in_many ss (q ∷ qs) t =
      let past : entries_at m l (piece_log p mask q m []) ≡ [] =
      by_test (λ (x : List Entry). entries_at m l x ≡ []) (in_mips q.selector m) (λ b. refl) (λ b. refl) in
      let x : entries_at m l (each_at (piece_log p mask q) 0 ss)
      ≡ (if holds q.selector m l then or_none (λ c. to_list (move_of p.unknown mask c q.state)) (look (map layer_states ss) m l)
      else []) =
      at_mip (λ (e : Entry). if holds e.selector m l then e.move ∷ [] else []) (piece_log p mask q) m []
      (λ j s e. off_piece p mask l q m j s e) past ss
      ∙ on_piece p mask l q m (get_or ss m [])
      ∙ ap (λ (y : List Move). if holds q.selector m l then y
      else []) (held_look sh (λ c. to_list (move_of p.unknown mask c q.state)) m l ss t) in
      rw (in_append m l (each_at (piece_log p mask q) 0 ss), x, in_many ss qs t)

  -- a state that is there, and one that is given, in either order
  meet : (c o : Option ℕ) → or_none (λ st. or_none (λ c. to_list (move_of p.unknown mask c st)) c) o ≡ moved p mask c o
  meet None None = refl
  meet None (Some st) = refl
  meet (Some c) None = refl
  meet (Some c) (Some st) = refl

  rule_logged : (h : Held) (g : Given) (n : Named) → Fit sh h → Gives sh g n
      → entries_at m l (barrier p mask sh h g) ≡ moved p mask (look (grid_of sh h).states m l) (get_or (get_or n.states m []) l None)
  unfolding barrier grid_of
  rule_logged (single cur) (given_single new) n f gives_one =
      rw (in_entry m l (full sh) (move_of p.unknown mask cur new), look_everywhere sh cur m l, everywhere_at sh new m l)
      (go (holds (full sh) m l))
    where
      go : (b : Bool)
          → (if b then to_list (move_of p.unknown mask cur new) else [])
          ≡ moved p mask (if b then Some cur else None) (if b then Some new else None)
      go true = refl
      go false = refl
  rule_logged (single cur) (given_many qs) n f g =
      rw (
        in_pieces m l (λ st. move_of p.unknown mask cur st) qs,
        read_at sh (λ st. to_list (move_of p.unknown mask cur st)) m l qs n g,
        look_everywhere sh cur m l,
      ) (go (get_or (get_or n.states m []) l None) refl)
    where
      go : (o : Option ℕ) → get_or (get_or n.states m []) l None ≡ o
          → or_none (λ st. to_list (move_of p.unknown mask cur st)) o ≡ moved p mask (if holds (full sh) m l then Some cur else None) o
      go None e = sym (moved_none p mask (if holds (full sh) m l then Some cur else None))
      go (Some st) e = rw (named_inside sh n.states m l st (fills sh qs n g) e)
  rule_logged (many ss) (given_single new) n f gives_one =
      at_mip (λ (e : Entry). if holds e.selector m l then e.move ∷ [] else []) (mip_entries (λ cur. move_of p.unknown mask cur new)) m
      [] (λ j s e. off_ranges m j l (λ cur. move_of p.unknown mask cur new) s e) refl ss
      ∙ in_ranges m l (λ cur. move_of p.unknown mask cur new) (get_or ss m [])
      ∙ held_look sh (λ c. to_list (move_of p.unknown mask c new)) m l ss f.2
      ∙ rw (everywhere_at sh new m l) (go (look (map layer_states ss) m l) refl)
    where
      go : (o : Option ℕ) → look (map layer_states ss) m l ≡ o
          → or_none (λ c. to_list (move_of p.unknown mask c new)) o ≡ moved p mask o (if holds (full sh) m l then Some new else None)
      go None e = refl
      go (Some c) e = rw (named_inside sh (map (map Some) (map layer_states ss)) m l c
          (fills sh (pieces_of ss) _ (gives_set ss f.1 f.2)) e)
  rule_logged (many ss) (given_many qs) n f g =
      in_many ss qs f.2 ∙ read_at sh (λ st. or_none (λ c. to_list (move_of p.unknown mask c st))
      (look (map layer_states ss) m l)) m l qs n g ∙ meet (look (map layer_states ss) m l) (get_or (get_or n.states m []) l None)

  -- and so are the grid's own transitions
  pub logged : (h : Held) (g : Given) (n : Named) → Fit sh h → Gives sh g n
      → entries_at m l (barrier p mask sh h g) ≡ grid_at m l (grid_barrier p mask sh (grid_of sh h) n)
  unfolding rule_log
  logged h g n f r = rw (log_rule p mask sh (grid_of sh h) n) (rule_logged h g n f r
      ∙ sym (grid_at_lem p mask (grid_of sh h).states n.states m l))
