-- A set slot by slot: what the checks tell of an index, what holds of every slot, and the set seen through a view of what its slots hold.
use Rattle.model.specs.Prelude.{ℕ, suc, zero-add, add-suc, suc-add, add-zero, refl, sym, ap, ◌∙◌, true, false, false≢true, Option, None}
use Rattle.model.specs.Prelude.{Some, List, [], map, length, length-set, length-replicate, replicate, get_or, set, List_get_D_map}
use Rattle.model.specs.Prelude.{not-false}
use Rattle.model.specs.{declared.{Extent.Extent, Refusal.Refusal, Selector.Selector, UsageFlags.UsageFlags}, Base.{each_at, All}}
use Rattle.model.specs.Representation.{Ends}
use Rattle.model.specs.Sets.{Numbers, Slot, Set, Tracker, Head, Opening, head_of, own_extent, empty_slot, slot_at, outside, with_slots}
use Rattle.model.specs.{Sets.open_set, Refusals.{texture_checks, owned_checks, single_refusal, set_refusal, opens}}
use Rattle.model.specs.{Calls.{CallResult, unless, turned_away}, BoolLaws.neither}
use Rattle.model.specs.ListLaws.{all_weak, all_left, all_right, all_get_d, all_set, all_replicate, map_replicate}
use Rattle.model.specs.CheckLaws.{Passed, passed, inside, own_extent_lem, same_flags_lem, single_passed}
use Rattle.std.specs.Prelude.{◌+◌, ◌≡◌, ◌∷◌}
use Rattle.agreement.specs.{Shared.grid_slots, Fits.{ExtentFits, SlotFits, SetFits}}
use Rattle.agreement.proofs.OpeningLaws.{opened_numbers, opened_fits}

-- ---- a call and its refusal
pub unless_by : {C L X : Type 0} (P : CallResult C L X → Type 0) (o : Option Refusal) {was : X} {out : CallResult C L X}
    → ((r : Refusal) → P (turned_away r was)) → (o ≡ None → P out) → P (unless o was out)
unless_by P None a b = b refl
unless_by P (Some r) a b = a r

-- two calls that are refused alike
pub unless_by₂ : {C L X C' L' X' : Type 0} (P : CallResult C L X → CallResult C' L' X' → Type 0) (o : Option Refusal) {was : X}
    {out : CallResult C L X} {was' : X'} {out' : CallResult C' L' X'}
    → ((r : Refusal) → P (turned_away r was) (turned_away r was')) → (o ≡ None → P out out') → P (unless o was out) (unless o was' out')
unless_by₂ P None a b = b refl
unless_by₂ P (Some r) a b = a r

-- ---- seen through a view of what a slot holds
module _ {H J : Type 0} (v : Extent → H → J) where
  abbrev pub image_slot : Slot H → Slot J
  image_slot s = record { owned = s.owned; extent = s.extent; held = v s.extent s.held }

  abbrev pub image_set : Set H → Set J
  image_set s = record { numbers = s.numbers; flags = s.flags; slots = grid_slots v s.slots }

  -- the checks read nothing of what is held
  pub extents_image : (l : List (Slot H)) → map own_extent (grid_slots v l) ≡ map own_extent l
  extents_image [] = refl
  extents_image (x ∷ l) = rw (extents_image l)

  pub head_image : (s : Set H) → head_of (image_set s) ≡ head_of s
  head_image s = λ i. record { numbers = s.numbers; flags = s.flags; extents = extents_image s.slots i }

  pub slot_image : (h : H) (j : J) → v (record { mips = 0; layers = 0 }) h ≡ j → (s : Set H) (i : ℕ)
      → slot_at j (image_set s) i ≡ image_slot (slot_at h s i)
  slot_image h j e s i = rw (← e) (List_get_D_map image_slot s.slots i (empty_slot h))

  pub open_image : (h : ℕ → H) (j : ℕ → J) → ((n : ℕ) → v (record { mips = 0; layers = 0 }) (h n) ≡ j n) → (o : Opening)
      → image_set (open_set h o) ≡ open_set j o
  open_image h j e o = λ i. record {
    numbers = o.numbers;
    flags = o.flags;
    slots = (map_replicate image_slot o.numbers.textures (empty_slot (h o.flags.uninitialized))
        ∙ ap (λ (x : J). replicate o.numbers.textures (empty_slot x)) (e o.flags.uninitialized)) i;
  }

abbrev pub image_ends : {H J : Type 0} → (Extent → H → J) → Extent → Ends H → Ends J
image_ends v sh e = record { start = v sh e.start; end = v sh e.end }

abbrev pub image_tracker : {H J : Type 0} → (Extent → H → J) → Tracker H → Tracker J
image_tracker v t = record { mask = t.mask; set = image_set (image_ends v) t.set }

-- ---- what holds of every slot
module _ {H : Type 0} (P : UsageFlags → Extent → H → Type 0) where
  pub no_owner : (n : Numbers) (p : UsageFlags) (x : Slot H) → x.owned ≡ false → SlotFits P n p x
  no_owner n p x e = record { extent = λ o. absurd (false≢true (sym e ∙ o)); held = λ o. absurd (false≢true (sym e ∙ o)) }

  pub slot_fits_lem : (s : Set H) (h : H) (i : ℕ) → SetFits P s → SlotFits P s.numbers s.flags (slot_at h s i)
  slot_fits_lem s h i f = all_get_d (SlotFits P s.numbers s.flags) s.slots i (empty_slot h)
      (no_owner s.numbers s.flags (empty_slot h) refl) f.slots

  pub put_slots : (s : Set H) (l : List (Slot H)) → SetFits P s → length l ≡ length s.slots
      → All (SlotFits P s.numbers s.flags) l → SetFits P (with_slots s l)
  put_slots s l f e t = record { numbers = f.numbers; flags = f.flags; room = e ∙ f.room; slots = t }

  pub put_slot : (s : Set H) (i : ℕ) (x : Slot H) → SetFits P s → SlotFits P s.numbers s.flags x
      → SetFits P (with_slots s (set s.slots i x))
  put_slot s i x f t = put_slots s _ f (length-set s.slots i x)
      (all_set (SlotFits P s.numbers s.flags) s.slots i x t f.slots)

  pub open_fits : (h : ℕ → H) (o : Opening) → opens o ≡ true → SetFits P (open_set h o)
  open_fits h o e = record {
    numbers = opened_numbers o e;
    flags = opened_fits o e;
    room = length-replicate o.numbers.textures _;
    slots = all_replicate (SlotFits P o.numbers o.flags) _ o.numbers.textures
        (no_owner o.numbers o.flags (empty_slot (h o.flags.uninitialized)) refl);
  }

-- what holds of each texture gives way to what follows from it
pub fits_weak : {H : Type 0} (P Q : UsageFlags → Extent → H → Type 0) (s : Set H) → SetFits P s
    → ((sh : Extent) (h : H) → ExtentFits s.numbers sh → P s.flags sh h → Q s.flags sh h) → SetFits Q s
fits_weak P Q s f w = record {
  numbers = f.numbers;
  flags = f.flags;
  room = f.room;
  slots = all_weak (SlotFits P s.numbers s.flags) (SlotFits Q s.numbers s.flags)
      (λ x t. record { extent = t.extent; held = λ o. w x.extent x.held (t.extent o) (t.held o) }) s.slots f.slots;
}

-- ---- what the checks tell of an index: the given extent is within the limits, and the one that is held where it is owned
pub record At {H : Type 0} (n : Numbers) (s : Slot H) (sh : Extent) : Type 0 where
  pub within : ExtentFits n sh
  pub own : s.owned ≡ true → s.extent ≡ sh

pub texture_at : {H : Type 0} (h : Head) (i : ℕ) (s : Slot H) (sh : Extent) → get_or h.extents i None ≡ own_extent s
    → Passed (texture_checks h i sh) → At h.numbers s sh
texture_at h i s sh d c =
    let o = neither (outside sh.mips h.numbers.mips) (outside sh.layers h.numbers.layers) c.1.0 in
    let a = inside _ _ o.0 in let b = inside _ _ o.1 in
    record { within = record { mip = a.0; mips = a.1; layer = b.0; layers = b.1 }; own = own_extent_lem s sh (rw d at c.1.1.0) }

pub single_at : {H : Type 0} (s : Set H) (h : H) (i : ℕ) (sh : Extent) (sel : Option Selector) (st : ℕ)
    → single_refusal (head_of s) i sh sel st ≡ None → At s.numbers (slot_at h s i) sh
single_at s h i sh sel st e =
    texture_at (head_of s) i (slot_at h s i) sh (List_get_D_map own_extent s.slots i (empty_slot h))
    (single_passed (head_of s) i sh sel st e).texture

-- 6: two sets have the same flags
pub flags_same : {H G : Type 0} (s : Set H) (g : Set G) → set_refusal (head_of s) (head_of g) ≡ None → s.flags ≡ g.flags
flags_same s g e = same_flags_lem s.flags g.flags (not-false _ (passed _ e).0)

-- 7 to 9 at every index that a given set owns: an induction along the slots of both
module _ {H G : Type 0} (h : Head) (P : Slot H → Type 0) (Q : Slot G → Type 0) (F : ℕ → List (Slot H) → List (Slot G) → Type 0)
    (past : (k : ℕ) (xs : List (Slot G)) → Passed (each_at (owned_checks h) k (map own_extent xs)) → F k [] xs)
    (rest : (k : ℕ) (l : List (Slot H)) → All P l → F k l [])
    (next : (k : ℕ) (s : Slot H) (l : List (Slot H)) (x : Slot G) (xs : List (Slot G)) → P s → All P l → Q x
    → (x.owned ≡ true → At h.numbers s x.extent) → F (suc k) l xs → F k (s ∷ l) (x ∷ xs)) where
  along : (k : ℕ) (l : List (Slot H)) (xs : List (Slot G)) → All P l → All Q xs
      → ((j : ℕ) → get_or h.extents (k + j) None ≡ get_or (map own_extent l) j None)
      → Passed (each_at (owned_checks h) k (map own_extent xs)) → F k l xs
  along k [] xs t u d c = past k xs c
  along k (s ∷ l) [] t u d c = rest k (s ∷ l) t
  along k (s ∷ l) (x ∷ xs) t u d c =
      next k s l x xs t.0 t.1 u.0 (λ e. texture_at h k s x.extent (rw add-zero at (d 0))
      (rw e at (all_left _ (owned_checks h k (own_extent x)) _ c)))
      (along (suc k) l xs t.1 u.1 (λ j. rw (suc-add, ← add-suc) (d (suc j))) (all_right _ (owned_checks h k (own_extent x)) _ c))

pub each_owned_lem : {H G : Type 0} (s : Set H) (g : Set G) → set_refusal (head_of s) (head_of g) ≡ None
    → (P : Slot H → Type 0) (Q : Slot G → Type 0) (F : ℕ → List (Slot H) → List (Slot G) → Type 0)
    → ((k : ℕ) (xs : List (Slot G)) → Passed (each_at (owned_checks (head_of s)) k (map own_extent xs)) → F k [] xs)
    → ((k : ℕ) (l : List (Slot H)) → All P l → F k l [])
    → ((k : ℕ) (x : Slot H) (l : List (Slot H)) (y : Slot G) (ys : List (Slot G)) → P x → All P l → Q y
    → (y.owned ≡ true → At s.numbers x y.extent) → F (suc k) l ys → F k (x ∷ l) (y ∷ ys))
    → All P s.slots → All Q g.slots → F 0 s.slots g.slots
each_owned_lem s g e P Q F past rest next t u = along (head_of s) P Q F past rest next 0 s.slots g.slots t u
    (λ j. rw zero-add) (passed _ e).1
