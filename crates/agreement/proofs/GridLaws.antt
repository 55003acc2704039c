-- Lists of rows: what holds of every subresource of a grid, and grids that are made from another.
use Rattle.std.specs.Prelude.{◌-◌, ◌≤◌, ◌≡◌, ◌∷◌, ◌++◌}
use Rattle.model.specs.Prelude.{ℕ, suc, arith, refl, ap, ◌∙◌, sym, List, [], map, replicate, length, take, drop}
use Rattle.model.specs.Prelude.{take-append-drop, length-take, length-drop}
use Rattle.model.specs.{declared.Extent.Extent, Base.{zip₂, Stop, fine, walk₂, All}, Subresources.everywhere}
use Rattle.model.specs.ListLaws.{all_map, all_replicate, map_replicate}

pub all_of : {A : Type 0} (P : A → Type 0) → ((x : A) → P x) → (s : List A) → All P s
all_of P h [] = tt
all_of P h (x ∷ s) = (h x, all_of P h s)

pub all_zip : {A B D : Type 0} (P : A → Type 0) (Q : B → Type 0) (R : D → Type 0) (f : A → B → D)
    → ((a : A) (b : B) → P a → Q b → R (f a b))
    → (s : List A) (t : List B) → All P s → All Q t → All R (zip₂ f s t)
all_zip P Q R f h [] t a b = tt
all_zip P Q R f h (x ∷ s) [] a b = tt
all_zip P Q R f h (x ∷ s) (y ∷ t) a b = (h x y a.0 b.0, all_zip P Q R f h s t a.1 b.1)

-- what holds of every subresource of a grid
abbrev pub GridAll : {A : Type 0} → (A → Type 0) → List (List A) → Type 0
GridAll P g = All (All P) g

pub grid_map : {A B : Type 0} (P : A → Type 0) (Q : B → Type 0) (f : A → B) → ((a : A) → P a → Q (f a)) → (g : List (List A))
    → GridAll P g → GridAll Q (map (map f) g)
grid_map P Q f h = all_map (All P) (All Q) (map f) (all_map P Q f h)

pub grid_everywhere : {A : Type 0} (P : A → Type 0) (sh : Extent) (x : A) → P x → GridAll P (everywhere sh x)
grid_everywhere P sh x p = all_replicate (All P) (replicate sh.layers x) sh.mips (all_replicate P x sh.layers p)

pub grid_zip : {A B D : Type 0} (P : A → Type 0) (Q : B → Type 0) (R : D → Type 0) (f : A → B → D)
    → ((a : A) (b : B) → P a → Q b → R (f a b))
    → (s : List (List A)) (t : List (List B)) → GridAll P s → GridAll Q t → GridAll R (zip₂ (zip₂ f) s t)
grid_zip P Q R f h = all_zip (All P) (All Q) (All R) (zip₂ f) (all_zip P Q R f h)

-- ---- grids made from another
pub map_everywhere : {A B : Type 0} (f : A → B) (sh : Extent) (x : A) → map (map f) (everywhere sh x) ≡ everywhere sh (f x)
map_everywhere f sh x = map_replicate (map f) sh.mips (replicate sh.layers x)
    ∙ ap (replicate sh.mips) (map_replicate f sh.layers x)

map_square : {A B D E : Type 0} (f : A → B) (g : B → E) (h : A → D) (k : D → E) → ((a : A) → g (f a) ≡ k (h a)) → (s : List A)
    → map g (map f s) ≡ map k (map h s)
map_square f g h k e [] = refl
map_square f g h k e (x ∷ s) = rw (e x, map_square f g h k e s)

-- by two ways that are the same of each subresource
pub grid_square : {A B D E : Type 0} (f : A → B) (g : B → E) (h : A → D) (k : D → E) → ((a : A) → g (f a) ≡ k (h a)) → (s : List (List A))
    → map (map g) (map (map f) s) ≡ map (map k) (map (map h) s)
grid_square f g h k e = map_square (map f) (map g) (map h) (map k) (map_square f g h k e)

map_back : {A B : Type 0} (f : A → B) (g : B → A) → ((a : A) → g (f a) ≡ a) → (s : List A) → map g (map f s) ≡ s
map_back f g e [] = refl
map_back f g e (x ∷ s) = rw (e x, map_back f g e s)

-- there and back
pub grid_back : {A B : Type 0} (f : A → B) (g : B → A) → ((a : A) → g (f a) ≡ a) → (s : List (List A)) → map (map g) (map (map f) s) ≡ s
grid_back f g e = map_back (map f) (map g) (map_back f g e)

-- ---- walks in which no step conflicts
module _ {A B C : Type 0} (f : A → B → A) where
  row_walks : (h : ℕ → A → B → Stop C A) → ((k : ℕ) (a : A) (b : B) → h k a b ≡ fine (f a b)) → (k : ℕ) (s : List A) (t : List B)
      → length s ≡ length t → walk₂ h k s t ≡ fine (zip₂ f s t)
  row_walks h e k [] t g = refl
  row_walks h e k (a ∷ s) [] g = absurd (omega arith)
  row_walks h e k (a ∷ s) (b ∷ t) g = rw (e k a b, row_walks h e (suc k) s t (omega arith))

  pub grid_walks : (h : ℕ → ℕ → A → B → Stop C A) → ((m l : ℕ) (a : A) (b : B) → h m l a b ≡ fine (f a b))
      → (k w : ℕ) (s : List (List A)) (t : List (List B))
      → length s ≡ length t → All (λ r. length r ≡ w) s → All (λ r. length r ≡ w) t
      → walk₂ (λ m. walk₂ (h m) 0) k s t ≡ fine (zip₂ (zip₂ f) s t)
  grid_walks h e k w [] t g x y = refl
  grid_walks h e k w (a ∷ s) [] g x y = absurd (omega arith)
  grid_walks h e k w (a ∷ s) (b ∷ t) g x y =
      rw (row_walks (h k) (e k) 0 a b (x.0 ∙ sym y.0), grid_walks h e (suc k) w s t (omega arith) x.1 y.1)

-- ---- a row before a, from a to e, and from e on
pub record Thirds {A : Type 0} (s : List A) (a e : ℕ) : Type 0 where
  pub before : List A
  pub run : List A
  pub after : List A
  pub parts : s ≡ before ++ (run ++ after)
  pub first : length before ≡ a
  pub middle : length run ≡ e - a

pub thirds : {A : Type 0} (s : List A) (a e : ℕ) → a ≤ e → e ≤ length s → Thirds s a e
thirds s a e h k = record {
  before = take a s;
  run = take (e - a) (drop a s);
  after = drop (e - a) (drop a s);
  parts = sym (rw (take-append-drop (e - a) (drop a s), take-append-drop a s));
  first = rw length-take (omega arith);
  middle = rw (length-take, length-drop) (omega arith);
}
