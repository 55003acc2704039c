-- Bytes copied over others, as many: a whole list, and the part of a list from a to b, where what stood before and behind it stays.
use Rattle.std.specs.Prelude.{◌+◌, ◌-◌, ◌≤◌, ◌≡◌, ◌++◌}
use Rattle.model.specs.Prelude.{ℕ, refl, ap, sym, ◌∙◌, List, [], append-nil, arith, length, take, drop, drop_of_length-le, take-length}
use borrow.Rule.Slice.PartMut.{mid_of, post_of, put_mid, Post-is, mid_len}

pub copied : (l p : List ℕ) {y : List ℕ} (a b : ℕ) → a + length p ≡ b → b ≤ length l → y ≡ p
    → put_mid a (b - a) l y ≡ take a l ++ (p ++ drop b l)
copied l p a b q h e = let back : post_of a (b - a) l ≡ drop b l = Post-is a b l (omega arith) in cc

-- bytes copied over others, as many, stand there as given
pub over : (p y z : List ℕ) → length z ≤ length p → y ≡ take (length p) p ++ drop (length p) z → y ≡ p
over p y z h e =
    let gone : drop (length p) z ≡ [] = drop_of_length-le z {i = length p} h in
    e ∙ ap (λ (x : List ℕ). take (length p) p ++ x) gone ∙ append-nil (take (length p) p) ∙ take-length p

-- the other way round: bytes that stand there as given stand there as copied over others
pub laid_over : (p y z : List ℕ) → length z ≤ length p → y ≡ p → y ≡ take (length p) p ++ drop (length p) z
laid_over p y z h e = e ∙ sym (over p (take (length p) p ++ drop (length p) z) z h refl)

-- so in a part of a list
pub copied_over : (l p y : List ℕ) (a b : ℕ) → a + length p ≡ b → b ≤ length l
    → y ≡ take (length p) p ++ drop (length p) (mid_of a (b - a) l) → put_mid a (b - a) l y ≡ take a l ++ (p ++ drop b l)
copied_over l p y a b q h e =
    let mids : length (mid_of a (b - a) l) ≡ b - a = mid_len a b l h in
    copied l p a b q h (over p y (mid_of a (b - a) l) (omega arith) e)
