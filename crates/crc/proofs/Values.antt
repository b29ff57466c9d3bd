-- The list of a function's values, by its elements. Assumes nothing.
use Prim.Native.Nat.{ℕ, zero, suc, ◌+◌, ◌<◌}
use mathlib.Core.List.{List, ◌∷◌, map}
use mathlib.Core.Path.{◌≡◌, refl, sym, ap, ◌∙◌}
use native.Mathlib.Nat.{not-suc-le-zero, le_of_suc-le-suc}
use native.Mathlib.Omega.{arith}
use lib.ListN.{length, get_or}
use lib.Seq.{ext_get_or}
use Rattle.crc.specs.Values.{values}

pub values_length : (f : ℕ → ℕ) (k n : ℕ) → length (values f k n) ≡ n
unfolding values
values_length f k zero = refl
values_length f k (suc n) = ap suc (values_length f (k + 1) n)

values_from : (f : ℕ → ℕ) (k n i : ℕ) → i < n → get_or (values f k n) i 0 ≡ f (k + i)
unfolding values
values_from f k zero i h = absurd (not-suc-le-zero h)
values_from f k (suc n) zero h = ap f (omega arith)
values_from f k (suc n) (suc i) h = let e : k + 1 + i ≡ k + suc i = omega arith in values_from f (k + 1) n i (le_of_suc-le-suc h) ∙ ap f e

pub values_at : (f : ℕ → ℕ) (n i : ℕ) → i < n → get_or (values f 0 n) i 0 ≡ f i
values_at f n i h = let e : 0 + i ≡ i = omega arith in values_from f 0 n i h ∙ ap f e

-- a list of n numbers that are the values of f is the list of them
pub values_of : (f : ℕ → ℕ) (n : ℕ) (l : List ℕ) → length l ≡ n → ((i : ℕ) → i < n → get_or l i 0 ≡ f i) → l ≡ values f 0 n
values_of f n l e h =
    ext_get_or 0 l (values f 0 n) (e ∙ sym (values_length f 0 n)) λ i lt.
    let lt' : i < n = omega arith in
    h i lt' ∙ sym (values_at f n i lt')

-- two functions with the same values have the same list
pub values_same : (f g : ℕ → ℕ) (n : ℕ) → ((i : ℕ) → i < n → f i ≡ g i) → values f 0 n ≡ values g 0 n
values_same f g n h = values_of g n (values f 0 n) (values_length f 0 n) (λ i lt. values_at f n i lt ∙ h i lt)

-- a function of each value
pub map-values : (g f : ℕ → ℕ) (k n : ℕ) → map g (values f k n) ≡ values (λ i. g (f i)) k n
unfolding values
map-values g f k zero = refl
map-values g f k (suc n) = ap (λ (l : List ℕ). g (f k) ∷ l) (map-values g f (k + 1) n)
