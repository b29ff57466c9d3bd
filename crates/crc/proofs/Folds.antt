-- A walk over a list that folds it: what is left, folded from the running value. Assumes nothing.
use mathlib.Core.Path.{◌≡◌}
use mathlib.Core.List.{List, foldl}
use Prim.Native.Nat.{ℕ, ◌+◌, ◌≤◌, ◌<◌}
use native.Mathlib.Numerals.{add-one}
use lib.ListN.{length, get_or, drop, drop_of_length-le}
use lib.Seq.{drop-cons}

-- a turn takes in the next number, and past the last one nothing is left
pub fold_next : (f : ℕ → ℕ → ℕ) (c s : ℕ) (xs : List ℕ) (i : ℕ) → i < length xs → s ≡ f c (get_or xs i 0)
    → foldl f s (drop (i + 1) xs) ≡ foldl f c (drop i xs)
fold_next f c s xs i h e = rw (e, add-one, drop-cons xs i 0)

pub fold_done : (f : ℕ → ℕ → ℕ) (c : ℕ) (xs : List ℕ) (i : ℕ) → length xs ≤ i → foldl f c (drop i xs) ≡ c
fold_done f c xs i h = rw (drop_of_length-le xs h)
