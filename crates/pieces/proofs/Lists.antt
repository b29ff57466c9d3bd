-- Lists of so many numbers, and lists of bytes. Assumes nothing.
use Prim.Native.Nat.{ℕ, zero, suc, ◌<◌}
use mathlib.Core.List.{List, [], ◌∷◌, ◌++◌}
use mathlib.Core.Path.{◌≡◌, sym, subst}
use native.Mathlib.Decide.{dec_lt}
use native.Mathlib.Omega.{arith}
use lib.ListN.{length, take, length-take, get_or-eq_default}
use lib.Seq.{get_or-take}
use Rattle.pieces.specs.Claims.{Bytes}

-- what holds for any n numbers holds for a list of n
abbrev pub ForAll : ℕ → (List ℕ → Type 0) → Type 0
ForAll zero P = P []
ForAll (suc n) P = (x : ℕ) → ForAll n (λ (l : List ℕ). P (x ∷ l))

pub one_by_one : (n : ℕ) (P : List ℕ → Type 0) → ForAll n P → (l : List ℕ) → length l ≡ n → P l
one_by_one zero P f [] h = f
one_by_one zero P f (x ∷ l) h = absurd (omega arith)
one_by_one (suc n) P f [] h = absurd (omega arith)
one_by_one (suc n) P f (x ∷ l) h = one_by_one n (λ (t : List ℕ). P (x ∷ t)) (f x) l (omega arith)

-- bytes in front of bytes, behind them, and some of them from the front
bytes_cons : (x : ℕ) (xs : List ℕ) → x < 256 → Bytes xs → Bytes (x ∷ xs)
bytes_cons x xs h b zero = h
bytes_cons x xs h b (suc i) = b i

pub bytes_append : (xs ys : List ℕ) → Bytes xs → Bytes ys → Bytes (xs ++ ys)
bytes_append [] ys b c = c
bytes_append (x ∷ xs) ys b c = bytes_cons x (xs ++ ys) (b 0) (bytes_append xs ys (λ i. b (suc i)) c)

pub bytes_take : (xs : List ℕ) (n : ℕ) → Bytes xs → Bytes (take n xs)
bytes_take xs n b i =
    elim (dec_lt i n) [
      | yes l ↦ subst (λ (x : ℕ). x < 256) (sym (get_or-take n xs i 0 l)) (b i)
      | no l ↦
          subst (λ (x : ℕ). x < 256) (sym (get_or-eq_default (take n xs) 0 (omega (arith, length-take n xs)))) (omega arith)
    ]
