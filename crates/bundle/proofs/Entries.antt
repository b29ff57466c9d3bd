-- The entries of a bundle are what is read from it. Assumes nothing.
use Prim.Native.Nat.{ℕ, zero, suc, ◌+◌, ◌^◌, ◌<◌}
use mathlib.Core.List.{List, [], ◌∷◌, ◌++◌, append_assoc}
use mathlib.Core.Path.{◌≡◌, sym, ap, ap₂, ◌∙◌}
use native.Mathlib.Omega.{arith}
use lib.ListN.{length, get_or, take, length-append}
use Rattle.numbers.specs.Numbers.{bytes4}
use Rattle.numbers.proofs.Laws.{four_bytes, long_on}
use Rattle.bundle.specs.declared.Entry.{Entry}
use Rattle.bundle.specs.Bundle.{head_size, entry_at, entries_of, total}

abbrev entry : ℕ → ℕ → Entry
entry offset size = record { offset = offset; length = size }

-- the first of the entries, behind others
first_entry :
    (before rest : List ℕ) (at n j : ℕ) → length before ≡ head_size j → at < 2 ^ 32 → n < 2 ^ 32
    → entry_at (before ++ ((bytes4 at ++ bytes4 n) ++ rest)) j ≡ entry at n
first_entry before rest at n j h small size =
    ap₂ entry
    (long_on before ((bytes4 at ++ bytes4 n) ++ rest) (head_size j) 0 (omega arith) ∙ four_bytes at small)
    (long_on before ((bytes4 at ++ bytes4 n) ++ rest) (head_size j + 4) 4 (omega arith) ∙ four_bytes n size)

-- any of them
pub entry_there :
    (before l after : List ℕ) (at j k : ℕ) → length before ≡ head_size j → k < length l → at + total (take k l) < 2 ^ 32
    → get_or l k 0 < 2 ^ 32
    → entry_at ((before ++ entries_of at l) ++ after) (j + k) ≡ entry (at + total (take k l)) (get_or l k 0)
unfolding entries_of total
entry_there before [] after at j k h there small size = absurd (omega arith)
entry_there before (n ∷ l) after at j zero h there small size =
    let first : j + 0 ≡ j = omega arith in
    let sum : at ≡ at + 0 = omega arith in
    ap₂ entry_at
    (append_assoc before ((bytes4 at ++ bytes4 n) ++ entries_of (at + n) l) after
    ∙ ap (λ (x : List ℕ). before ++ x) (append_assoc (bytes4 at ++ bytes4 n) (entries_of (at + n) l) after))
    first
    ∙ first_entry before (entries_of (at + n) l ++ after) at n j h (omega arith) size
    ∙ ap (λ (x : ℕ). entry x n) sum
entry_there before (n ∷ l) after at j (suc k) h there small size =
    let one : List ℕ = bytes4 at ++ bytes4 n in
    let next : j + suc k ≡ j + 1 + k = omega arith in
    let sum : at + n + total (take k l) ≡ at + (n + total (take k l)) = omega arith in
    ap₂ entry_at (ap (λ (x : List ℕ). x ++ after) (sym (append_assoc before one (entries_of (at + n) l)))) next
    ∙ entry_there (before ++ one) l after (at + n) (j + 1) k (omega (arith, length-append before one)) (omega arith) (omega arith) size
    ∙ ap (λ (x : ℕ). entry x (get_or l k 0)) sum
