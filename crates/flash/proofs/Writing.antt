-- A write in progress: the loop of `program` and the loop of `wipe` put bytes one after another, and both turn by these laws.
-- Assumes nothing.
use Prim.Native.Nat.{ℕ, ◌+◌, ◌≤◌, ◌<◌}
use mathlib.Core.Path.{◌≡◌, sym, ap, ◌∙◌}
use mathlib.Core.List.{List, ◌++◌}
use native.Mathlib.Numerals.{add-one}
use native.Mathlib.Omega.{arith}
use lib.ListN.{length, take, drop, get_or, set, get_or-replicate}
use lib.Seq.{paste, paste-zero, paste-suc, take-length}
use Rattle.flash.specs.Flash.{spliced, blank}

-- f with the first i of the bytes d put to address at and upward: none of them, one more, all
pub put_none : (f : List ℕ) (at : ℕ) (d : List ℕ) → f ≡ paste f at d 0
put_none f at d = paste-zero f at d

pub put_more :
    (f : List ℕ) (at : ℕ) (d g : List ℕ) (i : ℕ) → at + length d ≤ length f → i < length d → g ≡ paste f at d i
    → set g (at + i) (get_or d i 0) ≡ paste f at d (i + 1)
put_more f at d g i h lt e =
    ap (λ (x : List ℕ). set x (at + i) (get_or d i 0)) e
    ∙ paste-suc f at d i 0 (omega arith) lt
    ∙ ap (paste f at d) (sym (add-one i))

pub put_all : (f : List ℕ) (at : ℕ) (d g : List ℕ) (i : ℕ) → i ≡ length d → g ≡ paste f at d i → g ≡ spliced f at d
unfolding spliced
put_all f at d g i e p = p ∙ ap (paste f at d) e ∙ ap (λ (x : List ℕ). take at f ++ x ++ drop (at + length d) f) (take-length d)

pub blank_byte : (n i : ℕ) → i < n → 255 ≡ get_or (blank n) i 0
unfolding blank
blank_byte n i lt = sym (get_or-replicate n i 255 0 lt)
