-- Which block numbers are among some. Assumes nothing.
use Prim.Native.Nat.{ℕ, ◌≤◌, ◌<◌}
use mathlib.Core.Bool.{Bool, true, false, ◌&&◌, and-false}
use mathlib.Core.Logic.{◌⊎◌, ⊎_elim}
use mathlib.Core.Path.{◌≡◌, ap, ◌∙◌}
use borrow.Author.Tests.{lt-ltb, le-ltb, le-leb, lt-leb}
use lib.Dec.{leb, ltb}
use Rattle.sums.specs.Sum.{among}

pub is_among : (first stop k : ℕ) → first ≤ k → k < stop → among first stop k ≡ true
is_among first stop k lo hi = ap (λ (b : Bool). b && ltb k stop) (le-leb first k lo) ∙ lt-ltb k stop hi

pub not_among : (first stop k : ℕ) → (k < first) ⊎ (stop ≤ k) → among first stop k ≡ false
not_among first stop k =
    ⊎_elim
    (λ lt. ap (λ (b : Bool). b && ltb k stop) (lt-leb first k lt))
    (λ le. ap (λ (b : Bool). leb first k && b) (le-ltb k stop le) ∙ and-false (leb first k))
