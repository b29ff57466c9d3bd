-- Lengths and what they add up to: by number, by part, and cut from bytes. Assumes nothing.
use Prim.Native.Nat.{ℕ, zero, suc, ◌+◌, ◌≤◌, ◌<◌}
use mathlib.Core.List.{List, [], ◌∷◌, ◌++◌}
use mathlib.Core.Path.{◌≡◌, refl, sym, ap, ap₂, ◌∙◌}
use native.Mathlib.Omega.{arith}
use lib.ListN.{length, get_or, take, drop, length-append, length-drop, take-append-drop}
use lib.Seq.{length-take-le, take-append_seam, drop-append_seam, drop-drop}
use Rattle.bundle.specs.Bundle.{total}
use Rattle.bundle.specs.Claims.{lengths_of, joined}

-- one number more
pub total-take : (l : List ℕ) (k : ℕ) → k < length l → total (take (suc k) l) ≡ total (take k l) + get_or l k 0
unfolding total
total-take [] k h = absurd (omega arith)
total-take (n ∷ l) zero h = omega arith
total-take (n ∷ l) (suc k) h = omega (arith, total-take l k (omega arith))

-- a part is no more than all
pub total_part : (l : List ℕ) (k : ℕ) → total (take k l) ≤ total l
unfolding total
total_part l zero = omega arith
total_part [] (suc k) = omega arith
total_part (n ∷ l) (suc k) = omega (arith, total_part l k)

-- images: how many, how long all of them are, and each by its number
pub lengths_many : (images : List (List ℕ)) → length (lengths_of images) ≡ length images
lengths_many [] = refl
lengths_many (image ∷ images) = ap suc (lengths_many images)

pub joined-long : (images : List (List ℕ)) → length (joined images) ≡ total (lengths_of images)
unfolding total
joined-long [] = refl
joined-long (image ∷ images) = length-append image (joined images) ∙ ap (λ (n : ℕ). length image + n) (joined-long images)

pub image_part :
    (images : List (List ℕ)) (k : ℕ) → k < length images
    → take (get_or (lengths_of images) k 0) (drop (total (take k (lengths_of images))) (joined images)) ≡ get_or images k []
unfolding total
image_part [] k h = absurd (omega arith)
image_part (image ∷ images) zero h = take-append_seam image (joined images)
image_part (image ∷ images) (suc k) h =
    let n : ℕ = total (take k (lengths_of images)) in
    ap (take (get_or (lengths_of images) k 0))
    (sym (drop-drop n (length image) (image ++ joined images)) ∙ ap (drop n) (drop-append_seam image (joined images)))
    ∙ image_part images k (omega arith)

-- bytes cut into images of these lengths
pub cut : List ℕ → List ℕ → List (List ℕ)
cut [] bytes = []
cut (n ∷ l) bytes = take n bytes ∷ cut l (drop n bytes)

pub cut_lengths : (l bytes : List ℕ) → total l ≤ length bytes → lengths_of (cut l bytes) ≡ l
unfolding total cut
cut_lengths [] bytes h = refl
cut_lengths (n ∷ l) bytes h =
    ap₂ ◌∷◌ (length-take-le n bytes (omega arith)) (cut_lengths l (drop n bytes) (omega (arith, length-drop n bytes)))

pub cut_joined : (l bytes : List ℕ) → total l ≡ length bytes → joined (cut l bytes) ≡ bytes
unfolding total cut
cut_joined [] [] h = refl
cut_joined [] (x ∷ bytes) h = absurd (omega arith)
cut_joined (n ∷ l) bytes h =
    ap (λ (x : List ℕ). take n bytes ++ x) (cut_joined l (drop n bytes) (omega (arith, length-drop n bytes)))
    ∙ take-append-drop n bytes
