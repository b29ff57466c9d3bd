-- What a host hears of a bundle that was read or written, and that nothing is lost on the way. Assumes nothing.
use Prim.Native.Nat.{ℕ, zero, suc}
use mathlib.Core.Path.{◌≡◌, refl, sym, ap, ◌∙◌}
use Rattle.std.specs.Prelude.{Ok, Err}
use Rattle.bundle.specs.declared.Refusal.TheVariants.{Short, Count, Table, Offset, Empty, Past, LeftOver}
use Rattle.bundle.specs.declared.reasons.Unwritten.TheVariants.{WrongCount, EmptyImage, NoRoom, WrongLengths}
use Rattle.bundle.specs.Bundle.{Reading, Writing}
use Rattle.files.specs.declared.Counted.{Counted}
use Rattle.files.specs.Files.{counted, told_bundle, told_bundled}

-- what was heard tells what was read
unfoldable bundle_by : ℕ → ℕ → Reading
bundle_by zero n = Ok n
bundle_by (suc zero) n = Err Short
bundle_by (suc (suc zero)) n = Err Count
bundle_by (suc (suc (suc zero))) n = Err Table
bundle_by (suc (suc (suc (suc zero)))) n = Err Offset
bundle_by (suc (suc (suc (suc (suc zero))))) n = Err Empty
bundle_by (suc (suc (suc (suc (suc (suc zero)))))) n = Err Past
bundle_by (suc (suc (suc (suc (suc (suc (suc k))))))) n = Err LeftOver

bundle_back : (r : Reading) → bundle_by (told_bundle r).refused (told_bundle r).count ≡ r
unfolding counted bundle_by
bundle_back (Ok n) = refl
bundle_back (Err Short) = refl
bundle_back (Err Count) = refl
bundle_back (Err Table) = refl
bundle_back (Err Offset) = refl
bundle_back (Err Empty) = refl
bundle_back (Err Past) = refl
bundle_back (Err LeftOver) = refl

pub bundle_tells : (r s : Reading) → told_bundle r ≡ told_bundle s → r ≡ s
bundle_tells r s e = sym (bundle_back r) ∙ ap (λ (f : Counted). bundle_by f.refused f.count) e ∙ bundle_back s

-- and what was written
unfoldable bundled_by : ℕ → ℕ → Writing
bundled_by zero n = Ok n
bundled_by (suc zero) n = Err WrongCount
bundled_by (suc (suc zero)) n = Err EmptyImage
bundled_by (suc (suc (suc zero))) n = Err NoRoom
bundled_by (suc (suc (suc (suc k)))) n = Err WrongLengths

bundled_back : (w : Writing) → bundled_by (told_bundled w).refused (told_bundled w).count ≡ w
unfolding counted bundled_by
bundled_back (Ok n) = refl
bundled_back (Err WrongCount) = refl
bundled_back (Err EmptyImage) = refl
bundled_back (Err NoRoom) = refl
bundled_back (Err WrongLengths) = refl

pub bundled_tells : (w v : Writing) → told_bundled w ≡ told_bundled v → w ≡ v
bundled_tells w v e = sym (bundled_back w) ∙ ap (λ (t : Counted). bundled_by t.refused t.count) e ∙ bundled_back v
