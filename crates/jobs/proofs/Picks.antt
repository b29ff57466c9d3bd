-- A value by a test: which of two it is once the test is told, by itself or by a callee that answered it. Assumes nothing.
use mathlib.Core.Bool.{Bool, true, false, not, cond}
use mathlib.Core.Path.{◌≡◌, sym, ap, ◌∙◌}
use borrow.Author.Tests.{not-true, not-false}

pub yes_is : {A : Type 0} (t : Bool) (x y z : A) → t ≡ true → z ≡ x → z ≡ cond t x y
yes_is t x y z e p = p ∙ sym (ap (λ (b : Bool). cond b x y) e)

pub no_is : {A : Type 0} (t : Bool) (x y z : A) → t ≡ false → z ≡ y → z ≡ cond t x y
no_is t x y z e p = p ∙ sym (ap (λ (b : Bool). cond b x y) e)

pub told : (r t v : Bool) → r ≡ t → r ≡ v → t ≡ v
told r t v p q = sym p ∙ q

-- of a negated answer
pub refused : (r t : Bool) → r ≡ t → not r ≡ true → t ≡ false
refused r t p q = sym p ∙ not-true r q

pub passed : (r t : Bool) → r ≡ t → not r ≡ false → t ≡ true
passed r t p q = sym p ∙ not-false r q
