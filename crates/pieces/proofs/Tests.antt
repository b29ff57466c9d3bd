-- What a test tells: it is true if and only if something holds. Assumes nothing.
use Prim.Native.Nat.{ℕ, ◌≤◌}
use mathlib.Core.Bool.{Bool, true, false, ◌&&◌, ◌||◌, true≢false, false≢true}
use mathlib.Core.Path.{◌≡◌, refl, sym, ◌∙◌}
use lib.Dec.{eqb, leb}
use borrow.Author.Tests.{eqb-true, eq-eqb, leb-true, le-leb}

pub record Tells (t : Bool) (A : Type 0) : Type 0 where
  pub yes : t ≡ true → A
  pub is : A → t ≡ true

pub tells_no : (t : Bool) (A : Type 0) → Tells t A → t ≡ false → A → ⊥
tells_no t A tells e a = true≢false (sym (tells.is a) ∙ e)

pub isnt : (t : Bool) (A : Type 0) → Tells t A → (A → ⊥) → t ≡ false
isnt true A tells n = absurd (n (tells.yes refl))
isnt false A tells n = refl

pub both : (s t : Bool) (A B : Type 0) → Tells s A → Tells t B → Tells (s && t) (A × B)
both true t A B f g = record { yes = λ e. (f.yes refl, g.yes e); is = λ x. g.is x.1 }
both false t A B f g = record { yes = λ e. absurd (false≢true e); is = λ x. f.is x.0 }

pub equal : (n m : ℕ) → Tells (eqb n m) (n ≡ m)
equal n m = record { yes = eqb-true n m; is = eq-eqb n m }

pub at_most : (n m : ℕ) → Tells (leb n m) (n ≤ m)
at_most n m = record { yes = leb-true n m; is = le-leb n m }

-- what tells of one thing tells of another that comes to the same
pub alike : (t : Bool) (A B : Type 0) → (A → B) → (B → A) → Tells t A → Tells t B
alike t A B f g tells = record { yes = λ e. f (tells.yes e); is = λ b. tells.is (g b) }

pub either_way : {A : Type 0} (t : Bool) → (t ≡ true → A) → (t ≡ false → A) → A
either_way true f g = f refl
either_way false f g = g refl

-- where one of two holds not, neither does
pub neither : (s t : Bool) → (s || t) ≡ false → (s ≡ false) × (t ≡ false)
neither true t h = absurd (true≢false h)
neither false t h = (refl, h)
