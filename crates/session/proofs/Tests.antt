-- What tests joined by "and", "or" and "not" say.
use Prim.Native.Nat.{ℕ, ◌≤◌}
use mathlib.Core.Path.{◌≡◌, refl}
use mathlib.Core.Bool.{Bool, true, false, not, cond, ◌&&◌, ◌||◌, true≢false, false≢true}
use mathlib.Core.Logic.{◌⊎◌, inl, inr}

pub left_of : (a b : Bool) → (a && b) ≡ true → a ≡ true
left_of true b e = refl
left_of false b e = e

pub right_of : (a b : Bool) → (a && b) ≡ true → b ≡ true
right_of true b e = e
right_of false b e = absurd (false≢true e)

pub either : (a b : Bool) → (a || b) ≡ true → (a ≡ true) ⊎ (b ≡ true)
either true b e = inl refl
either false b e = inr e

pub one_of : {P : Type 0} (a b : Bool) → (a ≡ true → P) → (b ≡ true → P) → (a || b) ≡ true → P
one_of true b p q e = p refl
one_of false b p q e = q e

pub never_true : (a : Bool) → (a ≡ true → ⊥) → a ≡ false
never_true true n = absurd (n refl)
never_true false n = refl

-- "b unless a"
pub unless : (a b : Bool) → (a || b) ≡ true → a ≡ false → b ≡ true
unless true b e f = absurd (true≢false f)
unless false b e f = e

pub or_unless : (a b : Bool) → (a ≡ false → b ≡ true) → (a || b) ≡ true
or_unless true b h = refl
or_unless false b h = h refl

-- "b where a"
pub where_true : (a b : Bool) → (not a || b) ≡ true → a ≡ true → b ≡ true
where_true true b e t = e
where_true false b e t = absurd (false≢true t)

pub or_where : (a b : Bool) → (a ≡ true → b ≡ true) → (not a || b) ≡ true
or_where true b h = h refl
or_where false b h = refl

-- a number picked by a test is at most what both are
pub pick_most : (t : Bool) {x y z : ℕ} → x ≤ z → y ≤ z → cond t x y ≤ z
pick_most true h k = h
pick_most false h k = k
