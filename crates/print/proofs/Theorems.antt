-- Every number is printed by the digits that make it, and there is one way to do that. Assumes nothing.
use Prim.Native.Nat.{ℕ, zero, suc, ◌+◌, ◌-◌, ◌*◌, ◌/◌, ◌%◌, ◌≤◌, ◌<◌}
use mathlib.Core.List.{List, [], ◌∷◌, ◌++◌}
use mathlib.Core.Path.{◌≡◌, refl, sym, ap, ap₂, subst, ◌∙◌}
use native.Mathlib.Decide.{dec_lt}
use native.Mathlib.Omega.{arith}
use lib.ListN.{length, get_or, take, length-append, get_or-append}
use lib.Seq.{length-take-le, take_all, take-suc, get_or-take, get_or-append-add}
use Rattle.print.specs.Decimal.{last_digit, decimal_of}
use Rattle.print.specs.Claims.{value_from, Prints, PrintsAll, OneWay}
use Rattle.print.proofs.Laws.{decimal_one, decimal_more}

-- the last digit counts once, and those before it ten times
value_last : (high : ℕ) (ds : List ℕ) (d : ℕ) → value_from high (ds ++ d ∷ []) ≡ value_from high ds * 10 + (d - 48)
unfolding value_from
value_last high [] d = refl
value_last high (e ∷ ds) d = value_last (high * 10 + (e - 48)) ds d

-- more digits make no less
value_grows : (high : ℕ) (ds : List ℕ) → high ≤ value_from high ds
unfolding value_from
value_grows high [] = omega arith
value_grows high (d ∷ ds) = omega (arith, value_grows (high * 10 + (d - 48)) ds)

-- a number that is not zero begins with a digit that is not zero, and the other way
first_digit : (ds : List ℕ) (n : ℕ) → Prints ds n → 1 ≤ n → get_or ds 0 0 ≡ 48 → ⊥
unfolding value_from
first_digit [] n p h e = omega (arith, p.some)
first_digit (d ∷ []) n p h e = omega (arith, p.value)
first_digit (d ∷ f ∷ ds) n p h e = p.no_zero (omega arith) e

first_counts : (ds : List ℕ) → 1 ≤ length ds → 49 ≤ get_or ds 0 0 → 1 ≤ value_from 0 ds
unfolding value_from
first_counts [] h f = absurd (omega arith)
first_counts (d ∷ ds) h f = omega (arith, value_grows (0 * 10 + (d - 48)) ds)

-- one digit
prints_one : (n : ℕ) → n < 10 → Prints (last_digit n) n
unfolding value_from
prints_one n h =
    record {
      value = omega arith;
      ascii = only;
      some = omega arith;
      no_zero = λ l. absurd (omega arith);
    }
  where
    only : (k : ℕ) → k < 1 → (48 ≤ get_or (last_digit n) k 0) × (get_or (last_digit n) k 0 < 58)
    only zero l = (omega arith, omega arith)
    only (suc k) l = absurd (omega arith)

-- one more digit
prints_more : (ds : List ℕ) (n : ℕ) → 10 ≤ n → Prints ds (n / 10) → Prints (ds ++ last_digit n) n
prints_more ds n h p =
    let long : length (ds ++ last_digit n) ≡ length ds + 1 = length-append ds (last_digit n) in
    record {
      value = value_last 0 ds (48 + n % 10) ∙ omega (arith, p.value);
      ascii = λ k l.
          elim (dec_lt k (length ds)) [
            | yes below ↦
                subst (λ (d : ℕ). (48 ≤ d) × (d < 58)) (sym (get_or-append ds (last_digit n) 0 k below)) (p.ascii k below)
            | no above ↦
                let at : k ≡ length ds + 0 = omega arith in
                let is : get_or (ds ++ last_digit n) k 0 ≡ 48 + n % 10 =
                ap (λ (i : ℕ). get_or (ds ++ last_digit n) i 0) at ∙ get_or-append-add ds (last_digit n) 0 0
                in (omega arith, omega arith)
          ];
      some = omega arith;
      no_zero = λ l e.
          first_digit ds (n / 10) p (omega arith) (sym (get_or-append ds (last_digit n) 0 0 (omega (arith, p.some))) ∙ e);
    }

prints_below : (most n : ℕ) → n < most → Prints (decimal_of n) n
prints_below zero n h = absurd (omega arith)
prints_below (suc most) n h =
    elim (dec_lt n 10) [
      | yes l ↦ subst (λ (ds : List ℕ). Prints ds n) (sym (decimal_one n l)) (prints_one n l)
      | no l ↦
          let ten : 10 ≤ n = omega arith in
          subst (λ (ds : List ℕ). Prints ds n) (sym (decimal_more n ten))
          (prints_more (decimal_of (n / 10)) n ten (prints_below most (n / 10) (omega arith)))
    ]

pub prints_all : PrintsAll decimal_of
prints_all n = prints_below (suc n) n (omega arith)

-- digits but for the last
module _ (ds : List ℕ) (n k : ℕ) (long : length ds ≡ suc k) (p : Prints ds n) where
  abbrev front : List ℕ
  front = take k ds

  abbrev last : ℕ
  last = get_or ds k 0

  split : ds ≡ front ++ last ∷ []
  split = sym (take_all (suc k) ds (omega arith)) ∙ take-suc ds k 0 (omega arith)

  digit : (48 ≤ last) × (last < 58)
  digit = p.ascii k (omega arith)

  sum : value_from 0 front * 10 + (last - 48) ≡ n
  sum = sym (value_last 0 front last) ∙ ap (value_from 0) (sym split) ∙ p.value

  front_long : length front ≡ k
  front_long = length-take-le k ds (omega arith)

  last_is : last ∷ [] ≡ last_digit n
  last_is =
      let is : last ≡ 48 + n % 10 = omega (arith, sum, digit.0, digit.1) in
      ap (λ (d : ℕ). d ∷ []) is

  module _ (more : 1 ≤ k) where
    first : 49 ≤ get_or front 0 0
    first =
        let same : get_or front 0 0 ≡ get_or ds 0 0 = get_or-take k ds 0 0 (omega arith) in
        let other : get_or ds 0 0 ≡ 48 → ⊥ = p.no_zero (omega arith) in
        not_48 (get_or front 0 0) (omega (arith, (p.ascii 0 (omega arith)).0)) (λ e. other (sym same ∙ e))
      where
        not_48 : (d : ℕ) → 48 ≤ d → (d ≡ 48 → ⊥) → 49 ≤ d
        not_48 d h e =
            elim (dec_lt 48 d) [
              | yes l ↦ l
              | no l ↦ absurd (e (omega arith))
            ]

    ten : 10 ≤ n
    ten = omega (arith, sum, first_counts front (omega (arith, front_long)) first)

    front_prints : Prints front (n / 10)
    front_prints =
        record {
          value = omega (arith, sum, digit.0, digit.1);
          ascii = λ j l.
              subst (λ (d : ℕ). (48 ≤ d) × (d < 58)) (sym (get_or-take k ds j 0 (omega (arith, front_long)))) (p.ascii j (omega (arith, front_long)));
          some = omega (arith, front_long);
          no_zero = λ l e. omega (arith, first);
        }

one_of : (k : ℕ) (ds : List ℕ) (n : ℕ) → length ds ≡ suc k → Prints ds n → ds ≡ decimal_of n
unfolding value_from
one_of zero ds n long p =
    split ds n 0 long p ∙ last_is ds n 0 long p ∙ sym (decimal_one n (omega (arith, sum ds n 0 long p, (digit ds n 0 long p).1)))
one_of (suc k) ds n long p =
    let more : 1 ≤ suc k = omega arith in
    split ds n (suc k) long p
    ∙ ap₂ ◌++◌
    (one_of k (take (suc k) ds) (n / 10) (front_long ds n (suc k) long p) (front_prints ds n (suc k) long p more))
    (last_is ds n (suc k) long p)
    ∙ sym (decimal_more n (ten ds n (suc k) long p more))

pub one_way : OneWay decimal_of
one_way [] n p = absurd (omega (arith, p.some))
one_way (d ∷ ds) n p = one_of (length ds) (d ∷ ds) n refl p
