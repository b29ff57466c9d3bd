-- What the checked conversion, and the tests through it, tell of a block. Assumes nothing.
use Prim.Native.Nat.{ℕ, ◌+◌, ◌-◌, ◌^◌, ◌≤◌, ◌<◌}
use mathlib.Core.Bool.{Bool, true, false, ◌&&◌, false≢true}
use mathlib.Core.Path.{◌≡◌, refl, sym, ap, ◌∙◌}
use native.Mathlib.Omega.{arith}
use lib.Dec.{eqb, leb}
use borrow.Author.Tests.{ltb-true, leb-true, lt-ltb, le-leb}
use Rattle.std.proofs.Common.{Some, None}
use Rattle.std.proofs.lemmas.Option.{cond_some, none-some}
use Rattle.flash.specs.Flash.{start_of, in_reach, reach_of, lies_in, ends_at, holder_of, next_start}
use Rattle.flash.specs.declared.Addr.{Addr}

-- an address as the answer: the block starts there
pub reached : (b : ℕ) (a : Addr) → reach_of b ≡ Some a → a.0 ≡ start_of b
reached b a e = sym (ap (λ (x : Addr). x.0) (cond_some (in_reach b) (record { 0 = start_of b }) a e).1)

-- no address as the answer: the block is out of reach
pub unreached : (b : ℕ) → reach_of b ≡ None → start_of b < 2 ^ 32 → ⊥
unreached b e lt = none-some (record { 0 = start_of b }) (sym e ∙ rw (lt-ltb (start_of b) (2 ^ 32) lt) refl)

all_true : (a b c d : Bool) → (a && b && c && d) ≡ true → (a ≡ true) × (b ≡ true) × (c ≡ true) × (d ≡ true)
all_true true true true d e = (refl, refl, refl, e)
all_true true true false d e = absurd (false≢true e)
all_true true false c d e = absurd (false≢true e)
all_true false b c d e = absurd (false≢true e)

module _ (at n first stop : ℕ) where
  pub lies_facts :
      lies_in at n first stop ≡ true
      → (start_of first < 2 ^ 32) × (start_of stop < 2 ^ 32) × (start_of first ≤ at) × (at + n ≤ start_of stop)
  lies_facts e =
      let f = all_true (in_reach first) (in_reach stop) (leb (start_of first) at) (leb (at + n) (start_of stop)) e in
      (ltb-true _ _ f.0, ltb-true _ _ f.1, leb-true _ _ f.2, leb-true _ _ f.3)

  pub facts_lie : start_of first ≤ at → at + n ≤ start_of stop → start_of stop < 2 ^ 32 → lies_in at n first stop ≡ true
  facts_lie low high near =
      rw (
        lt-ltb (start_of first) (2 ^ 32) (omega arith),
        lt-ltb (start_of stop) (2 ^ 32) near,
        le-leb (start_of first) at low,
        le-leb (at + n) (start_of stop) high,
      )

pub ends_at_lem : (block len : ℕ) → start_of block < 2 ^ 32 → ends_at block len ≡ eqb len (start_of block)
ends_at_lem block len h = rw (lt-ltb (start_of block) (2 ^ 32) h)

-- the block after the one that holds the last byte is the first that starts at the bytes' end or after it
pub after_last : (end : ℕ) → 1 ≤ end → holder_of (end - 1) + 1 ≡ next_start end
after_last end h = omega arith
