-- The laws of laying: one piece behind the other. Assumes nothing.
use Prim.Native.Nat.{ℕ, ◌+◌, ◌≤◌}
use mathlib.Core.List.{List, [], ◌++◌, append_assoc}
use mathlib.Core.Path.{◌≡◌, sym, ap, ap₂, subst, ◌∙◌}
use native.Mathlib.Omega.{arith}
use lib.ListN.{length, take, drop, length-append}
use lib.Seq.{take-length, drop-drop, paste-zero, take-paste, drop-paste}
use Rattle.pieces.specs.Pieces.{placed, Laid}

-- nothing is laid
pub placed_none : (buffer : List ℕ) (at : ℕ) → placed buffer at [] ≡ buffer
placed_none buffer at = sym (paste-zero buffer at [])

-- what is laid behind a piece, and the piece, are one piece
pub placed_more :
    (buffer : List ℕ) (at next : ℕ) (xs ys : List ℕ) → at ≤ length buffer → next ≡ at + length xs
    → placed (placed buffer at xs) next ys ≡ placed buffer at (xs ++ ys)
placed_more buffer at next xs ys h e =
    let n : ℕ = length xs in
    let m : ℕ = length ys in
    let first : List ℕ = placed buffer at xs in
    let end : at + n + m ≡ at + length (xs ++ ys) = omega (arith, length-append xs ys) in
    ap (λ (k : ℕ). placed first k ys) e
    ∙ ap₂ ◌++◌
    (ap₂ ◌++◌
    (take-paste buffer at xs n h (omega arith) ∙ ap (λ (x : List ℕ). take at buffer ++ x) (take-length xs))
    (take-length ys)
    ∙ append_assoc (take at buffer) xs ys
    ∙ ap (λ (x : List ℕ). take at buffer ++ x) (sym (take-length (xs ++ ys))))
    (sym (drop-drop m (at + n) first)
    ∙ ap (drop m) (drop-paste buffer at xs n h (omega arith))
    ∙ drop-drop m (at + n) buffer
    ∙ ap (λ (k : ℕ). drop k buffer) end)

-- and so for what was laid
pub laid_more :
    (b c d : List ℕ) (at m n : ℕ) (xs ys : List ℕ) → at ≤ length b → Laid b c at m xs → Laid c d m n ys
    → Laid b d at n (xs ++ ys)
laid_more b c d at m n xs ys h one two =
    record {
      stand = two.stand ∙ ap (λ (l : List ℕ). placed l m ys) one.stand ∙ placed_more b at m xs ys h one.behind;
      behind =
          let e : m ≡ at + length xs = one.behind in
          let f : n ≡ m + length ys = two.behind in
          omega (arith, length-append xs ys);
    }

-- at the front, what was laid stands before the rest
pub laid_front : (b c : List ℕ) (n : ℕ) (xs : List ℕ) → Laid b c 0 n xs → c ≡ xs ++ drop n b
laid_front b c n xs l = l.stand ∙ ap₂ (λ (x : List ℕ) (k : ℕ). x ++ drop k b) (take-length xs) (sym l.behind)

-- the bytes may be said in another way
pub laid_as : (b c : List ℕ) (at n : ℕ) (xs ys : List ℕ) → xs ≡ ys → Laid b c at n xs → Laid b c at n ys
laid_as b c at n xs ys e l = subst (λ (x : List ℕ). Laid b c at n x) e l

-- what is laid determines buffer and place
pub one_laid : (b c d : List ℕ) (at m n : ℕ) (xs : List ℕ) → Laid b c at m xs → Laid b d at n xs → (c ≡ d) × (m ≡ n)
one_laid b c d at m n xs one two = (one.stand ∙ sym two.stand, one.behind ∙ sym two.behind)

-- pieces that are laid in turns: what is still owed, laid behind what stands, gives what all of it gives
pub record Owed (buffer now : List ℕ) (at next : ℕ) (all rest : List ℕ) : Type 0 where
  pub stand : placed now next rest ≡ placed buffer at all
  pub behind : next + length rest ≡ at + length all

pub owed_all : (b : List ℕ) (at : ℕ) (all rest : List ℕ) → rest ≡ all → Owed b b at at all rest
owed_all b at all rest e = record { stand = ap (placed b at) e; behind = ap (λ (x : List ℕ). at + length x) e }

-- a piece is laid
pub owed_less :
    (b now after : List ℕ) (at next end : ℕ) (all owed piece rest : List ℕ) → owed ≡ piece ++ rest → next ≤ length now
    → Owed b now at next all owed → Laid now after next end piece → Owed b after at end all rest
owed_less b now after at next end all owed piece rest e h o l =
    let long : length owed ≡ length piece + length rest = ap length e ∙ length-append piece rest in
    record {
      stand =
          ap (λ (x : List ℕ). placed x end rest) l.stand
          ∙ placed_more now next end piece rest h l.behind
          ∙ ap (placed now next) (sym e)
          ∙ o.stand;
      behind = omega (arith, l.behind, o.behind);
    }

-- nothing is owed any more
pub owed_none : (b now : List ℕ) (at next : ℕ) (all rest : List ℕ) → rest ≡ [] → Owed b now at next all rest → Laid b now at next all
owed_none b now at next all rest e o =
    let none : length rest ≡ 0 = ap length e in
    record { stand = sym (ap (placed now next) e ∙ placed_none now next) ∙ o.stand; behind = omega (arith, o.behind) }
