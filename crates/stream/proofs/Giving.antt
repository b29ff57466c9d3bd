-- What an answer puts to the front of the reply: the bytes of one part, or of two parts read as one. Assumes nothing.
use Prim.Native.Nat.{ℕ, ◌+◌, ◌-◌, ◌≤◌, ◌<◌, min}
use mathlib.Core.Path.{◌≡◌, sym, ap, ap₂, ◌∙◌}
use mathlib.Core.List.{List, [], ◌++◌, append-nil}
use native.Mathlib.Decide.{dec_lt}
use native.Mathlib.Nat.{zero-add}
use native.Mathlib.Numerals.{add-one}
use native.Mathlib.Omega.{arith}
use lib.ListN.{length, take, drop, get_or, set, length-append, length-take, length-drop, drop_of_length-le, take-append-drop}
use lib.Seq.{paste-suc, drop-drop, drop-append-le, drop-append-add, take-append-le, take-append-add, take_all, take_at, drop_at, length-take-le}
use Rattle.std.proofs.lemmas.List.{append_assoc}
use Rattle.stream.specs.Stream.{Sent}

-- one byte more
pub put_more :
    (bytes before reply : List ℕ) (i : ℕ) → i < length before → i < length bytes → reply ≡ take i bytes ++ drop i before
    → set reply i (get_or bytes i 0) ≡ take (i + 1) bytes ++ drop (i + 1) before
put_more bytes before reply i lt less e =
    ap (λ (x : List ℕ). set x i (get_or bytes i 0)) e
    ∙ simp zero-add at (paste-suc before 0 bytes i 0 (omega arith) less)
    ∙ ap (λ (k : ℕ). take k bytes ++ drop k before) (sym (add-one i))

-- the front and the rest of two parts
pub drop_both : (n : ℕ) (xs ys : List ℕ) → drop n (xs ++ ys) ≡ drop n xs ++ drop (n - length xs) ys
drop_both n xs ys =
    elim (dec_lt (length xs) n) [
      | yes h ↦
          let e : length xs + (n - length xs) ≡ n = omega arith in
          ap (λ (k : ℕ). drop k (xs ++ ys)) (sym e)
          ∙ drop-append-add xs ys (n - length xs)
          ∙ sym (ap (λ (l : List ℕ). l ++ drop (n - length xs) ys) (drop_of_length-le xs {i = n} (omega arith)))
      | no h ↦
          let e : n - length xs ≡ 0 = omega arith in
          drop-append-le n xs ys (omega arith) ∙ sym (ap (λ (k : ℕ). drop n xs ++ drop k ys) e)
    ]

pub take_both : (n : ℕ) (xs ys : List ℕ) → take n (xs ++ ys) ≡ take n xs ++ take (n - length xs) ys
take_both n xs ys =
    elim (dec_lt (length xs) n) [
      | yes h ↦
          let e : length xs + (n - length xs) ≡ n = omega arith in
          ap (λ (k : ℕ). take k (xs ++ ys)) (sym e)
          ∙ take-append-add xs ys (n - length xs)
          ∙ sym (ap (λ (l : List ℕ). l ++ take (n - length xs) ys) (take_all n xs (omega arith)))
      | no h ↦
          let e : n - length xs ≡ 0 = omega arith in
          take-append-le n xs ys (omega arith)
          ∙ sym (append-nil (take n xs))
          ∙ sym (ap (λ (k : ℕ). take n xs ++ take k ys) e)
    ]

-- a place beyond the end is as good as the end
pub drop_min : (n : ℕ) (xs : List ℕ) → drop (min n (length xs)) xs ≡ drop n xs
drop_min n xs =
    elim (dec_lt (length xs) n) [
      | yes h ↦
          drop_of_length-le xs {i = min n (length xs)} (omega arith)
          ∙ sym (drop_of_length-le xs {i = n} (omega arith))
      | no h ↦
          let e : min n (length xs) ≡ n = omega arith in
          ap (λ (k : ℕ). drop k xs) e
    ]

-- a part to the end
pub to_the_end : (n : ℕ) (xs : List ℕ) → take (length xs - n) (drop n xs) ≡ drop n xs
to_the_end n xs = take_all (length xs - n) (drop n xs) (omega (arith, length-drop n xs))

pub nothing_behind : (n : ℕ) (xs : List ℕ) → drop (length xs - n) (drop n xs) ≡ []
nothing_behind n xs = drop_of_length-le (drop n xs) {i = length xs - n} (omega (arith, length-drop n xs))

-- what was sent of one part, and behind it of another, was sent of both
pub sent_both :
    (before mid left rest a b both : List ℕ) (n m : ℕ) → left ≡ drop n mid → both ≡ a ++ b → Sent n before mid (take (length before) a)
    → Sent m left rest (take (length left) b) → Sent (n + m) before (take n mid ++ rest) (take (length before) both)
sent_both before mid left rest a b both n m e f s t =
    let k = length before in
    let x = take k a in
    let front : take n mid ≡ x = ap (take n) s.reply ∙ take_at x (drop (length x) before) n (sym s.count) in
    let behind : left ≡ drop n before =
    e ∙ ap (drop n) s.reply ∙ drop_at x (drop (length x) before) n (sym s.count) ∙ ap (λ (i : ℕ). drop i before) (sym s.count)
    in
    let y = take (length left) b in
    let room : length left ≡ k - length a = ap length behind ∙ length-drop n before ∙ omega (arith, s.count, length-take k a) in
    let same : take k both ≡ x ++ y = ap (take k) f ∙ take_both k a b ∙ ap (λ (i : ℕ). x ++ take i b) (sym room) in
    let long : n + m ≡ length (x ++ y) = ap₂ ◌+◌ s.count t.count ∙ sym (length-append x y) in
    record {
      count = long ∙ ap length (sym same);
      reply =
          ap₂ ◌++◌ front t.reply
          ∙ ap (λ (l : List ℕ). x ++ (y ++ drop (length y) l)) behind
          ∙ ap (λ (i : ℕ). x ++ (y ++ drop i (drop n before))) (sym t.count)
          ∙ ap (λ (l : List ℕ). x ++ (y ++ l)) (drop-drop m n before)
          ∙ sym (append_assoc x y (drop (n + m) before))
          ∙ ap (λ (i : ℕ). (x ++ y) ++ drop i before) long
          ∙ ap (λ (l : List ℕ). l ++ drop (length l) before) (sym same);
    }

-- what was sent to the front of a reply leaves the rest of it
pub sent_front :
    (before room bytes : List ℕ) (n k : ℕ) → k ≤ length before → Sent n (take k before) room (take (length (take k before)) bytes)
    → Sent n before (room ++ drop k before) (take k bytes)
sent_front before room bytes n k h s =
    let z = take k bytes in
    let same : take (length (take k before)) bytes ≡ z = ap (λ (i : ℕ). take i bytes) (length-take-le k before h) in
    let short : length z ≤ k = omega (arith, length-take k bytes) in
    let fits : length z ≤ length (take k before) = omega (arith, short, length-take-le k before h) in
    record {
      count = s.count ∙ ap length same;
      reply =
          ap (λ (l : List ℕ). l ++ drop k before) s.reply
          ∙ ap (λ (l : List ℕ). l ++ drop (length l) (take k before) ++ drop k before) same
          ∙ append_assoc z (drop (length z) (take k before)) (drop k before)
          ∙ ap (λ (l : List ℕ). z ++ l)
          (sym (drop-append-le (length z) (take k before) (drop k before) fits)
          ∙ ap (drop (length z)) (take-append-drop k before));
    }

-- n bytes at most of a list, from a place on: how many they are
pub part_length : (bytes : List ℕ) (place n : ℕ) → length (take n (drop place bytes)) ≡ min n (length bytes - place)
part_length bytes place n = rw (length-take, length-drop)
