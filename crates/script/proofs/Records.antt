-- Which call a script goes on with: the parts that are cut off one after the other are those of its record. Assumes nothing.
use Rattle.std.proofs.Common.{◌≡◌, ℕ, ◌+◌, ◌*◌, ◌≤◌, ◌<◌, List, ◌∷◌, Some, length, get_or, take, drop, ap, ap₂, ◌∙◌, add-one, arith, get_or-take}
use Rattle.std.proofs.Math.Seq.{drop-drop}
use Rattle.std.proofs.lemmas.List.{get_or-drop}
use Rattle.std.specs.List.{IsFirstAndRest, IsSplitAt}
use borrow.Author.Tests.{le-ltb}
use Rattle.numbers.specs.Numbers.{word_at}
use Rattle.script.specs.Tape.{data_end, call_with, record_of}

-- what stands behind n bytes stands one further on in the record
get_cut : (n k at : ℕ) (behind : List ℕ) → at ≡ n + k + 1 → k < 2 → get_or (take 2 (drop n behind)) k 0 ≡ get_or (n ∷ behind) at 0
get_cut n k at behind e h = get_or-take 2 (drop n behind) k 0 h ∙ get_or-drop n behind k 0 ∙ rw (e, add-one)

word_cut : (n : ℕ) (behind : List ℕ) → word_at (take 2 (drop n behind)) 0 ≡ word_at (n ∷ behind) (n + 1)
word_cut n behind =
    ap₂ (λ low high. low + high * 256) (get_cut n 0 (n + 1) behind (omega arith) (omega arith))
    (get_cut n 1 (n + 1 + 1) behind (omega arith) (omega arith))

drop_cut : (n : ℕ) (behind : List ℕ) → drop 2 (drop n behind) ≡ drop (n + 1 + 2) (n ∷ behind)
drop_cut n behind =
    let e : 1 + (n + 2) ≡ n + 1 + 2 = omega arith in
    drop-drop 2 n behind ∙ drop-drop (n + 2) 1 (n ∷ behind) ∙ ap (λ at. drop at (n ∷ behind)) e

-- so a record that is whole holds what is cut off
whole : (n m : ℕ) (behind : List ℕ) → m ≡ word_at (n ∷ behind) (n + 1) → n + 2 + m ≤ length behind
    → record_of (n ∷ behind) ≡ Some (call_with (take n behind) (take m (drop 2 (drop n behind))) (drop m (drop 2 (drop n behind))))
unfolding record_of
whole n m behind word h =
    let e = drop_cut n behind in
    let f = drop-drop m (n + 1 + 2) (n ∷ behind) in
    rw (le-ltb (length (n ∷ behind)) (n + 1 + 2) (omega arith), le-ltb (length (n ∷ behind)) (data_end (n ∷ behind)) (omega arith))
    (cc)

pub whole_record :
    (script behind setup after two more bytes last : List ℕ) (n k m : ℕ) → IsFirstAndRest script n behind → k ≡ n
    → IsSplitAt behind k setup after → (two ≡ take 2 after) × (more ≡ drop 2 after) × (length more + 2 ≡ length after) → m ≡ word_at two 0
    → IsSplitAt more m bytes last → record_of script ≡ Some (call_with setup bytes last)
whole_record script behind setup after two more bytes last n k m f e s t w b =
    let word : m ≡ word_at (k ∷ behind) (k + 1) =
    w ∙ ap (λ x. word_at x 0) t.0 ∙ ap (λ x. word_at (take 2 x) 0) s.2 ∙ word_cut k behind
    in
    let r = whole k m behind word (omega (arith, s.4, t.2, b.0)) in
    cc
