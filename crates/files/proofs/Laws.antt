-- What a host hears of a refused reading and of a writing, and that nothing is lost on the way. Assumes nothing.
use Prim.Native.Nat.{ℕ, zero, suc}
use mathlib.Core.List.{List}
use mathlib.Core.Path.{◌≡◌, refl, sym, ap, ◌∙◌}
use native.Mathlib.Omega.{arith}
use Rattle.std.specs.Prelude.{Result, Ok, Err}
use Rattle.suffix.specs.declared.Parts.{Parts}
use Rattle.suffix.specs.declared.Refusal.{Refusal}
use Rattle.suffix.specs.declared.Refusal.TheVariants.{Short, Signature, Length, Version, Sum}
use Rattle.suffix.specs.Suffix.{Reading, accepted, Writing, unwritten, Left, left, write_of}
use Rattle.files.specs.declared.SuffixFound.{SuffixFound}
use Rattle.files.specs.declared.Counted.{Counted}
use Rattle.files.specs.Files.{refused_by, told_read, Counts, counted, OneCounted, told_written, at_host, suffix_written}

-- every refusal is heard by its number
pub heard : (r : Refusal) → refused_by r ≡ told_read (Err r)
unfolding told_read
heard r = refl

-- what was heard tells what was read
unfoldable read_by : ℕ → Reading → Reading
read_by zero found = found
read_by (suc zero) found = Err Short
read_by (suc (suc zero)) found = Err Signature
read_by (suc (suc (suc zero))) found = Err Length
read_by (suc (suc (suc (suc zero)))) found = Err Version
read_by (suc (suc (suc (suc (suc n))))) found = Err Sum

read_back : (r : Reading) → read_by (told_read r).refused (accepted (told_read r).parts (told_read r).length) ≡ r
unfolding told_read read_by
read_back (Ok s) = refl
read_back (Err Short) = refl
read_back (Err Signature) = refl
read_back (Err Length) = refl
read_back (Err Version) = refl
read_back (Err Sum) = refl

pub read_tells : (r s : Reading) → told_read r ≡ told_read s → r ≡ s
read_tells r s e =
    sym (read_back r) ∙ ap (λ (f : SuffixFound). read_by f.refused (accepted f.parts f.length)) e ∙ read_back s

-- what a writing leaves is heard as it is told
pub written :
    (w v : Writing) (file : List ℕ) (p : Parts) (buffer after : List ℕ) → w ≡ v → left w after ≡ write_of file p buffer
    → at_host (told_written v) after ≡ suffix_written file p buffer
unfolding suffix_written
written w v file p buffer after h e =
    ap (λ (x : Writing). at_host (told_written x) after) (sym h) ∙ ap (λ (l : Left). at_host (told_written l.result) l.buffer) e

-- and so for a writing
unfoldable written_by : ℕ → ℕ → Writing
written_by zero n = Ok n
written_by (suc k) n = unwritten

written_back : (w : Writing) → written_by (told_written w).refused (told_written w).count ≡ w
unfolding counted written_by
written_back (Ok n) = refl
written_back (Err w) = refl

pub written_tells : (w v : Writing) → told_written w ≡ told_written v → w ≡ v
written_tells w v e = sym (written_back w) ∙ ap (λ (t : Counted). written_by t.refused t.count) e ∙ written_back v

-- what is told of a count or a refusal is told by its two numbers
counts_once :
    {E : Type 0} (converts : E → ℕ → Type 0) → ((e : E) (n m : ℕ) → converts e n → converts e m → n ≡ m)
    → (found : Result ℕ E) (t u : Counted) → Counts converts found t → Counts converts found u → t ≡ u
counts_once converts one (Ok n) t u h k = h ∙ sym k
counts_once converts one (Err e) t u h k =
    let same : t.refused ≡ u.refused = one e t.refused u.refused h.0 k.0 in
    let none : t.count ≡ u.count = omega (arith, h.1, k.1) in
    ap (λ (m : ℕ). record t { refused = m }) same ∙ ap (λ (m : ℕ). record u { count = m }) none

counts_equal :
    {E : Type 0} (number : E → ℕ) (found : Result ℕ E) (t : Counted)
    → Counts (λ e n. n ≡ number e) found t → t ≡ counted number found
unfolding counted
counts_equal number (Ok n) t h = h
counts_equal number (Err e) t h = counts_once (λ e n. n ≡ number e) (λ e n m p q. p ∙ sym q) (Err e) t _ h (refl, refl)

pub one_counted : OneCounted
one_counted = record { once = counts_once; equation = counts_equal }
