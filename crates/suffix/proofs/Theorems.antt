-- What is promised of the suffix, proved. Assumes nothing.
use Prim.Native.Nat.{ℕ, zero, suc, ◌-◌, ◌/◌, ◌^◌, ◌<◌}
use mathlib.Core.List.{List, [], ◌∷◌, ◌++◌, append_assoc, append-nil}
use mathlib.Core.Path.{◌≡◌, refl, sym, ap, ap₂, ◌∙◌, subst}
use native.Mathlib.Decide.{dec_lt}
use native.Mathlib.Nat.{mod-lt, not-le_of_lt}
use native.Mathlib.Omega.{arith}
use borrow.Author.Tests.{lt-ltb, eq-eqb}
use lib.ListN.{length, take, drop, length-append, length-drop, take-append-drop}
use lib.Seq.{take-append_seam, take_at}
use Rattle.numbers.specs.Numbers.{bytes2, bytes4}
use Rattle.numbers.proofs.Laws.{two_bytes, four_bytes}
use Rattle.crc.specs.Crc.{crc_of}
use Rattle.crc.proofs.Laws.{crc_of_fits}
use Rattle.suffix.specs.declared.Parts.{Parts}
use Rattle.std.specs.Prelude.{Ok, Err}
use Rattle.suffix.specs.declared.Refusal.{Refusal}
use Rattle.suffix.specs.declared.Refusal.TheVariants.{Short, Signature, Length, Version, Sum}
use Rattle.suffix.specs.Suffix.{suffix_size, dfu_version, front_of, sum_bytes, suffixed, Reading, accepted, read_of}
use Rattle.suffix.specs.Suffix.{size_with, laid, Writing, Left, left, write_of}
use Rattle.pieces.specs.Claims.{Bytes}
use Rattle.suffix.specs.Claims.{Fits, LongEnough, FileWith, Says, AcceptsExactly, OneReader, WritesExactly, OneWriter}
use Rattle.suffix.specs.Claims.{ReadWritten, WriteRead, OneSuffix, OneOutcome}
use Rattle.suffix.proofs.Laws.{no_room, room}
use Rattle.pieces.proofs.Lists.{one_by_one, bytes_append, bytes_take}
use Rattle.suffix.proofs.Ends.{whole, at_suffixed, says_here, refused_here}

-- ---- any bytes: too few, or a file and 16 bytes behind it

short_is : (bytes : List ℕ) → length bytes < suffix_size → read_of bytes ≡ Err Short
unfolding read_of
short_is bytes h = rw (lt-ltb (length bytes) suffix_size h)

-- what holds for a file and any 16 bytes holds for all that are long enough
ending :
    (P : List ℕ → Type 0)
    → ((file : List ℕ) (x0 x1 x2 x3 x4 x5 x6 x7 x8 x9 x10 x11 x12 x13 x14 x15 : ℕ)
    → P (whole file x0 x1 x2 x3 x4 x5 x6 x7 x8 x9 x10 x11 x12 x13 x14 x15))
    → (bytes : List ℕ) → LongEnough bytes → P bytes
ending P f bytes h =
    let at : ℕ = length bytes - 16 in
    let long : length (drop at bytes) ≡ 16 = omega (arith, length-drop at bytes) in
    subst P (take-append-drop at bytes)
    (one_by_one 16 (λ (end : List ℕ). P (take at bytes ++ end)) (f (take at bytes)) (drop at bytes) long)

says : (bytes : List ℕ) → Bytes bytes → Says (read_of bytes) bytes
says bytes b =
    elim (dec_lt (length bytes) suffix_size) [
      | yes l ↦ subst (λ (r : Reading). Says r bytes) (sym (short_is bytes l)) (λ h. omega arith)
      | no l ↦ ending (λ (xs : List ℕ). Bytes xs → Says (read_of xs) xs) says_here bytes (omega arith) b
    ]

-- of too few bytes nothing but that is true
too_few : (bytes : List ℕ) → length bytes < suffix_size → (r : Refusal) → Says (Err r) bytes → read_of bytes ≡ Err r
too_few bytes l Short h = short_is bytes l
too_few bytes l Signature h = absurd (not-le_of_lt l h.0)
too_few bytes l Length h = absurd (not-le_of_lt l h.0)
too_few bytes l Version h = absurd (not-le_of_lt l h.0)
too_few bytes l Sum h = absurd (not-le_of_lt l h.0)

refused : (bytes : List ℕ) → Bytes bytes → (r : Refusal) → Says (Err r) bytes → read_of bytes ≡ Err r
refused bytes b r h =
    elim (dec_lt (length bytes) suffix_size) [
      | yes l ↦ too_few bytes l r h
      | no l ↦
          ending (λ (xs : List ℕ). Bytes xs → Says (Err r) xs → read_of xs ≡ Err r)
          (λ file x0 x1 x2 x3 x4 x5 x6 x7 x8 x9 x10 x11 x12 x13 x14 x15 c g.
          refused_here file x0 x1 x2 x3 x4 x5 x6 x7 x8 x9 x10 x11 x12 x13 x14 x15 c r g)
          bytes (omega arith) b h
    ]

-- ---- a file with its suffix

length-suffixed : (file : List ℕ) (p : Parts) → length (suffixed file p) ≡ size_with file
unfolding front_of sum_bytes suffixed
length-suffixed file p =
    omega (arith, length-append (file ++ front_of p) (sum_bytes (file ++ front_of p)), length-append file (front_of p))

-- the file stands at its front, whatever lies behind
file_in_front : (file : List ℕ) (p : Parts) (rest : List ℕ) → take (length file) (suffixed file p ++ rest) ≡ file
unfolding suffixed
file_in_front file p rest =
    let sum : List ℕ = sum_bytes (file ++ front_of p) in
    ap (take (length file))
    (append_assoc (file ++ front_of p) sum rest ∙ append_assoc file (front_of p) (sum ++ rest))
    ∙ take-append_seam file (front_of p ++ (sum ++ rest))

pub file_of : (bytes : List ℕ) (p : Parts) (n : ℕ) (f : FileWith bytes p n) → take n bytes ≡ f.file
file_of bytes p n f =
    ap₂ take (sym f.long) (f.made ∙ sym (append-nil (suffixed f.file p))) ∙ file_in_front f.file p []

number_bytes : (n : ℕ) → Bytes (bytes2 n)
number_bytes n zero = mod-lt n (omega arith)
number_bytes n (suc zero) = mod-lt (n / 256) (omega arith)
number_bytes n (suc (suc i)) = omega arith

mark_bytes : Bytes (0x55 ∷ 0x46 ∷ 0x44 ∷ suffix_size ∷ [])
mark_bytes zero = omega arith
mark_bytes (suc zero) = omega arith
mark_bytes (suc (suc zero)) = omega arith
mark_bytes (suc (suc (suc zero))) = omega arith
mark_bytes (suc (suc (suc (suc i)))) = omega arith

front_bytes : (p : Parts) → Bytes (front_of p)
unfolding front_of
front_bytes p =
    let d : List ℕ = bytes2 p.device in
    let q : List ℕ = d ++ bytes2 p.product in
    let v : List ℕ = q ++ bytes2 p.vendor in
    bytes_append (v ++ bytes2 dfu_version) (0x55 ∷ 0x46 ∷ 0x44 ∷ suffix_size ∷ [])
    (bytes_append v (bytes2 dfu_version)
    (bytes_append q (bytes2 p.vendor)
    (bytes_append d (bytes2 p.product) (number_bytes p.device) (number_bytes p.product))
    (number_bytes p.vendor))
    (number_bytes dfu_version))
    mark_bytes

pub read-suffixed : (file : List ℕ) (p : Parts) → Bytes file → Fits p → read_of (suffixed file p) ≡ accepted p (length file)
unfolding front_of sum_bytes suffixed
read-suffixed file p b f =
    let c : ℕ = crc_of (file ++ front_of p) in
    let fits : c < 2 ^ 32 = crc_of_fits (file ++ front_of p) (bytes_append file (front_of p) b (front_bytes p)) in
    ap read_of (append_assoc file (front_of p) (bytes4 c))
    ∙ at_suffixed file _ _ _ _ _ _ _ _ _ _ _ _ _ _ _ _ refl refl refl (eq-eqb _ c (four_bytes c fits))
    ∙ rw (two_bytes p.device f.device, two_bytes p.product f.product, two_bytes p.vendor f.vendor)

-- ---- the theorems

given : (bytes : List ℕ) → Bytes bytes → (r : Reading) → Says r bytes → read_of bytes ≡ r
given bytes b (Ok s) f =
    let lent : Bytes f.file = subst Bytes (file_of bytes s.parts s.length f) (bytes_take bytes s.length b) in
    ap read_of f.made ∙ read-suffixed f.file s.parts lent f.fits ∙ ap (accepted s.parts) f.long
given bytes b (Err r) h = refused bytes b r h

pub accepts_exactly : AcceptsExactly read_of
accepts_exactly bytes b r =
    record { then = λ e. subst (λ (x : Reading). Says x bytes) e (says bytes b); back = given bytes b r }

pub one_reader : OneReader
one_reader read exactly bytes b = (exactly bytes b (read_of bytes)).back (says bytes b)

pub writes_exactly : WritesExactly write_of
unfolding laid
writes_exactly =
    record {
      no_room = λ file p buffer h. sym (no_room file p buffer h);
      room = λ file p buffer h. sym (room file p buffer (laid file p buffer) h refl);
    }

pub one_writer : OneWriter
unfolding laid
one_writer write exactly file p buffer =
    elim (dec_lt (length buffer) (size_with file)) [
      | yes l ↦ exactly.no_room file p buffer l ∙ no_room file p buffer l
      | no l ↦ exactly.room file p buffer (omega arith) ∙ room file p buffer (laid file p buffer) (omega arith) refl
    ]

-- one more than was written, or nothing at all
abbrev counted : Writing → ℕ
counted (Ok n) = suc n
counted (Err e) = 0

written_is :
    (file : List ℕ) (p : Parts) (buffer : List ℕ) (n : ℕ) → (write_of file p buffer).result ≡ Ok n
    → (n ≡ size_with file) × ((write_of file p buffer).buffer ≡ laid file p buffer)
written_is file p buffer n e =
    elim (dec_lt (length buffer) (size_with file)) [
      | yes l ↦ let none : 0 ≡ suc n = ap counted (ap (λ (w : Left). w.result) (no_room file p buffer l) ∙ e) in absurd (omega arith)
      | no l ↦
          let w : left (Ok (size_with file)) (laid file p buffer) ≡ write_of file p buffer =
          room file p buffer (laid file p buffer) (omega arith) refl
          in
          let same : suc (size_with file) ≡ suc n = ap counted (ap (λ (l : Left). l.result) w ∙ e) in
          (omega arith, sym (ap (λ (l : Left). l.buffer) w))
    ]

pub read_written : ReadWritten read_of write_of
unfolding laid
read_written file p buffer n b f e =
    let w = written_is file p buffer n e in
    let rest : List ℕ = drop (size_with file) buffer in (
      ap₂ (λ (k : ℕ) (l : List ℕ). read_of (take k l)) w.0 w.1
          ∙ ap read_of (take_at (suffixed file p) rest (size_with file) (length-suffixed file p))
          ∙ read-suffixed file p b f,
      ap (take (length file)) w.1 ∙ file_in_front file p rest,
    )

pub write_read : WriteRead read_of write_of
unfolding laid
write_read bytes p n buffer b e h =
    let f : FileWith bytes p n = (accepts_exactly bytes b (accepted p n)).then e in
    let long : length bytes ≡ size_with f.file = ap length f.made ∙ length-suffixed f.file p in
    ap (λ (l : List ℕ). write_of l p buffer) (file_of bytes p n f)
    ∙ sym (room f.file p buffer (laid f.file p buffer) (omega arith) refl)
    ∙ ap₂ (λ (k : ℕ) (l : List ℕ). left (Ok k) (l ++ drop k buffer)) (sym long) (sym f.made)

pub one_suffix : OneSuffix read_of
one_suffix bytes other p n m b c e f h =
    let s : FileWith bytes p n = (accepts_exactly bytes b (accepted p n)).then e in
    let t : FileWith other p m = (accepts_exactly other c (accepted p m)).then f in
    s.made
    ∙ ap (λ (l : List ℕ). suffixed l p) (sym (file_of bytes p n s) ∙ h ∙ file_of other p m t)
    ∙ sym t.made

pub one_outcome : OneOutcome
one_outcome =
    record {
      meaning = λ bytes b r s g h. sym (given bytes b r g) ∙ given bytes b s h;
      read = λ bytes r s e f. e ∙ sym f;
      write = λ file p buffer l m e f. e ∙ sym f;
    }
