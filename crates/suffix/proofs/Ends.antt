-- A file and 16 bytes behind it: what each test of the reader tells of them. Assumes nothing.
use Prim.Native.Nat.{ℕ, ◌+◌, ◌-◌, ◌*◌, ◌^◌, ◌<◌}
use mathlib.Core.Bool.{true, false}
use mathlib.Core.List.{List, [], ◌∷◌, ◌++◌, append_assoc}
use mathlib.Core.Path.{◌≡◌, refl, sym, ap, ap₂, ◌∙◌, subst}
use native.Mathlib.Omega.{arith}
use borrow.Author.Tests.{le-ltb}
use lib.ListN.{length, get_or, take, drop, length-append}
use lib.Seq.{get_or-append-add, take-append-add, take-append_seam, drop-append-add, drop-append_seam}
use Rattle.numbers.specs.Numbers.{long_at, bytes2, bytes4}
use Rattle.numbers.proofs.Laws.{four_bytes, of_two_bytes, of_four_bytes}
use Rattle.crc.specs.Crc.{crc_of}
use Rattle.crc.proofs.Laws.{crc_of_fits}
use Rattle.std.specs.Prelude.{Err}
use Rattle.suffix.specs.declared.Refusal.{Refusal}
use Rattle.suffix.specs.declared.Refusal.TheVariants.{Short, Signature, Length, Version, Sum}
use Rattle.suffix.specs.Suffix.{suffix_size, dfu_version, front_of, sum_bytes, suffixed, image_of, suffix_of}
use Rattle.suffix.specs.Suffix.{signed, sized, versioned, summed, parts_of, Reading, accepted, judged, read_of}
use Rattle.pieces.specs.Claims.{Bytes}
use Rattle.suffix.specs.Claims.{field, LongEnough, Signed, Sized, Versioned, Summed, FileWith, Says}
use Rattle.pieces.proofs.Lists.{bytes_take}
use Rattle.pieces.proofs.Tests.{Tells, tells_no, isnt, both, equal, alike, either_way}

module _ (file : List ℕ) (x0 x1 x2 x3 x4 x5 x6 x7 x8 x9 x10 x11 x12 x13 x14 x15 : ℕ) where
  abbrev pub front : List ℕ
  front = x0 ∷ x1 ∷ x2 ∷ x3 ∷ x4 ∷ x5 ∷ x6 ∷ x7 ∷ x8 ∷ x9 ∷ x10 ∷ x11 ∷ []

  abbrev pub end : List ℕ
  end = x0 ∷ x1 ∷ x2 ∷ x3 ∷ x4 ∷ x5 ∷ x6 ∷ x7 ∷ x8 ∷ x9 ∷ x10 ∷ x11 ∷ x12 ∷ x13 ∷ x14 ∷ x15 ∷ []

  abbrev pub whole : List ℕ
  whole = file ++ end

  pub place : length whole - 16 ≡ length file
  place = omega (arith, length-append file end)

  pub long_enough : LongEnough whole
  long_enough = omega (arith, length-append file end)

  field_is : (from n : ℕ) → field whole from n ≡ take n (drop from end)
  field_is from n =
      ap (λ (at : ℕ). take n (drop (at + from) whole)) place ∙ ap (take n) (drop-append-add file end from)

  pub behind_front : take (length file + 12) whole ≡ file ++ front
  behind_front = take-append-add file end 12

  -- what the reader's tests come to
  image_is : image_of whole ≡ file
  image_is = ap (λ (at : ℕ). take at whole) place ∙ take-append_seam file end

  suffix_is : suffix_of whole ≡ end
  suffix_is = ap (λ (at : ℕ). drop at whole) place ∙ drop-append_seam file end

  read_is :
      read_of whole
      ≡ judged (signed end) (sized end) (versioned end) (summed end (file ++ front)) (accepted (parts_of end) (length file))
  unfolding read_of
  read_is = rw (le-ltb (length whole) suffix_size long_enough, image_is, suffix_is, behind_front)

  at_signature : signed end ≡ false → read_of whole ≡ Err Signature
  at_signature s = rw (read_is, s)

  at_length : signed end ≡ true → sized end ≡ false → read_of whole ≡ Err Length
  at_length s z = rw (read_is, s, z)

  at_version : signed end ≡ true → sized end ≡ true → versioned end ≡ false → read_of whole ≡ Err Version
  at_version s z v = rw (read_is, s, z, v)

  at_sum :
      signed end ≡ true → sized end ≡ true → versioned end ≡ true → summed end (file ++ front) ≡ false → read_of whole ≡ Err Sum
  at_sum s z v c = rw (read_is, s, z, v, c)

  pub at_suffixed :
      signed end ≡ true → sized end ≡ true → versioned end ≡ true → summed end (file ++ front) ≡ true
      → read_of whole ≡ accepted (parts_of end) (length file)
  at_suffixed s z v c = rw (read_is, s, z, v, c)

  -- what each test tells, where all are bytes
  module _ (b : Bytes whole) where
    byte : (k : ℕ) → get_or end k 0 < 256
    byte k = subst (λ (n : ℕ). n < 256) (get_or-append-add file end k 0) (b (length file + k))

    sum_fits : crc_of (file ++ front) < 2 ^ 32
    sum_fits = crc_of_fits (file ++ front) (subst Bytes behind_front (bytes_take whole (length file + 12) b))

    -- where a field holds these bytes, each of its bytes is one of them
    stands : (from n : ℕ) (bytes : List ℕ) → field whole from n ≡ bytes → (k : ℕ) → get_or (take n (drop from end)) k 0 ≡ get_or bytes k 0
    stands from n bytes h k = ap (λ (l : List ℕ). get_or l k 0) (sym (field_is from n) ∙ h)

    pub signed_tells : Tells (signed end) (Signed whole)
    signed_tells =
        alike (signed end) (((x8 ≡ 0x55) × (x9 ≡ 0x46)) × (x10 ≡ 0x44)) (Signed whole)
        (λ e. field_is 8 3 ∙ rw (e.0.0, e.0.1, e.1))
        (λ h. ((stands 8 3 _ h 0, stands 8 3 _ h 1), stands 8 3 _ h 2))
        (both _ _ _ _ (both _ _ _ _ (equal x8 0x55) (equal x9 0x46)) (equal x10 0x44))

    pub sized_tells : Tells (sized end) (Sized whole)
    sized_tells =
        alike (sized end) (x11 ≡ suffix_size) (Sized whole) (λ e. field_is 11 1 ∙ rw e) (λ h. stands 11 1 _ h 0) (equal x11 suffix_size)

    pub versioned_tells : Tells (versioned end) (Versioned whole)
    versioned_tells =
        alike (versioned end) (x6 + x7 * 256 ≡ dfu_version) (Versioned whole)
        (λ e. field_is 6 2 ∙ sym (of_two_bytes x6 x7 (byte 6) (byte 7)) ∙ ap (λ (n : ℕ). bytes2 n) e)
        (λ h. ap₂ (λ (x y : ℕ). x + y * 256) (stands 6 2 _ h 0) (stands 6 2 _ h 1))
        (equal (x6 + x7 * 256) dfu_version)

    covered : take (length whole - 4) whole ≡ file ++ front
    covered =
        let at : length whole - 4 ≡ length file + 12 = omega (arith, length-append file end) in
        ap (λ (n : ℕ). take n whole) at ∙ behind_front

    pub summed_tells : Tells (summed end (file ++ front)) (Summed whole)
    summed_tells =
        alike (summed end (file ++ front)) (x12 + x13 * 256 + (x14 + x15 * 256) * 65536 ≡ crc_of (file ++ front)) (Summed whole)
        (λ e.
        field_is 12 4
        ∙ sym (of_four_bytes x12 x13 x14 x15 (byte 12) (byte 13) (byte 14) (byte 15))
        ∙ ap (λ (n : ℕ). bytes4 n) (e ∙ ap crc_of (sym covered)))
        (λ h.
        ap (λ (l : List ℕ). long_at l 0) (sym (field_is 12 4) ∙ h ∙ ap (λ (l : List ℕ). bytes4 (crc_of l)) covered)
        ∙ four_bytes (crc_of (file ++ front)) sum_fits)
        (equal _ _)

    -- bytes that meet all are a file with its suffix
    module _ (g : Signed whole) (z : Sized whole) (v : Versioned whole) (c : Summed whole) where
      front_is : front ≡ front_of (parts_of end)
      unfolding front_of
      front_is =
          ap₂ ◌++◌
          (ap₂ ◌++◌
          (ap₂ ◌++◌ (ap₂ ◌++◌ (two 0 1) (two 2 3)) (two 4 5))
          (sym (field_is 6 2) ∙ v))
          (ap₂ ◌++◌ (sym (field_is 8 3) ∙ g) (sym (field_is 11 1) ∙ z))
        where
          two : (i j : ℕ) → get_or end i 0 ∷ get_or end j 0 ∷ [] ≡ bytes2 (get_or end i 0 + get_or end j 0 * 256)
          two i j = sym (of_two_bytes (get_or end i 0) (get_or end j 0) (byte i) (byte j))

      sum_is : x12 ∷ x13 ∷ x14 ∷ x15 ∷ [] ≡ sum_bytes (file ++ front)
      unfolding sum_bytes
      sum_is = sym (field_is 12 4) ∙ c ∙ ap (λ (l : List ℕ). bytes4 (crc_of l)) covered

      pub file_with : FileWith whole (parts_of end) (length file)
      unfolding suffixed
      file_with =
          record {
            file = file;
            made =
                sym (append_assoc file front (x12 ∷ x13 ∷ x14 ∷ x15 ∷ []))
                ∙ ap₂ (λ (f l : List ℕ). (file ++ f) ++ l) front_is (sum_is ∙ ap (λ (f : List ℕ). sum_bytes (file ++ f)) front_is);
            long = refl;
            fits = record { device = two 0 1; product = two 2 3; vendor = two 4 5 };
          }
        where
          two : (i j : ℕ) → get_or end i 0 + get_or end j 0 * 256 < 2 ^ 16
          two i j = let low : get_or end i 0 < 256 = byte i in let high : get_or end j 0 < 256 = byte j in omega arith

    -- so the reading is true
    stays : (r : Reading) → read_of whole ≡ r → Says r whole → Says (read_of whole) whole
    stays r e h = subst (λ (x : Reading). Says x whole) (sym e) h

    pub says_here : Says (read_of whole) whole
    says_here =
        either_way (signed end)
        (λ s. either_way (sized end)
        (λ z. either_way (versioned end)
        (λ v. either_way (summed end (file ++ front))
        (λ c. stays _ (at_suffixed s z v c) (file_with (signs s) (sizes z) (versions v) (summed_tells.yes c)))
        (λ c. stays (Err Sum) (at_sum s z v c) (long_enough, signs s, sizes z, versions v, tells_no _ _ summed_tells c)))
        (λ v. stays (Err Version) (at_version s z v) (long_enough, signs s, sizes z, tells_no _ _ versioned_tells v)))
        (λ z. stays (Err Length) (at_length s z) (long_enough, signs s, tells_no _ _ sized_tells z)))
        (λ s. stays (Err Signature) (at_signature s) (long_enough, tells_no _ _ signed_tells s))
      where
        signs : signed end ≡ true → Signed whole
        signs = signed_tells.yes

        sizes : sized end ≡ true → Sized whole
        sizes = sized_tells.yes

        versions : versioned end ≡ true → Versioned whole
        versions = versioned_tells.yes

    -- and a refusal that is true is given
    pub refused_here : (r : Refusal) → Says (Err r) whole → read_of whole ≡ Err r
    refused_here Short h = absurd (h long_enough)
    refused_here Signature h = at_signature (isnt _ _ signed_tells h.1)
    refused_here Length h = at_length (signed_tells.is h.1) (isnt _ _ sized_tells h.2)
    refused_here Version h = at_version (signed_tells.is h.1) (sized_tells.is h.2) (isnt _ _ versioned_tells h.3)
    refused_here Sum h =
        at_sum (signed_tells.is h.1) (sized_tells.is h.2) (versioned_tells.is h.3) (isnt _ _ summed_tells h.4)
