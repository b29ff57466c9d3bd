-- The theorems of the bundle. Assumes nothing.
use Prim.Native.Nat.{ℕ, ◌+◌, ◌≤◌, ◌<◌}
use mathlib.Core.Bool.{not}
use mathlib.Core.List.{List, [], ◌++◌}
use mathlib.Core.Path.{◌≡◌, refl, sym, ap, ap₂, subst, ◌∙◌}
use native.Mathlib.Decide.{dec_lt}
use native.Mathlib.Omega.{arith}
use lib.Dec.{eqb}
use lib.ListN.{length, get_or, take, drop, length-append, get_or-eq_default}
use lib.Seq.{take_at, drop-append-add, ext_get_or}
use borrow.Author.Tests.{not-true, not-false, eqb-true, eqb-false}
use Rattle.numbers.specs.Numbers.{bytes2}
use Rattle.pieces.specs.Claims.{Bytes}
use Rattle.pieces.proofs.Tests.{isnt, tells_no, either_way}
use Rattle.bundle.specs.declared.Entry.{Entry}
use Rattle.bundle.specs.declared.Part.{Part}
use Rattle.std.specs.Prelude.{Ok, Err}
use Rattle.bundle.specs.Bundle.{can_count, head_size, entries_of, bundle_of, Reading, read_of, images_in, image_of}
use Rattle.bundle.specs.Bundle.{has_empty, fits_in, total, size_of, left, write_of}
use Rattle.bundle.specs.Claims.{lengths_of, joined, Counted, Full, Narrow, Legal, bundled, count, BundleWith, Says, Fits}
use Rattle.bundle.specs.Claims.{AcceptsExactly, OneReader, HandsBack, OneHandsBack, WritesExactly, OneWriter}
use Rattle.bundle.specs.Claims.{Holds, ReadWritten, WriteRead, OneBundle, OneOutcome}
use Rattle.bundle.proofs.Laws.{entries_long}
use Rattle.bundle.proofs.Laws as laws
use Rattle.bundle.proofs.Walk.{part_none, part_some}
use Rattle.bundle.proofs.Meaning.{AllGood, Means, means, given, accepted_good}
use Rattle.bundle.proofs.Totals.{lengths_many, joined-long, image_part, cut, cut_lengths, cut_joined}
use Rattle.bundle.proofs.Made.{entry_is, size_is, count_is, all_good, bundle_with}
use Rattle.bundle.proofs.Writes.{counted_tells, full_tells, fits_tells, Taken, all_well, taken}

-- ---- reading

-- what a reading means is what it says, by lists of images
says : (bytes : List ℕ) → Bytes bytes → (r : Reading) → Means r bytes → Says r bytes
says bytes b (Ok n) m = subst (BundleWith bytes) (sym m.1) (bundle_with bytes b m.0)
says bytes b (Err r) m = m

said : (bytes : List ℕ) (r : Reading) → Says r bytes → Means r bytes
said bytes (Ok n) w =
    let images = w.images in (
      subst AllGood (sym w.made) (all_good images w.legal),
      sym w.many ∙ sym (lengths_many images) ∙ sym (count_is images w.legal) ∙ ap count (sym w.made),
    )
said bytes (Err r) m = m

pub accepts_exactly : AcceptsExactly read_of
accepts_exactly bytes b r =
    record {
      then = λ e. says bytes b r (subst (λ (x : Reading). Means x bytes) e (means bytes));
      back = λ s. given bytes r (said bytes r s);
    }

pub one_reader : OneReader
one_reader read exactly bytes b = (exactly bytes b (read_of bytes)).back (says bytes b (read_of bytes) (means bytes))

-- ---- the images

pub read-bundled : (images : List (List ℕ)) → Legal images → read_of (bundled images) ≡ Ok (length images)
read-bundled images legal =
    given (bundled images) (Ok (length images))
    (said (bundled images) (Ok (length images)) (record { images = images; made = refl; many = refl; legal = legal }))

pub images_counted : (images : List (List ℕ)) → Legal images → images_in (read_of (bundled images)) ≡ length images
images_counted images legal = ap images_in (read-bundled images legal)

-- no bytes where there is no image
image_none : (bytes : List ℕ) (k : ℕ) → images_in (read_of bytes) ≤ k → image_of bytes k ≡ []
unfolding image_of
image_none bytes k h = ap (λ (p : Part). take p.length (drop p.from bytes)) (part_none bytes k h)

-- the bytes behind a bundle's head are those of its images
behind_head : (images : List (List ℕ)) (t : ℕ) → drop (head_size (length (lengths_of images)) + t) (bundled images) ≡ drop t (joined images)
unfolding bundle_of
behind_head images t =
    let l : List ℕ = lengths_of images in
    let head : List ℕ = bytes2 (length l) ++ entries_of (head_size (length l)) l in
    let long : head_size (length l) + t ≡ length head + t =
    omega (arith, length-append (bytes2 (length l)) (entries_of (head_size (length l)) l), entries_long (head_size (length l)) l)
    in
    ap (λ (n : ℕ). drop n (bundled images)) long ∙ drop-append-add head (joined images) t

image_some : (images : List (List ℕ)) → Legal images → (k : ℕ) → k < length images → image_of (bundled images) k ≡ get_or images k []
unfolding image_of
image_some images legal k h =
    let l : List ℕ = lengths_of images in
    let bytes : List ℕ = bundled images in
    ap (λ (p : Part). take p.length (drop p.from bytes)) (part_some bytes k (omega (arith, images_counted images legal)))
    ∙ ap (λ (e : Entry). take e.length (drop e.offset bytes)) (entry_is images legal k (omega (arith, lengths_many images)))
    ∙ ap (take (get_or l k 0)) (behind_head images (total (take k l)))
    ∙ image_part images k h

pub hands_back : HandsBack image_of
hands_back =
    record {
      of_bundle = λ images legal k.
          elim (dec_lt k (length images)) [
            | yes h ↦ image_some images legal k h
            | no h ↦
                image_none (bundled images) k (omega (arith, images_counted images legal))
                ∙ sym (get_or-eq_default images [] (omega arith))
          ];
      of_other = λ bytes b other k.
          elim (dec_lt k (images_in (read_of bytes))) [
            | yes h ↦
                let w = bundle_with bytes b (accepted_good bytes k h).0 in
                absurd (other w.images w.legal w.made)
            | no h ↦ image_none bytes k (omega arith)
          ];
    }

pub one_hands_back : OneHandsBack
one_hands_back image hands bytes b k =
    elim (dec_lt 0 (images_in (read_of bytes))) [
      | yes h ↦
          let w = bundle_with bytes b (accepted_good bytes 0 h).0 in
          ap (λ (x : List ℕ). image x k) w.made
          ∙ hands.of_bundle w.images w.legal k
          ∙ sym (hands_back.of_bundle w.images w.legal k)
          ∙ ap (λ (x : List ℕ). image_of x k) (sym w.made)
      | no h ↦
          hands.of_other bytes b
          (λ images legal e.
          let some : 1 ≤ length (lengths_of images) = legal.counted.some in
          omega (arith, ap (λ (x : List ℕ). images_in (read_of x)) e, images_counted images legal, lengths_many images)) k
          ∙ sym (image_none bytes k (omega arith))
    ]

-- ---- writing

wrote_bundle :
    (images : List (List ℕ)) (buffer : List ℕ) → Legal images → length (bundled images) ≤ length buffer
    → write_of (lengths_of images) (joined images) buffer
    ≡ left (Ok (length (bundled images))) (bundled images ++ drop (length (bundled images)) buffer)
wrote_bundle images buffer legal room =
    let l : List ℕ = lengths_of images in
    let size : length (bundled images) ≡ size_of l = size_is images legal in
    let fits : Fits (length buffer) l = record { narrow = legal.narrow; within = omega arith } in
    all_well l (joined images) buffer ((counted_tells l).is legal.counted)
    (not-true (has_empty l) ((full_tells l).is legal.full))
    ((fits_tells (length buffer) l).is fits)
    (sym (joined-long images))
    ∙ ap (λ (n : ℕ). left (Ok n) (bundled images ++ drop n buffer)) (sym size)

pub writes_exactly : WritesExactly write_of
writes_exactly =
    record {
      wrong_count = λ l images buffer c. laws.wrong_count l images buffer (isnt _ _ (counted_tells l) c);
      empty_image = λ l images buffer c f.
          laws.empty_image l images buffer ((counted_tells l).is c) (not-false (has_empty l) (isnt _ _ (full_tells l) f));
      no_room = λ l images buffer c f r.
          laws.no_room l images buffer ((counted_tells l).is c) (not-true (has_empty l) ((full_tells l).is f))
          (isnt _ _ (fits_tells (length buffer) l) r);
      wrong_lengths = λ l images buffer c f r t.
          laws.wrong_lengths l images buffer ((counted_tells l).is c) (not-true (has_empty l) ((full_tells l).is f))
          ((fits_tells (length buffer) l).is r) t;
      wrote = wrote_bundle;
    }

-- lengths that pass every test, and the bytes that they add up to, are those of images
legal_cut :
    (l images : List ℕ) (room : ℕ) → Counted l → Full l → Fits room l → total l ≡ length images → Legal (cut l images)
legal_cut l images room c f r t =
    let e : lengths_of (cut l images) ≡ l = cut_lengths l images (omega arith) in
    record { counted = subst Counted (sym e) c; full = subst Full (sym e) f; narrow = subst Narrow (sym e) r.narrow }

pub one_writer : OneWriter
one_writer write exactly l images buffer =
    either_way (can_count (length l))
    (λ c.
    let counted : Counted l = (counted_tells l).yes c in
    either_way (not (has_empty l))
    (λ f.
    let full : Full l = (full_tells l).yes f in
    either_way (fits_in (length buffer) (head_size (length l)) l)
    (λ r.
    let fits : Fits (length buffer) l = (fits_tells (length buffer) l).yes r in
    either_way (eqb (total l) (length images))
    (λ t.
    let adds : total l ≡ length images = eqb-true (total l) (length images) t in
    let list : List (List ℕ) = cut l images in
    let legal : Legal list = legal_cut l images (length buffer) counted full fits adds in
    let is : lengths_of list ≡ l = cut_lengths l images (omega arith) in
    let are : joined list ≡ images = cut_joined l images adds in
    let room : length (bundled list) ≤ length buffer = omega (arith, size_is list legal, ap size_of is, fits.within) in
    ap₂ (λ (x y : List ℕ). write x y buffer) (sym is) (sym are)
    ∙ exactly.wrote list buffer legal room
    ∙ sym (wrote_bundle list buffer legal room)
    ∙ ap₂ (λ (x y : List ℕ). write_of x y buffer) is are)
    (λ t.
    let other = eqb-false (total l) (length images) t in
    exactly.wrong_lengths l images buffer counted full fits other
    ∙ sym (writes_exactly.wrong_lengths l images buffer counted full fits other)))
    (λ r.
    let not_so = tells_no _ _ (fits_tells (length buffer) l) r in
    exactly.no_room l images buffer counted full not_so ∙ sym (writes_exactly.no_room l images buffer counted full not_so)))
    (λ f.
    let not_so = tells_no _ _ (full_tells l) f in
    exactly.empty_image l images buffer counted not_so ∙ sym (writes_exactly.empty_image l images buffer counted not_so)))
    (λ c.
    let not_so = tells_no _ _ (counted_tells l) c in
    exactly.wrong_count l images buffer not_so ∙ sym (writes_exactly.wrong_count l images buffer not_so))

-- ---- both

holds_bundled : (images : List (List ℕ)) → Legal images → Holds read_of image_of (bundled images) images
holds_bundled images legal = record { found = read-bundled images legal; each = image_some images legal }

-- what was written is the bundle of legal images
written_legal :
    (images : List (List ℕ)) (buffer : List ℕ) (n : ℕ) → Taken (lengths_of images) (joined images) buffer n → Legal images
written_legal images buffer n t = record { counted = t.counted; full = t.full; narrow = t.fits.narrow }

pub read_written : ReadWritten read_of image_of write_of
read_written images buffer n e =
    let l : List ℕ = lengths_of images in
    let t : Taken l (joined images) buffer n = taken l (joined images) buffer n e in
    let legal : Legal images = written_legal images buffer n t in
    let size : length (bundled images) ≡ n = size_is images legal ∙ sym t.size in
    let front : take n (write_of l (joined images) buffer).buffer ≡ bundled images =
    ap (take n) t.after ∙ take_at (bundled images) (drop (size_of l) buffer) n size
    in
    subst (λ (x : List ℕ). Holds read_of image_of x images) (sym front) (holds_bundled images legal)

-- a file that holds these images is their bundle
held :
    (bytes : List ℕ) (images : List (List ℕ)) → Bytes bytes → Holds read_of image_of bytes images → (bytes ≡ bundled images) × Legal images
held bytes images b h =
    let w : BundleWith bytes (length images) = (accepts_exactly bytes b (Ok (length images))).then h.found in
    let same : w.images ≡ images =
    ext_get_or [] w.images images w.many
    (λ k i.
    sym (image_some w.images w.legal k i)
    ∙ ap (λ (x : List ℕ). image_of x k) (sym w.made)
    ∙ h.each k (omega (arith, w.many)))
    in (w.made ∙ ap bundled same, subst Legal same w.legal)

pub write_read : WriteRead read_of image_of write_of
write_read bytes images buffer b h room =
    let is = held bytes images b h in
    let long : length bytes ≡ length (bundled images) = ap length is.0 in
    wrote_bundle images buffer is.1 (omega arith)
    ∙ ap₂ (λ (n : ℕ) (x : List ℕ). left (Ok n) (x ++ drop n buffer)) (sym long) (sym is.0)

pub one_bundle : OneBundle read_of image_of write_of
one_bundle =
    record {
      same = λ bytes other images b c h i. (held bytes images b h).0 ∙ sym (held other images c i).0;
      has_one = λ images buffer n e.
          holds_bundled images (written_legal images buffer n (taken (lengths_of images) (joined images) buffer n e));
    }

pub one_outcome : OneOutcome
one_outcome =
    record {
      meaning = λ bytes b r s g h. sym ((accepts_exactly bytes b r).back g) ∙ (accepts_exactly bytes b s).back h;
      read = λ bytes r s e f. e ∙ sym f;
      part = λ bytes k p q e f. e ∙ sym f;
      image = λ bytes k l m e f. e ∙ sym f;
      write = λ l images buffer x y e f. e ∙ sym f;
    }
