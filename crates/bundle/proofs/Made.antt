-- Bytes of which every entry is good are the bundle of their images, and the other way. Assumes nothing.
use Prim.Native.Nat.{ℕ, zero, suc, ◌+◌, ◌*◌, ◌≤◌, ◌<◌}
use mathlib.Core.List.{List, [], ◌∷◌, ◌++◌}
use mathlib.Core.Path.{◌≡◌, refl, sym, ap, ap₂, subst, ◌∙◌}
use native.Mathlib.Omega.{arith}
use lib.ListN.{length, get_or, take, drop, length-drop, take-append-drop, drop_of_length-le}
use lib.Seq.{length-take-le, take-length, drop-drop, take-add}
use Rattle.numbers.specs.Numbers.{bytes2, bytes4}
use Rattle.numbers.proofs.Laws.{two_bytes, word_taken, long_taken, long_fits}
use Rattle.pieces.specs.Claims.{Bytes}
use Rattle.bundle.specs.declared.Entry.{Entry}
use Rattle.bundle.specs.Bundle.{head_size, entry_at, entries_of, bundle_of, total}
use Rattle.bundle.specs.Claims.{lengths_of, joined, Counted, Full, Narrow, Legal, bundled, count, offset, long, start}
use Rattle.bundle.specs.Claims.{EntryGood, GoodBelow, BundleWith}
use Rattle.bundle.proofs.Laws.{bundle_long}
use Rattle.bundle.proofs.Totals.{total-take, total_part, lengths_many, joined-long}
use Rattle.bundle.proofs.Entries.{entry_there}
use Rattle.bundle.proofs.Meaning.{AllGood}

-- ---- a bundle's entries are good

module _ (images : List (List ℕ)) (legal : Legal images) where
  abbrev l : List ℕ
  l = lengths_of images

  abbrev head : ℕ
  head = head_size (length l)

  pub entry_is :
      (k : ℕ) → k < length l → entry_at (bundled images) k ≡ record { offset = head + total (take k l); length = get_or l k 0 }
  unfolding bundle_of
  entry_is k h =
      let at : k ≡ 0 + k = omega arith in
      ap (entry_at (bundled images)) at
      ∙ entry_there (bytes2 (length l)) l (joined images) head 0 k refl h (legal.narrow.starts k h) (legal.narrow.sizes k h)

  pub size_is : length (bundled images) ≡ head + total l
  size_is = bundle_long l (joined images) ∙ ap (λ (m : ℕ). head + m) (joined-long images)

  pub count_is : count (bundled images) ≡ length l
  unfolding bundle_of
  count_is = two_bytes (length l) (omega (arith, legal.counted.few))

  start_is : (k : ℕ) → k ≤ length l → start (bundled images) k ≡ head + total (take k l)
  unfolding start total
  start_is zero h = omega (arith, count_is)
  start_is (suc k) h =
      omega (
        arith,
        start_is k (omega arith),
        ap (λ (e : Entry). e.length) (entry_is k (omega arith)),
        total-take l k (omega arith),
      )

  good : GoodBelow (bundled images) (length l)
  good k h =
      let e = entry_is k h in
      let offset_is : offset (bundled images) k ≡ head + total (take k l) = ap (λ (e : Entry). e.offset) e in
      let long_is : long (bundled images) k ≡ get_or l k 0 = ap (λ (e : Entry). e.length) e in
      record {
        in_place = offset_is ∙ sym (start_is k (omega arith));
        has_bytes = omega (arith, legal.full k h, long_is);
        inside = omega (arith, offset_is, long_is, total-take l k h, total_part l (suc k), size_is);
      }

  pub all_good : AllGood (bundled images)
  all_good =
      let few = legal.counted in
      record {
        headed =
            record {
              long_enough = omega (arith, size_is);
              count_good = (omega (arith, count_is, few.some), omega (arith, count_is, few.few));
              table_there = omega (arith, count_is, size_is);
            };
        good = subst (GoodBelow (bundled images)) (sym count_is) good;
        ends =
            ap (start (bundled images)) count_is
            ∙ start_is (length l) (omega arith)
            ∙ ap (λ (x : List ℕ). head + total x) (take-length l)
            ∙ sym size_is;
      }

-- ---- bytes with good entries are a bundle

module _ (bytes : List ℕ) (b : Bytes bytes) (all : AllGood bytes) where
  -- the images from image k on, and their lengths
  images_from : ℕ → ℕ → List (List ℕ)
  images_from zero k = []
  images_from (suc m) k = take (long bytes k) (drop (start bytes k) bytes) ∷ images_from m (suc k)

  longs_from : ℕ → ℕ → List ℕ
  longs_from zero k = []
  longs_from (suc m) k = long bytes k ∷ longs_from m (suc k)

  many : (m k : ℕ) → length (longs_from m k) ≡ m
  unfolding longs_from
  many zero k = refl
  many (suc m) k = ap suc (many m (suc k))

  each : (m k j : ℕ) → j < m → get_or (longs_from m k) j 0 ≡ long bytes (k + j)
  unfolding longs_from
  each zero k j h = absurd (omega arith)
  each (suc m) k zero h = let e : k ≡ k + 0 = omega arith in ap (long bytes) e
  each (suc m) k (suc j) h =
      let e : suc k + j ≡ k + suc j = omega arith in
      each m (suc k) j (omega arith) ∙ ap (long bytes) e

  -- each begins where those before it end
  begins : (m k j : ℕ) → j ≤ m → start bytes k + total (take j (longs_from m k)) ≡ start bytes (k + j)
  unfolding longs_from start total
  begins m k zero h = let e : k ≡ k + 0 = omega arith in omega (arith, ap (start bytes) e)
  begins zero k (suc j) h = absurd (omega arith)
  begins (suc m) k (suc j) h =
      let e : suc k + j ≡ k + suc j = omega arith in
      omega (arith, begins m (suc k) j (omega arith), ap (start bytes) e)

  module _ (k : ℕ) (h : k < count bytes) where
    one : EntryGood bytes k
    one = all.good k h

    in_file : start bytes k + long bytes k ≤ length bytes
    in_file = omega (arith, one.in_place, one.inside)

  lengths_are : (m k : ℕ) → k + m ≤ count bytes → lengths_of (images_from m k) ≡ longs_from m k
  unfolding images_from longs_from
  lengths_are zero k h = refl
  lengths_are (suc m) k h =
      ap₂ ◌∷◌
      (length-take-le (long bytes k) (drop (start bytes k) bytes) (omega (arith, length-drop (start bytes k) bytes, in_file k (omega arith))))
      (lengths_are m (suc k) (omega arith))

  -- end to end they are what stands behind the entries
  joined_are : (m k : ℕ) → k + m ≡ count bytes → joined (images_from m k) ≡ drop (start bytes k) bytes
  unfolding images_from start
  joined_are zero k h =
      let last : count bytes ≡ k = omega arith in
      let past : length bytes ≤ start bytes k = omega (arith, ap (start bytes) last, all.ends) in
      sym (drop_of_length-le bytes past)
  joined_are (suc m) k h =
      let part : List ℕ = drop (start bytes k) bytes in
      ap (λ (x : List ℕ). take (long bytes k) part ++ x)
      (joined_are m (suc k) (omega arith) ∙ sym (drop-drop (long bytes k) (start bytes k) bytes))
      ∙ take-append-drop (long bytes k) part

  -- and the entries are theirs
  entries_are :
      (m k : ℕ) → k + m ≡ count bytes → entries_of (start bytes k) (longs_from m k) ≡ take (8 * m) (drop (head_size k) bytes)
  unfolding entries_of longs_from start
  entries_are zero k h = refl
  entries_are (suc m) k h =
      let there : head_size (suc k) ≤ length bytes = omega (arith, all.headed.table_there) in
      let at : ℕ = head_size k in
      let eight : 8 * suc m ≡ 4 + 4 + 8 * m = omega arith in
      let next : head_size k + (4 + 4) ≡ head_size (suc k) = omega arith in
      ap₂ ◌++◌
      (ap₂ ◌++◌
      (ap (λ (x : ℕ). bytes4 x) (sym (one k (omega arith)).in_place) ∙ long_taken bytes b at (omega arith))
      (long_taken bytes b (at + 4) (omega arith) ∙ ap (take 4) (sym (drop-drop 4 at bytes)))
      ∙ sym (take-add 4 4 (drop at bytes)))
      (entries_are m (suc k) (omega arith)
      ∙ ap (λ (i : ℕ). take (8 * m) (drop i bytes)) (sym next)
      ∙ ap (take (8 * m)) (sym (drop-drop (4 + 4) at bytes)))
      ∙ sym (take-add (4 + 4) (8 * m) (drop at bytes))
      ∙ ap (λ (i : ℕ). take i (drop at bytes)) (sym eight)

  abbrev n : ℕ
  n = count bytes

  abbrev found : List (List ℕ)
  found = images_from n 0

  longs : lengths_of found ≡ longs_from n 0
  longs = lengths_are n 0 (omega arith)

  made : bytes ≡ bundle_of (longs_from n 0) (joined found)
  unfolding bundle_of start
  made =
      sym
      (ap (λ (m : ℕ). (bytes2 m ++ entries_of (head_size m) (longs_from n 0)) ++ joined found) (many n 0)
      ∙ ap₂ ◌++◌
      (ap₂ ◌++◌ (word_taken bytes b 0 all.headed.long_enough) (entries_are n 0 (omega arith)) ∙ sym (take-add 2 (8 * n) bytes))
      (joined_are n 0 (omega arith))
      ∙ take-append-drop (head_size n) bytes)

  few : n ≤ 32
  few = all.headed.count_good.1

  counted : Counted (longs_from n 0)
  counted = record { some = omega (arith, many n 0, all.headed.count_good.0); few = omega (arith, many n 0, few) }

  full : Full (longs_from n 0)
  full k h =
      let there : k < n = omega (arith, many n 0) in
      let same : 0 + k ≡ k = omega arith in
      omega (arith, each n 0 k there, ap (long bytes) same, (one k there).has_bytes)

  narrow : Narrow (longs_from n 0)
  unfolding start
  narrow =
      record {
        starts = λ k h.
            let there : k < n = omega (arith, many n 0) in
            let same : 0 + k ≡ k = omega arith in
            omega (
              arith,
              many n 0,
              begins n 0 k (omega arith),
              ap (start bytes) same,
              (one k there).in_place,
              long_fits bytes b (head_size k),
            );
        sizes = λ k h.
            let there : k < n = omega (arith, many n 0) in
            let same : 0 + k ≡ k = omega arith in
            omega (arith, each n 0 k there, ap (long bytes) same, long_fits bytes b (head_size k + 4));
      }

  pub bundle_with : BundleWith bytes n
  bundle_with =
      record {
        images = found;
        made = made ∙ ap (λ (x : List ℕ). bundle_of x (joined found)) (sym longs);
        many = sym (lengths_many found) ∙ ap length longs ∙ many n 0;
        legal =
            record {
              counted = subst Counted (sym longs) counted;
              full = subst Full (sym longs) full;
              narrow = subst Narrow (sym longs) narrow;
            };
      }
