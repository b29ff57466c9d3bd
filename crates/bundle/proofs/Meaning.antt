-- What the reader's answer means: a refusal, that what it names is wrong and all before it is right; and where nothing is wrong, that all
-- is right. It holds of any list of numbers. Assumes nothing.
use Prim.Native.Nat.{ℕ, zero, suc, ◌+◌, ◌-◌, ◌≤◌, ◌<◌}
use mathlib.Core.List.{List}
use mathlib.Core.Path.{◌≡◌, refl, sym, ap, subst, ◌∙◌}
use native.Mathlib.Decide.{dec_lt}
use native.Mathlib.Numerals.{add-one}
use native.Mathlib.Omega.{arith}
use lib.Dec.{eqb}
use lib.ListN.{length}
use borrow.Author.Count.{below_more}
use borrow.Author.Tests.{eqb-true, eqb-false}
use Rattle.pieces.proofs.Tests.{tells_no, isnt, either_way}
use Rattle.bundle.specs.declared.Entry.{Entry}
use Rattle.bundle.specs.declared.Refusal.TheVariants.{Short, Count, Table, Offset, Empty, Past, LeftOver}
use Rattle.std.specs.Prelude.{Ok, Err}
use Rattle.bundle.specs.Bundle.{most_images, can_count, head_size, entry_at, end_of, Reading, read_from, read_of, images_in}
use Rattle.bundle.specs.Claims.{count, start, LongEnough, CountGood, TableThere, Headed, InPlace}
use Rattle.bundle.specs.Claims.{EntryGood, GoodBelow, AtEntry, Says}
use Rattle.bundle.proofs.Laws.{count_tells}
use Rattle.bundle.proofs.Walk.{at_offset, at_empty, at_past, passed, at_left_over, at_end, at_short, at_count, at_table, at_entries}

-- every entry is good, and the last image ends the file
pub record AllGood (bytes : List ℕ) : Type 0 where
  pub headed : Headed bytes
  pub good : GoodBelow bytes (count bytes)
  pub ends : start bytes (count bytes) ≡ length bytes

abbrev pub Means : Reading → List ℕ → Type 0
Means (Ok n) bytes = AllGood bytes × (n ≡ count bytes)
Means (Err r) bytes = Says (Err r) bytes

-- the reading is what it is found to be
found : (bytes : List ℕ) (r s : Reading) → r ≡ s → Means s bytes → Means r bytes
found bytes r s e m = subst (λ (x : Reading). Means x bytes) (sym e) m

module _ (bytes : List ℕ) (headed : Headed bytes) where
  at_entry : {Wrong : ℕ → Type 0} (k : ℕ) → k < count bytes → GoodBelow bytes k → Wrong k → AtEntry bytes Wrong
  at_entry k there good wrong = record { headed = headed; entry = k; there = there; before = good; wrong = wrong }

  -- the next image must begin where this one ends
  next_start : (k at : ℕ) (e : Entry) → e.offset ≡ at → at ≡ start bytes k → e ≡ entry_at bytes k → end_of e ≡ start bytes (k + 1)
  unfolding start
  next_start k at e o from is =
      ap (λ (x : ℕ). x + e.length) (o ∙ from)
      ∙ ap (λ (x : Entry). start bytes k + x.length) is
      ∙ ap (start bytes) (sym (add-one k))

  walk :
      (left k at : ℕ) → k + left ≡ count bytes → at ≡ start bytes k → at ≤ length bytes → GoodBelow bytes k
      → Means (read_from bytes (count bytes) left k at) bytes
  walk zero k at sum from inside good =
      let all : count bytes ≡ k = omega arith in
      let end : start bytes (count bytes) ≡ at = ap (start bytes) all ∙ sym from in
      let below : GoodBelow bytes (count bytes) = subst (GoodBelow bytes) (sym all) good in
      elim (dec_lt at (length bytes)) [
        | yes l ↦ found bytes _ (Err LeftOver) (at_left_over bytes (count bytes) 0 k at refl l) (headed, below, omega arith)
        | no l ↦
            found bytes _ (Ok (count bytes)) (at_end bytes (count bytes) 0 k at refl (omega arith))
            (record { headed = headed; good = below; ends = omega arith }, refl)
      ]
  walk (suc left) k at sum from inside good =
      let e : Entry = entry_at bytes k in
      let n : ℕ = count bytes in
      let there : k < n = omega arith in
      let in_place : e.offset ≡ at → InPlace bytes k = λ o. o ∙ from in
      either_way (eqb e.offset at)
      (λ same.
      let o : e.offset ≡ at = eqb-true e.offset at same in
      either_way (eqb e.length 0)
      (λ none.
      let z : e.length ≡ 0 = eqb-true e.length 0 none in
      found bytes _ (Err Empty) (at_empty bytes n (suc left) left k at e refl refl o z)
      (at_entry k there good (in_place o, λ h. omega arith)))
      (λ some.
      let z : e.length ≡ 0 → ⊥ = eqb-false e.length 0 some in
      let one : 1 ≤ e.length = omega arith in
      elim (dec_lt (length bytes) (end_of e)) [
        | yes l ↦
            found bytes _ (Err Past) (at_past bytes n (suc left) left k at e refl refl o z (end_of e) refl l)
            (at_entry k there good (in_place o, one, λ h. omega arith))
        | no l ↦
            found bytes _ _ (passed bytes n (suc left) left k at e refl refl o z (end_of e) refl (omega arith))
            (walk left (k + 1) (end_of e) (omega arith) (next_start k at e o from refl) (omega arith)
            (below_more (EntryGood bytes) k good (record { in_place = in_place o; has_bytes = one; inside = omega arith })))
      ]))
      (λ other.
      let o : e.offset ≡ at → ⊥ = eqb-false e.offset at other in
      found bytes _ (Err Offset) (at_offset bytes n (suc left) left k at e refl refl o)
      (at_entry k there good (λ p. o (p ∙ sym from))))

-- any bytes: the head first
pub means : (bytes : List ℕ) → Means (read_of bytes) bytes
unfolding start
means bytes =
    let n : ℕ = count bytes in
    elim (dec_lt (length bytes) 2) [
      | yes l ↦ found bytes _ (Err Short) (at_short bytes l) (λ h. omega arith)
      | no l ↦
          let two : LongEnough bytes = omega arith in
          either_way (can_count n)
          (λ c.
          let good : CountGood bytes = (count_tells n).yes c in
          elim (dec_lt (length bytes) (head_size n)) [
            | yes t ↦ found bytes _ (Err Table) (at_table bytes n two refl c t) (two, good, λ h. omega arith)
            | no t ↦
                let headed : Headed bytes = record { long_enough = two; count_good = good; table_there = omega arith } in
                found bytes _ _ (at_entries bytes n two refl c (omega arith))
                (walk bytes headed n 0 (head_size n) (omega arith) refl (omega arith) (λ j h. absurd (omega arith)))
          ])
          (λ c. found bytes _ (Err Count) (at_count bytes n two refl c) (two, tells_no (can_count n) _ (count_tells n) c))
    ]

-- so what an accepted file says of an image below its count can be relied on
accepted : (bytes : List ℕ) (r : Reading) → Means r bytes → (k : ℕ) → k < images_in r → AllGood bytes × (k < count bytes)
accepted bytes (Ok n) m k h = let e : n ≡ count bytes = m.1 in (m.0, omega arith)
accepted bytes (Err r) m k h = absurd (omega arith)

pub accepted_good : (bytes : List ℕ) (k : ℕ) → k < images_in (read_of bytes) → AllGood bytes × (k < count bytes)
accepted_good bytes k h = accepted bytes (read_of bytes) (means bytes) k h

pub image_inside :
    (bytes : List ℕ) (k : ℕ) → k < images_in (read_of bytes)
    → (head_size (k + 1) ≤ length bytes) × (end_of (entry_at bytes k) ≤ length bytes)
image_inside bytes k h =
    let a = accepted_good bytes k h in
    let there : k < count bytes = a.1 in
    let table : TableThere bytes = a.0.headed.table_there in
    (omega arith, (a.0.good k there).inside)

-- and it counts no more than a bundle may have
pub few_images : (bytes : List ℕ) → images_in (read_of bytes) ≤ most_images
few_images bytes =
    elim (dec_lt 0 (images_in (read_of bytes))) [
      | yes l ↦
          let a = accepted_good bytes (images_in (read_of bytes) - 1) (omega arith) in
          let last : images_in (read_of bytes) - 1 < count bytes = a.1 in
          let few : count bytes ≤ 32 = a.0.headed.count_good.1 in
          omega arith
      | no l ↦ omega arith
    ]

-- ---- and the other way: what is so is what is read

module _ (bytes : List ℕ) (headed : Headed bytes) where
  -- the walk comes to an entry behind good ones
  reach :
      (k : ℕ) → k ≤ count bytes → GoodBelow bytes k
      → read_of bytes ≡ read_from bytes (count bytes) (count bytes - k) k (start bytes k)
  unfolding start
  reach zero h good =
      let all : count bytes ≡ count bytes - 0 = omega arith in
      at_entries bytes (count bytes) headed.long_enough refl ((count_tells (count bytes)).is headed.count_good) headed.table_there
      ∙ ap (λ (m : ℕ). read_from bytes (count bytes) m 0 (head_size (count bytes))) all
  reach (suc k) h good =
      let one : EntryGood bytes k = good k (omega arith) in
      let e : Entry = entry_at bytes k in
      let end : start bytes k + e.length ≡ end_of e = ap (λ (x : ℕ). x + e.length) (sym one.in_place) in
      reach k (omega arith) (λ j l. good j (omega arith))
      ∙ passed bytes (count bytes) (count bytes - k) (count bytes - suc k) k (start bytes k) e (omega arith) refl one.in_place
      (λ z. omega (arith, one.has_bytes)) (start bytes k + e.length) end (omega (arith, one.inside))
      ∙ ap (λ (i : ℕ). read_from bytes (count bytes) (count bytes - suc k) i (start bytes k + e.length)) (add-one k)

module _ (bytes : List ℕ) {Wrong : ℕ → Type 0} (a : AtEntry bytes Wrong) where
  here : read_of bytes ≡ read_from bytes (count bytes) (count bytes - a.entry) a.entry (start bytes a.entry)
  here = reach bytes a.headed a.entry (omega (arith, a.there)) a.before

  more : count bytes - a.entry ≡ suc (count bytes - suc a.entry)
  more = omega (arith, a.there)

pub given : (bytes : List ℕ) (r : Reading) → Means r bytes → read_of bytes ≡ r
given bytes (Ok n) m =
    let all : AllGood bytes = m.0 in
    reach bytes all.headed (count bytes) (omega arith) all.good
    ∙ at_end bytes (count bytes) _ (count bytes) _ (omega arith) (omega (arith, all.ends))
    ∙ ap Ok (sym m.1)
given bytes (Err Short) h = at_short bytes (omega arith)
given bytes (Err Count) h = at_count bytes (count bytes) h.0 refl (isnt _ _ (count_tells (count bytes)) h.1)
given bytes (Err Table) h =
    at_table bytes (count bytes) h.0 refl ((count_tells (count bytes)).is h.1) (omega (arith, h.2))
given bytes (Err Offset) a = here bytes a ∙ at_offset bytes _ _ _ a.entry _ _ (more bytes a) refl a.wrong
given bytes (Err Empty) a =
    here bytes a ∙ at_empty bytes _ _ _ a.entry _ _ (more bytes a) refl a.wrong.0 (omega (arith, a.wrong.1))
given bytes (Err Past) a =
    here bytes a
    ∙ at_past bytes _ _ _ a.entry _ _ (more bytes a) refl a.wrong.0 (λ z. omega (arith, a.wrong.1)) _ refl (omega (arith, a.wrong.2))
given bytes (Err LeftOver) h =
    reach bytes h.0 (count bytes) (omega arith) h.1
    ∙ at_left_over bytes (count bytes) _ (count bytes) _ (omega arith) h.2
