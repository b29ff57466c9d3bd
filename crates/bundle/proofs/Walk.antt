-- The reader's walk over the entries: what one entry does to it, and its end. Assumes nothing.
use Prim.Native.Nat.{ℕ, suc, ◌+◌, ◌≤◌, ◌<◌}
use mathlib.Core.List.{List}
use mathlib.Core.Path.{◌≡◌, refl, sym, ap, ◌∙◌}
use mathlib.Core.Bool.{Bool, true, false, cond, not}
use lib.Dec.{eqb, ltb}
use lib.ListN.{length}
use borrow.Author.Tests.{lt-ltb, le-ltb, lt-leb, le-leb, eq-eqb, ne_eqb}
use Rattle.numbers.specs.Numbers.{word_at}
use Rattle.bundle.specs.declared.Entry.{Entry}
use Rattle.bundle.specs.declared.Refusal.{Refusal}
use Rattle.bundle.specs.declared.Refusal.TheVariants.{Short, Count, Table, Offset, Empty, Past, LeftOver}
use Rattle.std.specs.Prelude.{Ok, Err}
use Rattle.bundle.specs.Bundle.{entry_at, end_of, judged, Reading, read_from, can_count, head_size, read_of, images_in, part_of}

-- three tests, and what stands behind them
abbrev tests : Bool → Bool → Bool → Reading → Reading
tests a b c rest = cond (not a) (Err Offset) (cond b (Err Empty) (cond c (Err Past) rest))

-- what they refuse is refused, whatever stands there; and what they let through comes to it
tests_refuse : (a b c : Bool) (m : ℕ) (rest : Reading) (r : Refusal) → tests a b c (Ok m) ≡ Err r → tests a b c rest ≡ Err r
tests_refuse false b c m rest r h = h
tests_refuse true true c m rest r h = h
tests_refuse true false true m rest r h = h
tests_refuse true false false m rest r h = absurd (cc)

tests_pass : (a b c : Bool) (m n : ℕ) (rest : Reading) → tests a b c (Ok m) ≡ Ok n → (tests a b c rest ≡ rest) × (m ≡ n)
tests_pass false b c m n rest h = absurd (cc)
tests_pass true true c m n rest h = absurd (cc)
tests_pass true false true m n rest h = absurd (cc)
tests_pass true false false m n rest h = (refl, cc)

-- an entry, where `left` more are to be read behind it
module _ (bytes : List ℕ) (n m left k at : ℕ) (e : Entry) (more : m ≡ suc left) (is : e ≡ entry_at bytes k) where
  by_entry : read_from bytes n m k at ≡ judged (length bytes) at e (read_from bytes n left (k + 1) (end_of e))
  unfolding read_from
  by_entry =
      ap (λ (i : ℕ). read_from bytes n i k at) more
      ∙ ap (λ (x : Entry). judged (length bytes) at x (read_from bytes n left (k + 1) (end_of x))) (sym is)

  -- as the reader judges it
  pub turned_away : (r : Refusal) → judged (length bytes) at e (Ok (end_of e)) ≡ Err r → read_from bytes n m k at ≡ Err r
  turned_away r h =
      by_entry
      ∙ tests_refuse (eqb e.offset at) (eqb e.length 0) (ltb (length bytes) (end_of e)) (end_of e)
      (read_from bytes n left (k + 1) (end_of e)) r h

  pub let_through :
      (stop : ℕ) → judged (length bytes) at e (Ok (end_of e)) ≡ Ok stop
      → read_from bytes n m k at ≡ read_from bytes n left (k + 1) stop
  let_through stop h =
      let rest : Reading = read_from bytes n left (k + 1) (end_of e) in
      let t = tests_pass (eqb e.offset at) (eqb e.length 0) (ltb (length bytes) (end_of e)) (end_of e) stop rest h in
      by_entry ∙ t.0 ∙ ap (read_from bytes n left (k + 1)) t.1

  pub at_offset : (e.offset ≡ at → ⊥) → read_from bytes n m k at ≡ Err Offset
  at_offset h = by_entry ∙ rw (ne_eqb e.offset at h)

  pub at_empty : e.offset ≡ at → e.length ≡ 0 → read_from bytes n m k at ≡ Err Empty
  at_empty h z = by_entry ∙ rw (eq-eqb e.offset at h, eq-eqb e.length 0 z)

  module _ (h : e.offset ≡ at) (some : e.length ≡ 0 → ⊥) (stop : ℕ) (is_end : stop ≡ end_of e) where
    pub at_past : length bytes < stop → read_from bytes n m k at ≡ Err Past
    at_past l =
        by_entry ∙ rw (eq-eqb e.offset at h, ne_eqb e.length 0 some, sym is_end, lt-ltb (length bytes) stop l)

    pub passed : stop ≤ length bytes → read_from bytes n m k at ≡ read_from bytes n left (k + 1) stop
    passed l =
        by_entry ∙ rw (eq-eqb e.offset at h, ne_eqb e.length 0 some, sym is_end, le-ltb (length bytes) stop l)

-- all entries are read
pub at_left_over : (bytes : List ℕ) (n m k at : ℕ) → m ≡ 0 → at < length bytes → read_from bytes n m k at ≡ Err LeftOver
unfolding read_from
at_left_over bytes n m k at e h = rw (e, lt-ltb at (length bytes) h)

pub at_end : (bytes : List ℕ) (n m k at : ℕ) → m ≡ 0 → length bytes ≤ at → read_from bytes n m k at ≡ Ok n
unfolding read_from
at_end bytes n m k at e h = rw (e, le-ltb at (length bytes) h)

-- before the walk: the file's own three tests, with its count as it was read
pub at_short : (bytes : List ℕ) → length bytes < 2 → read_of bytes ≡ Err Short
unfolding read_of
at_short bytes h = rw (lt-ltb (length bytes) 2 h)

module _ (bytes : List ℕ) (n : ℕ) (two : 2 ≤ length bytes) (is : n ≡ word_at bytes 0) where
  counted : read_of bytes ≡ cond (not (can_count n)) (Err Count) (cond (ltb (length bytes) (head_size n)) (Err Table) (read_from bytes n n 0 (head_size n)))
  unfolding read_of
  counted =
      rw (le-ltb (length bytes) 2 two)
      (ap (λ (m : ℕ). cond (not (can_count m)) (Err Count) (cond (ltb (length bytes) (head_size m)) (Err Table) (read_from bytes m m 0 (head_size m))))
      (sym is))

  pub at_count : can_count n ≡ false → read_of bytes ≡ Err Count
  at_count c = counted ∙ rw c

  pub at_table : can_count n ≡ true → length bytes < head_size n → read_of bytes ≡ Err Table
  at_table c h = counted ∙ rw (c, lt-ltb (length bytes) (head_size n) h)

  pub at_entries : can_count n ≡ true → head_size n ≤ length bytes → read_of bytes ≡ read_from bytes n n 0 (head_size n)
  at_entries c h = counted ∙ rw (c, le-ltb (length bytes) (head_size n) h)

-- where an image lies
pub part_none : (bytes : List ℕ) (k : ℕ) → images_in (read_of bytes) ≤ k → part_of bytes k ≡ record { from = 0; length = 0 }
unfolding part_of
part_none bytes k h = rw (le-leb (images_in (read_of bytes)) k h)

pub part_some :
    (bytes : List ℕ) (k : ℕ) → k < images_in (read_of bytes)
    → part_of bytes k ≡ record { from = (entry_at bytes k).offset; length = (entry_at bytes k).length }
unfolding part_of
part_some bytes k h = rw (lt-leb (images_in (read_of bytes)) k h)
