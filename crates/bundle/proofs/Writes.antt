-- What each test of the writer tells of the lengths, and what a writing that went well tells of them. Assumes nothing.
use Prim.Native.Nat.{ℕ, zero, suc, ◌+◌, ◌^◌, ◌≤◌, ◌<◌}
use mathlib.Core.Bool.{true, false, not, true≢false}
use mathlib.Core.List.{List, [], ◌∷◌, ◌++◌}
use mathlib.Core.Path.{◌≡◌, refl, sym, ap, ◌∙◌}
use native.Mathlib.Omega.{arith}
use lib.Dec.{eqb}
use lib.ListN.{length, get_or, take, drop}
use borrow.Author.Tests.{eqb-true, eqb-false, eq-eqb, ne_eqb, le-leb, lt-leb, not-true}
use Rattle.pieces.proofs.Tests.{Tells, alike, either_way}
use Rattle.bundle.specs.declared.reasons.Unwritten.{Unwritten}
use Rattle.bundle.specs.declared.reasons.Unwritten.TheVariants.{WrongCount, EmptyImage, NoRoom, WrongLengths}
use Rattle.std.specs.Prelude.{Ok, Err}
use Rattle.bundle.specs.Bundle.{can_count, head_size, bundle_of, has_empty, fits_in, total, size_of, Left, left, write_of}
use Rattle.bundle.specs.Claims.{Counted, Full, Fits}
use Rattle.bundle.proofs.Laws.{count_tells, fits_on, fits_total}
use Rattle.bundle.proofs.Laws as laws

pub counted_tells : (l : List ℕ) → Tells (can_count (length l)) (Counted l)
counted_tells l =
    alike (can_count (length l)) _ (Counted l) (λ h. record { some = h.0; few = h.1 }) (λ c. (c.some, c.few)) (count_tells (length l))

-- the first length, and the others
first_full : (n : ℕ) (l : List ℕ) → 1 ≤ n → Full l → Full (n ∷ l)
first_full n l one f zero h = one
first_full n l one f (suc k) h = f k (omega arith)

no_empty : (l : List ℕ) → has_empty l ≡ false → Full l
no_empty [] e = λ k h. absurd (omega arith)
no_empty (n ∷ l) e =
    either_way (eqb n 0) (λ t. absurd (true≢false (sym (rw t refl) ∙ e)))
    (λ t. first_full n l (omega (arith, eqb-false n 0 t)) (no_empty l (sym (rw t refl) ∙ e)))

full_so : (l : List ℕ) → Full l → has_empty l ≡ false
full_so [] f = refl
full_so (n ∷ l) f = rw (ne_eqb n 0 (λ z. omega (arith, f 0 (omega arith)))) (full_so l (λ k h. f (suc k) (omega arith)))

pub full_tells : (l : List ℕ) → Tells (not (has_empty l)) (Full l)
full_tells l = record { yes = λ e. no_empty l (not-true (has_empty l) e); is = λ f. ap not (full_so l f) }

-- offsets and lengths of 32 bits, counted from a place on
abbrev NarrowFrom : ℕ → List ℕ → Type 0
NarrowFrom at l = (k : ℕ) → k < length l → (at + total (take k l) < 2 ^ 32) × (get_or l k 0 < 2 ^ 32)

fits_narrow : (room at : ℕ) (l : List ℕ) → fits_in room at l ≡ true → NarrowFrom at l
unfolding total
fits_narrow room at [] e k h = absurd (omega arith)
fits_narrow room at (n ∷ l) e zero h =
    let on = fits_on (n ∷ l) 0 room at (omega arith) e in
    (omega (arith, on.0.0), on.0.1)
fits_narrow room at (n ∷ l) e (suc k) h =
    let on = fits_on (n ∷ l) 0 room at (omega arith) e in
    let rest = fits_narrow room (at + n) l on.1 k (omega arith) in
    (omega (arith, rest.0), rest.1)

narrow_fits : (room at : ℕ) (l : List ℕ) → NarrowFrom at l → at + total l ≤ room → fits_in room at l ≡ true
unfolding fits_in total
narrow_fits room at [] f h = le-leb at room (omega arith)
narrow_fits room at (n ∷ l) f h =
    rw (lt-leb (2 ^ 32) at (omega (arith, (f 0 (omega arith)).0)), lt-leb (2 ^ 32) n (f 0 (omega arith)).1)
    (narrow_fits room (at + n) l (λ k i. let next = f (suc k) (omega arith) in (omega (arith, next.0), next.1)) (omega arith))

pub fits_tells : (room : ℕ) (l : List ℕ) → Tells (fits_in room (head_size (length l)) l) (Fits room l)
fits_tells room l =
    record {
      yes = λ e.
          let each = fits_narrow room (head_size (length l)) l e in
          record {
            narrow = record { starts = λ k h. (each k h).0; sizes = λ k h. (each k h).1 };
            within = fits_total room (head_size (length l)) l e;
          };
      is = λ f. narrow_fits room (head_size (length l)) l (λ k h. (f.narrow.starts k h, f.narrow.sizes k h)) f.within;
    }

-- ---- a writing that went well

pub record Taken (l images buffer : List ℕ) (n : ℕ) : Type 0 where
  pub counted : Counted l
  pub full : Full l
  pub fits : Fits (length buffer) l
  pub adds : total l ≡ length images
  pub size : n ≡ size_of l
  pub after : (write_of l images buffer).buffer ≡ bundle_of l images ++ drop (size_of l) buffer

-- every test is passed
pub all_well :
    (l images buffer : List ℕ) → can_count (length l) ≡ true → has_empty l ≡ false
    → fits_in (length buffer) (head_size (length l)) l ≡ true → total l ≡ length images
    → write_of l images buffer ≡ left (Ok (size_of l)) (bundle_of l images ++ drop (size_of l) buffer)
unfolding write_of
all_well l images buffer c f r t = rw (c, f, r, eq-eqb (total l) (length images) t)

-- what was refused wrote nothing
refuses :
    (l images buffer : List ℕ) (n : ℕ) (w : Unwritten) → write_of l images buffer ≡ left (Err w) buffer
    → (write_of l images buffer).result ≡ Ok n → ⊥
refuses l images buffer n w is e = let other : Err w ≡ Ok n = sym (ap (λ (x : Left). x.result) is) ∙ e in cc

-- so what wrote something passed every test
pub taken : (l images buffer : List ℕ) (n : ℕ) → (write_of l images buffer).result ≡ Ok n → Taken l images buffer n
taken l images buffer n e =
    either_way (can_count (length l))
    (λ c.
    either_way (has_empty l) (λ f. absurd (refuses l images buffer n EmptyImage (laws.empty_image l images buffer c f) e))
    (λ f.
    either_way (fits_in (length buffer) (head_size (length l)) l)
    (λ r.
    either_way (eqb (total l) (length images))
    (λ t.
    let adds : total l ≡ length images = eqb-true (total l) (length images) t in
    let done : write_of l images buffer ≡ left (Ok (size_of l)) (bundle_of l images ++ drop (size_of l) buffer) = all_well l images buffer c f r adds in
    let size : Ok (size_of l) ≡ Ok n = sym (ap (λ (x : Left). x.result) done) ∙ e in
    record {
      counted = (counted_tells l).yes c;
      full = (full_tells l).yes (ap not f);
      fits = (fits_tells (length buffer) l).yes r;
      adds = adds;
      size = cc;
      after = ap (λ (x : Left). x.buffer) done;
    })
    (λ t.
    absurd
    (refuses l images buffer n WrongLengths (laws.wrong_lengths l images buffer c f r (eqb-false (total l) (length images) t)) e)))
    (λ r. absurd (refuses l images buffer n NoRoom (laws.no_room l images buffer c f r) e))))
    (λ c. absurd (refuses l images buffer n WrongCount (laws.wrong_count l images buffer c) e))
