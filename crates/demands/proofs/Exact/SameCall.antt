-- Two loaders that meet the demands leave the same of one call from one site: the rows say all but the sums, for any loader, and the
-- sums are pinned by the flash. Assumes nothing.
use Prim.Native.Nat.{ℕ, ◌+◌, ◌-◌, ◌<◌}
use mathlib.Core.List.{List, []}
use mathlib.Core.Logic.{inl, inr}
use mathlib.Core.Path.{◌≡◌, sym, ap, ◌∙◌}
use native.Mathlib.Decide.{dec_lt}
use native.Mathlib.Omega.{arith}
use lib.ListN.{length, get_or}
use lib.Seq.{ext_get_or}
use Rattle.session.specs.Session.{phase_of, down_of, with_unerased, with_sums}
use Rattle.sums.specs.declared.Sums.{Sums}
use Rattle.session.specs.declared.Session.{Session}
use Rattle.demands.specs.Calls.{Start, Step, heard, Call, Site, called}
use Rattle.demands.specs.Asked.{Prepared}
use Rattle.demands.specs.Safe.Refused.{Unfit}
use Rattle.demands.specs.Does.Rows.{gone_to, handed, Answers, Hands}
use Rattle.demands.specs.Does.Commands.{Rewritten, EraseDone, BytesDone}
use Rattle.demands.specs.Demands.{MeetsDemands}
use Rattle.demands.specs.Exact.Determine.{SameLeaves, SameButSums}
use Rattle.demands.proofs.Does.EveryRow.{MeetsRows, every_row}

-- flashes are the same that are the same one rewritten in the same way
same_rewritten :
    (f g h : List ℕ) (from n : ℕ) (byte : ℕ → ℕ) → Rewritten f g from n byte → Rewritten f h from n byte → g ≡ h
same_rewritten f g h from n byte p q = ext_get_or 0 g h (p.as_long ∙ sym q.as_long) (λ k lt. at k)
  where
    at : (k : ℕ) → get_or g k 0 ≡ get_or h k 0
    at k =
        elim (dec_lt k from) [
          | yes low ↦ p.outside k (inl low) ∙ sym (q.outside k (inl low))
          | no not_low ↦
              elim (dec_lt k (from + n)) [
                | yes in_it ↦
                    let e : from + (k - from) ≡ k = omega arith in
                    let lt : k - from < n = omega arith in
                    ap (λ (j : ℕ). get_or g j 0) (sym e) ∙ p.inside (k - from) lt
                    ∙ sym (ap (λ (j : ℕ). get_or h j 0) (sym e) ∙ q.inside (k - from) lt)
                | no high ↦ p.outside k (inr (omega arith)) ∙ sym (q.outside k (inr (omega arith)))
              ]
        ]

-- a loader that meets the demands
pub record Loader : Type 0 where
  pub start : Start
  pub step : Step
  pub meets : MeetsDemands start step

-- what has one value at every loader is the same at two of them
pub agree : {A : Type 0} {v : A} {of : Loader → A} (x y : Loader) → ((z : Loader) → of z ≡ v) → of x ≡ of y
agree x y e = e x ∙ sym (e y)

-- and so the rows
rows_of : (z : Loader) → MeetsRows z.step
rows_of z =
    let m = z.meets in
    record {
      refused = m.refused;
      unfit_exactly = m.unfit_exactly;
      rows = m.rows;
      commands = m.commands;
      erase_works = m.erase_works;
      program_works = m.program_works;
    }

-- what two loaders leave of a call
module _ (x y : Loader) (at : Site) (c : Call) where
  abbrev pub Same : Type 0
  Same = SameLeaves (called x.step at c) (called y.step at c)

  abbrev pub ButSums : Type 0
  ButSums = SameButSums (called x.step at c) (called y.step at c)

  abbrev pub SameFlash : Type 0
  SameFlash = (called x.step at c).flash ≡ (called y.step at c).flash

  abbrev pub SameSums : Type 0
  SameSums = (handed x.step at c).sums ≡ (handed y.step at c).sums

  same_left :
      ((z : Loader) → heard (called z.step at c) ≡ 2) → ((z : Loader) → Unfit at c (called z.step at c)) → Same
  same_left two left =
      record {
        answer = agree x y two;
        count = agree x y (λ z. (left z).quiet.count);
        session = agree x y (λ z. (left z).session);
        flash = agree x y (λ z. (left z).quiet.flash);
        reply = agree x y (λ z. (left z).quiet.reply);
      }

  -- unprepared
  pub same_unfit : (Prepared at c → ⊥) → Same
  same_unfit none =
      let two : (z : Loader) → heard (called z.step at c) ≡ 2 = λ z. z.meets.unfit_exactly.unprepared at c none in
      same_left two (λ z. (z.meets.refused at c).unfit (two z))

  but_sums_of : Same → ButSums
  but_sums_of s =
      record {
        answer = s.answer;
        count = s.count;
        session = s.session ∙ ap (λ (l : Session). with_sums (handed y.step at c) l.sums) (sym s.session);
        flash = s.flash;
        reply = s.reply;
      }

  -- prepared: a law for each record of the rows
  same_hands :
      {number : ℕ} {bytes : List ℕ} {t : Session} → ((z : Loader) → Hands z.step at c number bytes t) → ButSums
  same_hands h =
      let one : handed x.step at c ≡ handed y.step at c = agree x y (λ z. (h z).session) in
      record {
        answer = agree x y (λ z. (h z).answers.answer);
        count = agree x y (λ z. (h z).answers.count);
        session = one ∙ ap (λ (s : Session). with_sums (handed y.step at c) s.sums) (sym one);
        flash = agree x y (λ z. (h z).flash);
        reply = agree x y (λ z. (h z).answers.reply);
      }

  -- bytes stored: the sums go by the flash
  same_stored :
      (t : Session) {from n : ℕ} {byte : ℕ → ℕ} → ((z : Loader) → Answers z.step at c 0 [])
      → ((z : Loader) → handed z.step at c ≡ with_sums t (handed z.step at c).sums)
      → ((z : Loader) → Rewritten at.flash (called z.step at c).flash from n byte) → ButSums
  same_stored t answers session flash =
      let one = same_rewritten _ _ _ _ _ _ (flash x) (flash y) in
      record {
        answer = agree x y (λ z. (answers z).answer);
        count = agree x y (λ z. (answers z).count);
        session = session x ∙ ap (λ (s : Session). with_sums s (handed x.step at c).sums) (sym (session y));
        flash = one;
        reply = agree x y (λ z. (answers z).reply);
      }

  same_erased : {block count : ℕ} → ((z : Loader) → EraseDone z.step at c block count) → ButSums
  same_erased e =
      same_stored (gone_to at.session (phase_of 3 0 2) (down_of 0 0) at.session.up)
      (λ z. (e z).answers) (λ z. (e z).session) (λ z. (e z).flash)

  same_bytes :
      {place len : ℕ} {bytes : List ℕ} {unerased : ℕ} → ((z : Loader) → BytesDone z.step at c place len bytes unerased)
      → ButSums
  same_bytes {place} {len} {bytes} {unerased} b =
      same_stored
      (with_unerased
      (gone_to at.session (phase_of 3 0 5) (down_of (place + length bytes) (len - length bytes)) at.session.up) unerased)
      (λ z. (b z).answers) (λ z. (b z).session) (λ z. (b z).flash)

  -- one row or another
  pub same_but_sums : ButSums
  same_but_sums =
      every_row (λ (z : Loader). z.step) at c ButSums (λ z. rows_of z)
      (record {
        unfits = λ two left. but_sums_of (same_left two left);
        hands = λ _ h. same_hands h;
        resets = λ h. same_hands h;
        erases = λ h. same_erased h;
        pieces = λ h. same_bytes h;
        programs = λ _ h. same_bytes h;
        finds = λ _ h. same_hands h;
      })

  pub same_call : (SameFlash → SameSums) → Same
  same_call summed =
      let b = same_but_sums in
      record {
        answer = b.answer;
        count = b.count;
        session = b.session ∙ ap (λ (s : Sums). with_sums (handed y.step at c) s) (summed b.flash);
        flash = b.flash;
        reply = b.reply;
      }
