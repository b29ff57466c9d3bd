-- Only the writes and the erase change flash, and each is a splice that lies in the application. Assumes nothing.
use Prim.Native.Nat.{ℕ, ◌≤◌}
use mathlib.Core.List.{List}
use mathlib.Core.Logic.{inl, inr, ⊎_elim}
use mathlib.Core.Path.{refl}
use native.Mathlib.Omega.{arith}
use lib.ListN.{length}
use Rattle.flash.specs.Flash.{start_of, spliced, erased}
use Rattle.flash.proofs.Laws.{spliced-length, spliced_other, length-blank}
use Rattle.session.specs.Codes.{download_idle}
use Rattle.session.specs.declared.Board.{Board}
use Rattle.session.specs.declared.Session.{Session}
use Rattle.session.proofs.Laws.{fit_facts}
use Rattle.numbers.specs.Numbers.{word_at, long_at}
use Rattle.answers.specs.Answers.{Leaves}
use Rattle.jobs.specs.Job.{Place}
use Rattle.command.specs.Ready.{Ready}
use Rattle.command.specs.Download.{info_of, bin_of}
use Rattle.command.proofs.Laws.{ready_within, ready-place}
use Rattle.answers.specs.Moves.{stall_of, unfit_of, fault_of, reset_of}
use Rattle.loader.specs.Reply.{getstatus_of, getstate_of, query_of, answered}
use Rattle.loader.specs.Upload.{upload_of}
use Rattle.loader.specs.Step.{step_of}
use Rattle.demands.specs.Calls.{called, after_call}
use Rattle.demands.specs.Safe.Outside.{Untouched, Outside}
use Rattle.demands.proofs.Ground.Ways.{Loads, every_way}
use Rattle.demands.proofs.Ground.Finished.{stored_of}

same : (b : Board) (f : List ℕ) → Untouched b f f
same b f = record { as_long = refl; as_before = λ k o. refl }

-- a splice in the application
pub splice_untouched :
    (s : Session) (f : List ℕ) → Ready s f → (at : ℕ) (bytes : List ℕ) → Place s.board at (length bytes)
    → Untouched s.board f (spliced f at bytes)
splice_untouched s f r at bytes p =
    let w = ready_within s f r at (length bytes) p in
    record {
      as_long = spliced-length f at bytes w.inside;
      as_before = λ k o. spliced_other f at bytes w.inside k (⊎_elim (λ l. inl (omega arith)) (λ g. inr (omega arith)) o);
    }

-- in state download idle the next bytes lie in the application
pub piece_place :
    (s : Session) (f setup : List ℕ) (n : ℕ) → Loads s f setup download_idle → n ≤ s.down.left
    → Place s.board s.down.place.0 n
piece_place s f setup n l h =
    let fit = fit_facts s l.fit.fit in
    let low = fit.place_from (inl l.here) in
    let high = fit.left_to (inl l.here) in
    record { low = low; high = omega arith }

pub outside_holds : Outside step_of
unfolding after_call called stored_of info_of bin_of stall_of unfit_of fault_of reset_of getstatus_of getstate_of query_of answered upload_of erased
outside_holds at c =
    let s = at.session in
    let f = at.flash in
    every_way s f c.setup c.bytes c.reply (λ (l : Leaves). Untouched s.board f l.flash)
    (record {
      unfits = λ _. same s.board f;
      stalls = λ _ _. same s.board f;
      faults = λ _ _ _ _. same s.board f;
      unerased = λ _ _ _ _. same s.board f;
      programs = λ l _ i n.
          let p = ready-place s f l.fit (word_at c.bytes 2) (long_at c.bytes 4) i in
          splice_untouched s f l.fit _ _ (record { low = p.low; high = omega arith });
      pieces = λ l n. splice_untouched s f l.fit _ _ (piece_place s f c.setup _ l n);
      closes = λ _. same s.board f;
      reads = λ _ _. same s.board f;
      checks = λ _. same s.board f;
      erases = λ l _ i.
          let p = ready-place s f l.fit (word_at c.bytes 2) (start_of (word_at c.bytes 4)) i in
          splice_untouched s f l.fit _ _ (record { low = p.low; high = rw length-blank p.high });
      informs = λ _. same s.board f;
      bins = λ _. same s.board f;
      resets = λ _ _ _. same s.board f;
      uploads = λ _ _. same s.board f;
      polls = λ _ _. same s.board f;
      tells = λ _ _. same s.board f;
      queries = λ _ _. same s.board f;
      idles = λ _. same s.board f;
    })
