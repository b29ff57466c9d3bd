-- A command writes where it names, and while a download runs its place and what remains of it lie in the bytes that its PROG named.
-- Assumes nothing.
use Prim.Native.Nat.{ℕ, ◌+◌, ◌-◌, ◌≤◌}
use mathlib.Core.Bool.{Bool, true, false, ◌&&◌, false≢true}
use mathlib.Core.List.{List, [], ◌∷◌}
use mathlib.Core.Logic.{inl, inr, ⊎_elim}
use mathlib.Core.Path.{◌≡◌, refl, sym, ap, ◌∙◌, subst, subst⁻¹}
use native.Mathlib.Decide.{ℕ_discrete}
use native.Mathlib.Omega.{arith}
use borrow.Author.Tests.{eqb-true, eq-eqb, ne_eqb}
use lib.Dec.{eqb}
use lib.ListN.{length, get_or, drop}
use Rattle.flash.specs.Flash.{start_of, blank, erased}
use Rattle.flash.proofs.Laws.{spliced_other, length-blank}
use Rattle.session.specs.Codes.{idle, download_sync, download_idle, manifest_sync, error}
use Rattle.session.specs.Session.{phase_of, with_unerased, fresh_of}
use Rattle.session.specs.Rules.{running}
use Rattle.session.specs.declared.Phase.{Phase}
use Rattle.session.specs.declared.Session.{Session}
use Rattle.session.proofs.Tests.{right_of, either}
use Rattle.numbers.specs.Numbers.{word_at, long_at}
use Rattle.std.specs.Prelude.{Some}
use Rattle.request.specs.Request.{request_of}
use Rattle.request.specs.declared.Request.{Request}
use Rattle.answers.specs.Answers.{Leaves, Told}
use Rattle.answers.specs.Moves.{moved_to, stall_of, unfit_of, fault_of, reset_of}
use Rattle.command.specs.Download.{info_of, bin_of}
use Rattle.command.proofs.Laws.{pick, ready_within, ready_range}
use Rattle.loader.specs.Reply.{entered, polled, getstatus_of, getstate_of, query_of, answered}
use Rattle.loader.specs.Upload.{upload_ends, uploading_at, uploaded_of, upload_of}
use Rattle.loader.specs.Step.{fresh_start, start_outcome, step_of}
use Rattle.demands.specs.Calls.{begun, heard, Call, Site, called, after_call, after_calls}
use Rattle.demands.specs.Safe.Fit.{AllowedStart}
use Rattle.demands.specs.Kept.Named.{NamedRange, none, NotNamed, prog_names, erase_names, command_names, is_dnload, took_dnload}
use Rattle.demands.specs.Kept.Named.{ChangesNamed, may_change, note_of, noted_after, OnlyNamed}
use Rattle.demands.proofs.Ground.Ways.{every_way}
use Rattle.demands.proofs.Safe.Outside.{piece_place}
use Rattle.demands.proofs.Safe.Fit.{started, entered_sync, entered_manifest, entered_same}
use Rattle.demands.proofs.Ground.Finished.{stored_of}

no_right : (a b : Bool) → b ≡ false → (a && b) ≡ false
no_right true b e = e
no_right false b e = refl

no_left : (a b d : Bool) → a ≡ false → (a && b && d) ≡ false
no_left a b d e = rw e

no_middle : (a b d : Bool) → b ≡ false → (a && b && d) ≡ false
no_middle true b d e = rw e
no_middle false b d e = refl

-- what a call may change and what is noted after it, by what it was
module _ (noted : NamedRange) (s : Session) (c : Call) (l : Leaves) where
  elsewhere : (state : ℕ) → (s.phase.state.0 ≡ state → ⊥) → took_dnload state s c l ≡ false
  unfolding took_dnload
  elsewhere state n = no_right (eqb (heard l) 0 && is_dnload (request_of c.setup)) _ (ne_eqb _ _ n)

  module _ (h : heard l ≡ 0) (q : request_of c.setup ≡ Some Request.Dnload) where
    took : (state : ℕ) → s.phase.state.0 ≡ state → took_dnload state s c l ≡ true
    unfolding took_dnload
    took state e = rw (h, q, eq-eqb s.phase.state.0 state e)

    changes_prog : s.phase.state.0 ≡ 2 → get_or c.bytes 0 0 ≡ 1 → may_change noted s c l ≡ prog_names c.bytes
    unfolding may_change command_names
    changes_prog e k = rw (took 2 e, k)

    changes_erase : s.phase.state.0 ≡ 2 → get_or c.bytes 0 0 ≡ 4 → may_change noted s c l ≡ erase_names c.bytes
    unfolding may_change command_names
    changes_erase e k = rw (took 2 e, k)

    changes_piece : s.phase.state.0 ≡ 5 → may_change noted s c l ≡ noted
    unfolding may_change
    changes_piece e = rw (elsewhere 2 (λ x. omega arith), took 5 e)

    notes_prog : s.phase.state.0 ≡ 2 → get_or c.bytes 0 0 ≡ 1 → note_of noted s c l ≡ prog_names c.bytes
    unfolding note_of
    notes_prog e k = rw (took 2 e, k)

  -- anything but a DNLOAD taken in state 2 notes nothing new
  notes_same : took_dnload 2 s c l ≡ false → note_of noted s c l ≡ noted
  unfolding note_of
  notes_same e = rw e

  untaken : (heard l ≡ 0 → ⊥) → took_dnload 2 s c l ≡ false
  unfolding took_dnload
  untaken n = no_left (eqb (heard l) 0) _ _ (ne_eqb _ _ n)

  undnload : is_dnload (request_of c.setup) ≡ false → took_dnload 2 s c l ≡ false
  unfolding took_dnload
  undnload n = no_middle (eqb (heard l) 0) _ _ n

-- while a download runs, its place and what remains lie in the noted bytes
pub record Covers (noted : NamedRange) (s : Session) : Type 0 where
  pub low : running s.phase ≡ true → noted.at ≤ s.down.place.0
  pub high : running s.phase ≡ true → s.down.place.0 + s.down.left ≤ noted.at + noted.size

-- a call changes only what it may
changes_named : (noted : NamedRange) (at : Site) (c : Call) → Covers noted at.session → ChangesNamed step_of noted at c
unfolding after_call called stored_of info_of bin_of stall_of unfit_of fault_of reset_of getstatus_of getstate_of query_of answered upload_of erased
changes_named noted at c covers k =
    let s = at.session in
    let f = at.flash in
    let d = c.bytes in
    every_way s f c.setup d c.reply
    (λ (l : Leaves). NotNamed (may_change noted s c l) k → get_or l.flash k 0 ≡ get_or f k 0)
    (record {
      unfits = λ _ _. refl;
      stalls = λ _ _ _. refl;
      faults = λ _ _ _ _ _. refl;
      unerased = λ _ _ _ _ _. refl;
      programs = λ l p i n o.
          let w = ready_range s f l.fit (word_at d 2) (long_at d 4) i in
          let out : NotNamed (prog_names d) k =
          subst (λ (r : NamedRange). NotNamed r k) (changes_prog noted s c _ refl l.is_dnload_lem l.here p) o
          in
          spliced_other f (start_of (word_at d 2)) (drop 8 d) (omega arith) k
          (⊎_elim (λ lt. inl lt) (λ ge. inr (omega arith)) out);
      pieces = λ l n o.
          let runs : running s.phase ≡ true = rw l.here in
          let w = ready_within s f l.fit s.down.place.0 (length d) (piece_place s f c.setup (length d) l n) in
          let low = covers.low runs in
          let high = covers.high runs in
          let out : NotNamed noted k =
          subst (λ (r : NamedRange). NotNamed r k) (changes_piece noted s c _ refl l.is_dnload_lem l.here) o
          in
          spliced_other f s.down.place.0 d w.inside k
          (⊎_elim (λ lt. inl (omega arith)) (λ ge. inr (omega arith)) out);
      closes = λ _ _. refl;
      reads = λ _ _ _. refl;
      checks = λ _ _. refl;
      erases = λ l p i o.
          let w = ready_range s f l.fit (word_at d 2) (start_of (word_at d 4)) i in
          let long = length-blank (start_of (word_at d 4)) in
          let out : NotNamed (erase_names d) k =
          subst (λ (r : NamedRange). NotNamed r k) (changes_erase noted s c _ refl l.is_dnload_lem l.here p) o
          in
          spliced_other f (start_of (word_at d 2)) (blank (start_of (word_at d 4))) (omega arith) k
          (⊎_elim (λ lt. inl lt) (λ ge. inr (omega arith)) out);
      informs = λ _ _. refl;
      bins = λ _ _. refl;
      resets = λ _ _ _ _. refl;
      uploads = λ _ _ _. refl;
      polls = λ _ _ _. refl;
      tells = λ _ _ _. refl;
      queries = λ _ _ _. refl;
      idles = λ _ _. refl;
    })

covers_as : (r q : NamedRange) (s : Session) → r ≡ q → Covers q s → Covers r s
covers_as r q s e h = subst⁻¹ (λ (x : NamedRange). Covers x s) e h

-- where no download runs, nothing has to be noted
stopped : (noted : NamedRange) (s : Session) → running s.phase ≡ false → Covers noted s
stopped noted s e =
    record { low = λ r. absurd (false≢true (sym e ∙ r)); high = λ r. absurd (false≢true (sym e ∙ r)) }

-- after a poll a download runs only if it ran before
polled_runs : (p : Phase) → running (phase_of (entered p) p.status.0 idle) ≡ true → running p ≡ true
polled_runs p r =
    let on : entered p ≡ download_idle =
    ⊎_elim (λ e. eqb-true _ _ e)
    (λ e. absurd (false≢true (right_of (eqb (entered p) download_sync) false e)))
    (either (eqb (entered p) download_idle) (eqb (entered p) download_sync && false) r)
    in
    elim (ℕ_discrete p.state.0 download_sync) [
      | yes h ↦ let a : p.after.0 ≡ download_idle = sym (entered_sync p h) ∙ on in rw (h, a)
      | no h ↦
          elim (ℕ_discrete p.state.0 manifest_sync) [
            | yes m ↦ let z = entered_manifest p m in absurd (omega arith)
            | no m ↦ let z : p.state.0 ≡ download_idle = sym (entered_same p h m) ∙ on in rw z
          ]
    ]

-- none runs after a stall, nor after an upload
in_error : (p : Phase) → p.state.0 ≡ error → running p ≡ false
in_error p e = rw e

stall_stops : (s : Session) → running (stall_of s).session.phase ≡ false
unfolding stall_of moved_to
stall_stops s =
    pick (λ (t : Session). running t.phase ≡ false) (eqb s.phase.state.0 error) _ _
    (λ e. in_error s.phase (eqb-true _ _ e)) (λ _. refl)

upload_stops : (s : Session) (asked given : ℕ) → running (uploaded_of s asked given).phase ≡ false
unfolding uploaded_of uploading_at moved_to
upload_stops s asked given =
    pick (λ (t : Session). running t.phase ≡ false) (upload_ends asked given) _ _ (λ _. refl) (λ _. refl)

-- a write goes on behind its bytes
wrote_covers :
    (r : NamedRange) (s : Session) (f : List ℕ) (at : ℕ) (bytes : List ℕ) (left : ℕ) → r.at ≤ at
    → at + length bytes + left ≤ r.at + r.size → Covers r (stored_of s f at bytes left).outcome.session
unfolding stored_of moved_to
wrote_covers r s f at bytes left low high = record { low = λ _. omega arith; high = λ _. high }

-- what is noted covers the download after a call
covers_after_call :
    (noted : NamedRange) (at : Site) (c : Call) → Covers noted at.session
    → Covers (note_of noted at.session c (called step_of at c)) (after_call step_of at c).session
unfolding after_call called stored_of info_of bin_of moved_to stall_of unfit_of fault_of reset_of fresh_of polled getstatus_of getstate_of query_of
    answered upload_of
covers_after_call noted at c covers =
    let s = at.session in
    let f = at.flash in
    let d = c.bytes in
    let same : (l : Leaves) → took_dnload 2 s c l ≡ false → Covers (note_of noted s c l) s =
    λ l e. covers_as _ _ _ (notes_same noted s c l e) covers
    in
    every_way s f c.setup d c.reply (λ (l : Leaves). Covers (note_of noted s c l) l.session)
    (record {
      unfits = λ _. same _ (untaken noted s c _ (λ (h : ◌≡◌ {A = ℕ} 2 0). omega arith));
      stalls = λ _ _. stopped _ _ (stall_stops s);
      faults = λ _ _ _ _. stopped _ _ refl;
      unerased = λ _ _ _ _. stopped _ _ refl;
      programs = λ l p i n.
          covers_as _ _ _ (notes_prog noted s c _ refl l.is_dnload_lem l.here p)
          (wrote_covers (prog_names d) (with_unerased s _) f (start_of (word_at d 2)) (drop 8 d) (long_at d 4 - length (drop 8 d)) (omega arith)
          (omega arith));
      pieces = λ l n.
          let runs : running s.phase ≡ true = rw l.here in
          let low = covers.low runs in
          let high = covers.high runs in
          covers_as _ _ _
          (notes_same noted s c _ (elsewhere noted s c _ 2 (λ e. omega (arith, l.here))))
          (wrote_covers noted s f s.down.place.0 d (s.down.left - length d) (omega arith) (omega arith));
      closes = λ _. stopped _ _ refl;
      reads = λ _ _. stopped _ _ refl;
      checks = λ _. stopped _ _ refl;
      erases = λ _ _ _. stopped _ _ refl;
      informs = λ _. stopped _ _ refl;
      bins = λ _. stopped _ _ refl;
      resets = λ _ _ _. stopped _ _ refl;
      uploads = λ _ _. stopped _ _ (upload_stops s _ _);
      polls = λ _ q.
          covers_as _ _ _ (notes_same noted s c _ (undnload noted s c _ (rw q)))
          (record {
            low = λ r. covers.low (polled_runs s.phase r);
            high = λ r. covers.high (polled_runs s.phase r);
          });
      tells = λ _ q. same _ (undnload noted s c _ (rw q));
      queries = λ _ q. same _ (undnload noted s c _ (rw q));
      idles = λ _. stopped _ _ refl;
    })

covers_after_calls :
    (noted : NamedRange) (at : Site) (calls : List Call) → Covers noted at.session
    → Covers (noted_after step_of noted at calls) (after_calls step_of at calls).session
unfolding noted_after after_calls
covers_after_calls noted at [] h = h
covers_after_calls noted at (c ∷ cs) h =
    covers_after_calls (note_of noted at.session c (called step_of at c)) (after_call step_of at c) cs (covers_after_call noted at c h)

-- a start runs no download
start_stops :
    (f : List ℕ) (a b part0 part1 : ℕ) → AllowedStart f a b → running (begun start_outcome f a b part0 part1).session.phase ≡ false
unfolding begun fresh_start fresh_of
start_stops f a b part0 part1 h = ap (λ (o : Told). running o.session.phase) (started f a b part0 part1 h)

pub only_named_holds : OnlyNamed start_outcome step_of
only_named_holds f a b part0 part1 h calls c =
    let at = begun start_outcome f a b part0 part1 in
    changes_named (noted_after step_of none at calls) (after_calls step_of at calls) c
    (covers_after_calls none at calls (stopped none at.session (start_stops f a b part0 part1 h)))
