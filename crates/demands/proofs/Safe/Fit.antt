-- Each way through a call keeps the rules: A and B stay, a state is entered with the status and the fields that its rules ask for,
-- and a range is kept only after it was found to lie in the application. Assumes nothing.
use Prim.Native.Nat.{ℕ, ◌+◌, ◌-◌, ◌≤◌}
use mathlib.Core.Bool.{Bool, true, false, false≢true}
use mathlib.Core.List.{List}
use mathlib.Core.Logic.{⊎_elim}
use mathlib.Core.Path.{◌≡◌, refl, sym, ap, ◌∙◌, subst⁻¹}
use native.Mathlib.Decide.{ℕ_discrete}
use native.Mathlib.Omega.{arith}
use borrow.Author.Tests.{eq-eqb, ne_eqb, leb-true, le-leb, lt-ltb}
use lib.Dec.{eqb, leb}
use lib.ListN.{length, get_or, drop}
use Rattle.flash.specs.Flash.{start_of}
use Rattle.flash.proofs.Reaching.{facts_lie}
use Rattle.sums.specs.Sum.{most_blocks, fresh_sums}
use Rattle.session.specs.Codes.{idle, download_sync, download_idle, manifest_sync, upload_idle, error, ok, check_erased, stalled}
use Rattle.session.specs.Session.{app_end, phase_of, down_of, no_download, up_of, flash_stream, info_bytes}
use Rattle.session.specs.Session.{board_of, with_phase, with_up, with_unerased, with_sums, stream_length, zeros_of}
use Rattle.session.specs.Rules.{split_rule, state_rule, status_rule, running, download_rule, upload_rule, after_rule, in_application}
use Rattle.session.specs.Rules.{range_rule, place_rule, flags_rule, fit_of}
use Rattle.session.specs.declared.Phase.{Phase}
use Rattle.session.specs.declared.Download.{Download}
use Rattle.session.specs.declared.Upload.{Upload}
use Rattle.session.specs.declared.Session.{Session}
use Rattle.session.proofs.Laws.{fit_kept, kept_fit, fit_facts, facts_fit, fit_near, end_in_flash}
use Rattle.session.proofs.Laws.{split_facts, zeros_unfit, fresh_fit, unerased_free, running-false}
use Rattle.session.proofs.Tests.{left_of, right_of, or_unless, where_true, pick_most}
use Rattle.numbers.specs.Numbers.{word_at, long_at}
use Rattle.request.specs.Request.{w_length}
use Rattle.stream.proofs.Laws.{next_length}
use Rattle.answers.specs.declared.Answer.{Answer}
use Rattle.answers.specs.Answers.{Leaves, outcome, Told, told}
use Rattle.answers.specs.Moves.{rewound, moved_to, to_idle, to_error, stall_of, unfit_of, fault_of, reset_of}
use Rattle.jobs.specs.Job.{Place}
use Rattle.command.specs.Ready.{Ready}
use Rattle.command.specs.Download.{info_of, bin_of, prefix_for}
use Rattle.command.proofs.Laws.{pick, ready-place}
use Rattle.loader.specs.Reply.{entered, polled, getstatus_of, getstate_of, query_of, answered}
use Rattle.loader.specs.Upload.{place_of, answer_of, upload_ends, uploading_at, uploaded_of, upload_of}
use Rattle.loader.specs.Step.{startable, fresh_start, start_outcome, step_of}
use Rattle.loader.proofs.Laws.{place_in_stream, start-split, start_sized}
use Rattle.demands.specs.Calls.{heard, Call, Site, called, after_call}
use Rattle.demands.specs.Safe.Fit.{StaysFit, AllowedStart, StartsFit, RefusedStart}
use Rattle.demands.specs.Safe.Refused.{FaultStatus, out_of_range, bytes_missing, bad_command}
use Rattle.demands.proofs.Ground.Ways.{every_way}
use Rattle.demands.proofs.Safe.Outside.{piece_place}
use Rattle.demands.proofs.Safe.Refused.{refused_holds, unfit_exactly_holds}
use Rattle.demands.proofs.Ground.Finished.{stored_of}

-- an upload at the stream's first byte keeps its rule in every state
at_start : (p : Phase) (u : Upload) → u.place ≡ 0 → upload_rule p u ≡ true
at_start p u e =
    rw (
      or_unless (eqb p.state.0 upload_idle) (eqb u.place 0) (λ _. eq-eqb _ _ e),
      le-leb u.place (stream_length u) (omega arith),
    )

-- a move to another state keeps the rules if the phase and the download do, and the upload's range and flags did
module _ (s : Session) (p : Phase) (d : Download) where
  moved_kept :
      split_rule s.board ≡ true → range_rule s.board s.up ≡ true → flags_rule s.up ≡ true → state_rule p ≡ true
      → status_rule p ≡ true → download_rule p d ≡ true → after_rule p ≡ true → place_rule s.board p d ≡ true
      → fit_of (moved_to s p d) ≡ true
  unfolding moved_to
  moved_kept split range flags state status down after place =
      kept_fit (moved_to s p d)
      (record {
        split = split;
        state = state;
        status = status;
        download = down;
        upload = at_start p (rewound s.up) refl;
        after = after;
        range = range;
        place = place;
        flags = flags;
      })

-- to idle, manifest sync, and download sync that leads to idle
idle_fit : (s : Session) → fit_of s ≡ true → fit_of (to_idle s) ≡ true
idle_fit s e =
    let k = fit_kept s e in
    moved_kept s (phase_of idle ok idle) no_download k.split k.range k.flags refl refl refl refl refl

manifest_fit : (s : Session) → fit_of s ≡ true → fit_of (moved_to s (phase_of manifest_sync ok idle) no_download) ≡ true
manifest_fit s e =
    let k = fit_kept s e in
    moved_kept s (phase_of manifest_sync ok idle) no_download k.split k.range k.flags refl refl refl refl refl

sync_fit :
    (s : Session) → split_rule s.board ≡ true → range_rule s.board s.up ≡ true → flags_rule s.up ≡ true
    → fit_of (moved_to s (phase_of download_sync ok idle) no_download) ≡ true
sync_fit s split range flags = moved_kept s (phase_of download_sync ok idle) no_download split range flags refl refl refl refl refl

-- what the last search found isn't judged
noted_fit : (s : Session) (unerased : ℕ) → fit_of s ≡ true → fit_of (with_unerased s unerased) ≡ true
noted_fit s unerased e = unerased_free s unerased ∙ e

-- to error, with a status of its own
error_fit :
    (s : Session) (status : ℕ) → fit_of s ≡ true → status_rule (phase_of error status idle) ≡ true
    → fit_of (to_error s status) ≡ true
error_fit s status e h =
    let k = fit_kept s e in
    moved_kept s (phase_of error status idle) no_download k.split k.range k.flags refl h refl refl refl

fault_status : (n : ℕ) → FaultStatus n → status_rule (phase_of error n idle) ≡ true
fault_status n (out_of_range e) = rw e
fault_status n (bytes_missing e) = rw e
fault_status n (bad_command e) = rw e

stall_fit : (s : Session) → fit_of s ≡ true → fit_of (stall_of s).session ≡ true
unfolding stall_of
stall_fit s e = pick (λ t. fit_of t ≡ true) (eqb s.phase.state.0 error) _ _ (λ _. e) (λ _. error_fit s stalled e refl)

-- to download sync that leads to download idle, with a download that lies in the application
wrote_fit :
    (s : Session) (f : List ℕ) (at : ℕ) (bytes : List ℕ) (left : ℕ) → fit_of s ≡ true
    → Place s.board at (length bytes + left) → fit_of (stored_of s f at bytes left).outcome.session ≡ true
unfolding stored_of
wrote_fit s f at bytes left e p =
    let k = fit_kept s e in
    moved_kept (with_sums s _) (phase_of download_sync ok download_idle) (down_of (at + length bytes) left) k.split k.range
    k.flags refl refl refl refl
    (facts_lie (at + length bytes) left s.board.a.0 (app_end s.board) (omega arith) (omega arith)
    (fit_near s (fit_facts s e)))

-- the flags of an upload, one by one
choice_of : (u : Upload) → flags_rule u ≡ true → u.choice ≤ 1
choice_of u e = leb-true _ _ (left_of (leb u.choice 1) (leb u.«prefix» 1) e)

prefix_of_lem : (u : Upload) → flags_rule u ≡ true → u.«prefix» ≤ 1
prefix_of_lem u e = leb-true _ _ (right_of (leb u.choice 1) (leb u.«prefix» 1) e)

flags_of : (u : Upload) → u.choice ≤ 1 → u.«prefix» ≤ 1 → flags_rule u ≡ true
flags_of u h k = rw (le-leb u.choice 1 h, le-leb u.«prefix» 1 k)

info_fit : (s : Session) → fit_of s ≡ true → fit_of (info_of s).session ≡ true
unfolding info_of
info_fit s e =
    let k = fit_kept s e in
    let up = up_of info_bytes s.up.«prefix» s.up.first.0 s.up.len 0 in
    sync_fit (with_up s up) k.split k.range (flags_of up (omega arith) (prefix_of_lem s.up k.flags))

bin_fit : (s : Session) (flag : ℕ) → fit_of s ≡ true → fit_of (bin_of s flag).session ≡ true
unfolding bin_of prefix_for
bin_fit s flag e =
    let k = fit_kept s e in
    let up = up_of s.up.choice (prefix_for flag) s.up.first.0 s.up.len 0 in
    let pre : prefix_for flag ≤ 1 = pick_most (eqb flag 0) (omega arith) (omega arith) in
    sync_fit (with_up s up) k.split k.range (flags_of up (choice_of s.up k.flags) pre)

-- an upload goes on to a place in the stream
upload_fit :
    (s : Session) (f : List ℕ) (asked : ℕ) (reply : List ℕ) → Ready s f
    → fit_of (upload_of s f asked reply).outcome.session ≡ true
unfolding upload_of answered uploaded_of answer_of uploading_at stream_length
upload_fit s f asked reply r =
    let k = fit_kept s r.fit in
    let fit = fit_facts s r.fit in
    let n = length (answer_of s f asked) in
    let ends = end_in_flash s.board in
    let to = fit.range_to in
    let sized = r.sized in
    let long = next_length s.board s.unerased s.up f (omega arith) (place_of s) asked in
    let here = place_in_stream s f r in
    pick (λ t. fit_of t ≡ true) (upload_ends asked n) _ _ (λ _. idle_fit s r.fit)
    (λ _.
    kept_fit (uploading_at s (place_of s + n))
    (record {
      split = k.split;
      state = refl;
      status = refl;
      download = refl;
      upload = le-leb (place_of s + n) (stream_length s.up) (omega arith);
      after = refl;
      range = k.range;
      place = refl;
      flags = k.flags;
    }))

-- READ's range was found to lie in the application
read_fit :
    (s : Session) (block len : ℕ) → fit_of s ≡ true → in_application s.board block len ≡ true
    → fit_of
    (moved_to (with_up s (up_of flash_stream s.up.«prefix» block len 0)) (phase_of download_sync ok idle) no_download)
    ≡ true
read_fit s block len e i =
    let k = fit_kept s e in
    let up = up_of flash_stream s.up.«prefix» block len 0 in
    sync_fit (with_up s up) k.split i (flags_of up (omega arith) (prefix_of_lem s.up k.flags))

-- the state that a poll enters, state by state
pub entered_sync : (p : Phase) → p.state.0 ≡ download_sync → entered p ≡ p.after.0
unfolding entered
entered_sync p h = rw h

pub entered_manifest : (p : Phase) → p.state.0 ≡ manifest_sync → entered p ≡ idle
unfolding entered
entered_manifest p h = rw h

pub entered_same : (p : Phase) → (p.state.0 ≡ download_sync → ⊥) → (p.state.0 ≡ manifest_sync → ⊥) → entered p ≡ p.state.0
unfolding entered
entered_same p h k = rw (ne_eqb p.state.0 download_sync h, ne_eqb p.state.0 manifest_sync k)

stops : (p : Phase) → p.state.0 ≡ download_sync → p.after.0 ≡ idle → running p ≡ false
stops p h a = rw (h, a)

-- a poll keeps the rules
module _ (s : Session) (e : fit_of s ≡ true) where
  not_uploading : (s.phase.state.0 ≡ upload_idle → ⊥) → (p : Phase) → upload_rule p s.up ≡ true
  not_uploading n p = at_start p s.up ((fit_facts s e).no_upload n)

  to_idle_lem :
      (s.phase.state.0 ≡ error → ⊥) → (s.phase.state.0 ≡ upload_idle → ⊥) → running s.phase ≡ false
      → fit_of (with_phase s (phase_of idle s.phase.status.0 idle)) ≡ true
  to_idle_lem no_error no_upload stopped =
      let k = fit_kept s e in
      let fit = fit_facts s e in
      let p = phase_of idle s.phase.status.0 idle in
      kept_fit (with_phase s p)
      (record {
        split = k.split;
        state = refl;
        status = rw (fit.status_outside no_error);
        download = ap (λ (d : Download). download_rule p d) (fit.no_download_lem (running-false s.phase stopped));
        upload = not_uploading no_upload p;
        after = refl;
        range = k.range;
        place = refl;
        flags = k.flags;
      })

  to_download :
      s.phase.state.0 ≡ download_sync → s.phase.after.0 ≡ download_idle
      → fit_of (with_phase s (phase_of download_idle s.phase.status.0 idle)) ≡ true
  to_download h a =
      let k = fit_kept s e in
      let fit = fit_facts s e in
      let runs : running s.phase ≡ true = rw (h, a) in
      kept_fit (with_phase s (phase_of download_idle s.phase.status.0 idle))
      (record {
        split = k.split;
        state = refl;
        status = rw (fit.status_outside (λ x. omega arith));
        download = refl;
        upload = not_uploading (λ x. omega arith) (phase_of download_idle s.phase.status.0 idle);
        after = refl;
        range = k.range;
        place = where_true (running s.phase) _ k.place runs;
        flags = k.flags;
      })

  to_same :
      (s.phase.state.0 ≡ download_sync → ⊥)
      → fit_of (with_phase s (phase_of s.phase.state.0 s.phase.status.0 idle)) ≡ true
  to_same n =
      let at : ℕ → Bool = λ x. fit_of (with_phase s (phase_of s.phase.state.0 s.phase.status.0 x)) in
      ap at (sym ((fit_facts s e).after_others n)) ∙ e

  pub polled_fit : fit_of (polled s) ≡ true
  unfolding polled
  polled_fit =
      let at : ℕ → Type 0 = λ n. fit_of (with_phase s (phase_of n s.phase.status.0 idle)) ≡ true in
      elim (ℕ_discrete s.phase.state.0 download_sync) [
        | yes h ↦
            ⊎_elim
            (λ a. subst⁻¹ at (entered_sync s.phase h ∙ a) (to_idle_lem (λ x. omega arith) (λ x. omega arith) (stops s.phase h a)))
            (λ a. subst⁻¹ at (entered_sync s.phase h ∙ a) (to_download h a)) ((fit_facts s e).after_sync h)
        | no h ↦
            elim (ℕ_discrete s.phase.state.0 manifest_sync) [
              | yes m ↦ subst⁻¹ at (entered_manifest s.phase m) (to_idle_lem (λ x. omega arith) (λ x. omega arith) (rw m))
              | no m ↦ subst⁻¹ at (entered_same s.phase h m) (to_same h)
            ]
      ]

-- the rules as the code tests them stay kept
tests_stay : (at : Site) (c : Call) → fit_of at.session ≡ true → fit_of (after_call step_of at c).session ≡ true
unfolding after_call called getstatus_of getstate_of query_of answered unfit_of fault_of reset_of
tests_stay at c e =
    let s = at.session in
    let f = at.flash in
    let d = c.bytes in
    let k = fit_kept s e in
    every_way s f c.setup d c.reply (λ (l : Leaves). fit_of l.session ≡ true)
    (record {
      unfits = λ _. e;
      stalls = λ _ _. stall_fit s e;
      faults = λ _ _ status h. error_fit s status e (fault_status status h);
      unerased = λ _ _ _ _. error_fit _ check_erased (noted_fit s _ e) refl;
      programs = λ l _ i n.
          let p = ready-place s f l.fit (word_at d 2) (long_at d 4) i in
          wrote_fit _ f (start_of (word_at d 2)) (drop 8 d) (long_at d 4 - length (drop 8 d)) (noted_fit s _ e)
          (record { low = p.low; high = omega arith });
      pieces = λ l n.
          let p = piece_place s f c.setup s.down.left l (omega arith) in
          wrote_fit s f s.down.place.0 d (s.down.left - length d) e (record { low = p.low; high = omega arith });
      closes = λ _. manifest_fit s e;
      reads = λ _ i. read_fit s (word_at d 2) (long_at d 4) e i;
      checks = λ _. sync_fit _ k.split k.range k.flags;
      erases = λ _ _ _. sync_fit (with_sums s _) k.split k.range k.flags;
      informs = λ _. info_fit s e;
      bins = λ _. bin_fit s (get_or d 1 0) e;
      resets = λ _ _ _. fresh_fit s.board s.sums k.split;
      uploads = λ r _. upload_fit s f (w_length c.setup) c.reply r;
      polls = λ _ _. polled_fit s e;
      tells = λ _ _. e;
      queries = λ _ _. e;
      idles = λ _. idle_fit s e;
    })

pub stays_fit_holds : StaysFit step_of
stays_fit_holds at c fit = fit_facts (after_call step_of at c).session (tests_stay at c (facts_fit at.session fit))

-- what a start finds
allowed_startable : (f : List ℕ) (a b : ℕ) → AllowedStart f a b → startable (length f) a b ≡ true
unfolding startable
allowed_startable f a b h =
    rw (
      le-leb 1 a h.some_loader,
      lt-ltb a b h.some_application,
      le-leb b most_blocks h.few_blocks,
      eq-eqb (length f) (start_of b) h.sized,
    )

startable_allowed : (f : List ℕ) (a b : ℕ) → startable (length f) a b ≡ true → AllowedStart f a b
startable_allowed f a b e =
    let board = board_of a b 0 0 in
    let facts = split_facts board (start-split (length f) board e) in
    record {
      some_loader = facts.0;
      some_application = facts.1;
      few_blocks = facts.2;
      sized = start_sized (length f) board e;
    }

-- what an allowed start leaves
pub started :
    (f : List ℕ) (a b part0 part1 : ℕ) → AllowedStart f a b
    → start_outcome f a b part0 part1 ≡ told (outcome Answer.Taken 0 (fresh_start f (board_of a b part0 part1)))
unfolding start_outcome
started f a b part0 part1 h = rw (allowed_startable f a b h)

pub not_started :
    (f : List ℕ) (a b part0 part1 : ℕ) → (AllowedStart f a b → ⊥)
    → start_outcome f a b part0 part1 ≡ told (outcome Answer.Unfit 0 zeros_of)
unfolding start_outcome
not_started f a b part0 part1 n =
    pick (λ (o : Told). o ≡ told (outcome Answer.Unfit 0 zeros_of)) (startable (length f) a b) _ _
    (λ e. absurd (n (startable_allowed f a b e))) (λ _. refl)

pub starts_fit_holds : StartsFit start_outcome
unfolding fresh_start
starts_fit_holds f a b part0 part1 h =
    let e = started f a b part0 part1 h in
    let board = board_of a b part0 part1 in
    let split = start-split (length f) board (allowed_startable f a b h) in
    record {
      answer = ap (λ (o : Told). o.answer) e;
      count = ap (λ (o : Told). o.count) e;
      fit =
          fit_facts (start_outcome f a b part0 part1).session
          (ap (λ (o : Told). fit_of o.session) e ∙ fresh_fit board (fresh_sums f a (app_end board)) split);
    }

-- a call with an unfit session is unfit
unfit_call : (at : Site) (c : Call) → fit_of at.session ≡ false → heard (called step_of at c) ≡ 2
unfit_call at c e = unfit_exactly_holds.unprepared at c (λ p. false≢true (sym e ∙ facts_fit at.session p.rules))

pub refused_start_holds : RefusedStart start_outcome step_of
refused_start_holds f a b part0 part1 n =
    let e = not_started f a b part0 part1 n in
    let site : List ℕ → Site = λ g. record { session = (start_outcome f a b part0 part1).session; flash = g } in
    let unfit = ap (λ (o : Told). fit_of o.session) e ∙ zeros_unfit in
    record {
      answer = ap (λ (o : Told). o.answer) e;
      count = ap (λ (o : Told). o.count) e;
      session = ap (λ (o : Told). o.session) e;
      later_answer = λ g c. unfit_call (site g) c unfit;
      later = λ g c. (refused_holds (site g) c).unfit (unfit_call (site g) c unfit);
    }
