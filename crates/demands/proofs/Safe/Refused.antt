-- The answers that refuse leave what their definitions write down, and a call is unfit by the first test alone. Assumes nothing.
use Prim.Native.Nat.{ℕ, ◌+◌, ◌-◌, ◌≤◌}
use mathlib.Core.Bool.{Bool, true, false, false≢true}
use mathlib.Core.Logic.{◌⊎◌, inl, inr, ⊎_elim}
use mathlib.Core.Path.{◌≡◌, refl, sym, ap, ◌∙◌, subst, subst⁻¹}
use native.Mathlib.Omega.{arith}
use borrow.Author.Tests.{eq-eqb, ne_eqb}
use lib.ListN.{length}
use Rattle.flash.specs.Flash.{start_of}
use Rattle.session.specs.Codes.{idle, check_erased}
use Rattle.session.specs.Rules.{in_application}
use Rattle.session.specs.Session.{app_end, phase_of, down_of, up_of, with_unerased, whole_upload, fresh_of}
use Rattle.session.specs.declared.Phase.{Phase}
use Rattle.session.specs.declared.Download.{Download}
use Rattle.session.specs.declared.Upload.{Upload}
use Rattle.session.specs.declared.Session.{Session}
use Rattle.numbers.specs.Numbers.{word_at, long_at}
use Rattle.std.specs.Prelude.{Some}
use Rattle.request.specs.Request.{w_length, request_of}
use Rattle.request.specs.declared.Request.{Request}
use Rattle.answers.specs.Answers.{Leaves, leaves}
use Rattle.answers.specs.Moves.{moved_to, to_error, stall_of, unfit_of, fault_of, reset_of}
use Rattle.jobs.specs.Job.{job_done}
use Rattle.command.specs.Download.{all_erased, noted, info_of, bin_of}
use Rattle.command.proofs.Laws.{pick, ready_range}
use Rattle.loader.specs.Reply.{getstatus_of, getstate_of, query_of, answered}
use Rattle.loader.specs.Upload.{upload_of}
use Rattle.loader.specs.Step.{ready, asked_of, step_of, decided_of, Decided, settled}
use Rattle.demands.specs.Calls.{heard, Call, Site, called}
use Rattle.demands.specs.Asked.{Prepared, Form, Asks, NoRequest}
use Rattle.demands.specs.Commanded.{Legal, Searches, prog, check}
use Rattle.demands.specs.Safe.Refused.{Settled, InError, Stalled, FaultStatus, out_of_range, bytes_missing, bad_command, unsearched}
use Rattle.demands.specs.Safe.Refused.{not_erased, Faulted, AsFresh, AnswerRows}
use Rattle.demands.specs.Safe.Refused.{Refused, UnfitExactly, StalledExactly}
use Rattle.demands.proofs.Ground.Ways.{Loads, ComesTo, by-prog, by-check, every_way}
use Rattle.demands.proofs.Ground.Prepared.{prepared_ready, ready_prepared}
use Rattle.demands.proofs.Ground.Unerased.{blank_or_first, number_first}
use Rattle.demands.proofs.Does.Forms.{request_form, no_request, asks_stalled, asks_brings}
use Rattle.demands.proofs.Does.Downloads.{in_legal}
use Rattle.demands.proofs.Does.Commands.{Commands_hold}
use Rattle.demands.proofs.Does.Works.{ProgramWorks_holds}
use Rattle.demands.proofs.Ground.Finished.{stored_of}

-- a session with these groups is settled
so_settled :
    (s t : Session) (state status choice flag first len unerased : ℕ) → t.board ≡ s.board → t.phase ≡ phase_of state status 2
    → t.down ≡ down_of 0 0 → t.up ≡ up_of choice flag first len 0 → t.unerased ≡ unerased → t.sums ≡ s.sums
    → Settled s t state status choice flag first len unerased
so_settled s t state status choice flag first len unerased board phase down up number sums =
    record {
      board = board;
      in_state = ap (λ (p : Phase). p.state.0) phase;
      told = ap (λ (p : Phase). p.status.0) phase;
      after_sync = ap (λ (p : Phase). p.after.0) phase;
      down_place = ap (λ (d : Download). d.place.0) down;
      down_left = ap (λ (d : Download). d.left) down;
      chosen = ap (λ (u : Upload). u.choice) up;
      prefix_flag = ap (λ (u : Upload). u.«prefix») up;
      range_first = ap (λ (u : Upload). u.first.0) up;
      range_length = ap (λ (u : Upload). u.len) up;
      up_place = ap (λ (u : Upload). u.place) up;
      unerased_is = number;
      sums = sums;
    }

-- what a move to state 10 leaves, and what a RESET does
errored : (s : Session) (unerased status : ℕ) → InError s (to_error (with_unerased s unerased) status) status unerased
unfolding moved_to
errored s unerased status =
    so_settled s (to_error (with_unerased s unerased) status) 10 status s.up.choice s.up.«prefix» s.up.first.0 s.up.len
    unerased refl refl refl refl refl refl

freshened : (s : Session) → AsFresh s (reset_of s).session
unfolding reset_of fresh_of whole_upload
freshened s =
    so_settled s (reset_of s).session 2 0 0 1 s.board.a.0 (start_of (app_end s.board - s.board.a.0)) 0xFFFFFFFF
    refl refl refl refl refl refl

stalled_row :
    (at : Site) (c : Call) → NoRequest at c
    → Stalled at c (leaves (stall_of at.session) at.flash c.reply)
unfolding stall_of
stalled_row at c n =
    let s = at.session in
    record {
      when = n;
      quiet = record { count = refl; flash = refl; reply = refl };
      in_ten = λ e. rw (eq-eqb s.phase.state.0 10 e);
      elsewhere = λ n. rw (ne_eqb s.phase.state.0 10 n) (errored s s.unerased 0x0F);
    }

-- a call that is taken is in none of the rows
taken : (at : Site) (c : Call) (l : Leaves) → heard l ≡ 0 → AnswerRows at c l
taken at c l e =
    record {
      stalled = λ h. absurd (omega arith);
      unfit = λ h. absurd (omega arith);
      faulted = λ h. absurd (omega arith);
      reset_asked = λ h. absurd (omega arith);
    }

-- a call that searches is taken or has the status 05, by its row
searched-heard :
    (at : Site) (c : Call) (block len : ℕ) → Searches at c block len
    → (heard (called step_of at c) ≡ 0) ⊎ ((called step_of at c).session.phase.status.0 ≡ 0x05)
searched-heard at c block len (prog n is long named legal few) =
    ⊎_elim (λ blank. inl ((ProgramWorks_holds at c).starts block len n is long named legal few blank).answers.answer)
    (λ f.
    inr
    (ap (λ (s : Session). s.phase.status.0)
    ((Commands_hold at c).prog_unerased block len n f.0 is long named legal few f.1).session))
    (blank_or_first at block len)
searched-heard at c block len (check is named legal) =
    ⊎_elim (λ blank. inl ((Commands_hold at c).check block len is named legal blank).answers.answer)
    (λ f.
    inr
    (ap (λ (s : Session). s.phase.status.0) ((Commands_hold at c).check_unerased block len f.0 is named legal f.1).session))
    (blank_or_first at block len)

-- so one with another fault doesn't
other_status : (n : ℕ) → FaultStatus n → n ≡ 0x05 → ⊥
other_status n (out_of_range e) five = omega arith
other_status n (bytes_missing e) five = omega arith
other_status n (bad_command e) five = omega arith

no_search :
    (at : Site) (c : Call) (status : ℕ) → FaultStatus status
    → called step_of at c ≡ leaves (fault_of at.session status) at.flash c.reply
    → (block len : ℕ) → Searches at c block len → ⊥
unfolding fault_of moved_to
no_search at c status h is block len s =
    ⊎_elim
    (λ zero.
    let three : heard (called step_of at c) ≡ 3 = ap heard is in
    omega (arith, zero, three))
    (λ five. other_status status h (sym (ap (λ (l : Leaves). l.session.phase.status.0) is) ∙ five))
    (searched-heard at c block len s)

faulted_row :
    (at : Site) (c : Call) → ((n : ℕ) × Form c.setup n Request.Dnload) → (status : ℕ) → FaultStatus status
    → ((block len : ℕ) → Searches at c block len → ⊥)
    → Faulted at c (leaves (fault_of at.session status) at.flash c.reply)
unfolding fault_of moved_to
faulted_row at c q status h none =
    record {
      when = q;
      quiet = record { count = refl; flash = refl; reply = refl };
      session = unsearched status h none (errored at.session at.session.unerased status);
    }

-- what the search found is the first of the range, which lies in flash
unerased_row :
    (at : Site) (c : Call) → ((n : ℕ) × Form c.setup n Request.Dnload) → Searches at c (word_at c.bytes 2) (long_at c.bytes 4)
    → start_of (word_at c.bytes 2) + long_at c.bytes 4 ≤ length at.flash
    → all_erased at.flash (word_at c.bytes 2) (long_at c.bytes 4) ≡ false
    → Faulted at c
    (leaves (fault_of (noted at.session at.flash (word_at c.bytes 2) (long_at c.bytes 4)) check_erased) at.flash c.reply)
unfolding fault_of moved_to
unerased_row at c q searches fits n =
    let first = number_first at (word_at c.bytes 2) (long_at c.bytes 4) fits n in
    record {
      when = q;
      quiet = record { count = refl; flash = refl; reply = refl };
      session = not_erased _ _ _ searches first (errored at.session _ check_erased);
    }

-- the rows of a prepared call, and of any other
in_form : (at : Site) (c : Call) → Prepared at c → request_of c.setup ≡ Some Request.Dnload → (n : ℕ) × Form c.setup n Request.Dnload
in_form at c p q = (
  w_length c.setup,
  request_form c.setup p.setup_bytes Request.Dnload q,
)

-- a command that comes to the search, as the demands have it
searches_it :
    (at : Site) (c : Call) → Prepared at c → Loads at.session at.flash c.setup idle → ComesTo c.bytes
    → in_application at.session.board (word_at c.bytes 2) (long_at c.bytes 4) ≡ true
    → Searches at c (word_at c.bytes 2) (long_at c.bytes 4)
searches_it at c p l comes i = go comes
  where
    n : ℕ
    n = (in_form at c p l.is_dnload_lem).0

    asks : Asks at c Request.Dnload n
    asks = record { prepared = p; form = (in_form at c p l.is_dnload_lem).1 }

    brings : length c.bytes ≡ n
    brings = asks_brings at c n asks

    legal : Legal at (word_at c.bytes 2) (long_at c.bytes 4)
    legal = in_legal at (word_at c.bytes 2) (long_at c.bytes 4) i

    go : ComesTo c.bytes → Searches at c (word_at c.bytes 2) (long_at c.bytes 4)
    go (by-prog code long few) =
        prog n (record { asks = asks; some = omega (arith, brings, long); idle = l.here; command = code })
        (omega (arith, brings, long)) (record { block_is = refl; len_is = refl }) legal (omega (arith, brings, few))
    go (by-check code eight) =
        let is : n ≡ 8 = sym brings ∙ eight in
        check (record { asks = subst (Asks at c Request.Dnload) is asks; some = omega arith; idle = l.here; command = code })
        (record { block_is = refl; len_is = refl }) legal

prepared_rows : (at : Site) (c : Call) → Prepared at c → AnswerRows at c (called step_of at c)
unfolding called stored_of info_of bin_of unfit_of stall_of fault_of reset_of getstatus_of getstate_of query_of answered upload_of
prepared_rows at c p =
    let s = at.session in
    every_way s at.flash c.setup c.bytes c.reply (λ (l : Leaves). called step_of at c ≡ l → AnswerRows at c l)
    (record {
      unfits = λ e _. absurd (false≢true (sym e ∙ prepared_ready at c p));
      stalls = λ _ n _.
          record {
            stalled = λ _. stalled_row at c (no_request at c p n);
            unfit = λ h. absurd (omega arith);
            faulted = λ h. absurd (omega arith);
            reset_asked = λ h. absurd (omega arith);
          };
      faults = λ _ q status h is.
          record {
            stalled = λ h. absurd (omega arith);
            unfit = λ h. absurd (omega arith);
            faulted = λ _. faulted_row at c (in_form at c p q) status h (no_search at c status h is);
            reset_asked = λ h. absurd (omega arith);
          };
      unerased = λ l comes i n _.
          let w = ready_range s at.flash l.fit (word_at c.bytes 2) (long_at c.bytes 4) i in
          record {
            stalled = λ h. absurd (omega arith);
            unfit = λ h. absurd (omega arith);
            faulted = λ _. unerased_row at c (in_form at c p l.is_dnload_lem) (searches_it at c p l comes i) w.inside n;
            reset_asked = λ h. absurd (omega arith);
          };
      programs = λ _ _ _ _ _. taken at c _ refl;
      pieces = λ _ _ _. taken at c _ refl;
      closes = λ _ _. taken at c _ refl;
      reads = λ _ _ _. taken at c _ refl;
      checks = λ _ _. taken at c _ refl;
      erases = λ _ _ _ _. taken at c _ refl;
      informs = λ _ _. taken at c _ refl;
      bins = λ _ _. taken at c _ refl;
      resets = λ l n k _.
          record {
            stalled = λ h. absurd (omega arith);
            unfit = λ h. absurd (omega arith);
            faulted = λ h. absurd (omega arith);
            reset_asked = λ _.
                record {
                  when = record { in_form = in_form at c p l.is_dnload_lem; in_two = l.here; eight = n; number = k };
                  quiet = record { count = refl; flash = refl; reply = refl };
                  as_fresh = freshened s;
                };
          };
      uploads = λ _ _ _. taken at c _ refl;
      polls = λ _ _ _. taken at c _ refl;
      tells = λ _ _ _. taken at c _ refl;
      queries = λ _ _ _. taken at c _ refl;
      idles = λ _ _. taken at c _ refl;
    })
    refl

unfit_rows : (at : Site) (c : Call) → AnswerRows at c (leaves (unfit_of at.session) at.flash c.reply)
unfolding unfit_of
unfit_rows at c =
    record {
      stalled = λ h. absurd (omega arith);
      unfit = λ _. record { quiet = record { count = refl; flash = refl; reply = refl }; session = refl };
      faulted = λ h. absurd (omega arith);
      reset_asked = λ h. absurd (omega arith);
    }

-- a call that the first test refuses
unready :
    (at : Site) (c : Call) → ready at.session (length at.flash) c.setup (length c.bytes) (length c.reply) ≡ false
    → called step_of at c ≡ leaves (unfit_of at.session) at.flash c.reply
unfolding called step_of decided_of settled job_done
unready at c e = rw e

pub refused_holds : Refused step_of
refused_holds at c = go (ready at.session (length at.flash) c.setup (length c.bytes) (length c.reply)) refl
  where
    go :
        (t : Bool) → ready at.session (length at.flash) c.setup (length c.bytes) (length c.reply) ≡ t
        → AnswerRows at c (called step_of at c)
    go true e = prepared_rows at c (ready_prepared at c e)
    go false e = subst⁻¹ (AnswerRows at c) (unready at c e) (unfit_rows at c)

module _ (at : Site) (c : Call) where
  unprepared_unfit : (Prepared at c → ⊥) → heard (called step_of at c) ≡ 2
  unfolding called step_of decided_of settled job_done unfit_of
  unprepared_unfit n =
      pick (λ (x : Decided). heard (settled x at.flash c.bytes) ≡ 2)
      (ready at.session (length at.flash) c.setup (length c.bytes) (length c.reply)) _ _
      (λ e. absurd (n (ready_prepared at c e))) (λ _. refl)

  prepared_served : Prepared at c → heard (called step_of at c) ≡ 2 → ⊥
  unfolding called stored_of info_of bin_of stall_of fault_of reset_of getstatus_of getstate_of query_of answered upload_of
  prepared_served p =
      every_way at.session at.flash c.setup c.bytes c.reply (λ (l : Leaves). heard l ≡ 2 → ⊥)
      (record {
        unfits = λ e _. false≢true (sym e ∙ prepared_ready at c p);
        stalls = λ _ _ h. omega arith;
        faults = λ _ _ _ _ h. omega arith;
        unerased = λ _ _ _ _ h. omega arith;
        programs = λ _ _ _ _ h. omega arith;
        pieces = λ _ _ h. omega arith;
        closes = λ _ h. omega arith;
        reads = λ _ _ h. omega arith;
        checks = λ _ h. omega arith;
        erases = λ _ _ _ h. omega arith;
        informs = λ _ h. omega arith;
        bins = λ _ h. omega arith;
        resets = λ _ _ _ h. omega arith;
        uploads = λ _ _ h. omega arith;
        polls = λ _ _ h. omega arith;
        tells = λ _ _ h. omega arith;
        queries = λ _ _ h. omega arith;
        idles = λ _ h. omega arith;
      })

pub unfit_exactly_holds : UnfitExactly step_of
unfit_exactly_holds = record { unprepared = unprepared_unfit; prepared = prepared_served }

-- a prepared call goes on to form and state
pub goes_on :
    (at : Site) (c : Call) → Prepared at c
    → called step_of at c
    ≡ settled
    (asked_of (request_of c.setup) at.session at.flash (w_length c.setup) c.bytes c.reply) at.flash c.bytes
unfolding called step_of decided_of
goes_on at c p = rw (prepared_ready at c p)

unallowed_stalls : (at : Site) (c : Call) → Prepared at c → NoRequest at c → heard (called step_of at c) ≡ 1
unfolding stall_of
unallowed_stalls at c p none = ap heard (asks_stalled at c p none)

pub stalled_exactly_holds : StalledExactly step_of
stalled_exactly_holds =
    record { not_allowed = unallowed_stalls; allowed = λ at c r n form a h. ((refused_holds at c).stalled h).when r n form a }
