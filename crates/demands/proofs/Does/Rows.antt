-- Each row of the request table: what the definition of its request says, once the state is known. Assumes nothing.
use Prim.Native.Nat.{ℕ, ◌+◌, ◌-◌, ◌≤◌, ◌<◌, min}
use mathlib.Core.List.{[], ◌∷◌, ◌++◌}
use mathlib.Core.Logic.{◌⊎◌, inl, inr}
use mathlib.Core.Path.{◌≡◌, refl, sym, ap, ap₂, ◌∙◌}
use native.Mathlib.Omega.{arith}
use lib.ListN.{length, drop}
use borrow.Author.Tests.{eq-eqb, ne_eqb, lt-ltb, le-ltb}
use Rattle.session.specs.Session.{phase_of, with_phase, stream_length}
use Rattle.session.proofs.Laws.{end_in_flash}
use Rattle.request.specs.declared.Request.{Request}
use Rattle.stream.specs.Stream.{next_of}
use Rattle.stream.proofs.Laws.{next_length}
use Rattle.answers.specs.declared.Answer.{Answer}
use Rattle.answers.specs.Answers.{Leaves, outcome, leaves}
use Rattle.answers.specs.Moves.{fault_of, stall_of}
use Rattle.jobs.specs.Job.{job_done}
use Rattle.command.specs.Download.{piece_of, closed_of}
use Rattle.loader.specs.Reply.{answered, entered, polled, poll_time, getstatus_of, getstate_of, query_of}
use Rattle.loader.specs.Upload.{place_of, answer_of, upload_ends, uploading_at, uploaded_of, upload_of}
use Rattle.loader.specs.Step.{served, step_of, settled}
use Rattle.demands.specs.Calls.{Call, Site, called}
use Rattle.demands.specs.Asked.{state_of, Prepared, Asks, NoRequest}
use Rattle.demands.specs.Does.Rows.{Unchanged, Moves, Reports, StartsAt, next_bytes, Uploads, Rows}
use Rattle.demands.proofs.Does.Forms.{asks_served, asks_stalled, asks_brings}
use Rattle.demands.proofs.Does.Outcomes.{so_hands, so_unchanged, so_moves}
use Rattle.demands.proofs.Does.Downloads.{piece_leaves}
use Rattle.demands.proofs.Ground.Finished.{with_flash}

-- DNLOAD of no bytes
module _ (at : Site) (c : Call) (k : Asks at c Request.Dnload 0) (loading : state_of at ≡ 5) where
  closes : called step_of at c ≡ leaves (closed_of at.session) at.flash c.reply
  unfolding piece_of settled job_done
  closes = piece_leaves at c 0 k loading ∙ rw (asks_brings at c 0 k)

  close_done : at.session.down.left ≡ 0 → Moves step_of at c 0 [] 6 0
  unfolding closed_of
  close_done e = so_moves at c Answer.Taken [] 6 0 (closes ∙ rw e)

  close_missing : 0 < at.session.down.left → Moves step_of at c 3 [] 10 0x09
  unfolding closed_of fault_of
  close_missing lt = so_moves at c Answer.Faulted [] 10 0x09 (closes ∙ rw (ne_eqb at.session.down.left 0 (λ e. omega (arith, e, lt))))

-- UPLOAD
module _ (at : Site) (c : Call) (n place : ℕ) (k : Asks at c Request.Upload n) where
  count_is : length (next_bytes at place n) ≡ min n (stream_length at.session.up - place)
  unfolding next_of
  count_is =
      let s = at.session in
      let fit = k.prepared.rules in
      next_length s.board s.unerased s.up at.flash
      (omega (arith, fit.range_to, k.prepared.flash_length, end_in_flash s.board)) place n

  place_is : StartsAt at place → place_of at.session ≡ place
  unfolding place_of
  place_is (inl e) = rw e.0 (sym e.1)
  place_is (inr e) = rw e.0 (sym e.1)

  uploads :
      StartsAt at place → called step_of at c
      ≡ with_flash (answered (uploaded_of at.session n (length (next_bytes at place n))) (next_bytes at place n) c.reply) at.flash
  unfolding served settled job_done upload_of answer_of next_of
  uploads e =
      let s = at.session in
      asks_served at c Request.Upload n k (allowed e)
      ∙ ap (λ (p : ℕ). with_flash (answered (uploaded_of s n (length (next_bytes at p n))) (next_bytes at p n) c.reply) at.flash)
      (place_is e)
    where
      allowed : StartsAt at place → (state_of at ≡ 2) ⊎ (state_of at ≡ 9)
      allowed (inl e) = inl e.0
      allowed (inr e) = inr e.0

  upload-count : StartsAt at place → (called step_of at c).count ≡ min n (stream_length at.session.up - place)
  unfolding answered
  upload-count e = ap (λ (l : Leaves). l.count) (uploads e) ∙ count_is

  upload_ends_lem : StartsAt at place → n < 1024 → Moves step_of at c 0 (next_bytes at place n) 2 0
  unfolding uploaded_of upload_ends answered
  upload_ends_lem e lt = so_moves at c Answer.Taken (next_bytes at place n) 2 0 (uploads e ∙ rw (lt-ltb n 1024 lt))

  upload_goes_on : StartsAt at place → 1024 ≤ n → Uploads step_of at c place n
  unfolding uploaded_of upload_ends answered uploading_at
  upload_goes_on e le =
      let s = at.session in
      let b = next_bytes at place n in
      let t = uploading_at s (place + min n (stream_length s.up - place)) in
      let l : called step_of at c ≡ leaves (outcome Answer.Taken (length b) t) at.flash (b ++ drop (length b) c.reply) =
      uploads e
      ∙ rw (le-ltb n 1024 le)
      (ap₂ (λ (p m : ℕ). leaves (outcome Answer.Taken (length b) (uploading_at s (p + m))) at.flash (b ++ drop (length b) c.reply))
      (place_is e) count_is)
      in
      so_hands at c Answer.Taken b t at.flash l refl

-- GETSTATUS
module _ (at : Site) (c : Call) (k : Asks at c Request.GetStatus 6) where
  reports : (n : ℕ) → entered at.session.phase ≡ n → Reports step_of at c n
  unfolding served settled job_done getstatus_of answered polled poll_time
  reports n e =
      let s = at.session in
      let status = s.phase.status.0 in
      let b = status ∷ 0 ∷ 0 ∷ 0 ∷ n ∷ 0 ∷ [] in
      let t = with_phase s (phase_of n status 2) in
      let l : called step_of at c ≡ leaves (outcome Answer.Taken 6 t) at.flash (b ++ drop 6 c.reply) =
      asks_served at c Request.GetStatus 6 k tt
      ∙ ap
      (λ (m : ℕ).
      leaves (outcome Answer.Taken 6 (with_phase s (phase_of m status 2))) at.flash
      ((status ∷ 0 ∷ 0 ∷ 0 ∷ m ∷ 0 ∷ []) ++ drop 6 c.reply)) e
      in
      so_hands at c Answer.Taken b t at.flash l refl

  from_sync : state_of at ≡ 3 → Reports step_of at c at.session.phase.after.0
  unfolding entered
  from_sync e = reports _ (rw e)

  from_manifest : state_of at ≡ 6 → Reports step_of at c 2
  unfolding entered
  from_manifest e = reports 2 (rw e)

  from_others : (state_of at ≡ 3 → ⊥) → (state_of at ≡ 6 → ⊥) → Reports step_of at c (state_of at)
  unfolding entered
  from_others n3 n6 = reports _ (rw (ne_eqb (state_of at) 3 n3, ne_eqb (state_of at) 6 n6))

-- the short rows
module _ (at : Site) (c : Call) where
  cleared : Asks at c Request.ClrStatus 0 → state_of at ≡ 10 → Moves step_of at c 0 [] 2 0
  unfolding served settled job_done
  cleared k e = so_moves at c Answer.Taken [] 2 0 (asks_served at c Request.ClrStatus 0 k e)

  aborted : Asks at c Request.Abort 0 → (state_of at ≡ 10 → ⊥) → Moves step_of at c 0 [] 2 0
  unfolding served settled job_done
  aborted k n = so_moves at c Answer.Taken [] 2 0 (asks_served at c Request.Abort 0 k n)

  told_state : Asks at c Request.GetState 1 → Unchanged step_of at c 0 (state_of at ∷ [])
  unfolding served settled job_done getstate_of answered
  told_state k = so_unchanged at c Answer.Taken (state_of at ∷ []) (asks_served at c Request.GetState 1 k tt)

  queried : Asks at c Request.Query 4 → Unchanged step_of at c 0 (0x4D ∷ 0x4C ∷ 0x01 ∷ 0x20 ∷ [])
  unfolding served settled job_done query_of answered
  queried k = so_unchanged at c Answer.Taken (0x4D ∷ 0x4C ∷ 0x01 ∷ 0x20 ∷ []) (asks_served at c Request.Query 4 k tt)

  stalls : Prepared at c → NoRequest at c → (state_of at ≡ 10 → ⊥) → Moves step_of at c 1 [] 10 0x0F
  unfolding stall_of
  stalls k none n = so_moves at c Answer.Stalled [] 10 0x0F (asks_stalled at c k none ∙ rw (ne_eqb (state_of at) 10 n))

  stalls_in_error : Prepared at c → NoRequest at c → state_of at ≡ 10 → Unchanged step_of at c 1 []
  unfolding stall_of
  stalls_in_error k none e = so_unchanged at c Answer.Stalled [] (asks_stalled at c k none ∙ rw (eq-eqb (state_of at) 10 e))

pub Rows_hold : Rows step_of
Rows_hold at c =
    record {
      close = close_done at c;
      close_missing = close_missing at c;
      upload-count = upload-count at c;
      upload_ends = upload_ends_lem at c;
      upload_goes_on = upload_goes_on at c;
      getstatus_sync = from_sync at c;
      getstatus_manifest = from_manifest at c;
      getstatus_else = from_others at c;
      clrstatus = cleared at c;
      getstate = told_state at c;
      abort = aborted at c;
      query = queried at c;
      stalled = stalls at c;
      stalled_in_error = stalls_in_error at c;
    }
