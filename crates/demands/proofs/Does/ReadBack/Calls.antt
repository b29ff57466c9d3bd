-- The calls of the host that reads back: each is ready where the session is fit, is the request that it is meant to be, and is
-- served where the state allows it. Assumes nothing.
use Prim.Native.Nat.{ℕ, ◌+◌, ◌*◌, ◌/◌, ◌%◌, ◌≤◌}
use mathlib.Core.Bool.{Bool, true, false, cond}
use mathlib.Core.List.{List, []}
use mathlib.Core.Path.{◌≡◌, refl, sym, ap, ap₂, ◌∙◌}
use native.Mathlib.Omega.{arith}
use borrow.Author.Tests.{le-leb}
use lib.ListN.{length, take}
use Rattle.session.specs.declared.Session.{Session}
use Rattle.request.specs.declared.Request.{Request}
use Rattle.std.specs.Prelude.{Option, Some}
use Rattle.request.specs.Request.{setup_of, form_of, request_of, w_length, data_asked, allowed_of}
use Rattle.answers.specs.declared.Answer.{Answer}
use Rattle.answers.specs.Answers.{Leaves, outcome, leaves}
use Rattle.answers.specs.Moves.{to_idle, taken_of}
use Rattle.jobs.specs.Job.{job_done}
use Rattle.command.specs.Ready.{Ready}
use Rattle.command.specs.Download.{dnload_of}
use Rattle.loader.specs.Reply.{getstatus_of}
use Rattle.loader.specs.Upload.{upload_of}
use Rattle.loader.specs.Step.{ready, served, asked_of, step_of, decided_of, settled, Decided}
use Rattle.demands.specs.Calls.{Call, Site, called, after_call}
use Rattle.demands.proofs.Ground.Prepared.{prepared_from, prepared_ready}
use Rattle.demands.specs.Does.ReadBack.{Host, asks, replied, was_taken, ran_after, run}
use Rattle.demands.specs.Does.ReadBack.{setup_for, dnload, upload, poll, abort}
use Rattle.demands.proofs.Ground.Finished.{with_flash, finished}

-- a session and the flash that it speaks of
abbrev pub site_of : Session → List ℕ → Site
site_of s f = record { session = s; flash = f }

-- a taken call: the host goes on at what it leaves
pub on_taken :
    {A : Type 0} (at : Site) (c : Call) (go : List ℕ → Host A) (n : ℕ) (s : Session) (f reply : List ℕ)
    → called step_of at c ≡ leaves (outcome Answer.Taken n s) f reply
    → run step_of at (asks c go) ≡ run step_of (site_of s f) (go (take n reply))
unfolding run after_call replied was_taken ran_after
on_taken {A} at c go n s f reply e =
    ap (λ (l : Leaves). ran_after (was_taken l) (run step_of (site_of l.session l.flash) (go (replied l)))) e

-- the setup of a DNLOAD of so many bytes
module _ (n : ℕ) (few : n ≤ 1024) where
  two_bytes : n % 256 + n / 256 % 256 * 256 ≡ n
  two_bytes = omega arith

  pub dnload-length : w_length (setup_for 0x21 1 n) ≡ n
  unfolding setup_of setup_for
  dnload-length = two_bytes

  pub dnload-data_asked : data_asked (setup_for 0x21 1 n) ≡ n
  unfolding data_asked setup_of setup_for
  dnload-data_asked = two_bytes

  pub dnload_request : request_of (setup_for 0x21 1 n) ≡ Some Request.Dnload
  unfolding form_of setup_of setup_for
  dnload_request = rw (two_bytes, le-leb 0 n (omega arith), le-leb n 1024 few)

-- a pick whose test holds
pub is_yes : {A : Type 0} (t : Bool) (x y : A) → t ≡ true → cond t x y ≡ x
is_yes t x y e = ap (λ (b : Bool). cond b x y) e

pub is_no : {A : Type 0} (t : Bool) (x y : A) → t ≡ false → cond t x y ≡ y
is_no t x y e = ap (λ (b : Bool). cond b x y) e

-- a ready call of an allowed request is served
module _
    (s : Session) (f setup d reply : List ℕ) (r : Ready s f) (room : 1024 ≤ length reply)
    (eight : length setup ≡ 8) (brought : length d ≡ data_asked setup) where
  is_ready : ready s (length f) setup (length d) (length reply) ≡ true
  is_ready =
      let c : Call = record { setup = setup; bytes = d; reply = reply } in
      prepared_ready (site_of s f) c (prepared_from (site_of s f) c eight room r.sized brought r.fit)

  pub is_served :
      (q : Request) (n : ℕ) → request_of setup ≡ Some q → w_length setup ≡ n → allowed_of q n s.phase.state.0 ≡ true
      → step_of s f setup d reply ≡ settled (served q s f n d reply) f d
  unfolding step_of decided_of
  is_served q n e l a =
      ap (λ (x : Decided). settled x f d)
      (is_yes _ _ _ is_ready ∙ ap₂ (λ (x : Option Request) (m : ℕ). asked_of x s f m d reply) e l ∙ is_yes _ _ _ a)

-- the host's calls
module _ (s : Session) (f lent : List ℕ) (r : Ready s f) (room : 1024 ≤ length lent) where
  pub dnload-called :
      (d : List ℕ) → length d ≤ 1024 → allowed_of Request.Dnload (length d) s.phase.state.0 ≡ true
      → called step_of (site_of s f) (dnload lent d) ≡ finished (dnload_of s f d) f d lent
  unfolding called dnload served setup_for
  dnload-called d few a =
      is_served s f (setup_for 0x21 1 (length d)) d lent r room refl (sym (dnload-data_asked (length d) few)) Request.Dnload (length d)
      (dnload_request (length d) few) (dnload-length (length d) few) a

  pub upload-called :
      allowed_of Request.Upload 1024 s.phase.state.0 ≡ true
      → called step_of (site_of s f) (upload lent) ≡ with_flash (upload_of s f 1024 lent) f
  unfolding called upload served settled job_done setup_for setup_of form_of data_asked
  upload-called a = is_served s f (setup_for 0xA1 2 1024) [] lent r room refl refl Request.Upload 1024 refl refl a

  pub poll-called :
      allowed_of Request.GetStatus 6 s.phase.state.0 ≡ true
      → called step_of (site_of s f) (poll lent) ≡ with_flash (getstatus_of s lent) f
  unfolding called poll served settled job_done setup_for setup_of form_of data_asked
  poll-called a = is_served s f (setup_for 0xA1 3 6) [] lent r room refl refl Request.GetStatus 6 refl refl a

  pub abort-called :
      allowed_of Request.Abort 0 s.phase.state.0 ≡ true
      → called step_of (site_of s f) (abort lent) ≡ leaves (taken_of (to_idle s)) f lent
  unfolding called abort served settled job_done setup_for setup_of form_of data_asked
  abort-called a = is_served s f (setup_for 0x21 6 0) [] lent r room refl refl Request.Abort 0 refl refl a
