-- What the loader's parts lean on: an answer from its count and its reply, where an upload stands, what a start and a call have been
-- found to be. Assumes nothing.
use Prim.Native.Nat.{ℕ, ◌+◌, ◌≤◌, ◌<◌, ◌^◌}
use mathlib.Core.Bool.{Bool, true, false, not, ◌&&◌, and-false}
use mathlib.Core.List.{List, ◌++◌}
use mathlib.Core.Logic.{inl, inr, ⊎_elim}
use mathlib.Core.Path.{◌≡◌, refl, sym, ap, ap₂, subst, subst⁻¹, ◌∙◌}
use native.Mathlib.Omega.{arith}
use borrow.Author.Tests.{eqb-true, leb-true}
use lib.Dec.{eqb, leb}
use lib.ListN.{length, drop}
use Rattle.flash.specs.Flash.{start_of, ends_at, carried}
use Rattle.flash.proofs.Reaching.{ends_at_lem}
use Rattle.sums.specs.Sum.{Split}
use Rattle.session.specs.Codes.{idle, download_idle, upload_idle}
use Rattle.session.specs.Session.{allowed_split, board_of, app_end, stream_length}
use Rattle.session.specs.Rules.{fit_of, split_rule}
use Rattle.session.specs.declared.Board.{Board}
use Rattle.session.specs.declared.Session.{Session}
use Rattle.session.proofs.Laws.{fit_facts, split_facts, end_in_flash, end_after_start, stream_most}
use Rattle.session.proofs.Tests.{left_of, right_of, either, pick_most}
use Rattle.request.specs.Request.{setup_of, form_of, request_of, w_length, data_asked, allowed_of}
use Rattle.request.specs.declared.Request.{Request}
use Rattle.request.specs.declared.Setup.{Setup}
use Rattle.request.proofs.Laws.{upload-length}
use Rattle.std.specs.Prelude.{Option, Some, None, ◌↔◌, IsSome}
use Rattle.std.specs.Bool.{then_some}
use Rattle.std.specs.Option.{is_some}
use Rattle.stream.proofs.Laws.{next_length}
use Rattle.answers.specs.Moves.{stall_of}
use Rattle.answers.specs.declared.Answer.{Answer}
use Rattle.answers.specs.declared.Heard.{Heard}
use Rattle.answers.specs.declared.Outcome.{Outcome}
use Rattle.answers.specs.Answers.{Done, Replied, outcome, replied, leaves, heard_at}
use Rattle.jobs.specs.declared.Decision.{Decision}
use Rattle.jobs.specs.declared.Job.{Job}
use Rattle.jobs.specs.Job.{Plan, decision_of, planned, Can, stores_for, sums_done, summed, job_done}
use Rattle.jobs.proofs.Laws.{only_at, stores_made, can_reaches, job_left}
use Rattle.command.specs.Ready.{Ready, Loading}
use Rattle.command.specs.Download.{dnload_of}
use Rattle.command.proofs.Laws.{pick, dnload_can}
use Rattle.loader.specs.Reply.{answered}
use Rattle.loader.specs.Upload.{place_of, answer_of}
use Rattle.loader.specs.Step.{startable, ready, Decided, decided, only, answers, served, asked_of, decided_of, with_reply, settled, step_of}
use Rattle.loader.specs.Step.{stores_of}

-- an answer of n bytes
pub answered-by :
    (s : Session) (bytes before after : List ℕ) (n : ℕ) → n ≡ length bytes → after ≡ bytes ++ drop (length bytes) before
    → replied (outcome Answer.Taken n s) after ≡ answered s bytes before
unfolding answered
answered-by s bytes before after n p q = ap₂ (λ (k : ℕ) (l : List ℕ). replied (outcome Answer.Taken k s) l) p q

-- where an upload stands, and how far an answer takes it
module _ (s : Session) (f : List ℕ) (r : Ready s f) where
  pub place_in_stream : place_of s ≤ stream_length s.up
  unfolding place_of
  place_in_stream = pick_most (eqb s.phase.state.0 upload_idle) (fit_facts s r.fit).in_stream (omega arith)

  pub answer_near : (asked n : ℕ) → asked ≤ 1024 → n ≡ length (answer_of s f asked) → place_of s + n < 2 ^ 32
  unfolding answer_of
  answer_near asked n few e =
      let fit = fit_facts s r.fit in
      let far = stream_most s fit in
      let here = place_in_stream in
      let ends = end_in_flash s.board in
      let long = next_length s.board s.unerased s.up f (omega (arith, fit.range_to, r.sized)) (place_of s) asked in
      omega arith

-- a start that is allowed
module _ (n : ℕ) (b : Board) (e : startable n b.a.0 b.b.0 ≡ true) where
  pub start-split : split_rule b ≡ true
  unfolding startable
  start-split = left_of (split_rule b) (eqb n (start_of b.b.0)) e

  pub start_sized : n ≡ start_of b.b.0
  unfolding startable
  start_sized = eqb-true _ _ (right_of (split_rule b) (eqb n (start_of b.b.0)) e)

  pub start_ground : (f : List ℕ) (first end : ℕ) → n ≡ length f → first ≡ b.a.0 → end ≡ app_end b → Split f first end
  start_ground f first end l p q =
      let ends = end_in_flash b in
      let starts = end_after_start b start-split in
      let facts = split_facts b start-split in
      let sized = start_sized in
      record { ordered = omega arith; counted = omega arith; inside = omega arith }

-- a test among others, where the others leave no difference to another test
pub same_behind : (t x y : Bool) → (t ≡ true → x ≡ y) → (t && x) ≡ (t && y)
same_behind true x y h = h refl
same_behind false x y h = refl

pub same_before : (p q t x y : Bool) → (t ≡ true → x ≡ y) → (p && x && q && t) ≡ (p && y && q && t)
same_before p q true x y h = ap (λ (z : Bool). p && z && q && true) (h refl)
same_before p q false x y h = and-false (p && x && q) ∙ sym (and-false (p && y && q))

-- where an allowed B is judged, the checked conversion and the product are one
pub split_ends : (a b n : ℕ) → allowed_split a b ≡ true → ends_at b n ≡ eqb n (start_of b)
split_ends a b n e = let k = split_facts (board_of a b 0 0) e in ends_at_lem b n (omega arith)

pub fit_ends : (s : Session) (n : ℕ) → fit_of s ≡ true → ends_at s.board.b.0 n ≡ eqb n (start_of s.board.b.0)
fit_ends s n e = let k = (fit_facts s e).few_blocks in ends_at_lem s.board.b.0 n (omega arith)

-- a pick of something or nothing is something where its test holds
is_some-then_some : {A : Type 0} (t : Bool) (x : A) → is_some (then_some t x) ≡ t
is_some-then_some true x = refl
is_some-then_some false x = refl

pub then_some-IsSome :
    {A : Type 0} (o : Option A) (t u : Bool) (x : A) → o ≡ then_some t x → t ≡ u → IsSome o ↔ (u ≡ true)
then_some-IsSome o t u x e k =
    let is = ap is_some e ∙ is_some-then_some t x ∙ k in
    (λ h. sym is ∙ h, λ h. is ∙ h)

-- a call that is ready
module _ (s : Session) (f setup : List ℕ) (data_length room : ℕ) (e : ready s (length f) setup data_length room ≡ true) where
  setup_ok : Bool
  setup_ok = eqb (length setup) 8

  room_ok : Bool
  room_ok = setup_ok && leb 1024 room

  flash_ok : Bool
  flash_ok = room_ok && eqb (length f) (start_of s.board.b.0)

  data_ok : Bool
  data_ok = flash_ok && eqb data_length (data_asked setup)

  pub ready_fit : Ready s f
  unfolding ready data_ok flash_ok room_ok setup_ok
  ready_fit =
      let d = left_of data_ok (fit_of s) e in
      let l = left_of flash_ok _ d in
      record { fit = right_of data_ok (fit_of s) e; sized = eqb-true _ _ (right_of room_ok _ l) }

  pub ready_room : 1024 ≤ room
  unfolding ready data_ok flash_ok room_ok setup_ok
  ready_room =
      let l = left_of flash_ok _ (left_of data_ok (fit_of s) e) in
      leb-true _ _ (right_of setup_ok _ (left_of room_ok _ l))

-- a state that allows DNLOAD
pub allowed_loading : (s : Session) (asked : ℕ) → allowed_of Request.Dnload asked s.phase.state.0 ≡ true → Loading s
unfolding allowed_of
allowed_loading s asked e =
    record {
      in_two =
          ⊎_elim (λ h. inl (eqb-true _ _ (left_of (eqb s.phase.state.0 idle) (not (eqb asked 0)) h))) (λ h. inr (eqb-true _ _ h))
          (either (eqb s.phase.state.0 idle && not (eqb asked 0)) (eqb s.phase.state.0 download_idle) e);
    }

-- a request that is told is served as that request
pub as_told :
    (r q : Request) (s : Session) (f : List ℕ) (n : ℕ) (d b : List ℕ) (x : Decided) → r ≡ q → x ≡ served q s f n d b
    → x ≡ served r s f n d b
as_told r q s f n d b x told e = e ∙ sym (ap (λ (y : Request). served y s f n d b) told)

-- what is asked for, by the parts of the setup that were read, and whether the state allows it
module _ (s : Session) (f d b : List ℕ) (x : Decided) (p : Setup) (setup : List ℕ) (read : p ≡ setup_of setup) where
  asked : x ≡ asked_of (form_of p) s f p.length d b → x ≡ asked_of (request_of setup) s f (w_length setup) d b
  asked h = subst (λ (y : Setup). x ≡ asked_of (form_of y) s f y.length d b) read h

  pub asked_none : None ≡ form_of p → x ≡ only (stall_of s) b → x ≡ asked_of (request_of setup) s f (w_length setup) d b
  asked_none e h = asked (rw (← e) h)

  module _ (r : Request) (is : Some r ≡ form_of p) where
    pub asked_no :
        allowed_of r p.length s.phase.state.0 ≡ false → x ≡ only (stall_of s) b
        → x ≡ asked_of (request_of setup) s f (w_length setup) d b
    asked_no a h = asked (rw (← is, a) h)

    pub asked_yes :
        allowed_of r p.length s.phase.state.0 ≡ true → x ≡ served r s f p.length d b
        → x ≡ asked_of (request_of setup) s f (w_length setup) d b
    asked_yes a h = asked (rw (← is, a) h)

-- an UPLOAD that was read asks for few bytes
pub asked_few :
    (p : Setup) (setup : List ℕ) (r : Request) → p ≡ setup_of setup → Some r ≡ form_of p → r ≡ Request.Upload → p.length ≤ 1024
asked_few p setup r read is q =
    let told : request_of setup ≡ Some Request.Upload = ap form_of (sym read) ∙ sym is ∙ ap (λ (y : Request). Some y) q in
    omega (arith, (upload-length setup told).1, ap (λ (y : Setup). y.length) read)

-- what leaves flash alone, from its calls, with no reply and with one
module _ (s : Session) (x : Decision) (h : Heard) (b : List ℕ) (e : x ≡ decision_of h Job.Nothing) where
  pub only_told : (w : Outcome) → heard_at s h ≡ w → decided (planned s x) b ≡ only w b
  only_told w q = ap (λ (y : Plan). decided y b) (only_at s w h x e q)

  pub answer_told : (w : Replied) → replied (heard_at s h) b ≡ w → decided (planned s x) b ≡ answers w
  answer_told w q = ap (λ (y : Plan). decided y b) (ap (planned s) e) ∙ ap answers q

-- what is left once a decision is carried out and its sums are made
pub so_settled :
    (s : Session) (x : Decision) (o : Outcome) (f d g b : List ℕ) (w : Decided) → Can x.job s.board f d
    → g ≡ carried f (stores_for x.job d)
    → o ≡ summed (heard_at s x.heard) (sums_done x.job s.board s.sums g d)
    → decided (planned s x) b ≡ w
    → leaves o g b ≡ settled w f d
unfolding settled
so_settled s x o f d g b w can p e q =
    ap (λ (y : Outcome). leaves y g b) e
    ∙ ap (λ (y : Done). with_reply y b) (job_left x.job (heard_at s x.heard) f d g can p)
    ∙ ap (λ (y : Decided). settled y f d) q

-- what is decided can be carried out
module _ (s : Session) (f setup d reply : List ℕ) where
  -- an outcome that leaves flash alone asks for nothing
  Can_do : Decided → Type 0
  Can_do x = Can x.plan.job x.plan.outcome.session.board f d

  dnload_do : Ready s f → Loading s → Can_do (decided (dnload_of s f d) reply)
  unfolding Can_do
  dnload_do r l =
      let x = dnload_can s f d r l in
      subst⁻¹ (λ (b : Board). Can (dnload_of s f d).job b f d) x.board x.can

  served_do :
      (q : Request) → Ready s f → allowed_of q (w_length setup) s.phase.state.0 ≡ true
      → Can_do (served q s f (w_length setup) d reply)
  unfolding served Can_do
  served_do Request.Dnload r a = dnload_do r (allowed_loading s (w_length setup) a)
  served_do Request.Upload r a = tt
  served_do Request.GetStatus r a = tt
  served_do Request.ClrStatus r a = tt
  served_do Request.GetState r a = tt
  served_do Request.Abort r a = tt
  served_do Request.Query r a = tt

  asked_do : (q : Option Request) → Ready s f → Can_do (asked_of q s f (w_length setup) d reply)
  unfolding Can_do
  asked_do (Some q) r = pick Can_do (allowed_of q (w_length setup) s.phase.state.0) _ _ (λ a. served_do q r a) (λ _. tt)
  asked_do None r = tt

  pub decided_can :
      Can (decided_of s f setup d reply).plan.job (decided_of s f setup d reply).plan.outcome.session.board f d
  unfolding decided_of Can_do
  decided_can =
      pick Can_do (ready s (length f) setup (length d) (length reply)) _ _
      (λ e. asked_do (request_of setup) (ready_fit s f setup (length d) (length reply) e)) (λ _. tt)

  -- the same of a decision, once it is told that it is the one
  pub decision_can :
      (x : Decision) (b : List ℕ) → decided (planned s x) b ≡ decided_of s f setup d reply → Can x.job s.board f d
  decision_can x b e =
      subst⁻¹ (λ (y : Decided). Can y.plan.job y.plan.outcome.session.board f d) e decided_can

  -- the flash that a call leaves is that of its single stores, one after another
  pub step_stores : (step_of s f setup d reply).flash ≡ carried f (stores_of s f setup d reply)
  unfolding step_of settled job_done stores_of
  step_stores =
      let p = (decided_of s f setup d reply).plan in
      stores_made p.job f d (can_reaches p.job p.outcome.session.board f d decided_can)
