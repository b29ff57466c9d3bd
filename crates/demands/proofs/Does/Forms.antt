-- The form table is how a setup is read: a request in form is that request, and what is no request in form is none. Assumes nothing.
use Prim.Native.Nat.{ℕ, ◌≤◌}
use mathlib.Core.Bool.{Bool, true, false, not, ◌&&◌, false≢true}
use mathlib.Core.List.{List}
use mathlib.Core.Logic.{◌⊎◌, inl, inr, ⊎_elim}
use mathlib.Core.Path.{◌≡◌, refl, sym, ap, ap₂, ◌∙◌}
use native.Mathlib.Omega.{arith}
use lib.Dec.{eqb}
use lib.ListN.{length}
use borrow.Author.Tests.{ne_eqb, eqb-true, eqb-false, not-true, le-leb}
use Rattle.session.specs.Codes.{known_state}
use Rattle.session.specs.Fit.{KnownState}
use Rattle.session.proofs.Laws.{cases_state}
use Rattle.session.proofs.Tests.{left_of, right_of, either}
use Rattle.numbers.specs.Numbers.{word_at}
use Rattle.answers.specs.Answers.{leaves}
use Rattle.answers.specs.Moves.{stall_of}
use Rattle.request.specs.Request.{setup_of, has_form, in_form, form_of, request_of, w_length, allowed_of, permitted}
use Rattle.std.specs.Prelude.{Option, Some, None}
use Rattle.request.specs.declared.Request.{Request}
use Rattle.request.proofs.Laws.{form_right, form_facts, dnload-data_asked}
use Rattle.loader.specs.Step.{served, step_of, settled}
use Rattle.demands.specs.Calls.{Call, Site, called}
use Rattle.demands.specs.Asked.{state_of, Prepared, Says, Form, Allowed, Asks, NoRequest}
use Rattle.demands.specs.Asked.Form.{dnload, upload, getstatus, clrstatus, getstate, abort, query}
use Rattle.demands.specs.Does.Covered.{Covered}
use Rattle.demands.proofs.Ground.Prepared.{setup_read, prepared_data_asked}
use Rattle.demands.proofs.Ground.Served.{sound_served, sound_stalled}

module _ (setup : List ℕ) (eight : length setup ≡ 8) where
  -- what the parts of eight setup bytes are
  said :
      (kind number n : ℕ) → Says setup kind number n → setup_of setup
      ≡ record { kind = kind; number = number; value = word_at setup 2; index = 0; length = n }
  said kind number n s = setup_read setup eight ∙ rw (s.typed, s.numbered, s.no_index, s.long)

  pub form_request : (r : Request) (n : ℕ) → Form setup n r → request_of setup ≡ Some r
  unfolding form_of
  form_request Request.Dnload n (dnload s few) = ap form_of (said 0x21 1 n s) ∙ rw (le-leb 0 n (omega arith), le-leb n 1024 few)
  form_request Request.Upload n (upload s some few) = ap form_of (said 0xA1 2 n s) ∙ rw (le-leb 1 n some, le-leb n 1024 few)
  form_request Request.GetStatus n (getstatus s e) = ap form_of (said 0xA1 3 n s) ∙ rw e
  form_request Request.ClrStatus n (clrstatus s e) = ap form_of (said 0x21 4 n s) ∙ rw e
  form_request Request.GetState n (getstate s e) = ap form_of (said 0xA1 5 n s) ∙ rw e
  form_request Request.Abort n (abort s e) = ap form_of (said 0x21 6 n s) ∙ rw e
  form_request Request.Query n (query s e v) = ap form_of (said 0xA1 0x42 n s) ∙ rw (e, v)

  pub form_length : (r : Request) (n : ℕ) → Form setup n r → w_length setup ≡ n
  form_length Request.Dnload n (dnload s few) = ap (λ x. x.length) (said 0x21 1 n s)
  form_length Request.Upload n (upload s some few) = ap (λ x. x.length) (said 0xA1 2 n s)
  form_length Request.GetStatus n (getstatus s e) = ap (λ x. x.length) (said 0xA1 3 n s)
  form_length Request.ClrStatus n (clrstatus s e) = ap (λ x. x.length) (said 0x21 4 n s)
  form_length Request.GetState n (getstate s e) = ap (λ x. x.length) (said 0xA1 5 n s)
  form_length Request.Abort n (abort s e) = ap (λ x. x.length) (said 0x21 6 n s)
  form_length Request.Query n (query s e v) = ap (λ x. x.length) (said 0xA1 0x42 n s)

  -- and back: what is read as a request is in form
  module _ (kind number least most : ℕ) (e : has_form (setup_of setup) kind number least most ≡ true) where
    says : Says setup kind number (w_length setup)
    says =
        let f = form_facts (setup_of setup) kind number least most e in
        let read = sym (setup_read setup eight) in
        record {
          typed = ap (λ x. x.kind) read ∙ f.0;
          numbered = ap (λ x. x.number) read ∙ f.1;
          no_index = ap (λ x. x.index) read ∙ f.2;
          long = ap (λ x. x.length) read;
        }

    least_said : least ≤ w_length setup
    least_said = (form_facts (setup_of setup) kind number least most e).3

    most_said : w_length setup ≤ most
    most_said = (form_facts (setup_of setup) kind number least most e).4

  in_form_lem : (r : Request) → in_form r (setup_of setup) ≡ true → Form setup (w_length setup) r
  in_form_lem Request.Dnload e = dnload (says 0x21 1 0 1024 e) (most_said 0x21 1 0 1024 e)
  in_form_lem Request.Upload e = upload (says 0xA1 2 1 1024 e) (least_said 0xA1 2 1 1024 e) (most_said 0xA1 2 1 1024 e)
  in_form_lem Request.GetStatus e = getstatus (says 0xA1 3 6 6 e) (omega (arith, least_said 0xA1 3 6 6 e, most_said 0xA1 3 6 6 e))
  in_form_lem Request.ClrStatus e = clrstatus (says 0x21 4 0 0 e) (omega (arith, most_said 0x21 4 0 0 e))
  in_form_lem Request.GetState e = getstate (says 0xA1 5 1 1 e) (omega (arith, least_said 0xA1 5 1 1 e, most_said 0xA1 5 1 1 e))
  in_form_lem Request.Abort e = abort (says 0x21 6 0 0 e) (omega (arith, most_said 0x21 6 0 0 e))
  in_form_lem Request.Query e =
      let q = has_form (setup_of setup) 0xA1 0x42 4 4 in
      let v = eqb (setup_of setup).value 0x23 in
      let h = left_of q v e in
      query (says 0xA1 0x42 4 4 h) (omega (arith, least_said 0xA1 0x42 4 4 h, most_said 0xA1 0x42 4 4 h))
      (ap (λ x. x.value) (sym (setup_read setup eight)) ∙ eqb-true _ _ (right_of q v e))

  pub request_form : (r : Request) → request_of setup ≡ Some r → Form setup (w_length setup) r
  request_form r e = in_form_lem r (form_right (setup_of setup) r e)

-- the states that the table's last column names
pub allowed_told : (r : Request) (n state : ℕ) → KnownState state → Allowed r n state → allowed_of r n state ≡ true
unfolding allowed_of
allowed_told Request.Dnload n state k (inl a) = rw (a.0, ne_eqb n 0 (λ e. omega (arith, e, a.1)))
allowed_told Request.Dnload n state k (inr a) = rw a
allowed_told Request.Upload n state k (inl a) = rw a
allowed_told Request.Upload n state k (inr a) = rw a
allowed_told Request.GetStatus n state k a = cases_state state k
allowed_told Request.ClrStatus n state k a = rw a
allowed_told Request.GetState n state k a = cases_state state k
allowed_told Request.Abort n state k a = rw (cases_state state k, ne_eqb state 10 a)
allowed_told Request.Query n state k a = cases_state state k

pub told_allowed : (r : Request) (n state : ℕ) → allowed_of r n state ≡ true → Allowed r n state
unfolding allowed_of
told_allowed Request.Dnload n state e =
    let first = eqb state 2 && not (eqb n 0) in
    ⊎_elim
    (λ h.
    let some = eqb-false n 0 (not-true (eqb n 0) (right_of (eqb state 2) (not (eqb n 0)) h)) in
    inl (eqb-true state 2 (left_of (eqb state 2) (not (eqb n 0)) h), omega arith))
    (λ h. inr (eqb-true state 5 h))
    (either first (eqb state 5) e)
told_allowed Request.Upload n state e =
    ⊎_elim (λ h. inl (eqb-true state 2 h)) (λ h. inr (eqb-true state 9 h)) (either (eqb state 2) (eqb state 9) e)
told_allowed Request.GetStatus n state e = tt
told_allowed Request.ClrStatus n state e = eqb-true state 10 e
told_allowed Request.GetState n state e = tt
told_allowed Request.Abort n state e = eqb-false state 10 (not-true (eqb state 10) (right_of (known_state state) (not (eqb state 10)) e))
told_allowed Request.Query n state e = tt

-- what an allowed request in form leaves
pub asks_served :
    (at : Site) (c : Call) (r : Request) (n : ℕ) → Asks at c r n → Allowed r n at.session.phase.state.0
    → called step_of at c ≡ settled (served r at.session at.flash n c.bytes c.reply) at.flash c.bytes
asks_served at c r n k a =
    let s = at.session in
    let is = form_request c.setup k.prepared.setup_bytes r n k.form in
    let long = form_length c.setup k.prepared.setup_bytes r n k.form in
    let told = allowed_told r n s.phase.state.0 k.prepared.rules.state a in
    sound_served at c k.prepared r is (ap (λ (m : ℕ). allowed_of r m s.phase.state.0) long ∙ told)
    ∙ ap (λ (m : ℕ). settled (served r s at.flash m c.bytes c.reply) at.flash c.bytes) long

-- what no allowed request in form is leaves
pub asks_stalled :
    (at : Site) (c : Call) → Prepared at c → NoRequest at c → called step_of at c ≡ leaves (stall_of at.session) at.flash c.reply
asks_stalled at c k none =
    go (request_of c.setup) refl (permitted (request_of c.setup) (w_length c.setup) at.session.phase.state.0) refl
  where
    go :
        (q : Option Request) → request_of c.setup ≡ q
        → (t : Bool) → permitted q (w_length c.setup) at.session.phase.state.0 ≡ t
        → called step_of at c ≡ leaves (stall_of at.session) at.flash c.reply
    go q e false h = sound_stalled at c k (rw e h)
    go (Some r) e true h =
        let told = told_allowed r (w_length c.setup) at.session.phase.state.0 h in
        absurd (none r (w_length c.setup) (request_form c.setup k.setup_bytes r e) told)
    go None e true h = absurd (false≢true h)

-- a DNLOAD brings as many bytes as it says
pub asks_brings : (at : Site) (c : Call) (n : ℕ) → Asks at c Request.Dnload n → length c.bytes ≡ n
asks_brings at c n k =
    prepared_data_asked at c k.prepared
    ∙ dnload-data_asked c.setup (form_request c.setup k.prepared.setup_bytes Request.Dnload n k.form)
    ∙ form_length c.setup k.prepared.setup_bytes Request.Dnload n k.form

-- a prepared call that the table does not allow is no request
pub no_request :
    (at : Site) (c : Call) → Prepared at c → permitted (request_of c.setup) (w_length c.setup) (state_of at) ≡ false
    → NoRequest at c
no_request at c k h x n form a =
    let is = form_request c.setup k.setup_bytes x n form in
    let long = form_length c.setup k.setup_bytes x n form in
    let yes = allowed_told x n (state_of at) k.rules.state a in
    false≢true (sym h ∙ ap₂ (λ (y : Option Request) (m : ℕ). permitted y m (state_of at)) is long ∙ yes)

-- a prepared call asks for an allowed request, or for none
pub Covered_holds : Covered
Covered_holds at c k = go (request_of c.setup) refl (permitted (request_of c.setup) (w_length c.setup) (state_of at)) refl
  where
    go :
        (q : Option Request) → request_of c.setup ≡ q → (t : Bool) → permitted q (w_length c.setup) (state_of at) ≡ t
        → ((r : Request) × (n : ℕ) × Asks at c r n × Allowed r n (state_of at)) ⊎ NoRequest at c
    go (Some r) e true h =
        let told = told_allowed r (w_length c.setup) (state_of at) h in
        inl (r, w_length c.setup, record { prepared = k; form = request_form c.setup k.setup_bytes r e }, told)
    go None e true h = absurd (false≢true h)
    go q e false h = inr (no_request at c k (rw e h))
