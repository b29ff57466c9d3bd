-- Laws of the session: fit is what its facts say, zeros are unfit, the fresh session is fit.
use Prim.Native.Nat.{ℕ, suc, ◌+◌, ◌*◌, ◌-◌, ◌^◌, ◌≤◌, ◌<◌}
use native.Mathlib.Decide.{ℕ_discrete, dec_lt}
use native.Mathlib.Omega.{arith}
use mathlib.Core.Path.{◌≡◌, refl, sym, ap, ap₂, ◌∙◌}
use mathlib.Core.Logic.{◌⊎◌, inl, inr, ⊎_elim}
use mathlib.Core.Bool.{Bool, true, false, not, cond, ◌&&◌, ◌||◌, false≢true}
use mathlib.Core.List.{List, [], ◌∷◌, map}
use lib.Dec.{eqb, leb, ltb}
use lib.ListN.{length, get_or}
use borrow.Author.Tests.{eqb-true, eqb-false, leb-true, ltb-true, eq-eqb, ne_eqb, le-leb, lt-ltb, le-ltb}
use Rattle.flash.specs.Flash.{block_size, start_of, in_reach, lies_in}
use Rattle.flash.proofs.Reaching.{lies_facts, facts_lie}
use Rattle.sums.specs.declared.Sums.{Sums}
use Rattle.sums.specs.Sum.{most_blocks}
use Rattle.session.specs.declared.Board.{Board}
use Rattle.session.specs.declared.Phase.{Phase}
use Rattle.session.specs.declared.Download.{Download}
use Rattle.session.specs.declared.Upload.{Upload}
use Rattle.session.specs.declared.Session.{Session}
use Rattle.session.specs.Codes.{idle, download_sync, download_idle, manifest_sync, upload_idle, error}
use Rattle.session.specs.Codes.{states, is_in, place_in, known_state, column_of}
use Rattle.session.specs.Codes.{ok, check_erased, address, not_done, vendor, stalled, error_status}
use Rattle.session.specs.Session.{app_end, no_download, down_of, with_unerased, with_sums, whole_upload, fresh_of, zeros_of}
use Rattle.session.specs.Session.{flash_stream, info_bytes, info_length, prefix_length, stream_length}
use Rattle.session.specs.Rules.{in_application, split_rule, state_rule, status_rule, running, download_rule, upload_rule}
use Rattle.session.specs.Rules.{after_rule, range_rule, place_rule, flags_rule, fit_of}
use Rattle.session.specs.Fit.{Inside, Fit, KnownState, is_idle, is_download_sync, is_download_idle, is_manifest_sync}
use Rattle.session.specs.Fit.{is_upload_idle, is_error, Running}
use Rattle.session.specs.Fit.{ErrorStatus, is_check_erased, is_address, is_not_done, is_vendor, is_stalled}
use Rattle.session.proofs.Tests.{left_of, right_of, either, one_of, never_true, unless, or_unless, where_true, or_where, pick_most}

-- the rules one by one
pub record Kept (s : Session) : Type 0 where
  pub split : split_rule s.board ≡ true
  pub state : state_rule s.phase ≡ true
  pub status : status_rule s.phase ≡ true
  pub download : download_rule s.phase s.down ≡ true
  pub upload : upload_rule s.phase s.up ≡ true
  pub after : after_rule s.phase ≡ true
  pub range : range_rule s.board s.up ≡ true
  pub place : place_rule s.board s.phase s.down ≡ true
  pub flags : flags_rule s.up ≡ true

pub fit_kept : (s : Session) → fit_of s ≡ true → Kept s
unfolding fit_of
fit_kept s e =
    let r2 = split_rule s.board && state_rule s.phase in
    let r3 = r2 && status_rule s.phase in
    let r4 = r3 && download_rule s.phase s.down in
    let r5 = r4 && upload_rule s.phase s.up in
    let r6 = r5 && after_rule s.phase in
    let r7 = r6 && range_rule s.board s.up in
    let r8 = r7 && place_rule s.board s.phase s.down in
    let e8 = left_of r8 (flags_rule s.up) e in
    let e7 = left_of r7 (place_rule s.board s.phase s.down) e8 in
    let e6 = left_of r6 (range_rule s.board s.up) e7 in
    let e5 = left_of r5 (after_rule s.phase) e6 in
    let e4 = left_of r4 (upload_rule s.phase s.up) e5 in
    let e3 = left_of r3 (download_rule s.phase s.down) e4 in
    let e2 = left_of r2 (status_rule s.phase) e3 in
    record {
      split = left_of (split_rule s.board) (state_rule s.phase) e2;
      state = right_of (split_rule s.board) (state_rule s.phase) e2;
      status = right_of r2 (status_rule s.phase) e3;
      download = right_of r3 (download_rule s.phase s.down) e4;
      upload = right_of r4 (upload_rule s.phase s.up) e5;
      after = right_of r5 (after_rule s.phase) e6;
      range = right_of r6 (range_rule s.board s.up) e7;
      place = right_of r7 (place_rule s.board s.phase s.down) e8;
      flags = right_of r8 (flags_rule s.up) e;
    }

pub kept_fit : (s : Session) → Kept s → fit_of s ≡ true
unfolding fit_of
kept_fit s k =
    rw (k.split, k.state, k.status, k.download, k.upload, k.after, k.range, k.place, k.flags)

-- a column of the table is a state's, and every state has one
pick_in : (t : Bool) (k m : ℕ) (r : Bool) → ltb k m ≡ r → ltb (cond t 0 (suc k)) (suc m) ≡ (t || r)
pick_in true k m r e = lt-ltb 0 (suc m) (omega arith)
pick_in false k m r e =
    elim (dec_lt k m) [
      | yes h ↦ lt-ltb (suc k) (suc m) (omega arith) ∙ sym (lt-ltb k m h) ∙ e
      | no h ↦ le-ltb (suc k) (suc m) (omega arith) ∙ sym (le-ltb k m (omega arith)) ∙ e
    ]

in_place : (n : ℕ) (xs : List ℕ) → ltb (place_in n xs) (length xs) ≡ is_in n xs
in_place n [] = refl
in_place n (x ∷ xs) = pick_in (eqb n x) (place_in n xs) (length xs) (is_in n xs) (in_place n xs)

pub column_known : (n : ℕ) → ltb (column_of n) (length states) ≡ known_state n
column_known n = in_place n states

-- what is listed in the order of the states stands at the state's column
at_place :
    {A : Type 0} (f : ℕ → A) (d : A) (n : ℕ) (xs : List ℕ) → is_in n xs ≡ true
    → get_or (map f xs) (place_in n xs) d ≡ f n
at_place f d n [] e = absurd (false≢true e)
at_place f d n (x ∷ xs) e =
    elim (ℕ_discrete n x) [
      | yes h ↦ rw (eq-eqb n x h) (ap f (sym h))
      | no h ↦ rw (ne_eqb n x h) (at_place f d n xs (unless (eqb n x) (is_in n xs) e (ne_eqb n x h)))
    ]

pub at_column :
    {A : Type 0} (f : ℕ → A) (d : A) (n : ℕ) → known_state n ≡ true → get_or (map f states) (column_of n) d ≡ f n
at_column f d n = at_place f d n states

-- the test of a state says what the words say
pub state_cases : (n : ℕ) → known_state n ≡ true → KnownState n
state_cases n =
    one_of (eqb n idle) _ (λ h. is_idle (eqb-true _ _ h))
    (one_of (eqb n download_sync) _ (λ h. is_download_sync (eqb-true _ _ h))
    (one_of (eqb n download_idle) _ (λ h. is_download_idle (eqb-true _ _ h))
    (one_of (eqb n manifest_sync) _ (λ h. is_manifest_sync (eqb-true _ _ h))
    (one_of (eqb n upload_idle) _ (λ h. is_upload_idle (eqb-true _ _ h))
    (one_of (eqb n error) _ (λ h. is_error (eqb-true _ _ h)) (λ e. absurd (false≢true e)))))))

pub cases_state : (n : ℕ) → KnownState n → known_state n ≡ true
cases_state n (is_idle e) = rw e
cases_state n (is_download_sync e) = rw e
cases_state n (is_download_idle e) = rw e
cases_state n (is_manifest_sync e) = rw e
cases_state n (is_upload_idle e) = rw e
cases_state n (is_error e) = rw e

-- what is no state is none of them
pub no_state : (n : ℕ) → known_state n ≡ false → KnownState n → ⊥
no_state n e k = false≢true (sym e ∙ cases_state n k)

-- what the rule of A and B says, and with it of the application's end
module _ (b : Board) where
  pub split_facts : split_rule b ≡ true → (1 ≤ b.a.0) × (b.a.0 < b.b.0) × (b.b.0 ≤ most_blocks)
  split_facts e =
      let loader = leb 1 b.a.0 in
      let application = ltb b.a.0 b.b.0 in
      let l = left_of (loader && application) (leb b.b.0 most_blocks) e in (
        leb-true _ _ (left_of loader application l),
        ltb-true _ _ (right_of loader application l),
        leb-true _ _ (right_of (loader && application) (leb b.b.0 most_blocks) e),
      )

  pub end_in_flash : app_end b ≤ b.b.0
  unfolding app_end
  end_in_flash = omega arith

  pub end_after_start : split_rule b ≡ true → b.a.0 < app_end b
  unfolding app_end
  end_after_start e = (split_facts e).1

-- the test of a status of state error says what the words say
pub error_status_lem : (n : ℕ) → error_status n ≡ true → ErrorStatus n
error_status_lem n =
    let at5 = eqb n check_erased in
    let at8 = eqb n address in
    let at9 = eqb n not_done in
    let at11 = eqb n vendor in
    one_of (at5 || at8 || at9 || at11) (eqb n stalled)
    (one_of (at5 || at8 || at9) at11
    (one_of (at5 || at8) at9
    (one_of at5 at8 (λ h. is_check_erased (eqb-true _ _ h)) (λ h. is_address (eqb-true _ _ h)))
    (λ h. is_not_done (eqb-true _ _ h)))
    (λ h. is_vendor (eqb-true _ _ h)))
    (λ h. is_stalled (eqb-true _ _ h))

pub status_error : (n : ℕ) → ErrorStatus n → error_status n ≡ true
status_error n (is_check_erased e) = rw e
status_error n (is_address e) = rw e
status_error n (is_not_done e) = rw e
status_error n (is_vendor e) = rw e
status_error n (is_stalled e) = rw e

-- the test whether a download runs says what the words say
module _ (p : Phase) where
  pub running-true : running p ≡ true → Running p
  running-true e =
      let sync = eqb p.state.0 download_sync in
      let on = eqb p.after.0 download_idle in
      ⊎_elim (λ h. inl (eqb-true _ _ h)) (λ h. inr (eqb-true _ _ (left_of sync on h), eqb-true _ _ (right_of sync on h)))
      (either (eqb p.state.0 download_idle) (sync && on) e)

  pub running_words : Running p → running p ≡ true
  running_words (inl h) = rw h
  running_words (inr h) = rw (h.0, h.1)

  pub not_running : (Running p → ⊥) → running p ≡ false
  not_running n = never_true (running p) (λ e. n (running-true e))

  pub running-false : running p ≡ false → Running p → ⊥
  running-false e r = false≢true (sym e ∙ running_words r)

-- what the rules of the phase say
module _ (p : Phase) where
  StatusFacts : Type 0
  StatusFacts =
      ((p.state.0 ≡ 10 → ⊥) → p.status.0 ≡ 0) × (p.state.0 ≡ 10 → ErrorStatus p.status.0)

  status_facts : status_rule p ≡ true → StatusFacts
  unfolding StatusFacts
  status_facts e =
      let at = eqb p.state.0 error in
      let none = eqb p.status.0 ok in
      let one = error_status p.status.0 in (
        λ n. eqb-true _ _ (unless at none (left_of (at || none) (not at || one) e) (ne_eqb _ _ n)),
        λ h. error_status_lem _ (where_true at one (right_of (at || none) (not at || one) e) (eq-eqb _ _ h)),
      )

  after_others : after_rule p ≡ true → (p.state.0 ≡ download_sync → ⊥) → p.after.0 ≡ idle
  after_others e n =
      let sync = eqb p.state.0 download_sync in
      let on = eqb p.after.0 download_idle in
      ⊎_elim (λ h. eqb-true _ _ h) (λ h. absurd (n (eqb-true _ _ (left_of sync on h))))
      (either (eqb p.after.0 idle) (sync && on) e)

  after_sync : after_rule p ≡ true → (p.after.0 ≡ idle) ⊎ (p.after.0 ≡ download_idle)
  after_sync e =
      let sync = eqb p.state.0 download_sync in
      let on = eqb p.after.0 download_idle in
      ⊎_elim (λ h. inl (eqb-true _ _ h)) (λ h. inr (eqb-true _ _ (right_of sync on h)))
      (either (eqb p.after.0 idle) (sync && on) e)

  no_download_lem : (d : Download) → download_rule p d ≡ true → (Running p → ⊥) → d ≡ no_download
  no_download_lem d e n =
      let no_place = eqb d.place.0 0 in
      let none_left = eqb d.left 0 in
      let z = unless (running p) (no_place && none_left) e (not_running p n) in
      ap₂ down_of (eqb-true _ _ (left_of no_place none_left z)) (eqb-true _ _ (right_of no_place none_left z))

-- what it says that a range lies in the application
module _ (b : Board) (first len : ℕ) where
  pub inside_facts : in_application b first len ≡ true → Inside b first len
  inside_facts e =
      let near = in_reach first in
      let some = ltb 0 len in
      let lies = lies_in (start_of first) len b.a.0 (app_end b) in
      let facts = lies_facts (start_of first) len b.a.0 (app_end b) (right_of (near && some) lies e) in
      record {
        some = ltb-true _ _ (right_of near some (left_of (near && some) lies e));
        from = omega arith;
        to = facts.3;
      }

  pub facts_inside : start_of (app_end b) < 2 ^ 32 → Inside b first len → in_application b first len ≡ true
  facts_inside near i =
      rw (
        lt-ltb (start_of first) (2 ^ 32) (omega (arith, i.to)),
        lt-ltb 0 len i.some,
        facts_lie (start_of first) len b.a.0 (app_end b) (omega (arith, i.from)) i.to near,
      )

-- what the rules of the upload say
module _ (b : Board) (p : Phase) (u : Upload) where
  UploadFacts : Type 0
  UploadFacts = ((p.state.0 ≡ upload_idle → ⊥) → u.place ≡ 0) × (u.place ≤ stream_length u)

  upload_facts : upload_rule p u ≡ true → UploadFacts
  unfolding UploadFacts
  upload_facts e =
      let on = eqb p.state.0 upload_idle in
      let none = eqb u.place 0 in
      let short = leb u.place (stream_length u) in (
        λ n. eqb-true _ _ (unless on none (left_of (on || none) short e) (ne_eqb _ _ n)),
        leb-true _ _ (right_of (on || none) short e),
      )

  flags_facts : flags_rule u ≡ true → (u.choice ≤ 1) × (u.«prefix» ≤ 1)
  flags_facts e =
      let choice = leb u.choice 1 in
      let flag = leb u.«prefix» 1 in
      (leb-true _ _ (left_of choice flag e), leb-true _ _ (right_of choice flag e))

-- what the rule of a running download's place says
module _ (b : Board) (p : Phase) (d : Download) where
  PlaceFacts : Type 0
  PlaceFacts =
      (start_of b.a.0 ≤ d.place.0)
      × (d.place.0 ≤ start_of (app_end b))
      × (d.place.0 + d.left ≤ start_of (app_end b))

  place_facts : place_rule b p d ≡ true → Running p → PlaceFacts
  unfolding PlaceFacts
  place_facts e r =
      let facts = lies_facts d.place.0 d.left b.a.0 (app_end b) (where_true (running p) _ e (running_words p r)) in
      (facts.2, omega arith, facts.3)

-- a fit session has all the facts
pub fit_facts : (s : Session) → fit_of s ≡ true → Fit s
unfolding StatusFacts UploadFacts PlaceFacts
fit_facts s e =
    let k = fit_kept s e in
    let split = split_facts s.board k.split in
    let status = status_facts s.phase k.status in
    let upload = upload_facts s.board s.phase s.up k.upload in
    let range = inside_facts s.board s.up.first.0 s.up.len k.range in
    let place = place_facts s.board s.phase s.down k.place in
    let flags = flags_facts s.board s.phase s.up k.flags in
    record {
      some_loader = split.0;
      some_application = split.1;
      few_blocks = split.2;
      state = state_cases s.phase.state.0 k.state;
      status_outside = status.0;
      status_inside = status.1;
      no_download_lem = no_download_lem s.phase s.down k.download;
      no_upload = upload.0;
      in_stream = upload.1;
      after_sync = λ h. after_sync s.phase k.after;
      after_others = after_others s.phase k.after;
      range-some = range.some;
      range_from = range.from;
      range_to = range.to;
      place_from = λ r. (place r).0;
      place_to = λ r. (place r).1;
      left_to = λ r. (place r).2;
      choice = flags.0;
      flag = flags.1;
    }

after_two :
    (p : Phase) → p.state.0 ≡ download_sync → (p.after.0 ≡ idle) ⊎ (p.after.0 ≡ download_idle) → after_rule p ≡ true
after_two p h (inl a) = rw a
after_two p h (inr a) = rw (h, a)

-- a session that has the facts keeps the rules that are no conjunction of orders
module _ (s : Session) (f : Fit s) where
  status_kept : status_rule s.phase ≡ true
  status_kept =
      let at = eqb s.phase.state.0 error in
      rw (
        or_unless at (eqb s.phase.status.0 ok) (λ n. eq-eqb _ _ (f.status_outside (eqb-false _ _ n))),
        or_where at (error_status s.phase.status.0) (λ h. status_error _ (f.status_inside (eqb-true _ _ h))),
      )

  download_kept : download_rule s.phase s.down ≡ true
  download_kept =
      let zero : Download → Bool = λ d. eqb d.place.0 0 && eqb d.left 0 in
      or_unless (running s.phase) (zero s.down) (λ n. ap zero (f.no_download_lem (running-false s.phase n)))

  upload_kept : upload_rule s.phase s.up ≡ true
  upload_kept =
      let on = eqb s.phase.state.0 upload_idle in
      rw (
        or_unless on (eqb s.up.place 0) (λ n. eq-eqb _ _ (f.no_upload (eqb-false _ _ n))),
        le-leb _ _ f.in_stream,
      )

  after_kept : after_rule s.phase ≡ true
  after_kept =
      elim (ℕ_discrete s.phase.state.0 download_sync) [
        | yes h ↦ after_two s.phase h (f.after_sync h)
        | no h ↦ rw (f.after_others h)
      ]

  pub fit_near : start_of (app_end s.board) < 2 ^ 32
  fit_near = omega (arith, f.few_blocks, end_in_flash s.board)

  range_kept : range_rule s.board s.up ≡ true
  range_kept =
      facts_inside s.board s.up.first.0 s.up.len fit_near
      (record { some = f.range-some; from = f.range_from; to = f.range_to })

  place_kept : place_rule s.board s.phase s.down ≡ true
  place_kept =
      or_where (running s.phase) _
      (λ e.
      let r = running-true s.phase e in
      facts_lie s.down.place.0 s.down.left s.board.a.0 (app_end s.board) (f.place_from r) (f.left_to r) fit_near)

-- a session that has all the facts is fit
pub facts_fit : (s : Session) → Fit s → fit_of s ≡ true
facts_fit s f =
    kept_fit s
    (record {
      split = rw (le-leb _ _ f.some_loader, lt-ltb _ _ f.some_application, le-leb _ _ f.few_blocks);
      state = cases_state s.phase.state.0 f.state;
      status = status_kept s f;
      download = download_kept s f;
      upload = upload_kept s f;
      after = after_kept s f;
      range = range_kept s f;
      place = place_kept s f;
      flags = rw (le-leb _ _ f.choice, le-leb _ _ f.flag);
    })

-- the sums aren't judged
pub sums_free : (s : Session) (sums : Sums) → fit_of (with_sums s sums) ≡ fit_of s
unfolding fit_of
sums_free s sums = refl

-- nor does what the last search found
pub unerased_free : (s : Session) (unerased : ℕ) → fit_of (with_unerased s unerased) ≡ fit_of s
unfolding fit_of
unerased_free s unerased = refl

-- the session of zeros is unfit
pub zeros_unfit : fit_of zeros_of ≡ false
unfolding fit_of zeros_of
zeros_unfit = refl

-- the fresh session of an allowed split is fit, whatever the part numbers and the sums
pub fresh_fit : (b : Board) (sums : Sums) → split_rule b ≡ true → fit_of (fresh_of b sums) ≡ true
unfolding fresh_of whole_upload
fresh_fit b sums e =
    let h = end_after_start b e in
    let len = (app_end b - b.a.0) * block_size in
    kept_fit (fresh_of b sums)
    (record {
      split = e;
      state = refl;
      status = refl;
      download = refl;
      upload = le-leb 0 (stream_length (whole_upload b)) (omega arith);
      after = refl;
      range =
          facts_inside b b.a.0 len (omega (arith, split_facts b e, end_in_flash b))
          (record { some = omega arith; from = omega arith; to = omega arith });
      place = refl;
      flags = refl;
    })

-- the lengths of the two streams
pub info_length_lem : (u : Upload) → u.choice ≡ info_bytes → stream_length u ≡ info_length
unfolding stream_length
info_length_lem u h = rw h

pub flash_length : (u : Upload) → u.choice ≡ flash_stream → stream_length u ≡ prefix_length u + u.len
unfolding stream_length
flash_length u h = rw h

pub prefix_most : (u : Upload) → prefix_length u ≤ 8
prefix_most u = pick_most (eqb u.«prefix» 1) (omega arith) (omega arith)

-- a fit session's stream is short: the info bytes, or the prefix and a range of the application
pub stream_most : (s : Session) → Fit s → stream_length s.up ≤ info_length + start_of most_blocks
unfolding stream_length
stream_most s f =
    pick_most (eqb s.up.choice info_bytes) (omega arith)
    (omega (arith, f.range_to, f.few_blocks, prefix_most s.up, end_in_flash s.board))
