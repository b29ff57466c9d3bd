-- The demands leave no choice: two loaders that meet them stand at the same site after any calls. Assumes nothing.
use Prim.Native.Nat.{ℕ}
use mathlib.Core.List.{List, [], ◌∷◌}
use mathlib.Core.Path.{◌≡◌, sym, ap, subst, ◌∙◌}
use native.Mathlib.Decide.{map_dec, ℕ_discrete, dec_le, dec_lt}
use lib.ListN.{length}
use Rattle.flash.specs.Flash.{start_of}
use Rattle.sums.specs.Sum.{most_blocks, Right}
use Rattle.sums.proofs.Laws.{right_unique}
use Rattle.session.specs.Session.{board_of, app_end, fresh_of}
use Rattle.sums.specs.declared.Sums.{Sums}
use Rattle.session.specs.declared.Board.{Board}
use Rattle.loader.specs.Step.{start_outcome, step_of}
use Rattle.demands.specs.Calls.{begun, Call, Site, called, after_call, after_calls}
use Rattle.demands.specs.Asked.{Prepared}
use Rattle.demands.specs.Safe.Refused.{Unfit}
use Rattle.demands.specs.Safe.Fit.{AllowedStart, BadStart}
use Rattle.demands.specs.Does.Starts.{Fresh}
use Rattle.demands.specs.Kept.History.{Held}
use Rattle.demands.specs.Exact.Determine.{SameStart, SameLeaves, Determine, DetermineAnywhere}
use Rattle.demands.proofs.Demands.{meets_demands}
use Rattle.demands.proofs.Exact.SameCall.{Loader, agree, Same, SameFlash, SameSums, same_unfit, same_but_sums, same_call}

-- both hold, or not
both : {P Q : Type 0} → Dec P → Dec Q → Dec (P × Q)
both (yes p) (yes q) = yes (p, q)
both (yes p) (no n) = no (λ h. n h.1)
both (no n) d = no (λ h. n h.0)

-- sizes are allowed or not
allowed_or_not : (f : List ℕ) (a b : ℕ) → Dec (AllowedStart f a b)
allowed_or_not f a b =
    map_dec (λ h. record { some_loader = h.0; some_application = h.1.0; few_blocks = h.1.1.0; sized = h.1.1.1 })
    (λ h. (h.some_loader, (h.some_application, (h.few_blocks, h.sized))))
    (both (dec_le 1 a) (both (dec_lt a b) (both (dec_le b most_blocks) (ℕ_discrete (length f) (start_of b)))))

module _ (x y : Loader) where
  -- the same is left of a call, and at the same site the next one begins
  same_after_call :
      (at : Site) (c : Call) → Same x y at c → after_call x.step at c ≡ after_call y.step at c
  unfolding after_call
  same_after_call at c same = λ i. record { session = same.session i; flash = same.flash i }

  -- from one site on, as long as something holds there that says so of one call
  module _
      (Holds : Site → Type 0)
      (one : (at : Site) → Holds at → (c : Call) → Same x y at c)
      (stays : (at : Site) → Holds at → (c : Call) → Holds (after_call x.step at c)) where
    same_after_calls :
        (at : Site) → Holds at → (calls : List Call) (c : Call)
        → SameLeaves (called x.step (after_calls x.step at calls) c) (called y.step (after_calls y.step at calls) c)
    unfolding after_calls
    same_after_calls at h [] c = one at h c
    same_after_calls at h (d ∷ ds) c =
        subst
        (λ (s : Site).
        SameLeaves (called x.step (after_calls x.step (after_call x.step at d) ds) c)
        (called y.step (after_calls y.step s ds) c))
        (same_after_call at d (one at h d)) (same_after_calls (after_call x.step at d) (stays at h d) ds c)

  -- a start that is taken: whatever calls come, both loaders keep what a history holds, so the flash pins the sums
  module _ (f : List ℕ) (board : Board) where
    Keeps : Loader → Site → Type 0
    Keeps z at = (calls : List Call) → Held f board (after_calls z.step at calls)

    kept_after_call : (z : Loader) (at : Site) → Keeps z at → (c : Call) → Keeps z (after_call z.step at c)
    unfolding Keeps after_calls
    kept_after_call z at h c = λ calls. h (c ∷ calls)

    kept_sums : (at : Site) → Keeps x at → Keeps y at → (c : Call) → SameFlash x y at c → SameSums x y at c
    unfolding Keeps after_calls after_call
    kept_sums at h k c same =
        right_unique (after_call x.step at c).session.sums (after_call y.step at c).session.sums (after_call y.step at c).flash
        board.a.0 (app_end board)
        (subst (λ (g : List ℕ). Right (after_call x.step at c).session.sums g board.a.0 (app_end board)) same
        (h (c ∷ [])).sums_right)
        (k (c ∷ [])).sums_right

    abbrev BothKeep : Site → Type 0
    BothKeep at = Keeps x at × Keeps y at

    same_kept : (at : Site) → BothKeep at → (c : Call) → Same x y at c
    same_kept at h c = same_call x y at c (kept_sums at h.0 h.1 c)

    both_stay : (at : Site) → BothKeep at → (c : Call) → BothKeep (after_call x.step at c)
    both_stay at h c = (
      kept_after_call x at h.0 c,
      subst (Keeps y) (sym (same_after_call at c (same_kept at h c))) (kept_after_call y at h.1 c),
    )

  -- a start that is refused: no call is prepared, and none moves from the spot
  abbrev NonePrepared : Site → Type 0
  NonePrepared at = (c : Call) → Prepared at c → ⊥

  none_stays : (at : Site) → NonePrepared at → (c : Call) → NonePrepared (after_call x.step at c)
  unfolding after_call
  none_stays at none c =
      let left : Unfit at c (called x.step at c) =
      (x.meets.refused at c).unfit (x.meets.unfit_exactly.unprepared at c (none c))
      in
      subst NonePrepared (sym (λ i. record { session = left.session i; flash = left.quiet.flash i })) none

  module _ (f : List ℕ) (a b part0 part1 : ℕ) where
    abbrev BeginSame : Type 0
    BeginSame = SameStart (x.start f a b part0 part1) (y.start f a b part0 part1)

    begin_taken : AllowedStart f a b → BeginSame
    begin_taken h =
        let fresh : (z : Loader) → Fresh f a b part0 part1 (z.start f a b part0 part1) =
        λ z. z.meets.starts.taken f a b part0 part1 h
        in
        record {
          answer = agree x y (λ z. (fresh z).answer);
          count = agree x y (λ z. (fresh z).count);
          session =
              (fresh x).session
              ∙ ap (λ (s : Sums). fresh_of (board_of a b part0 part1) s)
              (right_unique _ _ f a (app_end (board_of a b part0 part1)) (fresh x).sums (fresh y).sums)
              ∙ sym (fresh y).session;
        }

    begin_refused : (AllowedStart f a b → ⊥) → BeginSame
    begin_refused none =
        let bad : (z : Loader) → BadStart z.step (z.start f a b part0 part1) =
        λ z. z.meets.refused_start f a b part0 part1 none
        in
        record {
          answer = agree x y (λ z. (bad z).answer);
          count = agree x y (λ z. (bad z).count);
          session = agree x y (λ z. (bad z).session);
        }

    begin_same : BeginSame
    begin_same = elim (allowed_or_not f a b) [ yes h ↦ begin_taken h | no none ↦ begin_refused none ]

    abbrev beginning : Loader → Site
    beginning z = begun z.start f a b part0 part1

    begun_same : beginning x ≡ beginning y
    unfolding begun
    begun_same = λ i. record { session = begin_same.session i; flash = f }

    abbrev GoesOn : Site → Site → Type 0
    GoesOn at here =
        (calls : List Call) (c : Call)
        → SameLeaves (called x.step (after_calls x.step at calls) c) (called y.step (after_calls y.step here calls) c)

    taken_goes_on : AllowedStart f a b → GoesOn (beginning x) (beginning x)
    unfolding Keeps
    taken_goes_on h =
        let board = board_of a b part0 part1 in
        same_after_calls (BothKeep f board) (same_kept f board) (both_stay f board) (beginning x) (
          x.meets.history f a b part0 part1 h,
          subst (Keeps f board y) (sym begun_same) (y.meets.history f a b part0 part1 h),
        )

    refused_goes_on : (AllowedStart f a b → ⊥) → GoesOn (beginning x) (beginning x)
    unfolding begun
    refused_goes_on none =
        let bad = x.meets.refused_start f a b part0 part1 none in
        same_after_calls NonePrepared (λ at n c. same_unfit x y at c (n c)) none_stays (beginning x)
        (λ c p. x.meets.unfit_exactly.prepared (beginning x) c p (bad.later_answer f c))

    goes_on_same : GoesOn (beginning x) (beginning y)
    goes_on_same =
        subst (GoesOn (beginning x)) begun_same
        (elim (allowed_or_not f a b) [ yes h ↦ taken_goes_on h | no none ↦ refused_goes_on none ])

pub demands_determine : Determine
demands_determine start step meets f a b part0 part1 =
    let theirs : Loader = record { start = start; step = step; meets = meets } in
    let ours : Loader = record { start = start_outcome; step = step_of; meets = meets_demands } in
    record {
      begins = begin_same theirs ours f a b part0 part1;
      goes_on = goes_on_same theirs ours f a b part0 part1;
    }

pub demands_determine_anywhere : DetermineAnywhere
unfolding after_call
demands_determine_anywhere start step meets at c =
    let theirs : Loader = record { start = start; step = step; meets = meets } in
    let ours : Loader = record { start = start_outcome; step = step_of; meets = meets_demands } in
    let a = at.session.board.a.0 in
    let e = app_end at.session.board in
    record {
      but_sums = same_but_sums theirs ours at c;
      sums_too =
          λ right.
          same_call theirs ours at c
          (λ same.
          right_unique (after_call step at c).session.sums (after_call step_of at c).session.sums (after_call step_of at c).flash a e
          (subst (λ (g : List ℕ). Right (after_call step at c).session.sums g a e) same (meets.sums_stay at c right))
          (meets_demands.sums_stay at c right));
    }
