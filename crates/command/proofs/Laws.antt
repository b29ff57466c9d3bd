-- What a ready session's numbers say of its flash: where the application lies, and that ranges in it lie in flash. Assumes nothing.
use Prim.Native.Nat.{ℕ, ◌-◌, ◌≤◌}
use mathlib.Core.Bool.{Bool, true, false, cond, ◌&&◌}
use mathlib.Core.List.{List}
use mathlib.Core.Logic.{inl, ⊎_elim}
use mathlib.Core.Path.{◌≡◌, refl, sym, ap, ◌∙◌, subst}
use native.Mathlib.Omega.{arith}
use borrow.Author.Tests.{leb-true, eqb-false}
use lib.Dec.{eqb, leb}
use lib.ListN.{length, get_or, drop, length-drop}
use Rattle.std.specs.Prelude.{Option}
use Rattle.flash.specs.declared.Addr.{Addr}
use Rattle.flash.specs.Flash.{start_of, Within, searched, nothing}
use Rattle.sums.specs.Sum.{Split}
use Rattle.session.specs.Codes.{idle, download_idle, check_erased, address, vendor}
use Rattle.session.specs.Session.{app_end, no_download, with_unerased, fresh_of}
use Rattle.session.specs.Rules.{in_application}
use Rattle.session.specs.declared.Session.{Session}
use Rattle.session.proofs.Laws.{fit_kept, fit_facts, split_facts, end_in_flash, end_after_start, inside_facts}
use Rattle.session.proofs.Tests.{left_of}
use Rattle.answers.specs.declared.Outcome.{Outcome}
use Rattle.answers.specs.Moves.{moved_to, to_sync, taken_of, fault_of, reset_of}
use Rattle.jobs.specs.declared.Job.{Job}
use Rattle.jobs.specs.Job.{Plan, plan_of, Place, Can}
use Rattle.jobs.proofs.Laws.{place_within}
use Rattle.command.specs.Ready.{Ready, Loading}
use Rattle.request.specs.Commands.{prog, read, check, erase, info, bin, reset}
use Rattle.command.specs.Download.{all_erased, noted, wrote_of, fault_plan, if_erased, prog_of, read_of, check_of}
use Rattle.command.specs.Download.{erase_of, info_of, bin_of, well_formed, by_number, command_of, closed_of, piece_of, dnload_of}

module _ (s : Session) (f : List ℕ) (r : Ready s f) where
  pub ready-split : Split f s.board.a.0 (app_end s.board)
  ready-split =
      let k = fit_kept s r.fit in
      let ends = end_in_flash s.board in
      let starts = end_after_start s.board k.split in
      let facts = split_facts s.board k.split in
      let sized = r.sized in
      record { ordered = omega arith; counted = omega arith; inside = omega arith }

  pub ready_within : (at n : ℕ) → Place s.board at n → Within f at n
  ready_within at n p = place_within s.board f at n ready-split p

  pub ready-place : (block len : ℕ) → in_application s.board block len ≡ true → Place s.board (start_of block) len
  ready-place block len e = let i = inside_facts s.board block len e in record { low = omega arith; high = i.to }

  pub ready_range : (block len : ℕ) → in_application s.board block len ≡ true → Within f (start_of block) len
  ready_range block len e = ready_within (start_of block) len (ready-place block len e)

-- what a search of a range tells, from its answer and whether that was nothing
pub told-erased :
    (f : List ℕ) (block len : ℕ) (found : Option Addr) → found ≡ searched f block len
    → (r : Bool) → r ≡ nothing found → r ≡ all_erased f block len
unfolding all_erased
told-erased f block len found e r h = h ∙ ap nothing e

-- what a plan picks by a test is the plan of what the outcome picks by it
plan_cond : (t : Bool) (x y : Outcome) → cond t (plan_of x Job.Nothing) (plan_of y Job.Nothing) ≡ plan_of (cond t x y) Job.Nothing
plan_cond true x y = refl
plan_cond false x y = refl

module _ (s : Session) (f : List ℕ) (block len : ℕ) where
  pub erased_wrote :
      (at skip n left : ℕ) → if_erased s f block len (wrote_of s at skip n left)
      ≡ cond (all_erased f block len) (wrote_of (noted s f block len) at skip n left) (fault_plan (noted s f block len) check_erased)
  unfolding wrote_of moved_to
  erased_wrote at skip n left = refl

  pub erased_sync :
      if_erased s f block len (plan_of (taken_of (to_sync s idle no_download)) Job.Nothing)
      ≡ plan_of
      (cond (all_erased f block len) (taken_of (to_sync (noted s f block len) idle no_download)) (fault_of (noted s f block len) check_erased))
      Job.Nothing
  unfolding moved_to
  erased_sync = plan_cond (all_erased f block len) _ _

-- a well-formed command has its eight bytes
pub long_enough : (d : List ℕ) → well_formed d ≡ true → 8 ≤ length d
unfolding well_formed
long_enough d e =
    let eight = leb 8 (length d) in
    let known = eight && leb prog (get_or d 0 0) in
    let few = known && leb (get_or d 0 0) reset in
    leb-true _ _ (left_of eight _ (left_of known _ (left_of few _ e)))

-- a plan whose session has the same board, with a job that can be carried out
pub record Doable (s : Session) (f d : List ℕ) (p : Plan) : Type 0 where
  pub board : p.outcome.session.board ≡ s.board
  pub can : Can p.job s.board f d

-- what holds of both values of a test's pick holds of the pick
pub pick : {A : Type 0} (P : A → Type 0) (t : Bool) (x y : A) → (t ≡ true → P x) → (t ≡ false → P y) → P (cond t x y)
pick P true x y h k = h refl
pick P false x y h k = k refl

-- what a DNLOAD asks for can be carried out: its bytes lie in the application
module _ (s : Session) (f d : List ℕ) where
  -- an outcome alone, on the same board
  pub only_can : (o : Outcome) → o.session.board ≡ s.board → Doable s f d (plan_of o Job.Nothing)
  only_can o e = record { board = e; can = tt }

  -- a fault of this session, or of this one with another number
  fault_can : (n status : ℕ) → Doable s f d (fault_plan (with_unerased s n) status)
  unfolding fault_of moved_to
  fault_can n status = only_can (fault_of (with_unerased s n) status) refl

module _ (s : Session) (f d : List ℕ) (r : Ready s f) where
  wrote_can :
      (number at skip n left : ℕ) → skip ≤ length d → n ≡ length (drop skip d) → Place s.board at n
      → Doable s f d (wrote_of (with_unerased s number) at skip n left)
  unfolding wrote_of moved_to
  wrote_can number at skip n left few e p = record { board = refl; can = (few, ready-split s f r, subst (Place s.board at) e p) }

  prog_can : 8 ≤ length d → (block len : ℕ) → Doable s f d (prog_of s f block len (length d - 8))
  unfolding prog_of
  prog_can long block len =
      pick (Doable s f d) (in_application s.board block len) _ _
      (λ i.
      pick (Doable s f d) (leb (length d - 8) len) _ _
      (λ n.
      let facts = inside_facts s.board block len i in
      let few : length d - 8 ≤ len = leb-true _ _ n in
      pick (Doable s f d) (all_erased f block len) _ _
      (λ _.
      wrote_can _ (start_of block) 8 (length d - 8) (len - (length d - 8)) long (sym (length-drop 8 d))
      (record { low = omega arith; high = omega arith }))
      (λ _. fault_can s f d _ check_erased))
      (λ _. fault_can s f d s.unerased address))
      (λ _. fault_can s f d s.unerased address)

  erase_can : (block count : ℕ) → Doable s f d (erase_of s block count)
  unfolding erase_of moved_to
  erase_can block count =
      pick (Doable s f d) (in_application s.board block (start_of count)) _ _
      (λ i.
      let facts = inside_facts s.board block (start_of count) i in
      record { board = refl; can = (ready-split s f r, record { low = omega arith; high = facts.to }) })
      (λ _. fault_can s f d s.unerased address)

  -- the commands that change no flash keep the board
  read_board : (block len : ℕ) → (read_of s block len).session.board ≡ s.board
  unfolding read_of fault_of moved_to
  read_board block len =
      pick (λ (o : Outcome). o.session.board ≡ s.board) (in_application s.board block len) _ _ (λ _. refl) (λ _. refl)

  check_board : (block len : ℕ) → (check_of s f block len).session.board ≡ s.board
  unfolding check_of fault_of moved_to
  check_board block len =
      pick (λ (o : Outcome). o.session.board ≡ s.board) (in_application s.board block len) _ _
      (λ _.
      pick (λ (o : Outcome). o.session.board ≡ s.board) (all_erased f block len) _ _ (λ _. refl) (λ _. refl))
      (λ _. refl)

  numbered_can : 8 ≤ length d → (code : ℕ) → Doable s f d (by_number code s f d)
  unfolding by_number info_of bin_of reset_of fresh_of moved_to
  numbered_can long code =
      pick (Doable s f d) (eqb code prog) _ _ (λ _. prog_can long _ _)
      (λ _.
      pick (Doable s f d) (eqb code read) _ _ (λ _. only_can s f d _ (read_board _ _))
      (λ _.
      pick (Doable s f d) (eqb code check) _ _ (λ _. only_can s f d _ (check_board _ _))
      (λ _.
      pick (Doable s f d) (eqb code erase) _ _ (λ _. erase_can _ _)
      (λ _.
      pick (Doable s f d) (eqb code info) _ _ (λ _. only_can s f d (info_of s) refl)
      (λ _.
      pick (Doable s f d) (eqb code bin) _ _ (λ _. only_can s f d (bin_of s (get_or d 1 0)) refl) (λ _. only_can s f d (reset_of s) refl))))))

  piece_can : s.phase.state.0 ≡ download_idle → Doable s f d (piece_of s (length d))
  unfolding piece_of closed_of fault_of moved_to
  piece_can here =
      let facts = fit_facts s r.fit in
      pick (Doable s f d) (eqb (length d) 0) _ _
      (λ _.
      only_can s f d (closed_of s)
      (pick (λ (o : Outcome). o.session.board ≡ s.board) (eqb s.down.left 0) _ _ (λ _. refl) (λ _. refl)))
      (λ _.
      pick (Doable s f d) (leb (length d) s.down.left) _ _
      (λ n.
      let few : length d ≤ s.down.left = leb-true _ _ n in
      wrote_can s.unerased s.down.place.0 0 (length d) _ (omega arith) refl
      (record { low = facts.place_from (inl here); high = omega (arith, facts.left_to (inl here), few) }))
      (λ _. fault_can s f d s.unerased address))

  pub dnload_can : Loading s → Doable s f d (dnload_of s f d)
  unfolding dnload_of command_of
  dnload_can l =
      pick (Doable s f d) (eqb s.phase.state.0 idle) _ _
      (λ _.
      pick (Doable s f d) (well_formed d) _ _ (λ g. numbered_can (long_enough d g) (get_or d 0 0)) (λ _. fault_can s f d s.unerased vendor))
      (λ n. ⊎_elim (λ e. absurd (eqb-false _ _ n e)) (λ e. piece_can e) l.in_two)
