-- The sums are right after a start, and a call keeps them so: where it changes flash, the blocks of the change are summed anew.
-- Assumes nothing.
use Prim.Native.Nat.{ℕ, ◌+◌, ◌≤◌}
use mathlib.Core.Bool.{true}
use mathlib.Core.List.{List, [], ◌∷◌}
use mathlib.Core.Path.{◌≡◌, refl, sym, ap, ◌∙◌, subst, subst⁻¹}
use native.Mathlib.Omega.{arith}
use borrow.Author.Tests.{eqb-true, eqb-false}
use lib.Dec.{eqb}
use lib.ListN.{length, drop}
use Rattle.flash.specs.Flash.{start_of, holder_of, next_start, range, spliced, blank, erased}
use Rattle.flash.proofs.Laws.{spliced_back, spliced-length, length-blank}
use Rattle.sums.specs.Sum.{refreshed, Right}
use Rattle.sums.specs.declared.Sums.{Sums}
use Rattle.sums.proofs.Laws.{fresh_right, refreshed_right, spliced_same}
use Rattle.session.specs.Session.{app_end, board_of, fresh_of}
use Rattle.session.specs.Rules.{in_application}
use Rattle.session.specs.declared.Board.{Board}
use Rattle.session.specs.declared.Session.{Session}
use Rattle.session.proofs.Laws.{inside_facts}
use Rattle.numbers.specs.Numbers.{word_at, long_at}
use Rattle.answers.specs.Answers.{Leaves, Told}
use Rattle.answers.specs.Moves.{moved_to, stall_of, unfit_of, fault_of, reset_of}
use Rattle.jobs.specs.Job.{Place, sums_after}
use Rattle.command.specs.Ready.{Ready}
use Rattle.command.specs.Download.{info_of, bin_of}
use Rattle.command.proofs.Laws.{pick, ready-split, ready_within, ready-place, ready_range}
use Rattle.loader.specs.Reply.{polled, getstatus_of, getstate_of, query_of, answered}
use Rattle.loader.specs.Upload.{upload_ends, uploading_at, uploaded_of, upload_of}
use Rattle.loader.specs.Step.{fresh_start, start_outcome, step_of}
use Rattle.demands.specs.Calls.{begun, Call, Site, called, after_call, after_calls}
use Rattle.demands.specs.Safe.Outside.{Untouched}
use Rattle.demands.specs.Safe.Fit.{AllowedStart}
use Rattle.demands.specs.Kept.History.{SumsStay, Held, History}
use Rattle.demands.proofs.Ground.Ways.{every_way}
use Rattle.demands.proofs.Safe.Outside.{outside_holds, piece_place}
use Rattle.demands.proofs.Safe.Fit.{stays_fit_holds, starts_fit_holds, started}
use Rattle.demands.proofs.Ground.Finished.{stored_of}

-- no bytes change nothing
empty_spliced : (f : List ℕ) (at : ℕ) (bytes : List ℕ) → at ≤ length f → length bytes ≡ 0 → spliced f at bytes ≡ f
unfolding range
empty_spliced f at [] h e = spliced_back f at 0 (omega arith)
empty_spliced f at (b ∷ bs) h e = absurd (omega arith)

-- the kept sums of a session are right for a flash
abbrev pub Summed : Session → List ℕ → Type 0
Summed s f = Right s.sums f s.board.a.0 (app_end s.board)

module _ (s : Session) (f : List ℕ) (r : Ready s f) (right : Summed s f) where
  written_right :
      (at : ℕ) (bytes : List ℕ) → Place s.board at (length bytes)
      → Right (sums_after s.board s.sums (spliced f at bytes) at (length bytes)) (spliced f at bytes) s.board.a.0
      (app_end s.board)
  unfolding sums_after
  written_right at bytes p =
      let w = ready_within s f r at (length bytes) p in
      let split = ready-split s f r in
      let g = spliced f at bytes in
      pick (λ (x : Sums). Right x g s.board.a.0 (app_end s.board)) (eqb (length bytes) 0) _ _
      (λ e.
      subst (λ (x : List ℕ). Summed s x) (sym (empty_spliced f at bytes (omega arith) (eqb-true _ _ e))) right)
      (λ n.
      let some : length bytes ≡ 0 → ⊥ = eqb-false _ _ n in
      let long = spliced-length f at bytes w.inside in
      refreshed_right s.sums f g s.board.a.0 (app_end s.board) (holder_of at) (next_start (at + length bytes))
      (omega arith) (omega arith) (omega arith) (omega arith) (omega (arith, long)) right
      (spliced_same f at bytes (holder_of at) (next_start (at + length bytes)) w.inside (omega arith) (omega arith)))

  erased_right :
      (block count : ℕ) → in_application s.board block (start_of count) ≡ true
      → Right (refreshed s.sums (erased f block count) s.board.a.0 (app_end s.board) block (block + count))
      (erased f block count) s.board.a.0 (app_end s.board)
  unfolding erased
  erased_right block count i =
      let facts = inside_facts s.board block (start_of count) i in
      let w = ready_range s f r block (start_of count) i in
      let split = ready-split s f r in
      let n = length-blank (start_of count) in
      let long = spliced-length f (start_of block) (blank (start_of count)) (omega arith) in
      refreshed_right s.sums f (spliced f (start_of block) (blank (start_of count))) s.board.a.0 (app_end s.board) block
      (block + count) (omega arith) (omega arith) (omega arith) (omega arith) (omega (arith, long)) right
      (spliced_same f (start_of block) (blank (start_of count)) block (block + count) (omega arith) (omega arith) (omega arith))

-- no call changes the board
board_stays : (at : Site) (c : Call) → (after_call step_of at c).session.board ≡ at.session.board
unfolding after_call called stored_of info_of bin_of moved_to stall_of unfit_of fault_of reset_of fresh_of polled getstatus_of getstate_of query_of
    answered upload_of uploaded_of uploading_at
board_stays at c =
    let s = at.session in
    every_way s at.flash c.setup c.bytes c.reply (λ (l : Leaves). l.session.board ≡ s.board)
    (record {
      unfits = λ _. refl;
      stalls = λ _ _. pick (λ (t : Session). t.board ≡ s.board) (eqb s.phase.state.0 10) _ _ (λ _. refl) (λ _. refl);
      faults = λ _ _ _ _. refl;
      unerased = λ _ _ _ _. refl;
      programs = λ _ _ _ _. refl;
      pieces = λ _ _. refl;
      closes = λ _. refl;
      reads = λ _ _. refl;
      checks = λ _. refl;
      erases = λ _ _ _. refl;
      informs = λ _. refl;
      bins = λ _. refl;
      resets = λ _ _ _. refl;
      uploads = λ _ _. pick (λ (t : Session). t.board ≡ s.board) (upload_ends _ _) _ _ (λ _. refl) (λ _. refl);
      polls = λ _ _. refl;
      tells = λ _ _. refl;
      queries = λ _ _. refl;
      idles = λ _. refl;
    })

-- a call keeps the sums right
pub sums_stay : SumsStay step_of
unfolding after_call called stored_of info_of bin_of moved_to stall_of unfit_of fault_of reset_of fresh_of polled getstatus_of getstate_of query_of
    answered upload_of uploaded_of uploading_at
sums_stay at c right =
    let s = at.session in
    let f = at.flash in
    let d = c.bytes in
    let kept : Session → Type 0 = λ t. Right t.sums f s.board.a.0 (app_end s.board) in
    every_way s f c.setup d c.reply
    (λ (l : Leaves). Right l.session.sums l.flash s.board.a.0 (app_end s.board))
    (record {
      unfits = λ _. right;
      stalls = λ _ _. pick kept (eqb s.phase.state.0 10) _ _ (λ _. right) (λ _. right);
      faults = λ _ _ _ _. right;
      unerased = λ _ _ _ _. right;
      programs = λ l _ i n.
          let p = ready-place s f l.fit (word_at d 2) (long_at d 4) i in
          written_right s f l.fit right (start_of (word_at d 2)) (drop 8 d) (record { low = p.low; high = omega arith });
      pieces = λ l n. written_right s f l.fit right s.down.place.0 d (piece_place s f c.setup (length d) l n);
      closes = λ _. right;
      reads = λ _ _. right;
      checks = λ _. right;
      erases = λ l _ i. erased_right s f l.fit right (word_at d 2) (word_at d 4) i;
      informs = λ _. right;
      bins = λ _. right;
      resets = λ _ _ _. right;
      uploads = λ _ _. pick kept (upload_ends _ _) _ _ (λ _. right) (λ _. right);
      polls = λ _ _. right;
      tells = λ _ _. right;
      queries = λ _ _. right;
      idles = λ _. right;
    })

-- changes outside the application add up to none
untouched_twice : (b : Board) (f g h : List ℕ) → Untouched b f g → Untouched b g h → Untouched b f h
untouched_twice b f g h p q =
    record {
      as_long = q.as_long ∙ p.as_long;
      as_before = λ k o. q.as_before k o ∙ p.as_before k o;
    }

-- a call keeps all that a history holds
held_after_call : (f : List ℕ) (b : Board) (at : Site) (c : Call) → Held f b at → Held f b (after_call step_of at c)
held_after_call f b at c h =
    let own : Summed at.session at.flash =
    subst⁻¹ (λ (x : Board). Right at.session.sums at.flash x.a.0 (app_end x)) h.board_kept h.sums_right
    in
    record {
      board_kept = board_stays at c ∙ h.board_kept;
      fit = stays_fit_holds at c h.fit;
      sums_right =
          subst (λ (x : Board). Right (after_call step_of at c).session.sums (after_call step_of at c).flash x.a.0 (app_end x))
          h.board_kept
          (sums_stay at c own);
      outside_kept =
          untouched_twice b f at.flash (after_call step_of at c).flash h.outside_kept
          (subst (λ (x : Board). Untouched x at.flash (after_call step_of at c).flash) h.board_kept (outside_holds at c));
    }

pub held_after_calls : (f : List ℕ) (b : Board) (at : Site) (calls : List Call) → Held f b at → Held f b (after_calls step_of at calls)
unfolding after_calls
held_after_calls f b at [] h = h
held_after_calls f b at (c ∷ cs) h = held_after_calls f b (after_call step_of at c) cs (held_after_call f b at c h)

pub held_begun :
    (f : List ℕ) (a b part0 part1 : ℕ) → AllowedStart f a b
    → Held f (board_of a b part0 part1) (begun start_outcome f a b part0 part1)
unfolding begun fresh_start fresh_of
held_begun f a b part0 part1 h =
    let e = started f a b part0 part1 h in
    let board = board_of a b part0 part1 in
    record {
      board_kept = ap (λ (o : Told). o.session.board) e;
      fit = (starts_fit_holds f a b part0 part1 h).fit;
      sums_right =
          subst⁻¹ (λ (o : Told). Right o.session.sums f a (app_end board)) e (fresh_right f a (app_end board));
      outside_kept = record { as_long = refl; as_before = λ k o. refl };
    }

pub history_holds : History start_outcome step_of
history_holds f a b part0 part1 h calls =
    held_after_calls f (board_of a b part0 part1) (begun start_outcome f a b part0 part1) calls (held_begun f a b part0 part1 h)
