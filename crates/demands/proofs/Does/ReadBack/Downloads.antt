-- The downloads of reading back: the first answer is the PROG command with its first data, each other one a piece, and together they
-- fill the range. Assumes nothing.
use Prim.Native.Nat.{ℕ, ◌+◌, ◌-◌, ◌≤◌, ◌<◌}
use mathlib.Core.Bool.{true}
use mathlib.Core.List.{List, [], ◌∷◌, ◌++◌, append-nil}
use mathlib.Core.Path.{◌≡◌, refl, sym, ap, ap₂, ◌∙◌, subst}
use native.Mathlib.Decide.{ℕ_discrete}
use native.Mathlib.Nat.{add-zero}
use native.Mathlib.Omega.{arith}
use borrow.Author.Tests.{ne_eqb, le-leb}
use lib.ListN.{length, take, drop, length-append, length-drop, take-append-drop}
use lib.Seq.{take-append-le, drop-append-le}
use Rattle.flash.specs.Flash.{start_of, range, spliced, blank, nothing, nowhere, found_number}
use Rattle.flash.proofs.Laws.{spliced-length, spliced-join}
use Rattle.flash.proofs.Unerased.{blank-searched}
use Rattle.sums.specs.declared.Sums.{Sums}
use Rattle.session.specs.Codes.{download_idle}
use Rattle.session.specs.Session.{down_of, no_download, up_of, app_end, flash_stream, with_unerased}
use Rattle.session.specs.Rules.{split_rule, in_application}
use Rattle.session.specs.declared.Session.{Session}
use Rattle.session.proofs.Laws.{end_in_flash, inside_facts}
use Rattle.numbers.specs.Numbers.{word_at, long_at}
use Rattle.numbers.proofs.Laws.{four_bytes}
use Rattle.request.specs.Request.{allowed_of}
use Rattle.stream.specs.Stream.{header_of}
use Rattle.answers.specs.Answers.{leaves}
use Rattle.answers.specs.Moves.{moved_to, taken_of}
use Rattle.jobs.specs.Job.{Plan, sums_after}
use Rattle.command.specs.Download.{all_erased, wrote_of, prog_of, well_formed, by_number, piece_of, dnload_of}
use Rattle.loader.specs.Reply.{entered, polled}
use Rattle.loader.specs.Step.{step_of}
use Rattle.demands.specs.Calls.{Site, called}
use Rattle.demands.specs.Does.ReadBack.{Host, asks, Ran, run, dnload, poll, sends}
use Rattle.demands.proofs.Does.ReadBack.Calls.{site_of, on_taken, is_yes, is_no, dnload-called}
use Rattle.demands.proofs.Does.ReadBack.Sessions.{in_state_lem, at_idle, at_piece, at_download, idle_fit, piece_fit, download_fit}
use Rattle.demands.proofs.Does.ReadBack.Parts.{polled_on, command_called, near}
use Rattle.demands.proofs.Does.ReadBack.Uploads.{Pieces, none, more}
use Rattle.demands.proofs.Ground.Finished.{stored_of, finished, bytes_finished}

-- what the downloads of some bytes to an address leave: all taken, the bytes in their places, and none left to come
pub record Filled (r : Ran Unit) (g : List ℕ) (at : ℕ) (xs : List ℕ) : Type 0 where
  pub taken : r.taken ≡ true
  pub flash : r.site.flash ≡ spliced g at xs
  pub state : r.site.session.phase.state.0 ≡ download_idle
  pub down : r.site.session.down ≡ down_of (at + length xs) 0

spliced_none : (g : List ℕ) (at : ℕ) → g ≡ spliced g at []
unfolding spliced
spliced_none g at =
    sym
    (ap (λ (n : ℕ). take at g ++ [] ++ drop n g) (add-zero at)
    ∙ ap (λ (xs : List ℕ). xs ++ drop at g) (append-nil (take at g))
    ∙ take-append-drop at g)

-- with other bytes filled before them
filled_after :
    (r : Ran Unit) (g : List ℕ) (at : ℕ) (d rest : List ℕ) → at + length d ≤ length g
    → Filled r (spliced g at d) (at + length d) rest → Filled r g at (d ++ rest)
filled_after r g at d rest h w =
    record {
      taken = w.taken;
      flash = w.flash ∙ spliced-join g at d h rest;
      state = w.state;
      down = w.down ∙ ap (λ (n : ℕ). down_of n 0) (omega (arith, length-append d rest));
    }

module _
    (base : Session) (block len : ℕ) (lent : List ℕ) (split : split_rule base.board ≡ true)
    (legal : in_application base.board block len ≡ true) (room : 1024 ≤ length lent) where
  -- PROG finds all erased
  abbrev found : Session
  found = with_unerased base nowhere

  -- a download at a place with so many bytes left, between two polls and before one
  loading : ℕ → ℕ → Sums → Session
  loading at left sums = in_state_lem found block len at_download (down_of at left) 0 sums

  loaded : ℕ → ℕ → Sums → Session
  loaded at left sums = in_state_lem found block len at_piece (down_of at left) 0 sums

  -- where data goes
  record Ahead (g : List ℕ) (at left : ℕ) : Type 0 where
    sized : length g ≡ start_of base.board.b.0
    from : start_of base.board.a.0 ≤ at
    to : at + left ≤ start_of (app_end base.board)

  inside_flash : (g : List ℕ) (at left : ℕ) → Ahead g at left → at + left ≤ length g
  inside_flash g at left w = omega (arith, end_in_flash base.board)

  behind :
      (g : List ℕ) (at left : ℕ) (d : List ℕ) (rest : ℕ) → Ahead g at left → left ≡ length d + rest
      → Ahead (spliced g at d) (at + length d) rest
  behind g at left d rest w e =
      let inside = inside_flash g at left w in
      record { sized = spliced-length g at d (omega arith) ∙ w.sized; from = omega arith; to = omega arith }

  polled_piece : (g : List ℕ) (at left : ℕ) (sums : Sums) → Ahead g at left → (h : Host Unit)
      → run step_of (site_of (loaded at left sums) g) (asks (poll lent) (λ _. h)) ≡ run step_of (site_of (loading at left sums) g) h
  unfolding loaded loading polled entered
  polled_piece g at left sums w h =
      polled_on (loaded at left sums) g lent
      (record { fit = piece_fit found block len split legal sums at left w.from w.to; sized = w.sized }) room h

  -- a piece of data
  piece_called :
      (g : List ℕ) (at left : ℕ) (sums : Sums) (d : List ℕ) → Ahead g at left → 0 < length d → length d ≤ 1024 → length d ≤ left
      → called step_of (site_of (loading at left sums) g) (dnload lent d)
      ≡ leaves
      (taken_of (loaded (at + length d) (left - length d) (sums_after base.board sums (spliced g at d) at (length d))))
      (spliced g at d)
      lent
  unfolding loaded loading dnload_of piece_of stored_of moved_to allowed_of
  piece_called g at left sums d w some few fits =
      dnload-called (loading at left sums) g lent
      (record { fit = download_fit found block len split legal sums at left w.from w.to; sized = w.sized }) room d few refl
      ∙ ap (λ (x : Plan). finished x g d lent) (is_no _ _ _ (ne_eqb (length d) 0 (omega arith)) ∙ is_yes _ _ _ (le-leb _ _ fits))
      ∙ bytes_finished (loading at left sums) g d lent at 0 (length d) (left - length d) refl

  filled :
      {ps : List (List ℕ)} {xs : List ℕ} → Pieces ps xs → (g : List ℕ) (at left : ℕ) (sums : Sums) → Ahead g at left
      → left ≡ length xs → Filled (run step_of (site_of (loading at left sums) g) (sends lent ps)) g at xs
  unfolding run sends loading
  filled none g at left sums w e =
      record { taken = refl; flash = spliced_none g at; state = refl; down = ap₂ down_of (omega arith) (omega arith) }
  filled (more {p} {rest} {ps} some few full then) g at left sums w e =
      let sum : left ≡ length p + length rest = omega (arith, length-append p rest) in
      let next : Ahead (spliced g at p) (at + length p) (left - length p) = behind g at left p (left - length p) w (omega arith) in
      let kept = sums_after base.board sums (spliced g at p) at (length p) in
      let inside = inside_flash g at left w in
      subst (λ (r : Ran Unit). Filled r g at (p ++ rest))
      (sym
      (on_taken (site_of (loading at left sums) g) (dnload lent p) (λ _. asks (poll lent) (λ _. sends lent ps)) _ _ _ _
      (piece_called g at left sums p w some few (omega arith))
      ∙ polled_piece (spliced g at p) (at + length p) (left - length p) kept next (sends lent ps)))
      (filled_after _ g at p rest (omega arith)
      (filled then (spliced g at p) (at + length p) (left - length p) kept next (omega arith)))

  abbrev header : List ℕ
  header = header_of (up_of flash_stream 1 block len 0)

  -- PROG, with its first data behind the header
  module _
      (g : List ℕ) (sums : Sums) (sized : length g ≡ start_of base.board.b.0)
      (all_blank : range g (start_of block) len ≡ blank len) where
    waiting : Site
    waiting = site_of (in_state_lem base block len at_idle no_download 0 sums) g

    prog-called :
        (x : List ℕ) → 8 + length x ≤ 1024 → length x ≤ len
        → called step_of waiting (dnload lent (header ++ x))
        ≡ leaves
        (taken_of
        (loaded (start_of block + length x) (len - length x)
        (sums_after base.board sums (spliced g (start_of block) x) (start_of block) (length x))))
        (spliced g (start_of block) x)
        lent
    unfolding waiting loaded header_of well_formed by_number prog_of stored_of all_erased moved_to
    prog-called x few fits =
        let s = in_state_lem base block len at_idle no_download 0 sums in
        let t = with_unerased s nowhere in
        let d = header ++ x in
        let none = blank-searched g block len all_blank in
        let small = near base.board block len split legal in
        let well : well_formed d ≡ true = rw (le-leb 8 (length d) (omega arith)) in
        let the_block : word_at d 2 ≡ block = omega arith in
        let the_length : long_at d 4 ≡ len = four_bytes len (omega arith) in
        let brought : length d - 8 ≡ length x = omega arith in
        command_called s g lent (record { fit = idle_fit base block len split legal sums; sized = sized }) room d refl well (omega arith)
        ∙ ap (λ (m : ℕ). finished (prog_of s g (word_at d 2) (long_at d 4) m) g d lent) brought
        ∙ ap₂ (λ (b n : ℕ). finished (prog_of s g b n (length x)) g d lent) the_block the_length
        ∙ ap (λ (y : Plan). finished y g d lent)
        (is_yes _ _ _ legal ∙ is_yes _ _ _ (le-leb _ _ fits) ∙ is_yes _ _ _ (ap nothing none)
        ∙ ap (λ (n : ℕ). wrote_of (with_unerased s n) (start_of block) 8 (length x) (len - length x)) (ap found_number none))
        ∙ bytes_finished t g d lent (start_of block) 8 (length x) (len - length x) refl

    first_sent :
        {ps : List (List ℕ)} {rest : List ℕ} (x : List ℕ) → Pieces ps rest → 8 + length x ≤ 1024
        → length x + length rest ≡ len → Filled (run step_of waiting (sends lent ((header ++ x) ∷ ps))) g (start_of block) (x ++ rest)
    unfolding waiting sends
    first_sent {ps} {rest} x then few sum =
        let at = start_of block in
        let inside = inside_facts base.board block len legal in
        let begin : Ahead g at len = record { sized = sized; from = omega arith; to = inside.to } in
        let next : Ahead (spliced g at x) (at + length x) (len - length x) = behind g at len x (len - length x) begin (omega arith) in
        let kept = sums_after base.board sums (spliced g at x) at (length x) in
        let in_flash = inside_flash g at len begin in
        subst (λ (r : Ran Unit). Filled r g at (x ++ rest))
        (sym
        (on_taken waiting (dnload lent (header ++ x)) (λ _. asks (poll lent) (λ _. sends lent ps)) _ _ _ _ (prog-called x few (omega arith))
        ∙ polled_piece (spliced g at x) (at + length x) (len - length x) kept next (sends lent ps)))
        (filled_after _ g at x rest (omega arith) (filled then (spliced g at x) (at + length x) (len - length x) kept next (omega arith)))

    -- the pieces of the header and the range's bytes
    all_sent_as :
        {ps : List (List ℕ)} {xs : List ℕ} (bytes : List ℕ) → Pieces ps xs → xs ≡ header ++ bytes → length bytes ≡ len
        → Filled (run step_of waiting (sends lent ps)) g (start_of block) bytes
    unfolding header_of
    all_sent_as bytes none e l = absurd (omega (arith, ap length e))
    all_sent_as bytes (more {p} {rest} {ps} some few full then) e l =
        let small = near base.board block len split legal in
        let sum : length p + length rest ≡ 8 + len = omega (arith, length-append p rest, ap length e) in
        let long : 8 ≤ length p =
        elim (ℕ_discrete (length rest) 0) [ yes z ↦ omega arith | no n ↦ (let whole = full (omega arith) in omega arith) ]
        in
        let x = drop 8 p in
        let x_length = length-drop 8 p in
        let first : p ≡ header ++ x =
        sym (take-append-drop 8 p)
        ∙ ap (λ (h : List ℕ). h ++ x) (sym (take-append-le 8 p rest long) ∙ ap (take 8) e)
        in
        let data_is : x ++ rest ≡ bytes = sym (drop-append-le 8 p rest long) ∙ ap (drop 8) e in
        subst (λ (d : List ℕ). Filled (run step_of waiting (sends lent (d ∷ ps))) g (start_of block) bytes) (sym first)
        (subst (λ (d : List ℕ). Filled (run step_of waiting (sends lent ((header ++ x) ∷ ps))) g (start_of block) d) data_is
        (first_sent x then (omega arith) (omega arith)))

  pub all_sent :
      (g : List ℕ) (sums : Sums) → length g ≡ start_of base.board.b.0 → range g (start_of block) len ≡ blank len
      → {ps : List (List ℕ)} (bytes : List ℕ) → Pieces ps (header_of (up_of flash_stream 1 block len 0) ++ bytes) → length bytes ≡ len
      → Filled (run step_of (site_of (in_state_lem base block len at_idle no_download 0 sums) g) (sends lent ps)) g (start_of block) bytes
  unfolding waiting
  all_sent g sums sized all_blank bytes parts l = all_sent_as g sums sized all_blank bytes parts refl l
