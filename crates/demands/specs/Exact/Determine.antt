-- The demands leave no choice: whatever loader meets them does what ours does, over any history.
use Rattle.std.specs.Prelude.{ℕ, List, ◌≡◌}
use Rattle.session.specs.Session.{with_sums}
use Rattle.answers.specs.Answers.{Leaves, Told}
use Rattle.loader.specs.Step.{start_outcome, step_of}
use Rattle.demands.specs.Calls.{Start, Step, heard, Call, Site, begun, called, after_calls}
use Rattle.demands.specs.Kept.History.{SumsRight}
use Rattle.demands.specs.Demands.{MeetsDemands}

-- two starts leave the same, field by field
pub record SameStart (o p : Told) : Type 0 where
  pub answer : o.answer ≡ p.answer
  pub count : o.count ≡ p.count
  pub session : o.session ≡ p.session

-- so do two calls
pub record SameLeaves (l m : Leaves) : Type 0 where
  pub answer : heard l ≡ heard m
  pub count : l.count ≡ m.count
  pub session : l.session ≡ m.session
  pub flash : l.flash ≡ m.flash
  pub reply : l.reply ≡ m.reply

-- two calls leave the same but for the sums
pub record SameButSums (l m : Leaves) : Type 0 where
  pub answer : heard l ≡ heard m
  pub count : l.count ≡ m.count
  pub session : l.session ≡ with_sums m.session l.session.sums
  pub flash : l.flash ≡ m.flash
  pub reply : l.reply ≡ m.reply

-- a loader does what ours does: its start on this flash and these numbers, and every call after any calls behind it
pub record SameAsOurs (start : Start) (step : Step) (f : List ℕ) (a b part0 part1 : ℕ) : Type 0 where
  pub begins : SameStart (start f a b part0 part1) (start_outcome f a b part0 part1)
  pub goes_on :
      (calls : List Call) (c : Call)
      → SameLeaves (called step (after_calls step (begun start f a b part0 part1) calls) c)
      (called step_of (after_calls step_of (begun start_outcome f a b part0 part1) calls) c)

-- Determine: so does every loader that meets the demands, on any flash and numbers, those that a start refuses too
abbrev pub Determine : Type 0
Determine =
    (start : Start) (step : Step) → MeetsDemands start step → (f : List ℕ) (a b part0 part1 : ℕ)
    → SameAsOurs start step f a b part0 part1

-- and at any site, whatever led there and whatever the session: the sums too where they were those of the flash, the paper's one
-- exception where they weren't
pub record SameAnywhere (step : Step) (at : Site) (c : Call) : Type 0 where
  pub but_sums : SameButSums (called step at c) (called step_of at c)
  pub sums_too : SumsRight at.session.board at → SameLeaves (called step at c) (called step_of at c)

abbrev pub DetermineAnywhere : Type 0
DetermineAnywhere = (start : Start) (step : Step) → MeetsDemands start step → (at : Site) (c : Call) → SameAnywhere step at c
