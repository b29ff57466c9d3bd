-- Safe: a fit session stays fit, and a start hands one back or none that a call would take.
use Rattle.std.specs.Prelude.{ℕ, ◌≤◌, ◌<◌, List, ◌≡◌, length}
use Rattle.flash.specs.Flash.{start_of}
use Rattle.sums.specs.Sum.{most_blocks}
use Rattle.session.specs.Session.{zeros_of}
use Rattle.session.specs.Fit.{Fit}
use Rattle.answers.specs.Answers.{Told}
use Rattle.demands.specs.Calls.{Start, Step, heard, Call, Site, called, after_call}
use Rattle.demands.specs.Safe.Refused.{Unfit}

-- StaysFit: a fit session is handed back fit, whatever the call
abbrev pub StaysFit : Step → Type 0
StaysFit step = (at : Site) (c : Call) → Fit at.session → Fit (after_call step at c).session

-- sizes that a start allows: 1 ≤ A < B, B at most the most blocks, and a flash of B × 1,024 bytes
pub record AllowedStart (f : List ℕ) (a b : ℕ) : Type 0 where
  pub some_loader : 1 ≤ a
  pub some_application : a < b
  pub few_blocks : b ≤ most_blocks
  pub sized : length f ≡ start_of b

-- a start that is taken, with a fit session
pub record GoodStart (o : Told) : Type 0 where
  pub answer : o.answer ≡ 0
  pub count : o.count ≡ 0
  pub fit : Fit o.session

-- StartsFit: so is every start on allowed sizes
abbrev pub StartsFit : Start → Type 0
StartsFit start = (f : List ℕ) (a b part0 part1 : ℕ) → AllowedStart f a b → GoodStart (start f a b part0 part1)

-- a start that is answered unfit, with the session of zeros, which every later call finds unfit, whatever flash it is lent
pub record BadStart (step : Step) (o : Told) : Type 0 where
  pub answer : o.answer ≡ 2
  pub count : o.count ≡ 0
  pub session : o.session ≡ zeros_of
  pub later_answer : (g : List ℕ) (c : Call) → heard (called step (record { session = o.session; flash = g }) c) ≡ 2
  pub later :
      (g : List ℕ) (c : Call)
      → Unfit (record { session = o.session; flash = g }) c (called step (record { session = o.session; flash = g }) c)

-- RefusedStart: so is every other start
abbrev pub RefusedStart : Start → Step → Type 0
RefusedStart start step =
    (f : List ℕ) (a b part0 part1 : ℕ) → (AllowedStart f a b → ⊥) → BadStart step (start f a b part0 part1)
