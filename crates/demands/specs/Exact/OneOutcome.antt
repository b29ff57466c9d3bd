-- Exact: no second outcome fits.
use Rattle.std.specs.Prelude.{ℕ, ◌<◌, List, Result, ◌≡◌}
use Rattle.flash.specs.Flash.{start_of, Within, searched, found_number}
use Rattle.session.specs.declared.Talk.{Talk}
use Rattle.session.specs.declared.Session.{Session}
use Rattle.session.specs.Session.{with_talk}
use Rattle.numbers.specs.Numbers.{word_at}
use Rattle.request.specs.declared.Command.{Command}
use Rattle.request.specs.declared.UnknownCommand.{UnknownCommand}
use Rattle.request.specs.Commands.{Decodes}
use Rattle.stream.specs.Stream.{Sent}
use Rattle.answers.specs.declared.Answer.{Answer}
use Rattle.answers.specs.declared.Heard.{Heard}
use Rattle.answers.specs.Answers.{answer_number, Leaves, Told, heard_at}
use Rattle.jobs.specs.declared.Decision.{Decision}
use Rattle.jobs.specs.Job.{planned}
use Rattle.loader.specs.Step.{start_outcome, step_of}
use Rattle.demands.specs.Calls.{Site}
use Rattle.demands.specs.Commanded.{SearchLeaves}

-- no second outcome fits, on the refused inputs too
pub record OneOutcome : Type 1 where
  -- the promise of every public call but two is an equation: all that it leaves, as one value, is what one definition says. The two
  -- have fields of their own, `sent` and `command`; the law of those that lay bytes is `one_laid` (pieces), that of a `files::Counted`
  -- `one_counted` (files)
  pub equation : {A : Type 0} (said left other : A) → left ≡ said → other ≡ said → left ≡ other
  -- so it is for a start and for a request
  pub start :
      (flash : List ℕ) (a b part0 part1 : ℕ) (t u : Told) → t ≡ start_outcome flash a b part0 part1
      → u ≡ start_outcome flash a b part0 part1 → t ≡ u
  pub step :
      (s : Session) (flash setup d reply : List ℕ) (l m : Leaves) → l ≡ step_of s flash setup d reply
      → m ≡ step_of s flash setup d reply → l ≡ m
  -- what hands back a talk promises the session, the outcome or the plan that this makes of the session handed over: each tells the talk
  pub talk : (s : Session) (t u : Talk) → with_talk s t ≡ with_talk s u → t ≡ u
  pub heard : (s : Session) (h k : Heard) → heard_at s h ≡ heard_at s k → h ≡ k
  pub decision : (s : Session) (x y : Decision) → planned s x ≡ planned s y → x ≡ y
  -- stream::send promises a count and the reply buffer apart
  pub sent :
      (n m : ℕ) (before after other bytes : List ℕ) → Sent n before after bytes → Sent m before other bytes
      → (n ≡ m) × (after ≡ other)
  -- a number is read as the command that has it, or told as none's where no command has it
  pub command : (number : ℕ) (r q : Result Command UnknownCommand) → Decodes number r → Decodes number q → r ≡ q
  -- numbers::word has 16 bits by its type; a bound that stands beside its equation leaves no second number either
  pub word :
      (bytes : List ℕ) (at r q : ℕ) → (r ≡ word_at bytes at) × (r < 65536) → (q ≡ word_at bytes at) × (q < 65536) → r ≡ q
  -- and an answer is told by its number
  pub answer : (x y : Answer) → answer_number x ≡ answer_number y → x ≡ y
  -- so is what a search found, whatever the flash and the range
  pub found :
      (f g : List ℕ) (block len first n : ℕ) → Within f (start_of block) len → Within g (start_of first) n
      → found_number (searched f block len) ≡ found_number (searched g first n) → searched f block len ≡ searched g first n
  -- and a search leaves one number: a range has one first address whose byte isn't 0xFF, or none
  pub search_leaves :
      (at : Site) (block len j k : ℕ) → SearchLeaves at block len j → SearchLeaves at block len k → j ≡ k
