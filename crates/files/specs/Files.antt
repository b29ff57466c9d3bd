-- The calls for files as a host hears them: numbers for refusals, and zeros where there is nothing else to say.
use Rattle.std.specs.Prelude.{ℕ, ◌≡◌, List, Result, Ok, Err, MatchResult}
use Rattle.suffix.specs.declared.Parts.{Parts}
use Rattle.suffix.specs.declared.Refusal.{Refusal}
use Rattle.suffix.specs.Suffix.{Reading, refusal_number, Writing, unwritten_number, Left, write_of}
use Rattle.bundle.specs.Bundle as Bundle
use Rattle.files.specs.declared.SuffixFound.{SuffixFound}
use Rattle.files.specs.declared.Counted.{Counted}

-- a refusal by its number, with nothing read
abbrev pub refused_by : Refusal → SuffixFound
refused_by r = record { parts = record { device = 0; product = 0; vendor = 0 }; refused = refusal_number r; length = 0 }

-- a reading, as the host has it
unfoldable pub told_read : Reading → SuffixFound
told_read (Ok s) = record { parts = s.parts; refused = 0; length = s.length }
told_read (Err r) = refused_by r

-- what is told of a count: itself; and of a refusal: a number that it converts into, and no count
abbrev pub Counts : {E : Type 0} → (E → ℕ → Type 0) → Result ℕ E → Counted → Type 0
Counts converts found told =
    MatchResult found (λ n. told ≡ record { refused = 0; count = n }) (λ e. converts e told.refused × (told.count ≡ 0))

-- what is counted, or the number of why there is nothing
unfoldable pub counted : {E : Type 0} → (E → ℕ) → Result ℕ E → Counted
counted number (Ok n) = record { refused = 0; count = n }
counted number (Err e) = record { refused = number e; count = 0 }

-- nothing else fits that: where a refusal converts into one number, one is told of it; and where `number` gives it, it is `counted number`
pub record OneCounted : Type 1 where
  pub once :
      {E : Type 0} (converts : E → ℕ → Type 0) → ((e : E) (n m : ℕ) → converts e n → converts e m → n ≡ m)
      → (found : Result ℕ E) (t u : Counted) → Counts converts found t → Counts converts found u → t ≡ u
  pub equation :
      {E : Type 0} (number : E → ℕ) (found : Result ℕ E) (t : Counted)
      → Counts (λ e n. n ≡ number e) found t → t ≡ counted number found

-- a writing: too little room is 1, the only refusal
abbrev pub told_written : Writing → Counted
told_written w = counted unwritten_number w

-- all that a writing leaves at the host
pub record AtHost : Type 0 where
  pub written : Counted
  pub buffer : List ℕ

abbrev pub at_host : Counted → List ℕ → AtHost
at_host written buffer = record { written = written; buffer = buffer }

unfoldable pub suffix_written : List ℕ → Parts → List ℕ → AtHost
suffix_written file p buffer =
    let l : Left = write_of file p buffer in
    at_host (told_written l.result) l.buffer

-- what was found in a bundle, and what was written of one
abbrev pub told_bundle : Bundle.Reading → Counted
told_bundle r = counted Bundle.refusal_number r

abbrev pub told_bundled : Bundle.Writing → Counted
told_bundled w = counted Bundle.unwritten_number w

unfoldable pub bundle_written : List ℕ → List ℕ → List ℕ → AtHost
bundle_written lengths images buffer =
    let l : Bundle.Left = Bundle.write_of lengths images buffer in
    at_host (told_bundled l.result) l.buffer
