-- Kept: the number of where flash wasn't erased is that of the last search.
use Rattle.std.specs.Prelude.{ℕ, List, [], ◌∷◌, ◌≡◌}
use Rattle.demands.specs.Calls.{Start, Step, heard, Call, Site, begun, called, after_call, after_calls}
use Rattle.demands.specs.Commanded.{Searches, SearchLeaves}
use Rattle.demands.specs.Safe.Fit.{AllowedStart}

-- a call that doesn't search, and isn't RESET; and calls in a row of which none does
pub record Silent (step : Step) (at : Site) (c : Call) : Type 0 where
  pub no_search : (block len : ℕ) → Searches at c block len → ⊥
  pub no_reset : heard (called step at c) ≡ 4 → ⊥

abbrev pub AllSilent : Step → Site → List Call → Type 0
AllSilent step at [] = Unit
AllSilent step at (c ∷ cs) = Silent step at c × AllSilent step (after_call step at c) cs

-- the number after a call and more calls behind it
abbrev pub number_after : Step → Site → Call → List Call → ℕ
number_after step at c calls = (after_calls step (after_call step at c) calls).session.unerased

-- LastFound: a call that searches leaves what it found, RESET and a start leave none, and every other call leaves the number. So after
-- any calls it is that of the last search, or none where there was none since the start or the last RESET. That goes for any site
pub record LastFound (start : Start) (step : Step) : Type 0 where
  pub stays : (at : Site) (c : Call) → Silent step at c → (called step at c).session.unerased ≡ at.session.unerased
  pub searched :
      (at : Site) (c : Call) (block len : ℕ) → Searches at c block len → (calls : List Call)
      → AllSilent step (after_call step at c) calls → SearchLeaves at block len (number_after step at c calls)
  pub reset :
      (at : Site) (c : Call) → heard (called step at c) ≡ 4 → (calls : List Call)
      → AllSilent step (after_call step at c) calls → number_after step at c calls ≡ 0xFFFFFFFF
  pub started :
      (f : List ℕ) (a b part0 part1 : ℕ) → AllowedStart f a b → (calls : List Call)
      → AllSilent step (begun start f a b part0 part1) calls
      → (after_calls step (begun start f a b part0 part1) calls).session.unerased ≡ 0xFFFFFFFF
