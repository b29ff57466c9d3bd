-- The rows say which calls search and what they leave, and that all others but RESET leave the number. Assumes nothing.
use Prim.Native.Nat.{ℕ}
use mathlib.Core.Logic.{⊎_elim}
use mathlib.Core.List.{List, [], ◌∷◌}
use mathlib.Core.Path.{◌≡◌, refl, ap, subst⁻¹, ◌∙◌}
use Rattle.session.specs.declared.Session.{Session}
use Rattle.loader.specs.Step.{start_outcome, step_of}
use Rattle.demands.specs.Calls.{Step, Call, Site, begun, called, after_call, after_calls}
use Rattle.demands.specs.Commanded.{Blank, FirstUnerased, Searches, prog, check, SearchLeaves, first, none}
use Rattle.demands.specs.Kept.LastFound.{Silent, AllSilent, LastFound}
use Rattle.demands.proofs.Ground.Unerased.{blank_or_first}
use Rattle.demands.proofs.Does.EveryRow.{MeetsRows, every_row}
use Rattle.demands.proofs.Does.Rows.{Rows_hold}
use Rattle.demands.proofs.Does.Starts.{Starts_hold}
use Rattle.demands.proofs.Does.Commands.{Commands_hold}
use Rattle.demands.proofs.Does.Works.{EraseWorks_holds, ProgramWorks_holds}
use Rattle.demands.proofs.Safe.Refused.{refused_holds, unfit_exactly_holds}

module _ (step : Step) (meets : MeetsRows step) (at : Site) (c : Call) where
  -- the number of the session that is handed back
  number_of : {t : Session} → (called step at c).session ≡ t → (called step at c).session.unerased ≡ t.unerased
  number_of e = ap (λ (s : Session). s.unerased) e

  -- where all is erased, and where the first address is that isn't
  by-range :
      (block len : ℕ) → (Blank at block len → (called step at c).session.unerased ≡ 0xFFFFFFFF)
      → ((k : ℕ) → FirstUnerased at block len k → (called step at c).session.unerased ≡ k)
      → SearchLeaves at block len (called step at c).session.unerased
  by-range block len all some =
      ⊎_elim (λ blank. none blank (all blank))
      (λ f. first (subst⁻¹ (FirstUnerased at block len) (some f.0 f.1) f.1)) (blank_or_first at block len)

  found : (block len : ℕ) → Searches at c block len → SearchLeaves at block len (called step at c).session.unerased
  found block len (prog n is long named legal few) =
      by-range block len
      (λ blank. number_of ((meets.program_works at c).starts block len n is long named legal few blank).session)
      (λ k is_first. number_of ((meets.commands at c).prog_unerased block len n k is long named legal few is_first).session)
  found block len (check is named legal) =
      by-range block len (λ blank. number_of ((meets.commands at c).check block len is named legal blank).session)
      (λ k is_first. number_of ((meets.commands at c).check_unerased block len k is named legal is_first).session)

  unfound : Silent step at c → (called step at c).session.unerased ≡ at.session.unerased
  unfound silent =
      every_row {I = Unit} (λ _. step) at c ((called step at c).session.unerased ≡ at.session.unerased) (λ _. meets)
      (record {
        unfits = λ _ left. number_of (left tt).session;
        hands = λ same h. number_of (h tt).session ∙ same;
        resets = λ h. absurd (silent.no_reset (h tt).answers.answer);
        erases = λ h. number_of (h tt).session;
        pieces = λ h. number_of (h tt).session;
        programs = λ s _. absurd (silent.no_search _ _ s);
        finds = λ s _. absurd (silent.no_search _ _ s);
      })

-- calls in a row that neither search nor are RESET leave the number
all_unfound :
    (step : Step) → MeetsRows step → (at : Site) (calls : List Call) → AllSilent step at calls
    → (after_calls step at calls).session.unerased ≡ at.session.unerased
unfolding after_calls after_call
all_unfound step meets at [] silent = refl
all_unfound step meets at (c ∷ cs) silent =
    all_unfound step meets (after_call step at c) cs silent.1 ∙ unfound step meets at c silent.0

pub rows_met : MeetsRows step_of
rows_met =
    record {
      refused = refused_holds;
      unfit_exactly = unfit_exactly_holds;
      rows = Rows_hold;
      commands = Commands_hold;
      erase_works = EraseWorks_holds;
      program_works = ProgramWorks_holds;
    }

pub last_found_holds : LastFound start_outcome step_of
unfolding after_call begun
last_found_holds =
    record {
      stays = unfound step_of rows_met;
      searched =
          λ at c block len s calls silent.
          subst⁻¹ (SearchLeaves at block len) (all_unfound step_of rows_met (after_call step_of at c) calls silent)
          (found step_of rows_met at c block len s);
      reset =
          λ at c e calls silent.
          all_unfound step_of rows_met (after_call step_of at c) calls silent ∙ ((refused_holds at c).reset_asked e).as_fresh.unerased_is;
      started =
          λ f a b part0 part1 allowed calls silent.
          all_unfound step_of rows_met (begun start_outcome f a b part0 part1) calls silent
          ∙ (Starts_hold.taken f a b part0 part1 allowed).unerased;
    }
