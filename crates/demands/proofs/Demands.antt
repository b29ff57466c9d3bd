-- Our loader meets all that is demanded. Assumes nothing.
use Rattle.loader.specs.Step.{start_outcome, step_of}
use Rattle.demands.specs.Demands.{MeetsDemands}
use Rattle.demands.proofs.Safe.Outside.{outside_holds}
use Rattle.demands.proofs.Safe.Refused.{refused_holds, unfit_exactly_holds, stalled_exactly_holds}
use Rattle.demands.proofs.Safe.Fit.{stays_fit_holds, starts_fit_holds, refused_start_holds}
use Rattle.demands.proofs.Does.Rows.{Rows_hold}
use Rattle.demands.proofs.Does.Commands.{Commands_hold}
use Rattle.demands.proofs.Does.Works.{EraseWorks_holds, ProgramWorks_holds}
use Rattle.demands.proofs.Does.Starts.{Starts_hold}
use Rattle.demands.proofs.Kept.History.{history_holds, sums_stay}
use Rattle.demands.proofs.Kept.Named.{only_named_holds}
use Rattle.demands.proofs.Kept.LastFound.{last_found_holds}
use Rattle.demands.proofs.Does.ReadBack.{ReadBack_holds}

pub meets_demands : MeetsDemands start_outcome step_of
meets_demands =
    record {
      outside = outside_holds;
      refused = refused_holds;
      unfit_exactly = unfit_exactly_holds;
      stalled_exactly = stalled_exactly_holds;
      stays_fit = stays_fit_holds;
      starts_fit = starts_fit_holds;
      refused_start = refused_start_holds;
      rows = Rows_hold;
      commands = Commands_hold;
      erase_works = EraseWorks_holds;
      program_works = ProgramWorks_holds;
      starts = Starts_hold;
      read_back = ReadBack_holds;
      history = history_holds;
      sums_stay = sums_stay;
      only_named = only_named_holds;
      last_found = last_found_holds;
    }
