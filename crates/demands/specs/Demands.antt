-- All that is demanded of a loader, of any start and step.
use Rattle.demands.specs.Calls.{Start, Step}
use Rattle.demands.specs.Safe.Outside.{Outside}
use Rattle.demands.specs.Safe.Refused.{Refused, UnfitExactly, StalledExactly}
use Rattle.demands.specs.Safe.Fit.{StaysFit, StartsFit, RefusedStart}
use Rattle.demands.specs.Does.Rows.{Rows}
use Rattle.demands.specs.Does.Starts.{Starts}
use Rattle.demands.specs.Does.Commands.{EraseWorks, ProgramWorks, Commands}
use Rattle.demands.specs.Kept.History.{History, SumsStay}
use Rattle.demands.specs.Kept.Named.{OnlyNamed}
use Rattle.demands.specs.Kept.LastFound.{LastFound}
use Rattle.demands.specs.Does.ReadBack.{ReadBack}

-- a loader that meets the demands
pub record MeetsDemands (start : Start) (step : Step) : Type 0 where
  -- safe
  pub outside : Outside step
  pub refused : Refused step
  pub unfit_exactly : UnfitExactly step
  pub stalled_exactly : StalledExactly step
  pub stays_fit : StaysFit step
  pub starts_fit : StartsFit start
  pub refused_start : RefusedStart start step
  -- does
  pub rows : Rows step
  pub commands : Commands step
  pub erase_works : EraseWorks step
  pub program_works : ProgramWorks step
  pub starts : Starts start
  pub read_back : ReadBack step
  -- kept
  pub history : History start step
  pub sums_stay : SumsStay step
  pub only_named : OnlyNamed start step
  pub last_found : LastFound start step
