-- The theorems that a reader should know, each with its statement and one line. All that is demanded of a loader is in Demands; how
-- each is shown stands in the folders Safe, Does, Kept and Exact. Assumes nothing.
use Prim.Native.Nat.{ℕ}
use mathlib.Core.List.{List}
use mathlib.Core.Path.{◌≡◌}
use Rattle.flash.specs.Flash.{carried}
use Rattle.session.specs.declared.Session.{Session}
use Rattle.loader.specs.Step.{start_outcome, step_of, stores_of}
use Rattle.loader.proofs.Laws.{step_stores}
use Rattle.demands.specs.Safe.Outside.{Outside}
use Rattle.demands.specs.Safe.Refused.{Refused, UnfitExactly}
use Rattle.demands.specs.Does.Rows.{Rows}
use Rattle.demands.specs.Does.Commands.{EraseWorks, ProgramWorks}
use Rattle.demands.specs.Does.ReadBack.{ReadBack}
use Rattle.demands.specs.Kept.History.{History}
use Rattle.demands.specs.Kept.Named.{OnlyNamed}
use Rattle.demands.specs.Kept.LastFound.{LastFound}
use Rattle.demands.specs.Exact.Desk.{Desk}
use Rattle.demands.specs.Exact.OneOutcome.{OneOutcome}
use Rattle.demands.specs.Exact.Impostors.{Impostors}
use Rattle.demands.specs.Exact.Determine.{Determine, DetermineAnywhere}
use Rattle.demands.proofs.Demands.{meets_demands}
use Rattle.demands.proofs.Exact.Desk.{Desk_holds}
use Rattle.demands.proofs.Exact.OneOutcome.{OneOutcome_holds}
use Rattle.demands.proofs.Exact.Impostors.{Impostors_fail}
use Rattle.demands.proofs.Exact.Determine.{demands_determine, demands_determine_anywhere}

-- no call changes a byte outside the application, whatever it is handed
pub outside : Outside step_of
outside = meets_demands.outside

-- a refused call leaves flash and reply as they were, and the session as the answer table says
pub refused : Refused step_of
refused = meets_demands.refused

-- a call is answered unfit just where it isn't prepared
pub unfit_exactly : UnfitExactly step_of
unfit_exactly = meets_demands.unfit_exactly

-- every request does what its row of the table says, and anything else is stalled
pub rows : Rows step_of
rows = meets_demands.rows

-- a legal ERASE is taken: its blocks hold 0xFF, and every other byte is as before
pub erase_works : EraseWorks step_of
erase_works = meets_demands.erase_works

-- a legal PROG and each piece after it are taken: the bytes sent stand where they belong, and every other byte is as before
pub program_works : ProgramWorks step_of
program_works = meets_demands.program_works

-- a host that reads a range, erases it and sends back what it heard has the range's bytes again
pub read_back : ReadBack step_of
read_back = meets_demands.read_back

-- after a start and any calls the session is fit and its sums are those of the flash as it now is
pub history : History start_outcome step_of
history = meets_demands.history

-- over any history a call changes no byte but those that the ERASE or PROG named that it carries out or continues
pub only_named : OnlyNamed start_outcome step_of
only_named = meets_demands.only_named

-- after any calls the session's number is that of the last CHECK or PROG that searched: the first address of its range whose byte isn't
-- 0xFF, or none
pub last_found : LastFound start_outcome step_of
last_found = meets_demands.last_found

-- the flash that a call leaves is that of its single stores, one after another
pub stores :
    (s : Session) (flash setup d reply : List ℕ) → (step_of s flash setup d reply).flash ≡ carried flash (stores_of s flash setup d reply)
stores = step_stores

-- the starred desk examples hold to the byte
pub desk : Desk start_outcome step_of
desk = Desk_holds

-- what a public call promises leaves room for one outcome alone
pub one_outcome : OneOutcome
one_outcome = OneOutcome_holds

-- loaders that only look right fail a demand
pub impostors : Impostors
impostors = Impostors_fail

-- whatever loader meets the demands does what ours does, over any history
pub determine : Determine
determine = demands_determine

-- and wherever it stands, but for sums that weren't those of the flash
pub determine_anywhere : DetermineAnywhere
determine_anywhere = demands_determine_anywhere
