-- The invariant: the lines that are left, laid from here on, give what all of them give. Assumes nothing.
use Prim.Native.Nat.{◌+◌, ◌*◌, ◌≤◌, ◌-◌}
use Rattle.pieces.proofs.Laws.{Owed}
use Rattle.listing.specs.Listing.{lines_from, most_line}
use Rattle.listing.proofs.lines.Given as goal

abbrev pub invariant-loop-k : goal.invariant-loop-k
invariant-loop-k l =
    record {
      within : l.end ≤ l.at + most_line * l.k;
      owed : Owed l.initial.text l.text l.at l.end (lines_from l.file l.count 0) (lines_from l.file (l.count - l.k) l.k);
    }
