-- Part after part: the loop keeps that the rest of the bytes gives what all of them gave.
use Prim.Native.Nat.{◌%◌}
use mathlib.Core.Path.{◌≡◌}
use lib.ListN.{length}
use Rattle.crc.specs.Crc.{crc_from}
use Rattle.crc.proofs.eighths.Reached.over_parts.Given as goal

abbrev pub invariant-loop-part : goal.invariant-loop-part
invariant-loop-part g l =
    record {
      same : crc_from l.self.sum l.self.rest.now ≡ crc_from l.initial.self.sum l.initial.self.rest.now;
      rest_length : length l.self.rest.now % g.row.PART ≡ length l.initial.self.rest.now % g.row.PART;
    }

abbrev pub decreases-loop-part : goal.decreases-loop-part
decreases-loop-part g l = length l.self.rest.now
