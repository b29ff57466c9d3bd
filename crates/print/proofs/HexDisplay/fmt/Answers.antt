-- The eight digits are text. Assumes nothing.
use Rattle.std.specs.Str.{IsUtf8}
use Rattle.std.proofs.Common.{rules}
use Rattle.print.proofs.Text.{hex_text}
use Rattle.print.proofs.HexDisplay.fmt.Goals as goal

pub unwrap-requires : goal.unwrap-requires
unwrap-requires g c = let text : IsUtf8 c.hex8.result = rw c.hex8.ensures (hex_text _) in search rules
