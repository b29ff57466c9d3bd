-- What a call is worth: a line that tells all that it left.
use Rattle.std.specs.Prelude.{ℕ, zero, suc, ◌+◌, List, [], ◌∷◌, ◌++◌, get_or, replicate}
use Rattle.crc.specs.Crc.{crc_of}
use Rattle.sums.specs.Sum.{most_blocks}
use Rattle.numbers.specs.Numbers.{bytes4}
use Rattle.print.specs.Decimal.{decimal_of}
use Rattle.print.specs.Hex.{hex_of}
use Rattle.session.specs.declared.Session.{Session}
use Rattle.answers.specs.Answers.{Leaves}
use Rattle.loader.specs.Step.{step_of}
use Rattle.script.specs.declared.line.Line.{Line}
use Rattle.script.specs.declared.Turn.{Turn}

-- n kept sums as bytes, four each, from that of block k on
unfoldable pub sums_from : List ℕ → ℕ → ℕ → List ℕ
sums_from block k zero = []
sums_from block k (suc n) = bytes4 (get_or block k 0) ++ sums_from block (k + 1) n

-- the kept sums of all block numbers as bytes
abbrev pub sum_bytes : List ℕ → List ℕ
sum_bytes block = sums_from block 0 most_blocks

-- the line for all that a call left
unfoldable pub line_of : Leaves → Line
line_of l =
    record {
      answer = l.answer;
      count = l.count;
      state = l.session.phase.state.0;
      status = l.session.phase.status.0;
      whole = l.session.sums.whole;
      sums = crc_of (sum_bytes l.session.sums.block);
      reply = crc_of l.reply;
      flash = crc_of l.flash;
    }

-- between two of a line's eight numbers
abbrev space : List ℕ
space = 32 ∷ []

-- the text of a line: the answer, the count, state and status as decimal numbers, then the four sums, of eight hexadecimal digits each
unfoldable pub text_of : Line → List ℕ
text_of l =
    decimal_of l.answer ++ space ++ decimal_of l.count ++ space ++ decimal_of l.state ++ space ++ decimal_of l.status ++ space
    ++ hex_of l.whole ++ space ++ hex_of l.sums ++ space ++ hex_of l.reply ++ space ++ hex_of l.flash

-- the reply buffer before each call
abbrev untouched : List ℕ
untouched = replicate 1024 0xEE

-- a line, the session for the next call, and the flash
pub record Turned : Type 0 where
  pub line : Line
  pub session : Session
  pub flash : List ℕ

abbrev pub turned : Turn → List ℕ → Turned
turned t flash = record { line = t.line; session = t.session; flash = flash }

-- what all that a call left is worth
unfoldable pub worth : Leaves → Turned
worth l = record { line = line_of l; session = l.session; flash = l.flash }

-- a call
unfoldable pub turn_of : Session → List ℕ → List ℕ → List ℕ → Turned
turn_of s flash setup d = worth (step_of s flash setup d untouched)
