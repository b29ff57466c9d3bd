-- What is written is the line's text: its numbers in std's digits, which are those of the definition. Assumes nothing.
use Rattle.std.proofs.Common.{append_assoc, arith}
use Rattle.print.proofs.Text.{decimal_text}
use Rattle.script.specs.Turn.{text_of}
use Rattle.script.proofs.line.LineDisplay.fmt.Goals as goal

pub returns-clause-writes : goal.returns-clause-writes
unfolding text_of
returns-clause-writes g c plain ok =
    let l = c.args.self.now in
    let answer = decimal_text l.answer (omega arith) in
    let count = decimal_text l.count (omega arith) in
    let state = decimal_text l.state (omega arith) in
    let status = decimal_text l.status (omega arith) in
    rw (answer, count, state, status) (simp append_assoc (simp append_assoc at c.write.ensures.writes plain ok))
