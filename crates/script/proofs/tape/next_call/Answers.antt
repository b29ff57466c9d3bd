-- What was cut off is what the record holds. Assumes nothing.
use Rattle.std.proofs.Common.{◌∙◌}
use Rattle.script.proofs.Records.{whole_record}
use Rattle.script.proofs.tape.next_call.Goals as goal

pub returns-clause-call : goal.returns-clause-call
returns-clause-call c =
    whole_record _ _ _ _ _ _ _ _ _ _ _ c.in_ok-setup_len.ensures.cases c.from.ensures c.in_ok-setup.ensures.cases
    c.in_ok-data_len.ensures.cases (c.from-2.ensures ∙ c.word.ensures) c.in_ok-data.ensures.cases
