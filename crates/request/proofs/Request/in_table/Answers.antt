-- The code's table is the computed one, whose entries are tested once in the laws.
use mathlib.Core.Path.{◌∙◌}
use borrow.Author.Tests.{le-ltb}
use Rattle.request.proofs.Laws.{allowed_table, past_columns, in_table}
use Rattle.request.specs.Request.{allowed_of}
use Rattle.request.proofs.Request.in_table.Goals as goal

pub returns-then-column-lt-COUNT : goal.returns-then-column-lt-COUNT
unfolding allowed_table allowed_of
returns-then-column-lt-COUNT c =
    in_table c.args.self c.args.s.0 _ _ c.row.ensures c.column-column.ensures c.if-column-lt-COUNT.true

pub returns-else-column-lt-COUNT : goal.returns-else-column-lt-COUNT
returns-else-column-lt-COUNT c =
    le-ltb _ _ c.if-column-lt-COUNT.false ∙ past_columns c.args.self c.args.s.0 _ c.column-column.ensures c.if-column-lt-COUNT.false
