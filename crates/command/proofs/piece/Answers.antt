-- A running download has its place in the application. Assumes nothing.
use mathlib.Core.Logic.{inl}
use native.Mathlib.Omega.{arith}
use Rattle.session.proofs.Laws.{fit_facts, fit_kept, split_facts, end_in_flash}
use Rattle.command.proofs.piece.Goals as goal

pub write-requires : goal.write-requires
write-requires c =
    let f = fit_facts c.args.s c.requires.s_value in
    let k = split_facts c.args.s.board (fit_kept c.args.s c.requires.s_value).split in
    let ends = end_in_flash c.args.s.board in
    omega (arith, f.left_to (inl c.requires.state_value), c.if-left-n.false, k, ends)
