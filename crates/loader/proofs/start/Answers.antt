-- An allowed start has an application that lies in its flash (Laws). Assumes nothing.
use mathlib.Core.Bool.{not}
use mathlib.Core.Path.{refl, ap}
use Rattle.session.specs.Session.{board_of}
use Rattle.jobs.proofs.Picks.{passed}
use Rattle.loader.proofs.Laws.{start_ground}
use Rattle.loader.proofs.start.Goals as goal

pub fresh-sums-requires : goal.fresh-sums-requires
fresh-sums-requires c =
    let board = board_of c.args.a.0 c.args.b.0 c.args.part0 c.args.part1 in
    start_ground _ board (passed _ _ c.allowed_start.ensures (ap not c.if-not-allowed_start.false)) _ _ _ refl
    c.application.ensures.first
    c.application.ensures.stop
