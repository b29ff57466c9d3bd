-- A line is laid: the others are left. Assumes nothing.
use Prim.Native.Nat.{ℕ, ◌+◌, ◌-◌}
use mathlib.Core.List.{List, ◌++◌}
use mathlib.Core.Path.{sym, ap, ◌∙◌}
use native.Mathlib.Omega.{arith}
use Rattle.pieces.proofs.Laws.{owed_less}
use Rattle.listing.specs.Listing.{line_of, lines_from}
use Rattle.listing.proofs.Laws.{lines_next}
use Rattle.listing.proofs.lines.Goals as goal

pub loop-k-preserved : goal.loop-k-preserved
loop-k-preserved c =
    let file = c.args.file.now in
    let left = c.args.count - (c.loop-k.k + 1) in
    let rest : List ℕ = lines_from file left (c.loop-k.k + 1) in
    record {
      within = omega (arith, c.line-end.ensures.within, c.loop-k.invariant.within);
      owed =
          owed_less _ _ _ _ _ _ _ _ _ _
          (lines_next file _ left c.loop-k.k (omega arith) ∙ ap (λ (x : List ℕ). line_of c.loop-k.k x ++ rest) (sym c.image.ensures))
          (omega (arith, c.requires.room, c.loop-k.invariant.within)) c.loop-k.invariant.owed c.line-end.ensures.laid;
    }
