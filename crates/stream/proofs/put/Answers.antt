-- One byte more. Assumes nothing.
use Rattle.std.proofs.Common.{arith, length-take}
use Rattle.stream.proofs.Giving.{put_more}
use Rattle.stream.proofs.put.Goals as goal

pub loop-i-preserved : goal.loop-i-preserved
loop-i-preserved c =
    let l = c.loop-i in
    let long = length-take c.min-n.result c.args.bytes.now in
    put_more _ c.args.reply.now l.reply l.i (omega (arith, long, c.loop-i-test.true, c.min-n.ensures)) c.loop-i-test.true l.invariant
