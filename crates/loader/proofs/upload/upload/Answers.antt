-- A fit session can be sent from its place, which an answer takes not far (Laws). Assumes nothing.
use Prim.Native.Nat.{ℕ}
use mathlib.Core.List.{List, ◌++◌}
use lib.ListN.{length, drop}
use Rattle.session.specs.declared.Session.{Session}
use Rattle.stream.specs.Stream.{next_of}
use Rattle.loader.specs.Reply.{answered}
use mathlib.Core.Path.{ap, ◌∙◌}
use native.Mathlib.Omega.{arith}
use Rattle.loader.proofs.Laws.{answered-by, place_in_stream, answer_near}
use Rattle.session.proofs.Laws.{fit_facts}
use Rattle.stream.proofs.Laws.{fit_sendable}
use Rattle.loader.specs.Upload.{upload_of, answer_of, uploaded_of}
use Rattle.loader.proofs.upload.upload.Goals as goal

pub send-n-requires : goal.send-n-requires
send-n-requires c =
    let p = place_in_stream _ _ c.requires.ready in
    fit_sendable _ _ _ _ _ (fit_facts _ c.requires.ready.fit) c.requires.ready.sized (omega (arith, c.place-from.ensures)) (omega arith)

pub uploaded-requires : goal.uploaded-requires
unfolding answer_of
uploaded-requires c =
    let f = c.args.flash.now in
    let e = c.place-from.ensures in
    let same = ap (λ (p : ℕ). next_of c.args.s.board c.args.s.unerased c.args.s.up f p c.args.asked) e in
    let count = c.send-n.ensures.count ∙ ap length same in
    let n = answer_near c.args.s f c.requires.ready c.args.asked c.send-n.result c.requires.asked_bound.0 count in
    (e, omega arith)

pub returns : goal.returns
unfolding upload_of answer_of
returns c =
    let f = c.args.flash.now in
    let before = c.args.reply.now in
    let bytes = answer_of c.args.s f c.args.asked in
    let same = ap (λ (p : ℕ). next_of c.args.s.board c.args.s.unerased c.args.s.up f p c.args.asked) c.place-from.ensures in
    let count = c.send-n.ensures.count ∙ ap length same in
    answered-by _ bytes before _ _ count (c.send-n.ensures.reply ∙ ap (λ (l : List ℕ). l ++ drop (length l) before) same)
    ∙ ap (λ (t : Session). answered t bytes before) (c.uploaded.ensures ∙ ap (uploaded_of c.args.s c.args.asked) count)
