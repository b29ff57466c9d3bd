-- Each way out is one of the two streams, whose bytes lie at the front of the reply. Assumes nothing.
use native.Mathlib.Omega.{arith}
use Rattle.session.proofs.Laws.{info_length_lem}
use Rattle.stream.specs.Stream.{next_of}
use Rattle.stream.proofs.Giving.{sent_front}
use Rattle.stream.proofs.Laws.{info_chosen, flash_chosen, flash_chosen_length, end_near, range_within}
use Rattle.stream.proofs.send.Goals as goal

pub send_info-requires : goal.send_info-requires
send_info-requires c =
    let near = end_near c.requires in
    let long = info_length_lem c.args.up c.if-up-eq-INFO_BYTES.true in
    omega (arith, c.requires)

pub send_range-requires : goal.send_range-requires
send_range-requires c =
    let long = flash_chosen_length c.args.up c.if-up-eq-INFO_BYTES.false in
    record { within = range_within c.requires; from_le_length = omega (arith, c.requires) }

pub returns-then-up-eq-INFO_BYTES : goal.returns-then-up-eq-INFO_BYTES
unfolding next_of
returns-then-up-eq-INFO_BYTES c =
    let a = c.args in
    rw (info_chosen a.board a.unerased a.up a.flash.now c.if-up-eq-INFO_BYTES.true)
    (sent_front _ _ _ _ _ c.requires.in_room c.send_info.ensures)

pub returns-else-up-eq-INFO_BYTES : goal.returns-else-up-eq-INFO_BYTES
unfolding next_of
returns-else-up-eq-INFO_BYTES c =
    let a = c.args in
    rw (flash_chosen a.board a.unerased a.up a.flash.now c.if-up-eq-INFO_BYTES.false)
    (sent_front _ _ _ _ _ c.requires.in_room c.send_range.ensures)
