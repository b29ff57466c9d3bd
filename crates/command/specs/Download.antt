-- DNLOAD: the eight-byte commands in state idle, and pieces of data in state download idle.
use Rattle.std.specs.Prelude.{ℕ, ◌+◌, ◌-◌, Bool, cond, ◌&&◌, ◌||◌, List, eqb, leb, length, get_or}
use Rattle.flash.specs.Flash.{start_of, searched, nothing, found_number}
use Rattle.session.specs.Codes.{idle, download_idle, manifest_sync, ok, check_erased, address, not_done, vendor}
use Rattle.session.specs.Session.{phase_of, down_of, no_download, up_of, with_up, with_unerased, flash_stream, info_bytes}
use Rattle.session.specs.Rules.{in_application}
use Rattle.session.specs.declared.Session.{Session}
use Rattle.numbers.specs.Numbers.{word_at, long_at}
use Rattle.request.specs.Commands.{prog, read, check, erase, info, bin, reset}
use Rattle.answers.specs.declared.Outcome.{Outcome}
use Rattle.answers.specs.Answers.{outcome}
use Rattle.answers.specs.Moves.{moved_to, to_sync, taken_of, fault_of, reset_of}
use Rattle.jobs.specs.declared.Job.{Job}
use Rattle.jobs.specs.Job.{Plan, plan_of, bytes_to, wipe_of}

-- whether a range of flash is all erased
unfoldable pub all_erased : List ℕ → ℕ → ℕ → Bool
all_erased flash block len = nothing (searched flash block len)

-- the session with what a search of a range finds, by its number; it is noted whether or not all is erased
abbrev pub noted : Session → List ℕ → ℕ → ℕ → Session
noted s flash block len = with_unerased s (found_number (searched flash block len))

-- n bytes of the call's data, behind the first few of it, go to their places, and the download goes on behind them with so many left
unfoldable pub wrote_of : Session → ℕ → ℕ → ℕ → ℕ → Plan
wrote_of s at skip n left = plan_of (taken_of (to_sync s download_idle (down_of (at + n) left))) (bytes_to at skip)

-- a fault leaves flash alone, whatever it is
abbrev pub fault_plan : Session → ℕ → Plan
fault_plan s status = plan_of (fault_of s status) Job.Nothing

-- a plan with another number of what a search found in its session
abbrev pub telling : Plan → ℕ → Plan
telling p n = plan_of (outcome p.outcome.answer p.outcome.count (with_unerased p.outcome.session n)) p.job

-- a plan that holds if all of a range is erased; else the fault. Either way the number is that of what the search finds
abbrev pub if_erased : Session → List ℕ → ℕ → ℕ → Plan → Plan
if_erased s flash block len p =
    cond (all_erased flash block len) (telling p (found_number (searched flash block len)))
    (fault_plan (noted s flash block len) check_erased)

-- PROG: starts a download; the n bytes of the request behind its eight are its first data
unfoldable pub prog_of : Session → List ℕ → ℕ → ℕ → ℕ → Plan
prog_of s flash block len n =
    let t = noted s flash block len in
    cond (in_application s.board block len)
    (cond (leb n len)
    (cond (all_erased flash block len) (wrote_of t (start_of block) 8 n (len - n)) (fault_plan t check_erased))
    (fault_plan s address))
    (fault_plan s address)

-- READ: chooses the flash stream and its range
unfoldable pub read_of : Session → ℕ → ℕ → Outcome
read_of s block len =
    cond (in_application s.board block len)
    (taken_of (to_sync (with_up s (up_of flash_stream s.up.«prefix» block len 0)) idle no_download))
    (fault_of s address)

-- CHECK: faults unless all erased
unfoldable pub check_of : Session → List ℕ → ℕ → ℕ → Outcome
check_of s flash block len =
    let t = noted s flash block len in
    cond (in_application s.board block len)
    (cond (all_erased flash block len) (taken_of (to_sync t idle no_download)) (fault_of t check_erased))
    (fault_of s address)

-- ERASE: sets the blocks to 0xFF
unfoldable pub erase_of : Session → ℕ → ℕ → Plan
erase_of s block count =
    cond (in_application s.board block (start_of count))
    (plan_of (taken_of (to_sync s idle no_download)) (wipe_of block count)) (fault_plan s address)

-- INFO: the info bytes are what an upload reads from now on
unfoldable pub info_of : Session → Outcome
info_of s =
    taken_of
    (to_sync (with_up s (up_of info_bytes s.up.«prefix» s.up.first.0 s.up.len 0)) idle no_download)

-- byte 1 of BIN not zero: no prefix; zero: prefix
unfoldable pub prefix_for : ℕ → ℕ
prefix_for flag = cond (eqb flag 0) 1 0

-- BIN: sets the prefix flag
unfoldable pub bin_of : Session → ℕ → Outcome
bin_of s flag =
    taken_of
    (to_sync (with_up s (up_of s.up.choice (prefix_for flag) s.up.first.0 s.up.len 0)) idle no_download)

-- eight bytes or more, a known command, and no bytes behind any but PROG
unfoldable pub well_formed : List ℕ → Bool
well_formed d =
    leb 8 (length d)
    && leb prog (get_or d 0 0)
    && leb (get_or d 0 0) reset
    && (eqb (get_or d 0 0) prog || eqb (length d) 8)

-- what the command of a number does: block in bytes 2-3, length in 4-7, count in 4-5
unfoldable pub by_number : ℕ → Session → List ℕ → List ℕ → Plan
by_number code s flash d =
    cond (eqb code prog) (prog_of s flash (word_at d 2) (long_at d 4) (length d - 8))
    (cond (eqb code read) (plan_of (read_of s (word_at d 2) (long_at d 4)) Job.Nothing)
    (cond (eqb code check) (plan_of (check_of s flash (word_at d 2) (long_at d 4)) Job.Nothing)
    (cond (eqb code erase) (erase_of s (word_at d 2) (word_at d 4))
    (cond (eqb code info) (plan_of (info_of s) Job.Nothing)
    (cond (eqb code bin) (plan_of (bin_of s (get_or d 1 0)) Job.Nothing) (plan_of (reset_of s) Job.Nothing))))))

-- a DNLOAD in state idle is a command, whose number is byte 0
unfoldable pub command_of : Session → List ℕ → List ℕ → Plan
command_of s flash d = cond (well_formed d) (by_number (get_or d 0 0) s flash d) (fault_plan s vendor)

-- no bytes close a download: with bytes missing it faults, else manifest sync
unfoldable pub closed_of : Session → Outcome
closed_of s =
    cond (eqb s.down.left 0) (taken_of (moved_to s (phase_of manifest_sync ok idle) no_download)) (fault_of s not_done)

-- a DNLOAD of n bytes in state download idle is a piece of data, or the close
unfoldable pub piece_of : Session → ℕ → Plan
piece_of s n =
    cond (eqb n 0) (plan_of (closed_of s) Job.Nothing)
    (cond (leb n s.down.left) (wrote_of s s.down.place.0 0 n (s.down.left - n)) (fault_plan s address))

-- DNLOAD
unfoldable pub dnload_of : Session → List ℕ → List ℕ → Plan
dnload_of s flash d = cond (eqb s.phase.state.0 idle) (command_of s flash d) (piece_of s (length d))
