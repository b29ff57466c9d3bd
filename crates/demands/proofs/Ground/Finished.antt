-- What a decision leaves once it is carried out: an outcome alone, bytes stored, blocks erased. Assumes nothing.
use Prim.Native.Nat.{ℕ, ◌+◌}
use mathlib.Core.List.{List}
use mathlib.Core.Path.{◌≡◌, refl, ap}
use lib.ListN.{length, drop}
use Rattle.flash.specs.Flash.{spliced, erased}
use Rattle.sums.specs.Sum.{refreshed}
use Rattle.session.specs.Codes.{idle, download_idle}
use Rattle.session.specs.Session.{app_end, down_of, no_download, with_sums}
use Rattle.session.specs.declared.Session.{Session}
use Rattle.answers.specs.Answers.{Leaves, Done, Replied, done, leaves}
use Rattle.answers.specs.Moves.{moved_to, to_sync, taken_of}
use Rattle.jobs.specs.Job.{Plan, plan_of, wipe_of, sums_after, sums_wiped, job_done}
use Rattle.command.specs.Download.{wrote_of}
use Rattle.loader.specs.Step.{decided, with_reply, settled}

-- a plan that leaves the reply buffer alone, carried out
abbrev pub finished : Plan → List ℕ → List ℕ → List ℕ → Leaves
finished plan flash d reply = settled (decided plan reply) flash d

-- a reply, over a flash that stays
abbrev pub with_flash : Replied → List ℕ → Leaves
with_flash r flash = leaves r.outcome flash r.reply

-- what storing bytes leaves: they stand in their places, and the download goes on behind them with so many left
unfoldable pub stored_of : Session → List ℕ → ℕ → List ℕ → ℕ → Done
stored_of s flash at bytes left =
    done
    (taken_of
    (to_sync (with_sums s (sums_after s.board s.sums (spliced flash at bytes) at (length bytes))) download_idle
    (down_of (at + length bytes) left)))
    (spliced flash at bytes)

-- what erasing blocks leaves
abbrev pub wiped_of : Session → List ℕ → ℕ → ℕ → Done
wiped_of s flash block count =
    done
    (taken_of
    (to_sync
    (with_sums s
    (refreshed s.sums (erased flash block count) s.board.a.0 (app_end s.board) block (block + count)))
    idle
    no_download))
    (erased flash block count)

pub bytes_finished :
    (s : Session) (f d reply : List ℕ) (at skip n left : ℕ) → n ≡ length (drop skip d)
    → finished (wrote_of s at skip n left) f d reply ≡ with_reply (stored_of s f at (drop skip d) left) reply
unfolding settled wrote_of job_done stored_of moved_to
bytes_finished s f d reply at skip n left e =
    let sums = sums_after s.board s.sums (spliced f at (drop skip d)) at (length (drop skip d)) in
    ap
    (λ (m : ℕ). leaves (taken_of (to_sync (with_sums s sums) download_idle (down_of (at + m) left))) (spliced f at (drop skip d)) reply)
    e

pub wipe_finished :
    (s : Session) (f d reply : List ℕ) (block count : ℕ)
    → finished (plan_of (taken_of (to_sync s idle no_download)) (wipe_of block count)) f d reply
    ≡ with_reply (wiped_of s f block count) reply
unfolding settled job_done sums_wiped moved_to
wipe_finished s f d reply block count = refl
