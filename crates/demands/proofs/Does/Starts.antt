-- A start is fresh where it may be, and else hands back zeros. Assumes nothing.
use Prim.Native.Nat.{ℕ}
use mathlib.Core.List.{List}
use mathlib.Core.Path.{refl}
use Rattle.sums.proofs.Laws.{fresh_right}
use Rattle.session.specs.Session.{board_of, app_end, whole_upload, fresh_of, zeros_of}
use Rattle.loader.specs.Step.{fresh_start, start_outcome}
use Rattle.demands.specs.Safe.Fit.{AllowedStart}
use Rattle.demands.specs.Does.Starts.{Fresh, Zeros, Starts}
use Rattle.demands.proofs.Safe.Fit.{started, not_started}

module _ (flash : List ℕ) (a b part0 part1 : ℕ) where
  taken : AllowedStart flash a b → Fresh flash a b part0 part1 (start_outcome flash a b part0 part1)
  unfolding fresh_start fresh_of whole_upload
  taken k =
      rw (started flash a b part0 part1 k)
      (record {
        answer = refl;
        count = refl;
        board = refl;
        phase = refl;
        down = refl;
        up = refl;
        unerased = refl;
        sums = fresh_right flash a (app_end (board_of a b part0 part1));
        session = refl;
      })

  refused : (AllowedStart flash a b → ⊥) → Zeros (start_outcome flash a b part0 part1)
  unfolding zeros_of
  refused none =
      rw (not_started flash a b part0 part1 none)
      (record { answer = refl; count = refl; board = refl; phase = refl; down = refl; up = refl; unerased = refl; sums = refl })

pub Starts_hold : Starts start_outcome
Starts_hold = record { taken = taken; refused = refused }
