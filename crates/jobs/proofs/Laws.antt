-- A job's single stores leave the flash that it is said to leave, what can be carried out lies in flash, and stores and sums together are
-- what a job is said to leave. Assumes nothing.
use Prim.Native.Nat.{ℕ, ◌-◌}
use mathlib.Core.List.{List}
use mathlib.Core.Path.{◌≡◌, refl, sym, ap, ◌∙◌}
use native.Mathlib.Omega.{arith}
use lib.ListN.{length, take, drop, length-drop}
use lib.Seq.{take_all}
use Rattle.flash.specs.Flash.{start_of, Within, blank, erased, carried}
use Rattle.flash.proofs.Laws.{length-blank, stores-spliced}
use Rattle.sums.specs.Sum.{Split}
use Rattle.session.specs.Session.{app_end}
use Rattle.session.specs.declared.Board.{Board}
use Rattle.session.specs.declared.Session.{Session}
use Rattle.answers.specs.declared.Heard.{Heard}
use Rattle.answers.specs.declared.Outcome.{Outcome}
use Rattle.answers.specs.Answers.{done, heard_at}
use Rattle.jobs.specs.declared.Decision.{Decision}
use Rattle.jobs.specs.declared.Job.{Job}
use Rattle.jobs.specs.declared.Job.TheVariants.{Nothing, Bytes, Wipe}
use Rattle.jobs.specs.Job.{plan_of, decision_of, planned}
use Rattle.jobs.specs.Job.{Place, Can, Reaches, stores_for, flash_done, sums_done, summed, job_done}

-- what leaves flash alone, at a session
pub only_at :
    (s : Session) (o : Outcome) (h : Heard) (x : Decision) → x ≡ decision_of h Nothing → heard_at s h ≡ o → planned s x ≡ plan_of o Nothing
only_at s o h x e p = ap (planned s) e ∙ ap (λ (y : Outcome). plan_of y Nothing) p

-- what lies in an application lies in its flash, at 32-bit addresses
pub place_within :
    (board : Board) (f : List ℕ) (at n : ℕ) → Split f board.a.0 (app_end board) → Place board at n → Within f at n
place_within board f at n s p = record { inside = omega arith; addressed = omega arith }

-- an application lies in another flash as long
split_still : {f g : List ℕ} {a e : ℕ} → Split f a e → length g ≡ length f → Split g a e
split_still s l = record { ordered = s.ordered; counted = s.counted; inside = omega (arith, s.inside, l) }

-- the flash that a job leaves is that of its single stores
pub stores_made : (job : Job) (f d : List ℕ) → Reaches job f d → flash_done job f d ≡ carried f (stores_for job d)
unfolding stores_for carried erased
stores_made Nothing f d reaches = refl
stores_made (Bytes at skip) f d reaches = sym (stores-spliced f at.0 (drop skip d) reaches.1.inside)
stores_made (Wipe first count) f d reaches =
    sym
    (stores-spliced f (start_of first.0) (blank (start_of count))
    (omega (arith, length-blank (start_of count), reaches.inside)))

-- a part from a place to the end
pub to_the_end : (n : ℕ) (d : List ℕ) → take (length d - n) (drop n d) ≡ drop n d
to_the_end n d = take_all (length d - n) (drop n d) (rw length-drop (omega arith))

-- what can be carried out lies in flash, and still can once flash has other bytes
pub can_reaches : (job : Job) (board : Board) (f d : List ℕ) → Can job board f d → Reaches job f d
can_reaches Nothing board f d can = tt
can_reaches (Bytes at skip) board f d can = (can.0, place_within board f at.0 (length (drop skip d)) can.1 can.2)
can_reaches (Wipe first count) board f d can = place_within board f (start_of first.0) (start_of count) can.0 can.1

pub can_still : (job : Job) (board : Board) (f g d : List ℕ) → length g ≡ length f → Can job board f d → Can job board g d
can_still Nothing board f g d e can = tt
can_still (Bytes at skip) board f g d e can = (can.0, split_still can.1 e, can.2)
can_still (Wipe first count) board f g d e can = (split_still can.0 e, can.1)

-- stores and sums together are what a job is said to leave
pub job_left :
    (job : Job) (o : Outcome) (f d g : List ℕ) → Can job o.session.board f d → g ≡ carried f (stores_for job d)
    → done (summed o (sums_done job o.session.board o.session.sums g d)) g ≡ job_done job o f d
unfolding job_done
job_left job o f d g can e =
    ap (λ (x : List ℕ). done (summed o (sums_done job o.session.board o.session.sums x d)) x)
    (e ∙ sym (stores_made job f d (can_reaches job o.session.board f d can)))
