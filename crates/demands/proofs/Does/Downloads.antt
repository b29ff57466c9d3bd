-- Which definition serves a DNLOAD: a command by its number, what is no command, or a piece of data. Assumes nothing.
use Prim.Native.Nat.{ℕ, ◌^◌, ◌≤◌, ◌<◌}
use mathlib.Core.Bool.{Bool, true, false, ◌&&◌, ◌||◌}
use mathlib.Core.Logic.{◌⊎◌, inl, inr}
use mathlib.Core.Path.{◌≡◌, refl, ◌∙◌}
use native.Mathlib.Omega.{arith}
use lib.Dec.{eqb, leb}
use lib.ListN.{length}
use borrow.Author.Tests.{ne_eqb, le-leb, lt-leb}
use Rattle.flash.specs.Flash.{start_of}
use Rattle.session.specs.Codes.{vendor}
use Rattle.session.specs.Session.{app_end}
use Rattle.session.specs.Rules.{in_application}
use Rattle.session.proofs.Laws.{inside_facts, facts_inside, fit_near}
use Rattle.request.specs.declared.Request.{Request}
use Rattle.answers.specs.Answers.{leaves}
use Rattle.answers.specs.Moves.{fault_of}
use Rattle.jobs.specs.Job.{job_done}
use Rattle.command.specs.Download.{well_formed, by_number, command_of, piece_of, dnload_of}
use Rattle.loader.specs.Step.{served, settled, step_of}
use Rattle.demands.specs.Calls.{Call, Site, called}
use Rattle.demands.specs.Asked.{Prepared, Asks}
use Rattle.demands.specs.Commanded.{Commanded, Legal, NoCommand}
use Rattle.demands.specs.Commanded.NoCommand.{short, unknown, extra}
use Rattle.demands.proofs.Ground.Finished.{finished}
use Rattle.demands.proofs.Does.Forms.{asks_served, asks_brings}

-- an application's end has a 32-bit address
pub legal_near : (at : Site) (c : Call) → Prepared at c → start_of (app_end at.session.board) < 2 ^ 32
legal_near at c k = fit_near at.session k.rules

-- a range is in the application exactly if it is legal
pub legal_in :
    (at : Site) (block len : ℕ) → start_of (app_end at.session.board) < 2 ^ 32 → Legal at block len
    → in_application at.session.board block len ≡ true
legal_in at block len near k =
    facts_inside at.session.board block len near (record { some = k.some; from = k.from; to = k.to })

pub in_legal : (at : Site) (block len : ℕ) → in_application at.session.board block len ≡ true → Legal at block len
in_legal at block len e =
    let i = inside_facts at.session.board block len e in
    record { some = i.some; from = i.from; to = i.to }

pub illegal_out : (at : Site) (block len : ℕ) → (Legal at block len → ⊥) → in_application at.session.board block len ≡ false
illegal_out at block len none = go (in_application at.session.board block len) refl
  where
    go : (t : Bool) → in_application at.session.board block len ≡ t → in_application at.session.board block len ≡ false
    go true e = absurd (none (in_legal at block len e))
    go false e = e

-- a piece of data, or the close
pub piece_leaves :
    (at : Site) (c : Call) (n : ℕ) → Asks at c Request.Dnload n → at.session.phase.state.0 ≡ 5
    → called step_of at c ≡ finished (piece_of at.session (length c.bytes)) at.flash c.bytes c.reply
unfolding served dnload_of
piece_leaves at c n k e = asks_served at c Request.Dnload n k (inr e) ∙ rw e

-- a test that is settled by one of its parts
last_true : (t : Bool) → (t || true) ≡ true
last_true true = refl
last_true false = refl

last_false : (t : Bool) → (t && false) ≡ false
last_false true = refl
last_false false = refl

second_false : (t u v : Bool) → (t && false && u && v) ≡ false
second_false true u v = refl
second_false false u v = refl

third_false : (t u v : Bool) → (t && u && false && v) ≡ false
third_false true true v = refl
third_false true false v = refl
third_false false u v = refl

-- a command
module _ (at : Site) (c : Call) (code n : ℕ) (k : Commanded at c code n) where
  commanded : called step_of at c ≡ finished (command_of at.session at.flash c.bytes) at.flash c.bytes c.reply
  unfolding served dnload_of
  commanded = asks_served at c Request.Dnload n k.asks (inl (k.idle, k.some)) ∙ rw k.idle

  -- by its number, if it is well formed
  well_formed_lem : 8 ≤ n → 1 ≤ code → code ≤ 7 → (code ≡ 1) ⊎ (n ≡ 8) → well_formed c.bytes ≡ true
  unfolding well_formed
  well_formed_lem long low high (inl one) = rw (k.command, asks_brings at c n k.asks, le-leb 8 n long, one)
  well_formed_lem long low high (inr eight) =
      rw (k.command, asks_brings at c n k.asks, eight, le-leb 1 code low, le-leb code 7 high) (last_true (eqb code 1))

  pub command_leaves :
      8 ≤ n → 1 ≤ code → code ≤ 7 → (code ≡ 1) ⊎ (n ≡ 8)
      → called step_of at c ≡ finished (by_number code at.session at.flash c.bytes) at.flash c.bytes c.reply
  unfolding command_of
  command_leaves long low high alone = commanded ∙ rw (well_formed_lem long low high alone, k.command)

  -- or it is no command
  ill_formed : NoCommand code n → well_formed c.bytes ≡ false
  unfolding well_formed
  ill_formed (short lt) = rw (asks_brings at c n k.asks, lt-leb 8 n lt)
  ill_formed (unknown (inl e)) = rw (k.command, e) (second_false (leb 8 (length c.bytes)) _ _)
  ill_formed (unknown (inr lt)) = rw (k.command, lt-leb code 7 lt) (third_false (leb 8 (length c.bytes)) (leb 1 code) _)
  ill_formed (extra lt ne) =
      rw (k.command, ne_eqb code 1 ne, asks_brings at c n k.asks, ne_eqb n 8 (λ e. omega (arith, e, lt)))
      (last_false (leb 8 n && leb 1 code && leb code 7))

  pub no_command_leaves : NoCommand code n → called step_of at c ≡ leaves (fault_of at.session vendor) at.flash c.reply
  unfolding command_of settled job_done
  no_command_leaves none = commanded ∙ rw (ill_formed none)
