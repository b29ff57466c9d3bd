-- From the equation that says what a call leaves to what the statements say of it, part by part. Assumes nothing.
use Prim.Native.Nat.{ℕ}
use mathlib.Core.List.{List, [], ◌++◌}
use mathlib.Core.Path.{◌≡◌, refl, sym, ap, ◌∙◌}
use lib.ListN.{length, drop}
use Rattle.session.specs.Session.{phase_of, no_download, up_of, with_unerased}
use Rattle.session.specs.declared.Session.{Session}
use Rattle.answers.specs.declared.Answer.{Answer}
use Rattle.answers.specs.Answers.{Leaves, answer_number, outcome, leaves}
use Rattle.answers.specs.Moves.{moved_to, rewound}
use Rattle.loader.specs.Step.{step_of}
use Rattle.demands.specs.Calls.{heard, Call, Site, called}
use Rattle.demands.specs.Asked.{Prepared}
use Rattle.demands.specs.Does.Rows.{Answers, Hands, Unchanged, Moves}
use Rattle.demands.specs.Does.Commands.{Finds}

module _
    (at : Site) (c : Call) (a : Answer) (bytes : List ℕ) (t : Session) (g : List ℕ)
    (e : called step_of at c ≡ leaves (outcome a (length bytes) t) g (bytes ++ drop (length bytes) c.reply)) where
  pub so_answers : Answers step_of at c (answer_number a) bytes
  so_answers =
      record {
        answer = ap (λ (l : Leaves). heard l) e;
        count = ap (λ (l : Leaves). l.count) e;
        reply = ap (λ (l : Leaves). l.reply) e;
      }

  pub so_session : (called step_of at c).session ≡ t
  so_session = ap (λ (l : Leaves). l.session) e

  pub so_flash : (called step_of at c).flash ≡ g
  so_flash = ap (λ (l : Leaves). l.flash) e

  pub so_hands : g ≡ at.flash → Hands step_of at c (answer_number a) bytes t
  so_hands h = record { answers = so_answers; session = so_session; flash = so_flash ∙ h }

module _ (at : Site) (c : Call) (a : Answer) (bytes : List ℕ) where
  -- a call that hands the session back as it was
  pub so_unchanged :
      called step_of at c ≡ leaves (outcome a (length bytes) at.session) at.flash (bytes ++ drop (length bytes) c.reply)
      → Unchanged step_of at c (answer_number a) bytes
  so_unchanged e = so_hands at c a bytes at.session at.flash e refl

  -- a call that moves it
  pub so_moves :
      (n status : ℕ)
      → called step_of at c
      ≡ leaves (outcome a (length bytes) (moved_to at.session (phase_of n status 2) no_download)) at.flash
      (bytes ++ drop (length bytes) c.reply)
      → Moves step_of at c (answer_number a) bytes n status
  unfolding moved_to
  so_moves n status e = so_hands at c a bytes (moved_to at.session (phase_of n status 2) no_download) at.flash e refl

-- one that moves it and keeps what a search found
pub so_finds :
    (at : Site) (c : Call) (a : Answer) (n status unerased : ℕ)
    → called step_of at c
    ≡ leaves (outcome a 0 (moved_to (with_unerased at.session unerased) (phase_of n status 2) no_download)) at.flash c.reply
    → Finds step_of at c (answer_number a) n status unerased
unfolding moved_to
so_finds at c a n status unerased e =
    so_hands at c a [] (moved_to (with_unerased at.session unerased) (phase_of n status 2) no_download) at.flash e refl

-- outside state 9 an upload stands at its start
pub at_start : (at : Site) (c : Call) → Prepared at c → (at.session.phase.state.0 ≡ 9 → ⊥) → rewound at.session.up ≡ at.session.up
at_start at c k ne =
    let up = at.session.up in
    ap (λ (n : ℕ). up_of up.choice up.«prefix» up.first.0 up.len n)
    (sym (k.rules.no_upload ne))
