-- No second outcome fits: each promise determines what a call leaves. Assumes nothing.
use Prim.Native.Nat.{ℕ, zero, suc, ◌<◌}
use mathlib.Core.Path.{◌≡◌, refl, sym, ap, ◌∙◌}
use native.Mathlib.Omega.{arith}
use Rattle.flash.specs.Flash.{searched, nowhere, found_number}
use Rattle.flash.specs.declared.Addr.{Addr}
use Rattle.std.proofs.Common.{Option, Some, None}
use Rattle.flash.proofs.Unerased.{found_below}
use Rattle.session.specs.Session.{talk_of}
use Rattle.request.proofs.Laws.{decoded_once}
use Rattle.answers.specs.declared.Answer.{Answer}
use Rattle.answers.specs.declared.Heard.{Heard}
use Rattle.answers.specs.declared.Outcome.{Outcome}
use Rattle.answers.specs.Answers.{answer_number, heard}
use Rattle.jobs.specs.Job.{Plan, decision_of}
use Rattle.loader.specs.Step.{start_outcome, step_of}
use Rattle.demands.specs.Exact.OneOutcome.{OneOutcome}
use Rattle.demands.proofs.Ground.Unerased.{one_left}

-- the answer of a number
of_number : ℕ → Answer
of_number zero = Answer.Taken
of_number (suc zero) = Answer.Stalled
of_number (suc (suc zero)) = Answer.Unfit
of_number (suc (suc (suc zero))) = Answer.Faulted
of_number (suc (suc (suc (suc n)))) = Answer.ResetAsked

back : (x : Answer) → of_number (answer_number x) ≡ x
unfolding of_number
back Answer.Taken = refl
back Answer.Stalled = refl
back Answer.Unfit = refl
back Answer.Faulted = refl
back Answer.ResetAsked = refl

one : {A : Type 0} (said left other : A) → left ≡ said → other ≡ said → left ≡ other
one said left other e h = e ∙ sym h

-- what is heard in an outcome
told : Outcome → Heard
told o = heard o.answer o.count (talk_of o.session)

-- an address that was found isn't the number that says there is none
found_told :
    (x y : Option Addr) → ((k : Addr) → x ≡ Some k → k.0 < nowhere) → ((k : Addr) → y ≡ Some k → k.0 < nowhere)
    → found_number x ≡ found_number y → x ≡ y
found_told (Some j) (Some k) p q e = ap (λ (n : ℕ). Some (record { 0 = n })) e
found_told (Some j) None p q e = absurd (omega (arith, p j refl, e))
found_told None (Some k) p q e = absurd (omega (arith, q k refl, e))
found_told None None p q e = refl

pub OneOutcome_holds : OneOutcome
unfolding told
OneOutcome_holds =
    record {
      equation = one;
      start = λ flash a b part0 part1 t u. one (start_outcome flash a b part0 part1) t u;
      step = λ s flash setup d reply l m. one (step_of s flash setup d reply) l m;
      talk = λ s t u e. ap talk_of e;
      heard = λ s h k e. ap told e;
      decision = λ s x y e. ap (λ (p : Plan). decision_of (told p.outcome) p.job) e;
      sent = λ n m before after other bytes e h. (e.count ∙ sym h.count, e.reply ∙ sym h.reply);
      command = decoded_once;
      word = λ bytes at r q e h. e.0 ∙ sym h.0;
      answer = λ x y e. sym (back x) ∙ ap of_number e ∙ back y;
      found = λ f g block len first n v w.
          found_told (searched f block len) (searched g first n) (found_below f block len v) (found_below g first n w);
      search_leaves = one_left;
    }
