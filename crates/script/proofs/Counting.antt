-- The calls that were counted, and those that are left to count. Assumes nothing.
use Rattle.std.proofs.Common.{◌≡◌, ℕ, zero, suc, ◌+◌, ◌-◌, ◌≤◌, ◌<◌, List, Some, None, length, refl, arith}
use Rattle.script.specs.Tape.{Call, record_of, count_with, count_from, calls_in}

-- k calls lie before what is left, and with those that are left they are all
pub record Counted (calls rest : List ℕ) (k : ℕ) : Type 0 where
  pub few : k + length rest ≤ length calls
  pub all : k + count_from (length calls - k) rest ≡ calls_in calls

pub none_counted : (calls : List ℕ) → Counted calls calls 0
none_counted calls = record { few = omega arith; all = grind arith }

-- a record counts one, and then what follows it
counts_one : (n : ℕ) (rest : List ℕ) (call : Call) → record_of rest ≡ Some call → count_from (suc n) rest ≡ 1 + count_from n call.rest
unfolding count_from count_with
counts_one n rest call e = rw e

-- without a record there is nothing to count
counts_none : (n : ℕ) (rest : List ℕ) → record_of rest ≡ None → count_from n rest ≡ 0
unfolding count_from count_with
counts_none zero rest e = refl
counts_none (suc n) rest e = rw e

pub one_counted :
    (calls rest : List ℕ) (k : ℕ) (call : Call) → record_of rest ≡ Some call → length call.rest < length rest
    → Counted calls rest k → Counted calls call.rest (k + 1)
one_counted calls rest k call e h w =
    let n : ℕ = length calls - (k + 1) in
    let fuel : length calls - k ≡ suc n = omega arith in
    let one = counts_one n rest call e in
    record { few = omega arith; all = rw (← w.all, fuel, one) (omega arith) }

-- where the script ends or is cut short, all were counted
pub all_counted : (calls rest : List ℕ) (k : ℕ) → record_of rest ≡ None → Counted calls rest k → k ≡ calls_in calls
all_counted calls rest k e w = omega (arith, counts_none (length calls - k) rest e, w.all)
