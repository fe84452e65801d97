-- Any two outcomes that a contract allows are the same: what an answer says gives the answer back.
use mathlib.Core.Option.{Option, none, some}
use mathlib.Core.Path.{◌≡◌, refl, ap}
use Prim.Native.Nat.{ℕ}
use Rattle.std.specs.Prelude.{Result, Ok, Err}
use Rattle.refusals.specs.Refusals.{Refused}
use Rattle.refusals.specs.declared.refusal.Refusal.{Refusal}
use Rattle.meaning.proofs.OneValue.{one-said}
use Rattle.refusals.proofs.Outcomes.{refusal_of, refusal_back}
use Rattle.monitor.specs.declared.answer.Accepted.{Accepted}
use Rattle.monitor.proofs.Outcomes.{answer_of, answer_back}
use Rattle.monitor.specs.Start.{Beginning, start_refusal, start_need, said_start}
use Rattle.monitor.specs.Step.{Outcome, said_step}
use Rattle.promises.specs.OneOutcome.{With, OneOutcome}

abbrev judged_of : Outcome → With (Result Accepted Refusal)
judged_of o = record { result = answer_of o.reply; left = o.left; store = o.store }

judged_back : (o : With (Result Accepted Refusal)) → judged_of (said_step o.result o.left o.store) ≡ o
judged_back o = rw (answer_back o.result)

abbrev start_answer_of : ℕ → Option Refused → Result ℕ Refusal
start_answer_of need none = Ok need
start_answer_of need (some fault) = Err (refusal_of fault)

start_answer_back : (answer : Result ℕ Refusal) → start_answer_of (start_need answer) (start_refusal answer) ≡ answer
start_answer_back (Ok need) = refl
start_answer_back (Err fault) = ap Err (refusal_back fault)

abbrev started_of : Beginning → With (Result ℕ Refusal)
started_of b = record { result = start_answer_of b.need b.refusal; left = b.given; store = b.store }

started_back : (o : With (Result ℕ Refusal)) → started_of (said_start o.result o.left o.store) ≡ o
started_back o = rw (start_answer_back o.result)

pub one-outcome : OneOutcome
one-outcome =
    record {
      start = λ setup store. one-said (λ (o : With (Result ℕ Refusal)). said_start o.result o.left o.store) started_of started_back;
      call = λ setup store found c. one-said (λ (o : With (Result Accepted Refusal)). said_step o.result o.left o.store) judged_of judged_back;
    }
