-- What an answer says gives the answer back.
use mathlib.Core.Path.{◌≡◌, refl, ap}
use Rattle.std.specs.Prelude.{Result, Ok, Err}
use Rattle.refusals.proofs.Outcomes.{refusal_of, refusal_back}
use Rattle.refusals.specs.declared.refusal.Refusal.{Refusal}
use Rattle.monitor.specs.declared.answer.Accepted.{Accepted}
use Rattle.monitor.specs.Step.{Reply, verdict, clock_moved, refusal, said}

abbrev pub answer_of : Reply → Result Accepted Refusal
answer_of (verdict number) = Ok (Accepted.Verdict number)
answer_of clock_moved = Ok Accepted.ClockMoved
answer_of (refusal fault) = Err (refusal_of fault)

pub answer_back : (answer : Result Accepted Refusal) → answer_of (said answer) ≡ answer
answer_back (Ok (Accepted.Verdict number)) = refl
answer_back (Ok Accepted.ClockMoved) = refl
answer_back (Err fault) = ap Err (refusal_back fault)
