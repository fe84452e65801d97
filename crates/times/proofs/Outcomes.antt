-- Any two outcomes that the contract of `frame_time` allows are the same: what an answer says gives it back. Every other public function's contract is
-- `r ≡ value`, whose law is `one_value` of crate `meaning`.
use Rattle.std.proofs.Common.{◌≡◌, ℕ, refl, ap}
use Rattle.std.specs.Prelude.{Result, Ok, Err}
use Rattle.meaning.proofs.OneValue.{one-said}
use Rattle.refusals.specs.declared.refusal.Refusal.{Refusal}
use Rattle.refusals.proofs.Outcomes.{refusal_of, refusal_back}
use Rattle.times.specs.FrameTime.{TimeReply, at, not_at, said_time, TimeGives}

abbrev answer_of : TimeReply → Result ℕ Refusal
answer_of (at time) = Ok time
answer_of (not_at fault) = Err (refusal_of fault)

answer_back : (answer : Result ℕ Refusal) → answer_of (said_time answer) ≡ answer
answer_back (Ok time) = refl
answer_back (Err fault) = ap Err (refusal_back fault)

pub frame_time_one_outcome : (clock counter : ℕ) (p q : Result ℕ Refusal) → TimeGives clock counter p → TimeGives clock counter q → p ≡ q
frame_time_one_outcome clock counter = one-said said_time answer_of answer_back
