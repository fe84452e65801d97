-- Any two outcomes that the contract of `check` allows are the same: the paper's numbers and values that an answer stands for give it back. Every
-- other public function's contract is `r ≡ value`, whose law is `one_value` of crate `meaning`.
use Rattle.std.proofs.Common.{◌≡◌, ℕ, List, Ok, Err, refl, ap}
use Rattle.std.specs.Prelude.{Result}
use Rattle.meaning.proofs.OneValue.{one-said}
use Rattle.refusals.proofs.Outcomes.{refusal_of, refusal_back}
use Rattle.rules.specs.Table.{CheckReply, passed, refused_by, check_reply, Checks}
use Rattle.rules.specs.declared.table.Passed.{Passed}
use Rattle.refusals.specs.declared.refusal.Refusal.{Refusal}

-- The answer of the check that says so.
abbrev pub answer_of : CheckReply → Result Passed Refusal
answer_of (passed rows need) = Ok (record { rows = rows; need = need })
answer_of (refused_by refusal) = Err (refusal_of refusal)

pub answer_back : (r : Result Passed Refusal) → answer_of (check_reply r) ≡ r
answer_back (Ok counted) = refl
answer_back (Err refusal) = ap Err (refusal_back refusal)

pub check_one_outcome : (table : List ℕ) (p q : Result Passed Refusal) → Checks table p → Checks table q → p ≡ q
check_one_outcome table = one-said check_reply answer_of answer_back
