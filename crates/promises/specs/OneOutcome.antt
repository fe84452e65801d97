-- "Every public function states what it returns and what each word it was lent holds at the end, for all inputs ..; Show that any two outcomes it allows
-- are the same": for each public function of the monitor, for the relation that its contract cites. Those of the other crates are in their
-- proofs/Outcomes; where a contract is `r ≡ value`, `one_value` of `meaning` says it.
use Rattle.std.specs.Prelude.{List, ◌≡◌, ℕ, Result}
use Rattle.refusals.specs.declared.refusal.Refusal.{Refusal}
use Rattle.soundness.specs.declared.record.Record.{Record}
use Rattle.monitor.specs.declared.answer.Accepted.{Accepted}
use Rattle.monitor.specs.Start.{StartGives}
use Rattle.soundness.specs.Setup.{Setup}
use Rattle.monitor.specs.Step.{Call, StepGives}

-- Any two that meet a condition are the same.
abbrev pub AtMostOne : {A : Type 0} → (A → Type 0) → Type 0
AtMostOne {A} meets = (p q : A) → meets p → meets q → p ≡ q

-- An outcome of a function that is lent the store and the record: the result, and the record and the store at exit.
pub record With (Answer : Type 0) : Type 0 where
  pub result : Answer
  pub left : Record
  pub store : List ℕ

pub record OneOutcome : Type 0 where
  -- `start`, and an event or a frame.
  pub start : (setup : Setup) (store : List ℕ)
      → AtMostOne (λ (o : With (Result ℕ Refusal)). StartGives setup store o.result o.left o.store)
  pub call : (setup : Setup) (store : List ℕ) (found : Record) (c : Call)
      → AtMostOne (λ (o : With (Result Accepted Refusal)). StepGives setup store found c o.result o.left o.store)
