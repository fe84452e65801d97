-- Demand 1: "a refused call changes nothing ..: the stream goes on as if it hadn't been made." For every list of calls, each with any table, any
-- length of the store, any time and mask or counter, from any record and any words.
use Rattle.std.specs.Prelude.{List, ◌++◌, ℕ, take, drop}
use Rattle.soundness.specs.Setup.{Setup}
use Rattle.monitor.specs.Step.{Call, Reply, Outcome, step_of}
use Rattle.promises.specs.Stream.{State, accepted?}
use Rattle.promises.specs.LeftOut.{Machine, Unchanged}

-- A call made with a setup of its own and lent the first `size` words, or all where there are fewer.
pub record Attempt : Type 0 where
  pub setup : Setup
  pub size : ℕ
  pub made : Call

abbrev pub attempt : State → Attempt → Outcome
attempt s t = step_of t.setup (take t.size s.store) s.found t.made

-- The words that were not lent stay.
abbrev pub leaves : State → Attempt → State
leaves s t = record { found = (attempt s t).left; store = (attempt s t).store ++ drop t.size s.store }

abbrev pub attempts : Machine State Attempt Reply
attempts = record { answer = λ s t. (attempt s t).reply; left = leaves; unrefused = accepted? }

-- Leaving out those that are refused leaves every other answer, the record and every word the same.
abbrev pub AsIfNotMade : Type 0
AsIfNotMade = (s : State) (made : List Attempt) → Unchanged attempts s made
