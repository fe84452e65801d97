-- Any two outcomes that the contract of `ready` or of `fit` allows are the same. `nothing_seen` says all by `r ≡ value`.
use mathlib.Core.List.{List}
use mathlib.Core.Path.{◌≡◌}
use Prim.Native.Nat.{ℕ}
use Rattle.std.specs.Prelude.{Result}
use Rattle.meaning.proofs.OneValue.{one-said}
use Rattle.refusals.specs.declared.refusal.Refusal.{Refusal}
use Rattle.rules.specs.Table.{check_reply}
use Rattle.rules.specs.declared.table.Passed.{Passed}
use Rattle.rules.proofs.Outcomes.{answer_of, answer_back}
use Rattle.soundness.specs.declared.record.Record.{Record}
use Rattle.soundness.specs.Setup.{Setup}
use Rattle.soundness.specs.Ready.{Readies}
use Rattle.soundness.specs.Fit.{Fits}

pub one_ready : (setup : Setup) (size : ℕ) (p q : Result Passed Refusal) → Readies setup size p → Readies setup size q → p ≡ q
one_ready setup size = one-said check_reply answer_of answer_back

pub one_fit : (setup : Setup) (store : List ℕ) (found : Record) (p q : Result Passed Refusal)
    → Fits setup store found p
    → Fits setup store found q
    → p ≡ q
one_fit setup store found = one-said check_reply answer_of answer_back
