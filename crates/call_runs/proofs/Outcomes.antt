-- Any two outcomes that the contract of a public function allows are the same.
use mathlib.Core.List.{List}
use mathlib.Core.Path.{◌≡◌, ap}
use Prim.Native.Nat.{ℕ}
use Rattle.meaning.proofs.OneValue.{one_value}
use Rattle.soundness.specs.declared.record.Record.{Record}
use Rattle.soundness.specs.Setup.{Setup}
use Rattle.monitor.specs.Step.{Call}
use Rattle.call_runs.specs.Run.{Ran, ran, RunLeaves}

-- `run_events` and `run_frames`: the record, the store and the codes.
pub run_one_outcome : (setup : Setup) (found : Record) (store codes : List ℕ) (calls : List Call) (k k' : Record) (s s' a a' : List ℕ)
    → RunLeaves setup found store codes calls k s a → RunLeaves setup found store codes calls k' s' a'
    → (k ≡ k') × (s ≡ s') × (a ≡ a')
run_one_outcome setup found store codes calls k k' s s' a a' p q =
    let e : ran k s a ≡ ran k' s' a' = one_value p q in
    (ap (λ (r : Ran). r.left) e, ap (λ (r : Ran). r.store) e, ap (λ (r : Ran). r.codes) e)
