-- A run: calls one after the other (document 01, "The main loop keeps one record that stays where it is and is changed there by each event").
use Rattle.std.specs.Prelude.{List, [], ◌∷◌, ◌≡◌, ℕ}
use Rattle.soundness.specs.declared.record.Record.{Record}
use Rattle.soundness.specs.Setup.{Setup}
use Rattle.monitor.specs.Step.{Call, Outcome, step_of}
use Rattle.codes.specs.Code.{code_of}

-- A call of each number and its mask; the shorter row decides how many. The number is an event's time or a frame's counter.
unfoldable pub calls_of : {A : Type 0} → (A → ℕ → Call) → List A → List ℕ → List Call
calls_of call [] masks = []
calls_of call (number ∷ numbers) [] = []
calls_of call (number ∷ numbers) (mask ∷ masks) = call number mask ∷ calls_of call numbers masks

-- What a run leaves: the record, the store, and the row of answers' codes.
pub record Ran : Type 0 where
  pub left : Record
  pub store : List ℕ
  pub codes : List ℕ

abbrev pub ran : Record → List ℕ → List ℕ → Ran
ran left store codes = record { left = left; store = store; codes = codes }

abbrev pub code_then : ℕ → Ran → Ran
code_then code rest = ran rest.left rest.store (code ∷ rest.codes)

-- Each call is judged from what the one before it left, and its answer's code takes the next place of the row. Where there is no place left, no
-- call is judged.
unfoldable pub run_of : Setup → Record → List ℕ → List ℕ → List Call → Ran
run_of setup found store codes [] = ran found store codes
run_of setup found store [] (call ∷ calls) = ran found store []
run_of setup found store (code ∷ codes) (call ∷ calls) =
    let judged : Outcome = step_of setup store found call in
    code_then (code_of judged.reply) (run_of setup judged.left judged.store codes calls)

-- The record, the words and the row of codes that a run of these calls leaves, from those that it found.
abbrev pub RunLeaves : Setup → Record → (store codes : List ℕ) → List Call → (kept : Record) (after codes_after : List ℕ) → Type 0
RunLeaves setup found store codes calls kept after codes_after = ran kept after codes_after ≡ run_of setup found store codes calls
