-- What a call that is lent the store and the record leaves: its code, every field of the record and every word of the store.
use Rattle.std.specs.Prelude.{List, ◌≡◌, ℕ}
use Rattle.soundness.specs.declared.record.Record.{Record}
use Rattle.monitor.specs.Start.{Beginning, start_of}
use Rattle.soundness.specs.Setup.{Setup}
use Rattle.monitor.specs.Step.{Call, Outcome, step_of}
use Rattle.codes.specs.Code.{code_of, refused_code}

pub record Left : Type 0 where
  pub code : ℕ
  pub kept : Record
  pub store : List ℕ

abbrev pub left : ℕ → Record → List ℕ → Left
left code kept store = record { code = code; kept = kept; store = store }

-- A start: "a refused start leaves an all-zero record", which is what `start_of` gives.
abbrev pub started_of : Beginning → Left
started_of b = left (refused_code b.refusal) b.given b.store

-- The code that a start answers, and the record and the words that it leaves, from the words that it found.
abbrev pub StartLeaves : Setup → (store : List ℕ) → (code : ℕ) (kept : Record) (after : List ℕ) → Type 0
StartLeaves setup store code kept after = left code kept after ≡ started_of (start_of setup store)

-- An event or a frame.
abbrev pub coded_of : Outcome → Left
coded_of o = left (code_of o.reply) o.left o.store

-- The code that such a call answers, and the record and the words that it leaves, from those that it found.
abbrev pub CallLeaves : Setup → (store : List ℕ) → Record → Call → (code : ℕ) (kept : Record) (after : List ℕ) → Type 0
CallLeaves setup store found call code kept after = left code kept after ≡ coded_of (step_of setup store found call)
