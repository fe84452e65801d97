-- What the code of a call means, after a good start and any calls in place: below 65,536 it is the verdict of a true event, whose bit k is set
-- exactly when the formula of the k-th listed row holds over the kept true events and this one; bit 31 alone is a heartbeat's; any other is that of 6 or 5.
use Rattle.std.specs.Prelude.{List, ◌⊎◌, ◌↔◌, ◌≡◌, ℕ, ◌≤◌, ◌<◌, length}
use Rattle.meaning.specs.History.{BitSet}
use Rattle.meaning.specs.Formula.{Holds}
use Rattle.refusals.specs.Refusals.{refused, number_of}
use Rattle.refusals.specs.declared.refusal.Refusal.TheVariants.{Earlier, Late}
use Rattle.times.specs.Times.{time_limit}
use Rattle.soundness.specs.declared.record.Record.{Record}
use Rattle.soundness.specs.Setup.{Setup}
use Rattle.monitor.specs.Step.{Call, time_of}
use Rattle.promises.specs.Stream.{Keeps, Beats, clock, longer}
use Rattle.promises.specs.Verdicts.{judged_formula}
use Rattle.codes.specs.Code.{verdict_room, moved_code, refusal_code, number_told, IsRefusal}
use Rattle.board.specs.Left.{StartLeaves, CallLeaves}
use Rattle.board_promises.specs.Made.{Made}

pub record CodeMeant (setup : Setup) (calls : List Call) (c : Call) (code : ℕ) : Type 0 where
  pub judged : (code < verdict_room) ↔ (Keeps (clock calls) c × (¬ Beats c))
  pub moved : (code ≡ moved_code) ↔ (Keeps (clock calls) c × Beats c)
  pub bits : code < verdict_room
      → (k : ℕ)
      → k < length setup.list
      → BitSet k code ↔ Holds (judged_formula setup k) (longer calls c)
  pub others : code < verdict_room → (k : ℕ) → length setup.list ≤ k → ¬ BitSet k code
  pub late : time_limit < time_of (clock calls) c → code ≡ refusal_code (refused Late)
  pub earlier : time_of (clock calls) c ≤ time_limit → time_of (clock calls) c < clock calls → code ≡ refusal_code (refused Earlier)
  pub number : IsRefusal code → (number_told code ≡ number_of Late) ⊎ (number_told code ≡ number_of Earlier)

-- A start that answered 0, calls in place, and one call more where they left record and words.
abbrev pub CodesTellTheMeaning : Type 0
CodesTellTheMeaning = (setup : Setup) (lent store : List ℕ) (found : Record) (calls : List Call) (codes : List ℕ) (between : Record) (stand : List ℕ)
    (c : Call) (code : ℕ) (kept : Record) (words : List ℕ)
    → StartLeaves setup lent 0 found store
    → Made setup store found calls codes between stand
    → CallLeaves setup stand between c code kept words
    → CodeMeant setup calls c code
