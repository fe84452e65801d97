-- A start (document 01, "Refusal numbers"; document 02, E4): "A refused start gives an all-zero record, row count 0, store untouched. A good start writes 0 to
-- every word of the need."
use Rattle.std.specs.Prelude.{List, ◌++◌, ◌≡◌, ℕ, length, drop, replicate, Result, Ok, Err}
use Rattle.std.proofs.Math.Option.{Option, none, some}
use Rattle.refusals.specs.Refusals.{Refused, refused}
use Rattle.refusals.specs.declared.refusal.Refusal.{Refusal}
use Rattle.rules.specs.Table.{CheckReply, passed, refused_by}
use Rattle.soundness.specs.declared.record.Record.{Record}
use Rattle.soundness.specs.Record.{nothing_seen}
use Rattle.soundness.specs.Setup.{Setup}
use Rattle.soundness.specs.Ready.{ready_of}

-- What a start gives: its refusal, if any, the words of the need, 0 where it is refused, the record, and the store at the end.
pub record Beginning : Type 0 where
  pub refusal : Option Refused
  pub need : ℕ
  pub given : Record
  pub store : List ℕ

abbrev pub begin : List ℕ → CheckReply → Beginning
begin store (passed rows need) =
    record { refusal = none; need = need; given = nothing_seen rows; store = replicate need 0 ++ drop need store }
begin store (refused_by fault) = record { refusal = some fault; need = 0; given = nothing_seen 0; store = store }

unfoldable pub start_of : Setup → List ℕ → Beginning
start_of setup store = begin store (ready_of setup (length store))

-- What an answer says, with the record and the store at exit.
abbrev pub start_refusal : Result ℕ Refusal → Option Refused
start_refusal (Ok need) = none
start_refusal (Err refusal) = some (refused refusal)

abbrev pub start_need : Result ℕ Refusal → ℕ
start_need (Ok need) = need
start_need (Err refusal) = 0

abbrev pub said_start : Result ℕ Refusal → Record → List ℕ → Beginning
said_start answer given store =
    record { refusal = start_refusal answer; need = start_need answer; given = given; store = store }

-- What `start` promises: its answer, the record and every word of the store at exit say this.
abbrev pub StartGives : Setup → (store : List ℕ) → Result ℕ Refusal → Record → (after : List ℕ) → Type 0
StartGives setup store answer given after = said_start answer given after ≡ start_of setup store
