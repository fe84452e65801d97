-- What a refused call of C leaves, from any table, words and record: "A refused call leaves every word of the store, every field of the record". Of the
-- bytes between the fields nothing is said.
use Rattle.std.specs.Prelude.{List, ◌⊎◌, ◌≡◌, ℕ, ◌<◌, length, get_or}
use Rattle.refusals.specs.Refusals.{Refused, refused}
use Rattle.refusals.specs.declared.refusal.Refusal.TheVariants.{Unsound}
use Rattle.rules.specs.Limits.{row_limit}
use Rattle.soundness.specs.declared.record.Record.{Record}
use Rattle.soundness.specs.Setup.{Setup}
use Rattle.monitor.specs.Step.{Call}
use Rattle.promises.specs.Conditions.{Ready}
use Rattle.promises.specs.Refusing.{CallRefused}
use Rattle.codes.specs.Code.{refusal_code, IsRefusal}
use Rattle.board.specs.Left.{CallLeaves}

-- A code that tells a number is that of the refusal which the table of refusals names, and no other call has such a code.
pub record CallTold (setup : Setup) (store : List ℕ) (found : Record) (c : Call) (code : ℕ) (kept : Record) (words : List ℕ) : Type 0 where
  pub refuses : (fault : Refused) → CallRefused setup store found c fault → (code ≡ refusal_code fault) × IsRefusal code
  pub only : IsRefusal code → (fault : Refused) × CallRefused setup store found c fault × (code ≡ refusal_code fault)
  pub stays : IsRefusal code → (kept ≡ found) × (words ≡ store)

abbrev pub RefusedCallLeavesAll : Type 0
RefusedCallLeavesAll = (setup : Setup) (store : List ℕ) (found : Record) (c : Call) (code : ℕ) (kept : Record) (words : List ℕ)
    → CallLeaves setup store found c code kept words
    → CallTold setup store found c code kept words

-- A record that C damaged: a byte other than 0 or 1 where it says whether an event was seen, or where a truth stands.
abbrev pub Damaged : Record → Type 0
Damaged found = (1 < found.seen) ⊎ ((row : ℕ) × (row < row_limit) × (1 < get_or found.truths row 0))

-- It is answered 7 where table and store are right, and stays as it was.
abbrev pub DamagedIsRefused : Type 0
DamagedIsRefused = (setup : Setup) (store : List ℕ) (found : Record) (c : Call) (code : ℕ) (kept : Record) (words : List ℕ)
    → Ready setup (length store)
    → Damaged found
    → CallLeaves setup store found c code kept words
    → (code ≡ refusal_code (refused Unsound)) × (kept ≡ found) × (words ≡ store)
