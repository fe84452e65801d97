-- A start for C: it answers 0 if and only if the stream starts there, and then record and words are those that the stream begins with; otherwise its code
-- is that of the refusal, the record is all zero and every word as it was.
use Rattle.std.specs.Prelude.{List, ◌++◌, ◌↔◌, ◌≡◌, ℕ, length, drop, replicate}
use Rattle.refusals.specs.Refusals.{Refused}
use Rattle.rules.specs.Rows.{rows_of}
use Rattle.rules.specs.Stretches.{need_of}
use Rattle.soundness.specs.declared.record.Record.{Record}
use Rattle.soundness.specs.Setup.{Setup}
use Rattle.soundness.specs.Record.{nothing_seen}
use Rattle.promises.specs.Refusing.{StartRefused}
use Rattle.promises.specs.Stream.{Starts, started}
use Rattle.codes.specs.Code.{refusal_code}
use Rattle.board.specs.Left.{StartLeaves}

pub record StartTold (setup : Setup) (store : List ℕ) (code : ℕ) (kept : Record) (words : List ℕ) : Type 0 where
  pub good : (code ≡ 0) ↔ Starts setup store
  pub begins : code ≡ 0 → (kept ≡ (started setup store).found) × (words ≡ (started setup store).store)
  -- "A good start writes 0 to every word of the need", and the record has seen no event.
  pub zeros : code ≡ 0 → (kept ≡ nothing_seen (rows_of setup.table)) × (words ≡ replicate (need_of setup.table) 0 ++ drop (need_of setup.table) store)
  pub refused : ¬ (code ≡ 0) → (fault : Refused) × StartRefused setup (length store) fault × (code ≡ refusal_code fault)
  -- "A refused start gives an all-zero record, row count 0, store untouched."
  pub stays : ¬ (code ≡ 0) → (kept ≡ nothing_seen 0) × (words ≡ store)

abbrev pub StartIsTheStreams : Type 0
StartIsTheStreams = (setup : Setup) (store : List ℕ) (code : ℕ) (kept : Record) (words : List ℕ)
    → StartLeaves setup store code kept words
    → StartTold setup store code kept words
