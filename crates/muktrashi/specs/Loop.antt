-- The program's loop, as far as a contract can tell of it. It cannot say which bytes standard input gave, nor that standard output took what was
-- written; it says that some pieces were taken, one after the other, each from where the one before ended.
use Rattle.std.specs.Prelude.{true, List, [], ◌∷◌, ◌≡◌, ℕ, ◌*◌, ◌≤◌, ◌<◌, length, take}
use Rattle.rules.specs.Limits.{row_limit, row_numbers}
use Rattle.text.specs.declared.feed.Fed.{Fed}
use Rattle.text.specs.declared.state.State.{State}
use Rattle.text.specs.Replies.{longest_reply}
use Rattle.text.specs.Transcript.{empty_store}
use Rattle.text.specs.Feed.{memory_of, text_end, Stepped}
use Rattle.text.specs.Course.{Lent, course_of, joined}
use Rattle.muktrashi.specs.declared.Ran.{Ran}

-- What the loop is lent: room for every row in the table, a store whose words are all 0, a piece of some bytes, and an output with room for a line
-- a byte.
pub record Lends (table store piece out : List ℕ) : Type 0 where
  pub rows : row_limit * row_numbers ≤ length table
  pub words : store ≡ empty_store
  pub bytes : 0 < length piece
  pub lines : longest_reply * length piece ≤ length out

-- What a step needs to take its piece whole: a state that counts no more rows than a table may have, room for every row in the table, and an output
-- with room for a line a byte.
pub record ReadyForWhole (state : State) (table piece out : List ℕ) : Type 0 where
  pub counted : state.stage.rows ≤ row_limit
  pub rows : row_limit * row_numbers ≤ length table
  pub lines : longest_reply * length piece ≤ length out

-- A step that leaves no byte of its piece.
pub record TakenWhole
    (state : State) (table store piece out : List ℕ)
    (state' : State) (table' store' : List ℕ) (fed : Fed) (after : List ℕ) : Type 0 where
  pub whole : fed.used ≡ length piece
  pub stepped : Stepped state table store piece out state' table' store' fed after

-- A read that gives no byte is the text's end, not a piece.
abbrev pub NoneEmpty : List Lent → Type 0
NoneEmpty [] = Unit
NoneEmpty (lent ∷ more) = (0 < length lent.piece) × NoneEmpty more

-- As many pieces as turns, none empty, each taken whole: their course from the text's first byte, with the table as it was lent and a store whose
-- words are all 0, leaves this state, this table and this store.
pub record Went (lent-table : List ℕ) (turns : ℕ) (state : State) (table store : List ℕ) : Type 0 where
  pub lents : List Lent
  pub pieces : length lents ≡ turns
  pub none_empty : NoneEmpty lents
  pub taken : (course_of lent-table lents).taken ≡ joined lents
  pub left : memory_of state table store ≡ (course_of lent-table lents).left

-- The loop's answer. Where it ended at the text's end, the output begins with what the text's end writes in this state.
pub record Looped (lent-table : List ℕ) (ran : Ran) (table store out : List ℕ) : Type 0 where
  pub went : Went lent-table ran.turns ran.state table store
  pub last : ran.ended ≡ true → take (length (text_end ran.state)) out ≡ text_end ran.state
