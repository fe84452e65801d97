-- A text as it arrives: what a byte brings, what a piece brings as far as the output's room allows, and what the text's end brings.
use Rattle.std.specs.Prelude.{Bool, cond, ◌&&◌, List, [], ◌∷◌, ◌++◌, ◌≡◌, ℕ, ◌+◌, ◌-◌, ◌*◌, leb, ltb, eqb, length, replicate}
use Rattle.std.specs.Prelude.{Option, Some, None}
use Rattle.rules.specs.Limits.{row_limit, row_numbers}
use Rattle.refusals.specs.Refusals.{refused, number_of}
use Rattle.refusals.specs.declared.refusal.Refusal.TheVariants.{Length, BadLine, RowList}
use Rattle.lines.specs.Digits.{overwritten}
use Rattle.lines.specs.Line.{line_feed}
use Rattle.lines.specs.ListLine.{list_marked, list_of}
use Rattle.soundness.specs.Record.{nothing_seen}
use Rattle.text.specs.declared.state.Held.{Held}
use Rattle.text.specs.declared.state.Part.{Part}
use Rattle.text.specs.declared.state.Part.TheVariants.{Rules, Listed, Frames, Over}
use Rattle.text.specs.declared.state.State.{State}
use Rattle.text.specs.declared.feed.Fed.{Fed}
use Rattle.text.specs.Replies.{refusal_line, refused_line, longest_reply, Wrote}
use Rattle.text.specs.Held.{line_limit, held_line, holding, emptied}
use Rattle.text.specs.Turn.{Desk, Turn, staged, line_turn}

-- What there is between two bytes.
pub record Memory : Type 0 where
  pub held : Held
  pub desk : Desk

-- A byte is held; a line feed ends the line, and the line brings what it brings.
abbrev pub line_end : Memory → ℕ → Turn
line_end m byte = line_turn (held_line (holding m.held byte)) m.desk

unfoldable pub byte_leaves : Memory → ℕ → Memory
byte_leaves m byte =
    cond (eqb byte line_feed) (record { held = emptied (holding m.held byte); desk = (line_end m byte).left })
    (record { held = holding m.held byte; desk = m.desk })

unfoldable pub byte_text : Memory → ℕ → List ℕ
byte_text m byte = cond (eqb byte line_feed) (line_end m byte).text []

-- What a piece leaves, how many of its bytes were taken, and what is written.
pub record Feeding : Type 0 where
  pub left : Memory
  pub used : ℕ
  pub text : List ℕ

abbrev pub no_feeding : Memory → Feeding
no_feeding m = record { left = m; used = 0; text = [] }

-- One byte, and what follows it.
abbrev pub and_then : List ℕ → Feeding → Feeding
and_then text rest = record { left = rest.left; used = 1 + rest.used; text = text ++ rest.text }

-- The bytes of a piece, as long as there is room for the longest line.
unfoldable pub feed : Memory → ℕ → List ℕ → Feeding
feed m room [] = no_feeding m
feed m room (byte ∷ piece) =
    cond (ltb room longest_reply) (no_feeding m)
    (and_then (byte_text m byte) (feed (byte_leaves m byte) (room - length (byte_text m byte)) piece))

-- Whether the table that is lent has room for every row, and the state counts no more. Otherwise nothing is taken and nothing is written.
abbrev pub ready? : Memory → Bool
ready? m = leb m.desk.stage.rows row_limit && leb (row_limit * row_numbers) (length m.desk.table)

unfoldable pub piece_fed : Memory → ℕ → List ℕ → Feeding
piece_fed m room piece = cond (ready? m) (feed m room piece) (no_feeding m)

-- A state with what is lent, and the state in it.
abbrev pub memory_of : State → List ℕ → List ℕ → Memory
memory_of state table store = record { held = state.held; desk = record { stage = state.stage; table = table; store = store } }

abbrev pub state_in : Memory → State
state_in m = record { held = m.held; stage = m.desk.stage }

-- The state before the first byte.
unfoldable pub fresh : State
fresh =
    record {
      held = record { bytes = replicate line_limit 0; count = 0 };
      stage = staged Rules 0 (list_of []) (nothing_seen 0);
    }

-- A line more than the row limit "before the empty one EE0100, whatever it holds; a line cut off by the text's end is a bad line; text that ends at a line's
-- start before the empty line EE0800". A list line that is cut off, or any line begun after one, is EE0A00.
abbrev pub end_text : Part → ℕ → List ℕ → List ℕ
end_text Rules rows line =
    cond (eqb (length line) 0) (refused_line (refused BadLine))
    (cond (list_marked line 0) (refused_line (refused RowList))
    (cond (leb row_limit rows) (refused_line (refused Length)) (refusal_line (number_of BadLine) rows)))
end_text Listed rows line = cond (eqb (length line) 0) (refused_line (refused BadLine)) (refused_line (refused RowList))
end_text Frames rows line = cond (eqb (length line) 0) [] (refused_line (refused BadLine))
end_text Over rows line = []

unfoldable pub text_end : State → List ℕ
text_end state = end_text state.stage.part state.stage.rows (held_line state.held)

-- What a step brings, from a state and what is lent.
abbrev pub step_fed : State → (table store piece out : List ℕ) → Feeding
step_fed state table store piece out = piece_fed (memory_of state table store) (length out) piece

-- The end of the line that is held, as the code has it: the state and what is lent are left, and the text is written from the output's start.
pub record LineEnded
    (state : State) (table store out : List ℕ)
    (state' : State) (table' store' : List ℕ) (wrote : ℕ) (after : List ℕ) : Type 0 where
  pub left : memory_of state' table' store'
      ≡ record { held = emptied state.held; desk = (line_turn (held_line state.held) (memory_of state table store).desk).left }
  pub written : Wrote out (line_turn (held_line state.held) (memory_of state table store).desk).text wrote after

-- A byte as the code has it: the state and what is lent are left, and the text is written from the output's start.
pub record ByteTaken
    (byte : ℕ) (state : State) (table store out : List ℕ)
    (state' : State) (table' store' : List ℕ) (wrote : ℕ) (after : List ℕ) : Type 0 where
  pub left : memory_of state' table' store' ≡ byte_leaves (memory_of state table store) byte
  pub written : Wrote out (byte_text (memory_of state table store) byte) wrote after

-- A step as the code has it.
pub record Stepped
    (state : State) (table store piece out : List ℕ)
    (state' : State) (table' store' : List ℕ) (fed : Fed) (after : List ℕ) : Type 0 where
  pub left : memory_of state' table' store' ≡ (step_fed state table store piece out).left
  pub used : fed.used ≡ (step_fed state table store piece out).used
  pub wrote : Wrote out (step_fed state table store piece out).text fed.wrote after

-- The text's end writes where there is room for the longest line, and says how many bytes; otherwise nothing.
pub record Ended (text out : List ℕ) (wrote : Option ℕ) (after : List ℕ) : Type 0 where
  pub count : wrote ≡ cond (leb longest_reply (length out)) (Some (length text)) None
  pub bytes : after ≡ cond (leb longest_reply (length out)) (overwritten out 0 text) out
