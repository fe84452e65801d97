-- One byte after another: what is still to come of a piece, from turn to turn of the loop over its bytes.
use mathlib.Core.Bool.{Bool, true, false}
use mathlib.Core.List.{List, [], ◌∷◌, ◌++◌}
use mathlib.Core.Path.{◌≡◌, refl, sym, ap, ◌∙◌}
use Prim.Native.Nat.{ℕ, ◌+◌, ◌-◌, ◌*◌, ◌≤◌, ◌<◌}
use native.Mathlib.Omega.{arith}
use native.Mathlib.Numerals.{add-one}
use borrow.Author.Tests.{le-leb, leb-true, lt-ltb, le-ltb}
use borrow.Rule.Slice.PartMut.{put_mid}
use lib.Dec.{leb, ltb, eqb}
use lib.ListN.{length, drop, length-append, length-drop, drop_of_length-le}
use lib.Seq.{drop-cons}
use Rattle.std.specs.List.{between}
use Rattle.std.proofs.lemmas.Slice.{between_to_end}
use Rattle.rules.specs.Limits.{row_limit, row_numbers}
use Rattle.meaning.proofs.Truths.{by_test, and_left, and_right}
use Rattle.lines.specs.Digits.{byte_at, overwritten}
use Rattle.lines.specs.Line.{line_feed}
use Rattle.lines.proofs.OverLaws.{length_over, over_over, over_none, over_fits}
use Rattle.text.specs.Replies.{longest_reply}
use Rattle.text.specs.declared.state.State.{State}
use Rattle.text.specs.Held.{held_line, holding}
use Rattle.text.specs.Turn.{Room}
use Rattle.text.specs.Feed.{Memory, byte_leaves, byte_text, Feeding, no_feeding, and_then, feed, ready?, piece_fed, step_fed, memory_of, state_in}
use Rattle.text.specs.Feed.{ByteTaken, Stepped}
use Rattle.text.proofs.WroteLaws.{wrote_none, over_part, over_rest}
use Rattle.text.proofs.TurnLaws.{turn-rows}

-- What is left to do, after what was used and written, is all there was to do.
pub record Owing (whole : Feeding) (before : List ℕ) (rest : Feeding) (out : List ℕ) (used wrote : ℕ) : Type 0 where
  pub left : rest.left ≡ whole.left
  pub bytes-used : used + rest.used ≡ whole.used
  pub bytes-written : wrote + length rest.text ≡ length whole.text
  pub text : overwritten out wrote rest.text ≡ overwritten before 0 whole.text

owing_all : (whole : Feeding) (out : List ℕ) → Owing whole out whole out 0 0
owing_all whole out = record { left = refl; bytes-used = omega arith; bytes-written = omega arith; text = refl }

-- What is ready, and what is not: it is left as it is.
pub ready_room : (m : Memory) → ready? m ≡ true → Room m.desk.stage m.desk.table
ready_room m both =
    let few : Bool = leb m.desk.stage.rows row_limit in
    let room : Bool = leb (row_limit * row_numbers) (length m.desk.table) in
    record { rows = leb-true _ _ (and_left few room both); numbers = leb-true _ _ (and_right few room both) }

pub step_left : (state : State) (table store piece out : List ℕ) → ready? (memory_of state table store) ≡ false
    → Stepped state table store piece out state table store (record { used = 0; wrote = 0 }) out
unfolding piece_fed
step_left state table store piece out not =
    let nothing : step_fed state table store piece out ≡ no_feeding (memory_of state table store) = rw not in
    record { left = rw nothing; used = rw nothing; wrote = rw nothing (wrote_none out) }

pub step_ready : (m : Memory) (room : ℕ) (piece : List ℕ)
    → m.desk.stage.rows ≤ row_limit
    → row_limit * row_numbers ≤ length m.desk.table
    → piece_fed m room piece ≡ feed m room piece
unfolding piece_fed
step_ready m room piece rows size = rw (le-leb _ _ rows, le-leb _ _ size)

module _ (m : Memory) (room : ℕ) (piece : List ℕ) (used : ℕ) where
  -- No byte is left, or no room.
  pub feed-end : length piece ≤ used → feed m room (drop used piece) ≡ no_feeding m
  unfolding feed
  feed-end end = rw (drop_of_length-le piece end)

  pub feed-full : used < length piece → room < longest_reply → feed m room (drop used piece) ≡ no_feeding m
  unfolding feed
  feed-full more full = rw (drop-cons piece used 0 more) (rw (lt-ltb _ _ full))

  feed-more : used < length piece → longest_reply ≤ room
      → feed m room (drop used piece)
      ≡ and_then (byte_text m (byte_at piece used))
      (feed (byte_leaves m (byte_at piece used)) (room - length (byte_text m (byte_at piece used))) (drop (used + 1) piece))
  unfolding feed
  feed-more more free = rw (drop-cons piece used 0 more, add-one used) (rw (le-ltb _ _ free))

-- No piece brings more rows than a table may have.
byte_rows : (m : Memory) (byte : ℕ) → m.desk.stage.rows ≤ row_limit → (byte_leaves m byte).desk.stage.rows ≤ row_limit
unfolding byte_leaves
byte_rows m byte most =
    by_test (eqb byte line_feed) (λ ends. rw ends (turn-rows m.desk (held_line (holding m.held byte)) most)) (λ other. rw other most)

feed-rows : (m : Memory) (room : ℕ) (piece : List ℕ) → m.desk.stage.rows ≤ row_limit → (feed m room piece).left.desk.stage.rows ≤ row_limit
unfolding feed
feed-rows m room [] most = most
feed-rows m room (byte ∷ piece) most =
    by_test (ltb room longest_reply) (λ full. rw full most)
    (λ free. rw free (feed-rows (byte_leaves m byte) (room - length (byte_text m byte)) piece (byte_rows m byte most)))

pub step_rows : (m : Memory) (room : ℕ) (piece : List ℕ)
    → m.desk.stage.rows ≤ row_limit
    → (piece_fed m room piece).left.desk.stage.rows ≤ row_limit
unfolding piece_fed
step_rows m room piece most =
    by_test (ready? m) (λ ready. rw ready (feed-rows m room piece most)) (λ not. rw not most)

-- What holds from turn to turn of the loop.
pub record Going (first : Memory) (piece before : List ℕ) (m : Memory) (out : List ℕ) (used wrote : ℕ) : Type 0 where
  pub owing : Owing (piece_fed first (length before) piece) before (feed m (length out - wrote) (drop used piece)) out used wrote
  pub wrote-within : wrote ≤ length out
  pub room : Room m.desk.stage m.desk.table
  pub same_out : length out ≡ length before

pub going_first : (first : Memory) (piece before : List ℕ) → Room first.desk.stage first.desk.table → Going first piece before first before 0 0
going_first first piece before room =
    let whole : length before - 0 ≡ length before = omega arith in
    record {
      owing = rw (whole, step_ready first (length before) piece room.rows room.numbers) (owing_all (feed first (length before) piece) before);
      wrote-within = omega arith;
      room = room;
      same_out = refl;
    }

module _
    (first : Memory)
    (piece before : List ℕ)
    (m : Memory)
    (out : List ℕ)
    (used wrote : ℕ)
    (going : Going first piece before m out used wrote) where
  -- What the piece brings in all.
  abbrev whole : Feeding
  whole = piece_fed first (length before) piece

  -- Nothing more can be done: no byte is left, or no room.
  pub going_ends : feed m (length out - wrote) (drop used piece) ≡ no_feeding m
      → Stepped (state_in first) first.desk.table first.desk.store piece before (state_in m) m.desk.table m.desk.store
      (record { used = used; wrote = wrote }) out
  going_ends none =
      let o : Owing whole before (no_feeding m) out used wrote = rw none at going.owing in
      let all : used + 0 ≡ whole.used = o.bytes-used in
      let end : wrote + 0 ≡ length whole.text = o.bytes-written in
      record {
        left = o.left;
        used = omega arith;
        wrote = record { count = omega arith; bytes = sym (over_none out wrote) ∙ o.text };
      }

  -- One byte more.
  module _
      (byte : ℕ)
      (is : byte ≡ byte_at piece used)
      (more : used < length piece)
      (free : longest_reply ≤ length out - wrote)
      (state : State)
      (table store : List ℕ)
      (count : ℕ)
      (part : List ℕ)
      (taken : ByteTaken byte (state_in m) m.desk.table m.desk.store (between wrote (length out) out) state table store count part)
      (same_table : length table ≡ length m.desk.table)
      (same_part : length part ≡ length (between wrote (length out) out)) where
    abbrev next : List ℕ
    next = put_mid wrote (length out - wrote) out part

    abbrev text : List ℕ
    text = byte_text m byte

    same : length next ≡ length out
    same =
        let whole-part : between wrote (length out) out ≡ drop wrote out = between_to_end out wrote (length out) (omega arith) in
        let size : length part ≡ length out - wrote = same_part ∙ rw (whole-part, length-drop) in
        ap length (over_part out wrote (length out - wrote) part size) ∙ length_over out wrote part (omega arith)

    over : next ≡ overwritten out wrote text
    over = over_rest out wrote text part going.wrote-within taken.written.bytes

    going-fits : wrote + count ≤ length out
    going-fits =
        let fits : wrote + length text ≤ length out = over_fits out wrote going.wrote-within text (sym (ap length over) ∙ same) in
        let is : count ≡ length text = taken.written.count in
        omega arith

    pub going-byte : Going first piece before (memory_of state table store) next (used + 1) (wrote + count)
    going-byte =
        let counted : count ≡ length text = taken.written.count in
        let fits : wrote + count ≤ length out = going-fits in
        let kept : length next ≡ length out = same in
        let left : memory_of state table store ≡ byte_leaves m byte = taken.left in
        let room : length next - (wrote + count) ≡ length out - wrote - length text = omega arith in
        let rest : Feeding = feed (byte_leaves m byte) (length out - wrote - length text) (drop (used + 1) piece) in
        let now : Owing whole before (and_then text rest) out used wrote =
        rw (feed-more m (length out - wrote) piece used more free, ← is) at going.owing in
        let all : used + (1 + rest.used) ≡ whole.used = now.bytes-used in
        let end : wrote + length (text ++ rest.text) ≡ length whole.text = now.bytes-written in
        let sum : length (text ++ rest.text) ≡ length text + length rest.text = length-append text rest.text in
        let rows : (byte_leaves m byte).desk.stage.rows ≤ row_limit = byte_rows m byte going.room.rows in
        let numbers : row_limit * row_numbers ≤ length m.desk.table = going.room.numbers in
        record {
          owing =
              rw (room, left)
              (record {
                left = now.left;
                bytes-used = omega arith;
                bytes-written = omega arith;
                text = rw (over, counted) (over_over out wrote going.wrote-within text rest.text) ∙ now.text;
              });
          wrote-within = omega arith;
          room = record { rows = rw (ap (λ (m : Memory). m.desk.stage.rows) left) rows; numbers = omega arith };
          same_out = same ∙ going.same_out;
        }
