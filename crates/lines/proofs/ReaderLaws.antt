-- A reader that finds something is before its text's end, and moves on within it.
use mathlib.Core.Path.{◌≡◌, ap, ◌∙◌}
use Prim.Native.Nat.{◌+◌, ◌-◌, ◌<◌}
use native.Mathlib.Omega.{arith}
use borrow.Author.Tests.{leb-true, leb-false}
use lib.Dec.{leb}
use lib.ListN.{length, drop, length-drop}
use Rattle.std.specs.Prelude.{Option, Some, None, Result, Ok, Err}
use Rattle.std.specs.Iterator.{at_most, MakesProgress}
use Rattle.refusals.specs.declared.refusal.Refusal.{Refusal}
use Rattle.meaning.proofs.Truths.{by_test}
use Rattle.lines.specs.declared.frame.Frame.{Frame}
use Rattle.lines.specs.declared.reader.Reader.{Reader}
use Rattle.lines.specs.Line.{past_first, past_line_feed}
use Rattle.lines.specs.Read.{at_end, Read, found_said}
use Rattle.lines.specs.Frame.{frame_widths, frame_numbers}
use Rattle.lines.specs.Reader.{NextFrame}
use Rattle.lines.proofs.LineLaws.{past-most}
use Rattle.lines.proofs.AgreeLaws.{past-some}
use Rattle.lines.proofs.RestLaws.{line_ends, line-here}

something : (line : Result Frame Refusal) → found_said frame_numbers (Some line) ≡ at_end → ⊥
something (Ok frame) is = cc
something (Err refusal) is = cc

module _ (before : Reader) (line : Result Frame Refusal) (after : Reader) (next : NextFrame before (Some line) after) where
  pub found-within : before.place < length before.text.now
  found-within =
      by_test (leb (length before.text.now) before.place)
      (λ past.
      let ended = line_ends before.text.now before.place (leb-true _ _ past) frame_widths in
      absurd (something line (ap (λ (read : Read). read.said) (next.read ∙ ended))))
      (leb-false _ _)

  pub moves_on : after.place ≡ before.place + past_first (drop before.place before.text.now)
  unfolding past_line_feed
  moves_on = ap (λ (read : Read). read.next) (next.read ∙ line-here before.text.now before.place found-within frame_widths)

  pub fewer_left : length after.text.now - after.place < length before.text.now - before.place
  fewer_left =
      let rest = drop before.place before.text.now in
      let size : length rest ≡ length before.text.now - before.place = length-drop before.place before.text.now in
      let some : 0 < past_first rest = past-some rest (omega (arith, found-within)) in
      let same : length after.text.now ≡ length before.text.now = rw next.text in
      omega (arith, found-within, moves_on, past-most rest)

-- A reader goes on for as many turns as it has bytes left, at most.
pub goes_on : (before : Reader) (found : Option (Result Frame Refusal)) (after : Reader) → NextFrame before found after
    → MakesProgress (λ reader. Unit {0}) (λ reader. at_most (length reader.text.now - reader.place)) before found after
goes_on before None after next = record { on = λ finite. tt; keeps = tt; rests = λ finite. tt }
goes_on before (Some line) after next =
    record { on = λ finite. (tt, tt, fewer_left before line after next); keeps = tt; rests = λ finite. tt }
