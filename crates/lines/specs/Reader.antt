-- A reader moved on by one frame (document 01, "Lines from the board": "a reader that holds the captured text and its place in it").
use Rattle.std.specs.Prelude.{◌≡◌, Option, Result}
use Rattle.refusals.specs.declared.refusal.Refusal.{Refusal}
use Rattle.lines.specs.declared.frame.Frame.{Frame}
use Rattle.lines.specs.declared.reader.Reader.{Reader}
use Rattle.lines.specs.Frame.{ReadsFrame}

-- What is found and the new place are those of reading at the old place; the text stays.
pub record NextFrame (before : Reader) (found : Option (Result Frame Refusal)) (after : Reader) : Type 0 where
  pub text : after.text ≡ before.text
  pub read : ReadsFrame before.text.now before.place (record { found = found; next = after.place })
