-- A text is its lines: read by places, as the reader of `lines` does, a text says what its lines say.
use Rattle.std.specs.Prelude.{List, map, ◌≡◌, ℕ}
use Rattle.lines.specs.Frame.{read_frame}
use Rattle.promises.specs.TextRead.{lines_read}
use Rattle.lines.specs.Lines.{lines_of}

-- Each line as it is read alone, one after the other; a last one without line feed too.
abbrev pub LinesAreReadings : Type 0
LinesAreReadings = (text : List ℕ) → map (λ (line : List ℕ). (read_frame line 0).said) (lines_of text) ≡ lines_read text
