-- A frame read at a place (document 01, "Lines from the board").
use Rattle.std.specs.Prelude.{List, [], ◌∷◌, ◌≡◌, ℕ}
use Rattle.lines.specs.declared.frame.Frame.{Frame}
use Rattle.lines.specs.declared.read.Read as Code
use Rattle.lines.specs.Read.{Read, read_line, read_said}

-- "counter (4 digits), mask (8)".
abbrev pub frame_widths : List ℕ
frame_widths = 2 ∷ 4 ∷ []

abbrev pub read_frame : List ℕ → ℕ → Read
read_frame = read_line frame_widths

-- The numbers of a frame.
abbrev pub frame_numbers : Frame → List ℕ
frame_numbers frame = frame.counter ∷ frame.mask ∷ []

-- An answer that is right for a text and a place: it says what reading a frame there gives.
abbrev pub ReadsFrame : List ℕ → ℕ → Code.Read Frame → Type 0
ReadsFrame text place read = read_said frame_numbers read ≡ read_frame text place
