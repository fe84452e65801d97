-- What the private functions of src/stretch say of the words while they are lent, in the words of Stretch.
use Rattle.std.specs.Prelude.{Bool, List, ◌≡◌, ℕ, length}
use Rattle.meaning.specs.Spans.{Span}
use Rattle.spans.specs.declared.stretch.Ring.{Ring}
use Rattle.spans.specs.Layout.{places_of, spans_held}
use Rattle.spans.specs.Stretch.{SpansWritten, SpansKept, SpansUpdated}

abbrev pub places_in : Ring → ℕ
places_in ring = places_of (length ring.words.now)

abbrev pub spans_of : Ring → List Span
spans_of ring = spans_held ring.words.now ring.held

-- They are the same that were lent, as many as there were.
abbrev pub SameWords : (before after : Ring) → Type 0
SameWords before after = (after.words.ghost_name ≡ before.words.ghost_name) × (length after.words.now ≡ length before.words.now)

-- Of the spans held K are left.
abbrev pub RingKept : (before after : Ring) → List Span → Type 0
RingKept before after K = SpansKept before.words.now before.held after.words.now after.held K

-- The spans S are written, from the same first place on.
abbrev pub RingWritten : (before after : Ring) → List Span → Type 0
RingWritten before after S = (after.held.first ≡ before.held.first) × SpansWritten before.words.now after.words.now after.held S

abbrev pub RingUpdated : Ring → (x y : Bool) → (time : ℕ) → Span → Ring → (covered : Bool) → Type 0
RingUpdated before x y time s after covered =
    SpansUpdated before.words.now before.held x y time s after.words.now (record { held = after.held; covered = covered })
