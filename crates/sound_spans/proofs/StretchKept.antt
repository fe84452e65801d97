-- A sound stretch, in words: it is ready for an update at any later time. Room is the figure's.
use mathlib.Core.Bool.{Bool}
use mathlib.Core.List.{List}
use mathlib.Core.Path.{◌≡◌}
use Prim.Native.Nat.{ℕ, ◌≤◌}
use lib.ListN.{length}
use Rattle.meaning.specs.Interval.{End, ◌≤End◌, ◌+End◌}
use Rattle.meaning.specs.Spans.{Span, Rising, reached_from, update}
use Rattle.meaning.specs.Sound.{SoundSpans, length_of}
use Rattle.meaning.specs.Figure.{figure}
use Rattle.meaning.proofs.SoundKept.{update-rises, update-fits}
use Rattle.spans.specs.declared.stretch.Held.{Held}
use Rattle.spans.specs.Layout.{spans_held, Packed}
use Rattle.spans.proofs.LayoutLaws.{Storable, laid-read}
use Rattle.sound_spans.proofs.SoundTold.{SoundStretch, sound_stored}

-- What an update at t leaves rises from t, and is at most so many spans.
pub record UpdateLeaves (t spans : ℕ) (S : List Span) : Type 0 where
  pub rises : Rising t S
  pub room : length S ≤ spans

-- A stretch with the limits a and b, sound at `now`, and an event at t.
module _
    (now t event a latest_first : ℕ)
    (b : End)
    (words : List ℕ)
    (held : Held)
    (storable : Storable (event +End b))
    (sound : SoundStretch words held now latest_first (event +End b) (length_of a b))
  where
    read : spans_held words held ≡ sound.spans
    read = laid-read sound.laid (sound_stored now latest_first (event +End b) (length_of a b) sound.spans storable sound.sound)

    pub sound-packed : Packed words held
    sound-packed = rw read sound.laid

    held-sound : SoundSpans now latest_first (event +End b) (length_of a b) (spans_held words held)
    held-sound = rw read sound.sound

    pub sound-ready : (keep feed : Bool) → a ≤End b → now ≤ t → event ≤ t
        → UpdateLeaves t (figure a b) (update keep feed t (reached_from t a b) (spans_held words held))
    sound-ready keep feed order present seen =
        record {
          rises = update-rises keep feed now t event a latest_first b (spans_held words held) order present seen held-sound;
          room = update-fits keep feed now t event a latest_first b (spans_held words held) order present seen held-sound;
        }
