-- The computed test of a stretch tells whether it is sound, in both directions.
use mathlib.Core.Bool.{true, false}
use mathlib.Core.List.{List, [], ◌∷◌}
use mathlib.Core.Logic.{inl, inr, ⊎_elim}
use mathlib.Core.Path.{◌≡◌, refl, ap, subst⁻¹, ◌∙◌}
use Prim.Native.Nat.{ℕ, suc, ◌+◌, ◌-◌, ◌*◌, ◌≤◌, ◌<◌}
use native.Mathlib.Omega.{arith}
use lib.ListN.{length, get_or, drop, replicate, length-drop}
use Rattle.meaning.specs.Interval.{End, up_to, no_end}
use Rattle.meaning.specs.Spans.{Span, ◌to◌}
use Rattle.meaning.specs.Sound.{SoundFrom, SoundEndless, SoundSpans}
use Rattle.meaning.proofs.SpansLaws.{le_or_lt}
use Rattle.meaning.proofs.Tells.{Tells, tells_leb, tells_eqb, tells_and, tells_or, tells_same}
use Rattle.spans.specs.declared.stretch.Held.{Held}
use Rattle.spans.specs.Layout.{mark, end_at, places_of, round_from, spans_held, Laid, zeros?}
use Rattle.sound_spans.specs.StretchSound.{sound_span?, sound_from?, sound_endless?, sound_spans?, sound_stretch?}
use Rattle.spans.proofs.RoundLaws.{length_round}
use Rattle.spans.proofs.LayoutLaws.{Storable, Stored, plain_end, laid-read, laid-inside, laid-zeros, read-laid}
use Rattle.sound_spans.proofs.SoundSteps.{PlacedRight, placed-told, right-inside}

always-told : {A : Type 0} → A → Tells true A
always-told a = record { sound = λ _. a; complete = λ _. tt }

never_told : {A : Type 0} → ¬ A → Tells false A
never_told none = record { sound = λ no. absurd no; complete = none }

span_told : (from now latest long first last : ℕ)
    → Tells (sound_span? from now latest long first last)
    ((from ≤ first) × (first ≤ last) × (last ≤ latest) × (now < first → first + long ≤ last))
unfolding sound_span?
span_told from now latest long first last =
    tells_same
    (λ h. (h.0.0.0, h.0.0.1, h.0.1, ⊎_elim (λ early late. absurd (omega arith)) (λ whole late. whole) h.1))
    (λ h. (((h.0, h.1), h.2), ⊎_elim inl (λ late. inr (h.3 late)) (le_or_lt first now)))
    (tells_and
    (tells_and (tells_and (tells_leb from first) (tells_leb first last)) (tells_leb last latest))
    (tells_or (tells_leb first now) (tells_leb (first + long) last)))

from_told : (from now latest long : ℕ) (S : List Span) → Tells (sound_from? from now latest long S) (SoundFrom from now latest long S)
unfolding sound_from? SoundFrom
from_told from now latest long [] = always-told tt
from_told from now latest long ((first to up_to last) ∷ S) =
    tells_same
    (λ h. (h.0.0, h.0.1, h.0.2, h.0.3, h.1))
    (λ h. ((h.0, h.1, h.2, h.3), h.4))
    (tells_and (span_told from now latest long first last) (from_told (last + 2) now latest long S))
from_told from now latest long ((first to no_end) ∷ S) = never_told (λ h. h)

endless_told : (now latest_first : ℕ) (S : List Span) → Tells (sound_endless? now latest_first S) (SoundEndless now latest_first S)
unfolding sound_endless? SoundEndless
endless_told now latest_first [] = always-told tt
endless_told now latest_first ((first to up_to last) ∷ S) = never_told (λ h. h)
endless_told now latest_first ((first to no_end) ∷ []) =
    tells_same (λ h. (h.0, h.1, refl)) (λ h. (h.0, h.1)) (tells_and (tells_leb now first) (tells_leb first latest_first))
endless_told now latest_first ((first to no_end) ∷ (another ∷ S)) =
    never_told
    (λ h.
    let one : suc (length S) ≡ 0 = ap length h.2 in
    omega arith)

spans-told : (now latest_first : ℕ) (latest_last : End) (long : ℕ) (S : List Span)
    → Tells (sound_spans? now latest_first latest_last long S) (SoundSpans now latest_first latest_last long S)
unfolding sound_spans? SoundSpans
spans-told now latest_first (up_to latest) long S = from_told now now latest long S
spans-told now latest_first no_end long S = endless_told now latest_first S

zeros-told : (words : List ℕ) → Tells (zeros? words) (words ≡ replicate (length words) 0)
unfolding zeros?
zeros-told [] = always-told refl
zeros-told (word ∷ words) =
    tells_same
    (λ h. cc)
    (λ e. (ap (λ (l : List ℕ). get_or l 0 0) e, ap (λ (l : List ℕ). drop 1 l) e))
    (tells_and (tells_eqb word 0) (zeros-told words))

-- The spans of a sound stretch can be stored.
from_stored : (from now latest long : ℕ) (S : List Span) → latest < mark → SoundFrom from now latest long S → Stored S
unfolding Stored SoundFrom
from_stored from now latest long [] h sound = tt
from_stored from now latest long ((first to up_to last) ∷ S) h sound =
    (plain_end last (omega arith), from_stored (last + 2) now latest long S h sound.4)
from_stored from now latest long ((first to no_end) ∷ S) h sound = absurd sound

endless_stored : (now latest_first : ℕ) (S : List Span) → SoundEndless now latest_first S → Stored S
unfolding Stored SoundEndless end_at
endless_stored now latest_first [] sound = tt
endless_stored now latest_first ((first to up_to last) ∷ S) sound = absurd sound
endless_stored now latest_first ((first to no_end) ∷ S) sound = (refl, subst⁻¹ Stored sound.2 tt)

pub sound_stored : (now latest_first : ℕ) (latest_last : End) (long : ℕ) (S : List Span) → Storable latest_last
    → SoundSpans now latest_first latest_last long S
    → Stored S
unfolding SoundSpans
sound_stored now latest_first (up_to latest) long S h = from_stored now now latest long S h
sound_stored now latest_first no_end long S h = endless_stored now latest_first S

-- The words lay out as many spans as are held, no word of the stretch is left, and the spans are sound.
pub record SoundStretch (words : List ℕ) (held : Held) (now latest_first : ℕ) (latest_last : End) (long : ℕ) : Type 0 where
  pub spans : List Span
  pub laid : Laid (length words) words held spans
  pub sound : SoundSpans now latest_first latest_last long spans

-- The test is yes exactly where the stretch is sound, for any words at all.
pub stretch-told : (words : List ℕ) (held : Held) (now latest_first : ℕ) (latest_last : End) (long : ℕ) → Storable latest_last
    → Tells (sound_stretch? words held now latest_first latest_last long) (SoundStretch words held now latest_first latest_last long)
unfolding sound_stretch?
stretch-told words held now latest_first latest_last long h =
    tells_same
    there
    back
    (tells_and
    (spans-told now latest_first latest_last long (spans_held words held))
    (tells_and (placed-told (places_of (length words)) held) (zeros-told (drop (2 * held.count) (round_from held.first words)))))
  where
    rest : List ℕ
    rest = drop (2 * held.count) (round_from held.first words)

    size : length rest ≡ length words - 2 * held.count
    size = length-drop (2 * held.count) (round_from held.first words) ∙ rw (length_round held.first words) refl

    Parts : Type 0
    Parts =
        SoundSpans now latest_first latest_last long (spans_held words held)
        × (PlacedRight (places_of (length words)) held × (rest ≡ replicate (length rest) 0))

    there : Parts → SoundStretch words held now latest_first latest_last long
    there parts =
        let right = parts.1.0 in
        record {
          spans = spans_held words held;
          laid = read-laid words held (right-inside words held right) right.unplaced right.inside (rw (← size) parts.1.1);
          sound = parts.0;
        }

    back : SoundStretch words held now latest_first latest_last long → Parts
    back stretch =
        let S = stretch.spans in
        let laid = stretch.laid in
        let read : spans_held words held ≡ S = laid-read laid (sound_stored now latest_first latest_last long S h stretch.sound) in (
          rw read stretch.sound,
          (record { few = (laid-inside laid).1; unplaced = laid.unplaced; inside = laid.inside }, rw size (laid-zeros laid)),
        )
