-- A sound stretch stays sound, through time (a clip) and through an event (an update), whether or not a stream reaches it, with and without an
-- end; so its spans never outgrow the figure. `event` is the time of the event that the latest last counts from, `now` the present.
use mathlib.Core.Bool.{Bool, true, false, cond}
use mathlib.Core.List.{List, [], ◌∷◌}
use mathlib.Core.Path.{◌≡◌, refl, ap}
use Prim.Native.Nat.{ℕ, suc, ◌+◌, ◌≤◌, max}
use native.Mathlib.Omega.{arith}
use lib.ListN.{length}
use Rattle.meaning.specs.Interval.{End, up_to, no_end, ◌≤End◌, ◌+End◌}
use Rattle.meaning.specs.Spans.{Span, ◌to◌, Rising, reached_from, clip, join, update}
use Rattle.meaning.specs.Sound.{SoundFrom, SoundEndless, SoundSpans, length_of}
use Rattle.meaning.proofs.SoundLaws.{none-sound, sound-rising}
use Rattle.meaning.specs.Figure.{figure}
use Rattle.meaning.proofs.SpansLaws.{by_leb}
use Rattle.meaning.proofs.FigureLaws.{figure_is_enough}

from_later : (from now t latest later long : ℕ) (S : List Span) → now ≤ t → latest ≤ later
    → SoundFrom from now latest long S
    → SoundFrom from t later long S
unfolding SoundFrom
from_later from now t latest later long [] present room sound = tt
from_later from now t latest later long ((first to up_to last) ∷ S) present room sound = (
  sound.0,
  sound.1,
  omega arith,
  λ after. sound.3 (omega arith),
  from_later (last + 2) now t latest later long S present room sound.4,
)
from_later from now t latest later long ((first to no_end) ∷ S) present room sound = absurd sound

clip-from : (from now t latest later long : ℕ) (S : List Span) → now ≤ t → latest ≤ later
    → SoundFrom from now latest long S
    → SoundFrom t t later long (clip t S)
unfolding clip SoundFrom
clip-from from now t latest later long [] present room sound = tt
clip-from from now t latest later long ((first to up_to last) ∷ S) present room sound =
    by_leb
    (λ b. SoundFrom t t later long (cond b (clip t S) ((max t first to up_to last) ∷ S)))
    (suc last)
    t
    (λ ended. clip-from (last + 2) now t latest later long S present room sound.4)
    (λ left. (
      omega arith,
      omega (arith, sound.1),
      omega (arith, sound.2),
      (λ after.
          let whole : first + long ≤ last = sound.3 (omega arith) in
          omega arith),
      from_later (last + 2) now t latest later long S present room sound.4,
    ))
clip-from from now t latest later long ((first to no_end) ∷ S) present room sound = absurd sound

join-from : (from now latest long next : ℕ) (p : Span) (S : List Span) → next + long ≤ latest
    → SoundFrom from now latest long (p ∷ S)
    → SoundFrom from now latest long (join (next to up_to latest) (p ∷ S))
unfolding join SoundFrom
join-from from now latest long next (first to up_to last) [] room sound =
    by_leb
    (λ b. SoundFrom from now latest long (cond b ((first to up_to latest) ∷ []) ((first to up_to last) ∷ (next to up_to latest) ∷ [])))
    next
    (last + 1)
    (λ near. (
      sound.0,
      omega (arith, sound.1, sound.2),
      omega arith,
      (λ after.
          let whole : first + long ≤ last = sound.3 after in
          omega (arith, sound.2)),
      tt,
    ))
    (λ apart. (sound.0, sound.1, sound.2, sound.3, (omega arith, omega arith, omega arith, (λ after. room), tt)))
join-from from now latest long next (first to no_end) [] room sound = absurd sound
join-from from now latest long next (first to up_to last) (q ∷ S) room sound =
    (sound.0, sound.1, sound.2, sound.3, join-from (last + 2) now latest long next q S room sound.4)
join-from from now latest long next (first to no_end) (q ∷ S) room sound = absurd sound

clip_endless : (now t latest_first later_first : ℕ) (S : List Span) → t ≤ later_first → latest_first ≤ later_first
    → SoundEndless now latest_first S
    → SoundEndless t later_first (clip t S)
unfolding clip SoundEndless
clip_endless now t latest_first later_first [] present room sound = tt
clip_endless now t latest_first later_first ((first to up_to last) ∷ S) present room sound = absurd sound
clip_endless now t latest_first later_first ((first to no_end) ∷ S) present room sound = (omega arith, omega (arith, sound.1), sound.2)

join_endless : (now latest_first next : ℕ) (S : List Span) → now ≤ next → next ≤ latest_first
    → SoundEndless now latest_first S
    → SoundEndless now latest_first (join (next to no_end) S)
unfolding join SoundEndless
join_endless now latest_first next [] present room sound = (present, room, refl)
join_endless now latest_first next ((first to up_to last) ∷ []) present room sound = absurd sound
join_endless now latest_first next ((first to no_end) ∷ []) present room sound = sound
join_endless now latest_first next ((first to up_to last) ∷ (q ∷ S)) present room sound = absurd sound
join_endless now latest_first next ((first to no_end) ∷ (q ∷ S)) present room sound =
    let two : suc (length S) ≡ 0 = ap length sound.2 in
    absurd (omega arith)

-- Time alone: what is left at t of a stretch that was sound before.
pub clip-sound : (now t event later latest_first later_first long : ℕ) (b : End) (S : List Span)
    → now ≤ t
    → event ≤ later
    → t ≤ later_first
    → latest_first ≤ later_first
    → SoundSpans now latest_first (event +End b) long S
    → SoundSpans t later_first (later +End b) long (clip t S)
unfolding SoundSpans
clip-sound now t event later latest_first later_first long (up_to b) S present seen first room sound =
    clip-from now now t (event + b) (later + b) long S present (omega arith) sound
clip-sound now t event later latest_first later_first long no_end S present seen first room sound =
    clip_endless now t latest_first later_first S first room sound

join-sound : (t a latest_first : ℕ) (b : End) (S : List Span) → a ≤End b → t + a ≤ latest_first
    → SoundSpans t latest_first (t +End b) (length_of a b) S
    → SoundSpans t latest_first (t +End b) (length_of a b) (join (reached_from t a b) S)
unfolding SoundSpans SoundFrom join
join-sound t a latest_first (up_to b) [] order room sound = (omega arith, omega arith, omega arith, (λ after. omega arith), tt)
join-sound t a latest_first (up_to b) (p ∷ S) order room sound = join-from t t (t + b) _ (t + a) p S (omega arith) sound
join-sound t a latest_first no_end S order room sound = join_endless t latest_first (t + a) S (omega arith) room sound

-- An event at t: `latest_first` before it and `later_first` after it are t+a, or the greater of that and the present.
pub sound-kept : (keep feed : Bool) (now t event a latest_first later_first : ℕ) (b : End) (S : List Span)
    → a ≤End b
    → now ≤ t
    → event ≤ t
    → latest_first ≤ later_first
    → t + a ≤ later_first
    → SoundSpans now latest_first (event +End b) (length_of a b) S
    → SoundSpans t later_first (t +End b) (length_of a b) (update keep feed t (reached_from t a b) S)
unfolding update
sound-kept keep feed now t event a latest_first later_first b S order present seen room reached sound = go keep feed
  where
    clipped : SoundSpans t later_first (t +End b) (length_of a b) (clip t S)
    clipped = clip-sound now t event t latest_first later_first (length_of a b) b S present seen (omega arith) room sound

    kept : (keep : Bool) → SoundSpans t later_first (t +End b) (length_of a b) (cond keep (clip t S) [])
    kept true = clipped
    kept false = none-sound t later_first (t +End b) (length_of a b)

    go : (keep feed : Bool) → SoundSpans t later_first (t +End b) (length_of a b) (update keep feed t (reached_from t a b) S)
    go keep true = join-sound t a later_first b (cond keep (clip t S) []) order reached (kept keep)
    go keep false = kept keep

-- So what an update leaves rises from its time, and never lacks room.
module _
    (keep feed : Bool)
    (now t event a latest_first : ℕ)
    (b : End)
    (S : List Span)
    (order : a ≤End b)
    (present : now ≤ t)
    (seen : event ≤ t)
    (sound : SoundSpans now latest_first (event +End b) (length_of a b) S)
  where
    abbrev updated : List Span
    updated = update keep feed t (reached_from t a b) S

    abbrev later_first : ℕ
    later_first = max latest_first (t + a)

    updated-sound : SoundSpans t later_first (t +End b) (length_of a b) updated
    updated-sound = sound-kept keep feed now t event a latest_first later_first b S order present seen (omega arith) (omega arith) sound

    pub update-rises : Rising t updated
    update-rises = sound-rising t later_first (t +End b) (length_of a b) updated updated-sound

    pub update-fits : length updated ≤ figure a b
    update-fits = figure_is_enough t later_first t a b updated (omega arith) updated-sound
