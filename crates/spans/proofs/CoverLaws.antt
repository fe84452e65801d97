-- Laws of the test whether a time lies in a span: it tells so, and where the spans rise from the time the first one tells.
use mathlib.Core.Bool.{false, ◌&&◌, or-false}
use mathlib.Core.List.{List, [], ◌∷◌}
use mathlib.Core.Path.{◌≡◌, refl, ap, ◌∙◌}
use Prim.Native.Nat.{ℕ, ◌+◌, ◌*◌, ◌≤◌, ◌<◌}
use native.Mathlib.Nat.{sub-zero}
use native.Mathlib.Omega.{arith}
use lib.Dec.{leb}
use lib.ListN.{length, get_or}
use Rattle.meaning.specs.Interval.{up_to, no_end}
use Rattle.meaning.specs.Spans.{Span, ◌to◌, In, Rising}
use Rattle.meaning.proofs.SpansLaws.{in_least}
use Rattle.meaning.proofs.Tells.{Tells, tells_leb, tells_and, tells_or, told_false}
use Rattle.meaning.proofs.FormulaLaws.{tells_not_past}
use Rattle.spans.specs.declared.stretch.Ring.{Ring}
use Rattle.spans.specs.Layout.{mark, place_at, round_from}
use Rattle.spans.specs.Stretch.{span_covers, covered, first_covers}
use Rattle.spans.specs.Ring.{places_in, spans_of}
use Rattle.spans.proofs.RoundLaws.{places_whole, round_span}
use Rattle.spans.proofs.LayoutLaws.{not_past_word, spans-next}

pub covered-told : (time : ℕ) (S : List Span) → Tells (covered time S) (In time S)
unfolding covered In
covered-told time [] = record { sound = λ no. no; complete = λ no. no }
covered-told time ((first to last) ∷ S) =
    tells_or (tells_and (tells_leb first time) (tells_not_past time last)) (covered-told time S)

-- Spans that rise from a later time do not have it.
covered_later : (least time : ℕ) (S : List Span) → Rising least S → time < least → covered time S ≡ false
covered_later least time S rises later =
    told_false (covered-told time S) (λ inside. let below : least ≤ time = in_least least S time rises inside in omega arith)

-- "Spans are clipped and in order, so the first one tells": no later one has the time.
pub first_tells : (time : ℕ) (S : List Span) → Rising time S → first_covers time S ≡ covered time S
unfolding covered first_covers Rising
first_tells time [] rises = refl
first_tells time ((first to up_to last) ∷ S) rises = rw (covered_later (last + 2) time S rises.2 (omega arith), or-false) refl
first_tells time ((first to no_end) ∷ S) rises = rw (rises.1, or-false) refl

-- The first of the spans held is the one at the first place, as its two words say.
pub first_at : (ring : Ring) (place time : ℕ) → 0 < ring.held.count → time ≤ mark → place ≡ place_at (places_in ring) ring.held.first 0
    → first_covers time (spans_of ring)
    ≡ (leb (get_or ring.words.now (2 * place) 0) time && leb time (get_or ring.words.now (2 * place + 1) 0))
unfolding first_covers
first_at ring place time some early at =
    let words : List ℕ = ring.words.now in
    let first : ℕ = ring.held.first in
    let known : 0 < places_in ring = omega (arith, ring.inside.1) in
    let next = spans-next (round_from first words) 0 ring.held.count some in
    ap (first_covers time) (rw sub-zero at next)
    ∙ ap (span_covers time) (round_span words (places_in ring) first 0 (places_whole (length words) known) ring.inside.0 known)
    ∙ rw (← at, not_past_word time (get_or words (2 * place + 1) 0) early) refl
