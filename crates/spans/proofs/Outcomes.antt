-- Any two outcomes that the contract of a public function allows are the same. `places` and `place_at` say all by one equation.
use mathlib.Core.Bool.{Bool}
use mathlib.Core.List.{List}
use mathlib.Core.Path.{◌≡◌, sym, ap, ◌∙◌}
use Prim.Native.Nat.{ℕ}
use Rattle.meaning.specs.Spans.{Span}
use Rattle.meaning.proofs.OneValue.{one-said}
use Rattle.spans.specs.declared.stretch.Held.{Held}
use Rattle.spans.specs.declared.stretch.Updated.{Updated}
use Rattle.spans.specs.Layout.{word_of, end_at, round_from, laid_from, spans_over}
use Rattle.spans.specs.Reached.{last_reached}
use Rattle.spans.specs.Stretch.{UpdatedTo, ClippedTo}
use Rattle.spans.proofs.RoundLaws.{laid_round}
use Rattle.spans.proofs.LayoutLaws.{word_back}

-- What is read from one place on is one list of words.
same_words : (words : List ℕ) (S : List Span) (after after' : List ℕ) {first first' : ℕ} → first ≡ first'
    → round_from first after ≡ spans_over (round_from first words) S
    → round_from first' after' ≡ spans_over (round_from first' words) S
    → after ≡ after'
same_words words S after after' {first} {first'} same h h' =
    sym (laid_round first after)
    ∙ ap (laid_from first) h
    ∙ ap (λ (place : ℕ). laid_from place (spans_over (round_from place words) S)) same
    ∙ ap (laid_from first') (sym h')
    ∙ laid_round first' after'

-- `spans::stretch::update`: the answer, and every word of what was lent.
pub one-update : (words : List ℕ) (held : Held) (x y : Bool) (time : ℕ) (s : Span) (updated updated' : Updated) (after after' : List ℕ)
    → UpdatedTo words held x y time s after updated
    → UpdatedTo words held x y time s after' updated'
    → (updated ≡ updated') × (after ≡ after')
one-update words held x y time s updated updated' after after' h h' =
    let same_first : updated.held.first ≡ updated'.held.first = h.placed ∙ sym h'.placed in
    let same_count : updated.held.count ≡ updated'.held.count = h.spans.counted ∙ sym h'.spans.counted in
    let same-told : updated.covered ≡ updated'.covered = h.told ∙ sym h'.told in (
      λ i. record { held = record { first = same_first i; count = same_count i }; covered = same-told i },
      same_words _ _ after after' same_first h.spans.written h'.spans.written,
    )

-- `spans::stretch::clip`: the same.
pub one-clip : (words : List ℕ) (held : Held) (time : ℕ) (left left' : Held) (after after' : List ℕ)
    → ClippedTo words held after left time
    → ClippedTo words held after' left' time
    → (left ≡ left') × (after ≡ after')
one-clip words held time left left' after after' h h' =
    let same_first : left.first ≡ left'.first = h.placed ∙ sym h'.placed in
    let same_count : left.count ≡ left'.count = h.spans.counted ∙ sym h'.spans.counted in
    (λ i. record { first = same_first i; count = same_count i }, same_words _ _ after after' same_first h.spans.written h'.spans.written)

-- `spans::reached::last_reached`: a word is got back from the end that it stands for.
pub one_last : (time b : ℕ) (p q : ℕ) → end_at p ≡ last_reached time b → end_at q ≡ last_reached time b → p ≡ q
one_last time b = one-said end_at word_of word_back
