-- Laws of the walk that decides whether a stretch is sound, from one span to the next, and of the two parts in which a stretch is read.
use mathlib.Core.Bool.{Bool, true, false, ◌&&◌, and-true, and_assoc}
use mathlib.Core.List.{List, [], ◌∷◌, ◌++◌, append-nil, append_assoc}
use mathlib.Core.Logic.{⊎_elim}
use mathlib.Core.Path.{◌≡◌, refl, sym, ap, ◌∙◌}
use Prim.Native.Nat.{ℕ, zero, suc, ◌+◌, ◌*◌, ◌-◌, ◌/◌, ◌≤◌, ◌<◌, min}
use native.Mathlib.Omega.{arith}
use borrow.Author.Tests.{lt-ltb, le-ltb, le-leb, lt-leb, eq-eqb, ne_eqb, eqb-true, eqb-false}
use lib.Dec.{leb, eqb}
use lib.ListN.{length, get_or, take, drop, length-drop, get_or-append, take-append-drop}
use lib.Seq.{drop-append-add, drop-append-le, length-take-le, take_all}
use Rattle.meaning.specs.Interval.{End, up_to, no_end}
use Rattle.meaning.specs.Spans.{Span, ◌to◌}
use Rattle.meaning.proofs.SpansLaws.{le_or_lt}
use Rattle.meaning.proofs.Tells.{Tells, tells_leb, tells_ltb, tells_eqb, tells_and, tells_same}
use Rattle.meaning.proofs.Truths.{and_false}
use Rattle.spans.specs.declared.stretch.Held.{Held}
use Rattle.spans.specs.Layout.{mark, end_at, places_of, spans_from, round_from, spans_held, placed?, zeros?}
use Rattle.spans.specs.Stretch.{Inside}
use Rattle.sound_spans.specs.declared.stretch.Ring.{Ring}
use Rattle.sound_spans.specs.StretchSound.{sound_span?, sound_from?, sound_endless?, sound_spans?, sound_stretch?, spans_straight}
use Rattle.sound_spans.specs.Ring.{words_read, spans_read}
use Rattle.spans.proofs.RoundLaws.{places_whole}
use Rattle.spans.proofs.LayoutLaws.{end_cases, plain_end, spans_shift}

third_fails : (b d e : Bool) → (b && d && false && e) ≡ false
third_fails true true e = refl
third_fails true false e = refl
third_fails false d e = refl

late_span : (from now latest long first last : ℕ) → latest < last → sound_span? from now latest long first last ≡ false
unfolding sound_span?
late_span from now latest long first last h = rw (lt-leb last latest h) (third_fails (leb from first) (leb first last) _)

-- A span by its words, and those after it; a last that is the mark is past every latest last.
one_more : (from now latest long first last : ℕ) (S : List Span) → latest < mark
    → sound_from? from now latest long ((first to end_at last) ∷ S)
    ≡ (sound_span? from now latest long first last && sound_from? (last + 2) now latest long S)
unfolding sound_from?
one_more from now latest long first last S m =
    end_cases
    (λ e. sound_from? from now latest long ((first to e) ∷ S)
    ≡ (sound_span? from now latest long first last && sound_from? (last + 2) now latest long S))
    last
    (λ marked. rw (late_span from now latest long first last (omega arith)) refl)
    (λ plain. refl)

-- Two walks: the second goes on from the last word of the first.
sound_parts : (words : List ℕ) (place count from now latest long : ℕ) (S : List Span) → 0 < count → latest < mark
    → sound_from? from now latest long (spans_from words place count ++ S)
    ≡ (sound_from? from now latest long (spans_from words place count)
    && sound_from? (get_or words (2 * (place + count) - 1) 0 + 2) now latest long S)
unfolding spans_from sound_from?
sound_parts words place zero from now latest long S some m = absurd (omega arith)
sound_parts words place (suc zero) from now latest long S some m =
    let first : ℕ = get_or words (2 * place) 0 in
    let last : ℕ = get_or words (2 * place + 1) 0 in
    let e : 2 * (place + 1) - 1 ≡ 2 * place + 1 = omega arith in
    rw (e, one_more from now latest long first last S m, one_more from now latest long first last [] m, and-true) refl
sound_parts words place (suc (suc n)) from now latest long S some m =
    let first : ℕ = get_or words (2 * place) 0 in
    let last : ℕ = get_or words (2 * place + 1) 0 in
    let later : List Span = spans_from words (suc place) (suc n) in
    let e : 2 * (place + suc (suc n)) - 1 ≡ 2 * (suc place + suc n) - 1 = omega arith in
    rw (
      e,
      one_more from now latest long first last (later ++ S) m,
      one_more from now latest long first last later m,
      sound_parts words (suc place) (suc n) (last + 2) now latest long S (omega arith) m,
    )
    (sym
    (and_assoc
    (sound_span? from now latest long first last)
    (sound_from? (last + 2) now latest long later)
    (sound_from? (get_or words (2 * (suc place + suc n) - 1) 0 + 2) now latest long S)))

-- What a span may begin from is capped at the mark, where none with an end begins.
span_capped : (from now latest long first last : ℕ) → latest < mark
    → sound_span? (min from mark) now latest long first last ≡ sound_span? from now latest long first last
unfolding sound_span?
span_capped from now latest long first last m =
    ⊎_elim
    (λ (few : from ≤ mark). let same : min from mark ≡ from = omega arith in rw same refl)
    (λ (more : mark < from).
    let cap : min from mark ≡ mark = omega arith in
    rw cap
    (⊎_elim
    (λ (high : mark ≤ first).
    ⊎_elim
    (λ (late : first ≤ last). late_span mark now latest long first last (omega arith) ∙ sym (late_span from now latest long first last (omega arith)))
    (λ (back : last < first). rw (lt-leb first last back, and_false (leb mark first), and_false (leb from first)) refl)
    (le_or_lt first last))
    (λ (low : first < mark). rw (lt-leb mark first low, lt-leb from first (omega arith)) refl)
    (le_or_lt mark first)))
    (le_or_lt from mark)

from_capped : (from now latest long : ℕ) (S : List Span) → latest < mark
    → sound_from? (min from mark) now latest long S ≡ sound_from? from now latest long S
unfolding sound_from?
from_capped from now latest long [] m = refl
from_capped from now latest long ((first to up_to last) ∷ S) m = rw (span_capped from now latest long first last m) refl
from_capped from now latest long ((first to no_end) ∷ S) m = refl

-- The spans of words in two parts, of which the first ends with a span.
spans_parts : (xs ys : List ℕ) (n m : ℕ) → length xs ≡ 2 * n → spans_from (xs ++ ys) 0 (n + m) ≡ spans_from xs 0 n ++ spans_from ys 0 m
unfolding spans_from
spans_parts [] ys zero m e =
    let none : 0 + m ≡ m = omega arith in
    rw none refl
spans_parts [] ys (suc n) m e = absurd (omega arith)
spans_parts (a ∷ []) ys n m e = absurd (omega arith)
spans_parts (a ∷ b ∷ xs) ys zero m e = absurd (omega arith)
spans_parts (a ∷ b ∷ xs) ys (suc n) m e =
    let more : suc n + m ≡ suc (n + m) = omega arith in
    rw (more, spans_shift a b (xs ++ ys) 0 (n + m), spans_shift a b xs 0 n, spans_parts xs ys n m (omega arith)) refl

spans_first : (xs ys : List ℕ) (n : ℕ) → length xs ≡ 2 * n → spans_from (xs ++ ys) 0 n ≡ spans_straight xs
unfolding spans_from
spans_first xs ys n e =
    let all : n + 0 ≡ n = omega arith in
    let half : length xs / 2 ≡ n = omega arith in
    rw half (rw (all, append-nil) at (spans_parts xs ys n 0 e))

-- A turn of the walk: the answer of the words that are left is that of their first span and of those after it; past the last there is none.
rising_next : (from now latest long : ℕ) (span rest : List ℕ) → length span ≡ 2 → latest < mark
    → sound_from? from now latest long (spans_straight (span ++ rest))
    ≡ (sound_span? from now latest long (get_or span 0 0) (get_or span 1 0)
    && sound_from? (min (get_or span 1 0 + 2) mark) now latest long (spans_straight rest))
unfolding spans_from
rising_next from now latest long [] rest two m = absurd (omega arith)
rising_next from now latest long (a ∷ []) rest two m = absurd (omega arith)
rising_next from now latest long (a ∷ b ∷ c ∷ span) rest two m = absurd (omega arith)
rising_next from now latest long (a ∷ b ∷ []) rest two m =
    let more : suc (suc (length rest)) / 2 ≡ suc (length rest / 2) = omega arith in
    rw (
      more,
      spans_shift a b rest 0 (length rest / 2),
      one_more from now latest long a b (spans_straight rest) m,
      from_capped (b + 2) now latest long (spans_straight rest) m,
    )
    refl

pub rising_turn : (from now latest long : ℕ) {words : List ℕ} (span rest : List ℕ) → words ≡ span ++ rest → length span ≡ 2 → latest < mark
    → sound_from? from now latest long (spans_straight words)
    ≡ (sound_span? from now latest long (get_or span 0 0) (get_or span 1 0)
    && sound_from? (min (get_or span 1 0 + 2) mark) now latest long (spans_straight rest))
rising_turn from now latest long span rest parts two m = rw parts (rising_next from now latest long span rest two m)

pub rising_none : (from now latest long : ℕ) (rest : List ℕ) → length rest < 2 → sound_from? from now latest long (spans_straight rest) ≡ true
unfolding sound_from? spans_from
rising_none from now latest long rest few =
    let none : length rest / 2 ≡ 0 = omega arith in
    rw none refl

-- Two spans are too many.
endless_many : (words : List ℕ) (count now latest_first : ℕ) → 1 < count → sound_endless? now latest_first (spans_from words 0 count) ≡ false
unfolding spans_from sound_endless?
endless_many words zero now latest_first h = absurd (omega arith)
endless_many words (suc zero) now latest_first h = absurd (omega arith)
endless_many words (suc (suc count)) now latest_first h =
    end_cases
    (λ e. sound_endless? now latest_first ((get_or words 0 0 to e) ∷ spans_from words 1 (suc count)) ≡ false)
    (get_or words 1 0)
    (λ marked. refl)
    (λ plain. refl)

-- One span, by its two words.
endless_words : (words rest : List ℕ) (count now latest_first : ℕ) → 1 < length words → 0 < count
    → sound_endless? now latest_first (spans_from (words ++ rest) 0 count)
    ≡ (eqb count 1 && eqb (get_or words 1 0) mark && leb now (get_or words 0 0) && leb (get_or words 0 0) latest_first)
unfolding spans_from sound_endless?
endless_words words rest count now latest_first two some = go (eqb count 1) refl
  where
    first : get_or (words ++ rest) 0 0 ≡ get_or words 0 0
    first = get_or-append words rest 0 0 (omega arith)

    last : get_or (words ++ rest) 1 0 ≡ get_or words 1 0
    last = get_or-append words rest 0 1 two

    go : (b : Bool) → eqb count 1 ≡ b → sound_endless? now latest_first (spans_from (words ++ rest) 0 count)
        ≡ (eqb count 1 && eqb (get_or words 1 0) mark && leb now (get_or words 0 0) && leb (get_or words 0 0) latest_first)
    go true e =
        rw (eqb-true count 1 e, first, last)
        (end_cases
        (λ end. sound_endless? now latest_first ((get_or words 0 0 to end) ∷ [])
        ≡ (true && eqb (get_or words 1 0) mark && leb now (get_or words 0 0) && leb (get_or words 0 0) latest_first))
        (get_or words 1 0)
        (λ marked. rw (eq-eqb (get_or words 1 0) mark marked) refl)
        (λ plain. rw (ne_eqb (get_or words 1 0) mark plain) refl))
    go false e = rw e (endless_many (words ++ rest) count now latest_first (omega (arith, eqb-false count 1 e)))

-- Zeros in two parts.
zeros_append : (l r : List ℕ) → zeros? (l ++ r) ≡ (zeros? l && zeros? r)
unfolding zeros?
zeros_append [] r = refl
zeros_append (word ∷ l) r = go (eqb word 0) (zeros_append l r)
  where
    go : (b : Bool) → zeros? (l ++ r) ≡ (zeros? l && zeros? r) → (b && zeros? (l ++ r)) ≡ (b && zeros? l && zeros? r)
    go true h = h
    go false h = refl

-- What is left of a list from a place on is taken whole.
to_end : (l : List ℕ) (n : ℕ) → take (length l - n) (drop n l) ≡ drop n l
to_end l n = take_all (length l - n) (drop n l) (rw length-drop (omega arith))

-- A stretch as it is read, of which some spans are held.
module _ (ring : Ring) where
  abbrev later : List ℕ
  later = ring.later.now

  abbrev early : List ℕ
  early = ring.early.now

  -- The spans are in the first part, or that part has none but theirs and the others stand in the second.
  pub ring_straight : 2 * ring.count ≤ length later → spans_read ring ≡ spans_straight (take (2 * ring.count) later)
  ring_straight within =
      let used : ℕ = 2 * ring.count in
      ap (λ (l : List ℕ). spans_from (l ++ early) 0 ring.count) (sym (take-append-drop used later))
      ∙ rw (append_assoc (take used later) (drop used later) early)
      (spans_first (take used later) (drop used later ++ early) ring.count (length-take-le used later within))

  pub ring_round : (now latest long : ℕ) → latest < mark → length later < 2 * ring.count
      → sound_from? now now latest long (spans_read ring)
      ≡ (sound_from? now now latest long (spans_straight later)
      && sound_from? (min (get_or later (length later - 1) 0 + 2) mark) now latest long (spans_straight (take (2 * ring.count - length later) early)))
  ring_round now latest long m past =
      let n : ℕ = length later / 2 in
      let others : ℕ = ring.count - n in
      let sum : ring.count ≡ n + others = omega (arith, ring.whole) in
      let size : length later ≡ 2 * n = omega (arith, ring.whole) in
      let used : 2 * ring.count - length later ≡ 2 * others = omega (arith, ring.whole) in
      let last : 2 * (0 + n) - 1 ≡ length later - 1 = omega (arith, ring.whole) in
      let fits : 2 * others ≤ length early = omega (arith, ring.whole, ring.room) in
      let second : spans_from early 0 others ≡ spans_straight (take (2 * others) early) =
      ap (λ (l : List ℕ). spans_from l 0 others) (sym (take-append-drop (2 * others) early))
      ∙ spans_first (take (2 * others) early) (drop (2 * others) early) others (length-take-le (2 * others) early fits)
      in
      let both : spans_read ring ≡ spans_straight later ++ spans_straight (take (2 * others) early) =
      ap (λ (count : ℕ). spans_from (later ++ early) 0 count) sum ∙ spans_parts later early n others size ∙ rw second refl
      in
      rw (both, used, from_capped (get_or later (length later - 1) 0 + 2) now latest long (spans_straight (take (2 * others) early)) m)
      (rw last at (sound_parts later 0 n now now latest long (spans_straight (take (2 * others) early)) (omega (arith, ring.whole, ring.begun)) m))

  -- Of a stretch without end: one span, told by its two words.
  pub endless_told : (now latest_first : ℕ)
      → sound_endless? now latest_first (spans_read ring)
      ≡ (eqb ring.count 1 && eqb (get_or later 1 0) mark && leb now (get_or later 0 0) && leb (get_or later 0 0) latest_first)
  endless_told now latest_first =
      endless_words later early ring.count now latest_first (omega (arith, ring.whole, ring.begun)) ring.some

  -- The words of free places, in one part or in two.
  pub free_early : length later < 2 * ring.count
      → drop (2 * ring.count) (words_read ring)
      ≡ take (length early - (2 * ring.count - length later)) (drop (2 * ring.count - length later) early)
  free_early past =
      let sum : 2 * ring.count ≡ length later + (2 * ring.count - length later) = omega arith in
      ap (λ (n : ℕ). drop n (words_read ring)) sum
      ∙ drop-append-add later early (2 * ring.count - length later)
      ∙ sym (to_end early (2 * ring.count - length later))

  pub free_around : 2 * ring.count ≤ length later
      → zeros? (drop (2 * ring.count) (words_read ring)) ≡ (zeros? (take (length later - 2 * ring.count) (drop (2 * ring.count) later)) && zeros? early)
  free_around within =
      rw (drop-append-le (2 * ring.count) later early within, to_end later (2 * ring.count)) (zeros_append (drop (2 * ring.count) later) early)

-- Which of the two tests is asked for.
pub marked_last : (now latest_first latest_last long : ℕ) (S : List Span) {answer : Bool} → latest_last ≡ mark
    → answer ≡ sound_endless? now latest_first S
    → answer ≡ sound_spans? now latest_first (end_at latest_last) long S
unfolding sound_spans? end_at
marked_last now latest_first latest_last long S h told = rw (h, told) refl

pub plain_last : (now latest_first latest_last long : ℕ) (S : List Span) {answer : Bool} → latest_last < mark
    → answer ≡ sound_from? now now latest_last long S
    → answer ≡ sound_spans? now latest_first (end_at latest_last) long S
unfolding sound_spans?
plain_last now latest_first latest_last long S h told = rw (plain_end latest_last h, told) refl

-- Which test decides a stretch: of none held the first place and every word; otherwise the places, then the spans and the words of free places.
module _ (words : List ℕ) (held : Held) (now latest_first : ℕ) (latest_last : End) (long : ℕ) where
  none-sound : sound_spans? now latest_first latest_last long [] ≡ true
  unfolding sound_spans? sound_from? sound_endless?
  none-sound = go latest_last
    where
      go : (last : End) → sound_spans? now latest_first last long [] ≡ true
      go (up_to last) = refl
      go no_end = refl

  pub empty_told : held.count ≡ 0 → sound_stretch? words held now latest_first latest_last long ≡ (eqb held.first 0 && zeros? words)
  unfolding sound_stretch? placed? spans_from round_from
  empty_told none = go (eqb held.first 0) refl
    where
      go : (b : Bool) → eqb held.first 0 ≡ b → sound_stretch? words held now latest_first latest_last long ≡ (eqb held.first 0 && zeros? words)
      go true e = rw (none, eqb-true held.first 0 e, none-sound, le-leb 0 (places_of (length words)) (omega arith), append-nil words) refl
      go false e = rw (none, e, none-sound, le-leb 0 (places_of (length words)) (omega arith)) refl

  module _ (some : ¬ (held.count ≡ 0)) where
    pub outside : places_of (length words) ≤ held.first → sound_stretch? words held now latest_first latest_last long ≡ false
    unfolding sound_stretch? placed?
    outside past =
        rw (ne_eqb held.count 0 some, le-ltb held.first (places_of (length words)) past, and_false (leb held.count (places_of (length words))))
        (and_false (sound_spans? now latest_first latest_last long (spans_held words held)))

    pub too_many : places_of (length words) < held.count → sound_stretch? words held now latest_first latest_last long ≡ false
    unfolding sound_stretch?
    too_many over =
        rw (lt-leb held.count (places_of (length words)) over) (and_false (sound_spans? now latest_first latest_last long (spans_held words held)))

    -- Where the places are right, by the two parts that are read.
    pub when_read : (later early : List ℕ) → later ≡ drop (2 * held.first) words → early ≡ take (2 * held.first) words
        → held.first < places_of (length words)
        → held.count ≤ places_of (length words)
        → sound_stretch? words held now latest_first latest_last long
        ≡ (sound_spans? now latest_first latest_last long (spans_from (later ++ early) 0 held.count) && zeros? (drop (2 * held.count) (later ++ early)))
    unfolding sound_stretch? placed? round_from
    when_read later early back front inside few =
        rw (
          back,
          front,
          ne_eqb held.count 0 some,
          lt-ltb held.first (places_of (length words)) inside,
          le-leb held.count (places_of (length words)) few,
        )
        refl

-- What the ways out of `sound` stand on.
pub ruleset by_places = (empty_told, outside, too_many, when_read, places_whole)

-- What the test of the places tells.
pub record PlacedRight (places : ℕ) (held : Held) : Type 0 where
  pub few : held.count ≤ places
  pub unplaced : held.count ≡ 0 → held.first ≡ 0
  pub inside : 0 < held.count → held.first < places

pub placed-told : (places : ℕ) (held : Held) → Tells (leb held.count places && placed? places held) (PlacedRight places held)
unfolding placed?
placed-told places held = go (eqb held.count 0) refl
  where
    go : (b : Bool) → eqb held.count 0 ≡ b → Tells (leb held.count places && placed? places held) (PlacedRight places held)
    go true e =
        let none : held.count ≡ 0 = eqb-true held.count 0 e in
        rw e
        (tells_same
        (λ h. record { few = h.0; unplaced = λ _. h.1; inside = λ some. absurd (omega arith) })
        (λ right. (right.few, right.unplaced none))
        (tells_and (tells_leb held.count places) (tells_eqb held.first 0)))
    go false e =
        let some : ¬ (held.count ≡ 0) = eqb-false held.count 0 e in
        rw e
        (tells_same
        (λ h. record { few = h.0; unplaced = λ none. absurd (some none); inside = λ _. h.1 })
        (λ right. (right.few, right.inside (omega arith)))
        (tells_and (tells_leb held.count places) (tells_ltb held.first places)))

pub right-inside : (words : List ℕ) (held : Held) → PlacedRight (places_of (length words)) held → Inside words held
right-inside words held right = go (eqb held.count 0) refl
  where
    go : (b : Bool) → eqb held.count 0 ≡ b → Inside words held
    go true e = (omega (arith, right.unplaced (eqb-true held.count 0 e)), right.few)
    go false e = (omega (arith, right.inside (omega (arith, eqb-false held.count 0 e))), right.few)
