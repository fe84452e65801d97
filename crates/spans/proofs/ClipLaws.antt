-- Laws of dropping and clipping: `clip` is to count the ended spans, to free their places, to go on past them, and to raise the first word that is left.
use mathlib.Core.Bool.{Bool, true, false, cond}
use mathlib.Core.List.{List, [], ◌∷◌, ◌++◌, append_assoc}
use mathlib.Core.Path.{◌≡◌, refl, sym, ap, ◌∙◌}
use Prim.Native.Nat.{ℕ, zero, suc, ◌+◌, ◌*◌, ◌-◌, ◌≤◌, ◌<◌, max}
use native.Mathlib.Omega.{arith}
use borrow.Author.Tests.{ne_eqb, eqb-true, eqb-false, lt-ltb, le-ltb}
use lib.Dec.{eqb, ltb}
use lib.ListN.{length, get_or, drop, set, replicate, length-append, length-drop, length-replicate}
use lib.Seq.{drop-append-le, take-append-le, drop_at}
use Rattle.meaning.specs.Spans.{Span, ◌to◌, ended, clip}
use Rattle.spans.specs.declared.stretch.Held.{Held}
use Rattle.spans.specs.declared.stretch.Ring.{Ring}
use Rattle.spans.specs.Layout.{mark, place_at, spans_from, round_from, spans_held, words_of, spans_over, freed, freed_from}
use Rattle.spans.specs.Ring.{places_in}
use Rattle.spans.specs.Stretch.{ended_count, first_left, first_raised, Inside, SpansWritten, SpansKept}
use Rattle.spans.proofs.RoundLaws.{places_fit, places_whole, place_inside, length_round, round_laid, length_laid, round_get, round_set, round_on}
use Rattle.spans.proofs.LayoutLaws.{Stored, ended_word, spans-next, spans-none, length_words, held_written, last_read, length_freed, drop_zeros, take_zeros}

unfoldable clip_first : ℕ → List Span → List Span
clip_first time [] = []
clip_first time ((first to last) ∷ S) = (max time first to last) ∷ S

first_length : (time : ℕ) (S : List Span) → length S ≡ length (clip_first time S)
unfolding clip_first
first_length time [] = refl
first_length time ((first to last) ∷ S) = refl

clip_parts : (time : ℕ) (S : List Span) → clip time S ≡ clip_first time (drop (ended_count time S) S)
unfolding clip ended_count clip_first
clip_parts time [] = refl
clip_parts time ((first to last) ∷ S) = go (ended time last) refl (clip_parts time S)
  where
    go : (b : Bool) → ended time last ≡ b → clip time S ≡ clip_first time (drop (ended_count time S) S)
        → clip time ((first to last) ∷ S) ≡ clip_first time (drop (ended_count time ((first to last) ∷ S)) ((first to last) ∷ S))
    go true e h = rw e h
    go false e h = rw e refl

pub clip_shorter : (time : ℕ) (S : List Span) → length (clip time S) ≤ length S
clip_shorter time S =
    let left : length (clip time S) ≡ length (drop (ended_count time S) S) =
    ap length (clip_parts time S) ∙ sym (first_length time (drop (ended_count time S) S))
    in
    omega (arith, length-drop (ended_count time S) S)

ended_le : (time : ℕ) (S : List Span) → ended_count time S ≤ length S
unfolding ended_count
ended_le time [] = omega arith
ended_le time ((first to last) ∷ S) = go (ended time last) refl (ended_le time S)
  where
    go : (b : Bool) → ended time last ≡ b → ended_count time S ≤ length S → ended_count time ((first to last) ∷ S) ≤ suc (length S)
    go true e h = rw e (omega arith)
    go false e h = rw e (omega arith)

-- The count of ended spans from a place on: one more where the last there is before the time.
pub ended-more : (words : List ℕ) (place count time : ℕ) → place < count → time ≤ mark → get_or words (2 * place + 1) 0 < time
    → ended_count time (spans_from words place (count - place)) ≡ suc (ended_count time (spans_from words (place + 1) (count - (place + 1))))
unfolding ended_count
ended-more words place count time h m l =
    rw (spans-next words place count h, ended_word time (get_or words (2 * place + 1) 0) m, lt-ltb _ _ l) refl

-- The count of ended spans held, from the i-th on: one more where the last at its place is before the time, none where it is not, none past the spans.
module _ (ring : Ring) (time : ℕ) (early : time ≤ mark) where
  abbrev pub ended-from : ℕ → ℕ
  ended-from i = ended_count time (spans_from (round_from ring.held.first ring.words.now) i (ring.held.count - i))

  module _ (i place : ℕ) (fewer : i < ring.held.count) (at : place ≡ place_at (places_in ring) ring.held.first i) where
    ended-here : ended-from i ≡ cond (ltb (get_or ring.words.now (2 * place + 1) 0) time) (suc (ended-from (i + 1))) 0
    unfolding ended_count
    ended-here =
        rw (
          spans-next (round_from ring.held.first ring.words.now) i ring.held.count fewer,
          ended_word time (get_or (round_from ring.held.first ring.words.now) (2 * i + 1) 0) early,
          last_read ring.words.now ring.held i place ring.inside fewer at,
        )
        refl

    pub ended_more : get_or ring.words.now (2 * place + 1) 0 < time → ended-from i ≡ suc (ended-from (i + 1))
    ended_more before = ended-here ∙ rw (lt-ltb _ _ before) refl

    pub ended_stop : time ≤ get_or ring.words.now (2 * place + 1) 0 → ended-from i ≡ 0
    ended_stop after = ended-here ∙ rw (le-ltb _ _ after) refl

  pub ended_none : (i : ℕ) → ring.held.count ≤ i → ended-from i ≡ 0
  unfolding ended_count
  ended_none i past = rw (spans-none (round_from ring.held.first ring.words.now) i ring.held.count past) refl

pub clip_stored : (time : ℕ) (S : List Span) → Stored S → Stored (clip time S)
unfolding clip Stored
clip_stored time [] h = tt
clip_stored time ((first to last) ∷ S) h = go (ended time last) refl (clip_stored time S h.1)
  where
    go : (b : Bool) → ended time last ≡ b → Stored (clip time S) → Stored (clip time ((first to last) ∷ S))
    go true e g = rw e g
    go false e g = rw e h

words_drop : (k : ℕ) (S : List Span) → drop (2 * k) (words_of S) ≡ words_of (drop k S)
unfolding words_of
words_drop zero S = refl
words_drop (suc k) [] =
    let e : 2 * suc k ≡ suc (suc (2 * k)) = omega arith in
    rw e refl
words_drop (suc k) ((first to last) ∷ S) =
    let e : 2 * suc k ≡ suc (suc (2 * k)) = omega arith in
    rw e (words_drop k S)

-- The words after those of the first k spans are those of the others, and what stands after all.
words_left : (words : List ℕ) (k : ℕ) (S : List Span) → k ≤ length S
    → drop (2 * k) (spans_over words S) ≡ words_of (drop k S) ++ drop (2 * length S) words
unfolding spans_over
words_left words k S h =
    let within : 2 * k ≤ length (words_of S) = rw length_words (omega arith) in
    rw (drop-append-le (2 * k) (words_of S) (drop (2 * length S) words) within, words_drop k S) refl

-- Freed words, read from as many places on.
round_freed : (k n : ℕ) (words : List ℕ) → k ≤ n → 2 * n ≤ length words
    → round_from k (freed n words) ≡ replicate (2 * n - 2 * k) 0 ++ (drop (2 * n) words ++ replicate (2 * k) 0)
unfolding round_from
round_freed k n words h fits =
    let within : 2 * k ≤ length (replicate {A = ℕ} (2 * n) 0) = rw length-replicate (omega arith) in
    rw (
      drop-append-le (2 * k) (replicate (2 * n) 0) (drop (2 * n) words) within,
      take-append-le (2 * k) (replicate (2 * n) 0) (drop (2 * n) words) within,
      drop_zeros (2 * k) (2 * n) (omega arith),
      take_zeros (2 * k) (2 * n) (omega arith),
    )
    (simp append_assoc)

round_first_freed : (k : ℕ) (words : List ℕ) → 2 * k ≤ length words → round_from k (freed k words) ≡ drop (2 * k) words ++ replicate (2 * k) 0
round_first_freed k words fits =
    let none : 2 * k - 2 * k ≡ 0 = omega arith in
    round_freed k k words (omega arith) fits ∙ rw none refl

raised_over : (words : List ℕ) (time : ℕ) (S : List Span) → 0 < length S
    → set (words_of S ++ words) 0 (max time (get_or (words_of S ++ words) 0 0)) ≡ words_of (clip_first time S) ++ words
unfolding words_of clip_first
raised_over words time [] none = absurd (omega arith)
raised_over words time ((first to last) ∷ S) some = refl

-- What is read after the first `gone` spans of S are freed, from as many places on, with its first word raised: the spans that are clipped, over the words
-- of which all spans are freed.
raised_left : (words : List ℕ) (time gone : ℕ) (S : List Span)
    → 2 * length S ≤ length words
    → words ≡ spans_over words S
    → gone ≡ ended_count time S
    → gone < length S
    → (let left = round_from gone (freed gone words) in
    set left 0 (max time (get_or left 0 0)) ≡ spans_over (round_from gone (freed (length S) words)) (clip time S))
unfolding spans_over
raised_left words time gone S room read many some =
    let rest : List ℕ = drop (2 * length S) words ++ replicate (2 * gone) 0 in
    let later : drop (2 * gone) words ≡ words_of (drop gone S) ++ drop (2 * length S) words =
    ap (λ (l : List ℕ). drop (2 * gone) l) read ∙ words_left words gone S (omega arith)
    in
    let left : round_from gone (freed gone words) ≡ words_of (drop gone S) ++ rest =
    round_first_freed gone words (omega arith) ∙ rw later (append_assoc (words_of (drop gone S)) (drop (2 * length S) words) (replicate (2 * gone) 0))
    in
    let over : round_from gone (freed (length S) words) ≡ replicate (2 * length S - 2 * gone) 0 ++ rest =
    round_freed gone (length S) words (omega arith) room
    in
    let parts : clip time S ≡ clip_first time (drop gone S) = rw many (clip_parts time S) in
    let some_left : 0 < length (drop gone S) = rw length-drop (omega arith) in
    let size : 2 * length (clip time S) ≡ 2 * length S - 2 * gone =
    rw (parts, ← first_length time (drop gone S), length-drop) (omega arith)
    in
    rw (left, over, size, drop_at (replicate (2 * length S - 2 * gone) 0) rest _ (length-replicate (2 * length S - 2 * gone) 0), parts)
    (raised_over rest time (drop gone S) some_left)

none_of : (S : List Span) → length S ≡ 0 → S ≡ []
none_of [] e = refl
none_of (p ∷ S) e = absurd (omega arith)

-- Words of which the first spans are freed, in a ring.
module _ (ring : Ring) where
  abbrev words : List ℕ
  words = ring.words.now

  abbrev held : Held
  held = ring.held

  abbrev inside : Inside words held
  inside = ring.inside

  abbrev p : ℕ
  p = places_in ring

  abbrev T : List ℕ
  T = round_from held.first words

  room : 2 * held.count ≤ length T
  room = rw (length_round held.first words) (omega (arith, inside.1, places_fit (length words)))

  first_fits : (count : ℕ) → 2 * held.first ≤ length (freed count T)
  first_fits count = rw (length-append, length-replicate, length-drop, length_round held.first words) (omega (arith, inside.0, places_fit (length words)))

  -- They are read so.
  read_freed : (count : ℕ) → round_from held.first (freed_from held.first count words) ≡ freed count T
  read_freed count = round_laid held.first (freed count T) (first_fits count)

  length_freed_from : (count : ℕ) → count ≤ p → length (freed_from held.first count words) ≡ length words
  length_freed_from count few =
      length_laid held.first (freed count T)
      ∙ length_freed count T (rw (length_round held.first words) (omega (arith, places_fit (length words))))
      ∙ length_round held.first words

  -- No more spans ended than are held.
  pub ended_few : (time : ℕ) → ended_count time (spans_held words held) ≤ held.count
  ended_few time = omega (arith, ended_le time (spans_held words held), (held_written words held inside).counted)

  -- All spans drop out: their words are freed.
  pub all_dropped : (left : Held) → left.count ≡ 0 → left.first ≡ 0
      → SpansKept words held (freed_from held.first held.count words) left []
  unfolding spans_over words_of first_left
  all_dropped left none placed =
      let start : 2 * length {A = Span} [] ≡ 0 = omega arith in
      record {
        spans = record { written = rw start refl; counted = none };
        placed = placed;
      }

  -- Those that ended drop out, and the first that is left begins at the time.
  pub clip_written : (time gone : ℕ) (left : Held)
      → gone ≡ ended_count time (spans_held words held)
      → left.first ≡ first_left p held (held.count - gone)
      → left.count ≡ held.count - gone
      → SpansKept words held (first_raised time (freed_from held.first gone words) left) left (clip time (spans_held words held))
  unfolding first_left
  clip_written time gone left many placed counted =
      rw (length_freed_from gone (omega (arith, few, read.counted, inside.1))) (go (eqb left.count 0) refl)
    where
      S : List Span
      S = spans_held words held

      read : SpansWritten words words held S
      read = held_written words held inside

      few : gone ≤ length S
      few = rw many (ended_le time S)

      shorter : length (clip time S) ≡ held.count - gone
      shorter =
          ap length (clip_parts time S)
          ∙ sym (first_length time (drop (ended_count time S) S))
          ∙ length-drop (ended_count time S) S
          ∙ rw (← many, ← read.counted) refl

      after : Bool → List ℕ
      after none =
          cond none (freed_from held.first gone words)
          (set (freed_from held.first gone words) (2 * place_at p left.first 0)
          (max time (get_or (freed_from held.first gone words) (2 * place_at p left.first 0) 0)))

      go : (b : Bool) → eqb left.count 0 ≡ b → SpansKept words held (after (eqb left.count 0)) left (clip time S)
      go true e =
          let none : left.count ≡ 0 = eqb-true left.count 0 e in
          let all : gone ≡ held.count = omega (arith, counted, few, read.counted) in
          let empty : clip time S ≡ [] = none_of (clip time S) (omega (arith, shorter, counted)) in
          rw (e, all, empty) (all_dropped left none (placed ∙ rw (← counted, none) refl))
      go false e =
          let some : ¬ (left.count ≡ 0) = eqb-false left.count 0 e in
          let few-gone : gone < length S = omega (arith, counted, some, read.counted) in
          let known : gone < p = omega (arith, read.counted, inside.1) in
          let whole : 2 * p ≡ length words = places_whole (length words) (omega arith) in
          let F : List ℕ = freed_from held.first gone words in
          let whole-freed : 2 * p ≡ length F = whole ∙ sym (length_freed_from gone (omega arith)) in
          let whole-dropped : 2 * p ≡ length (freed_from held.first held.count words) =
          whole ∙ sym (length_freed_from held.count inside.1)
          in
          let left-some : ¬ (held.count - gone ≡ 0) = rw counted at some in
          let went_on : left.first ≡ place_at p held.first gone =
          placed
          ∙ rw (ne_eqb (held.count - gone) 0 left-some, back) refl
          in
          let first_in : left.first ≤ p = omega (arith, went_on, place_inside p held.first gone inside.0 known) in
          let on-freed : round_from left.first F ≡ round_from gone (freed gone T) =
          rw went_on (round_on F p held.first gone whole-freed inside.0 known) ∙ ap (round_from gone) (read_freed gone)
          in
          let on-dropped : round_from left.first (freed_from held.first held.count words) ≡ round_from gone (freed (length S) T) =
          rw went_on (round_on (freed_from held.first held.count words) p held.first gone whole-dropped inside.0 known)
          ∙ ap (round_from gone) (read_freed held.count)
          ∙ ap (λ (n : ℕ). round_from gone (freed n T)) read.counted
          in
          let raised : round_from left.first (after false) ≡ spans_over (round_from left.first (freed_from held.first held.count words)) (clip time S) =
          round_set F p left.first 0 whole-freed first_in (omega arith) 0 _ {j = 0} (omega arith) (omega arith) (omega arith)
          ∙ rw (
            ← round_get F p left.first 0 whole-freed first_in (omega arith) 0 {j = 0} {n = 2 * place_at p left.first 0} (omega arith) (omega arith) (omega arith),
            on-freed,
            on-dropped,
          )
          (raised_left T time gone S (rw (← read.counted) room) read.written many few-gone)
          in
          rw e
          (record {
            spans = record { written = raised; counted = counted ∙ sym shorter };
            placed = placed ∙ rw (← shorter) refl;
          })
        where
          back : held.count - (held.count - gone) ≡ gone
          back = omega (arith, few, read.counted)
