-- Laws of the layout: what was laid out is read back, zeros come after it, and what a word says of an end is told by comparing words.
use mathlib.Core.Bool.{Bool, true, false}
use mathlib.Core.List.{List, [], ◌∷◌, ◌++◌}
use mathlib.Core.Path.{◌≡◌, refl, sym, ap, ◌∙◌}
use Prim.Native.Nat.{ℕ, zero, suc, ◌+◌, ◌*◌, ◌-◌, ◌≤◌, ◌<◌}
use native.Mathlib.Numerals.{add-one}
use native.Mathlib.Omega.{arith}
use borrow.Author.Tests.{eqb-true, eqb-false, le-ltb, le-leb}
use lib.Dec.{eqb, ltb, leb}
use lib.ListN.{length, get_or, take, drop, replicate, length-append, length-drop, length-replicate, replicate-append-replicate, take-append-drop}
use lib.Seq.{drop-append-add, drop_at, drop-cons, drop-drop, take_all, take_at}
use Rattle.meaning.specs.Interval.{End, up_to, no_end}
use Rattle.meaning.specs.Computed.{not_past?}
use Rattle.meaning.specs.Spans.{Span, ◌to◌, ended}
use Rattle.spans.specs.declared.stretch.Held.{Held}
use Rattle.spans.specs.Layout.{
  mark,
  word_of,
  end_at,
  places_of,
  place_at,
  span_at,
  spans_from,
  round_from,
  spans_held,
  words_of,
  packed,
  Laid,
  fitting,
  spans_over,
  freed,
}
use Rattle.spans.specs.Stretch.{Inside, Overwrites, SpansWritten}
use Rattle.spans.proofs.RoundLaws.{places_fit, places_whole, length_round, round_get}

-- By cases: the word is the mark, or the end is the word itself.
pub end_cases : (P : End → Type 0) (word : ℕ) → (word ≡ mark → P no_end) → (¬ (word ≡ mark) → P (up_to word)) → P (end_at word)
unfolding end_at
end_cases P word marked plain = go (eqb word mark) refl
  where
    go : (b : Bool) → eqb word mark ≡ b → P (end_at word)
    go true e = rw e (marked (eqb-true word mark e))
    go false e = rw e (plain (eqb-false word mark e))

pub plain_end : (word : ℕ) → word < mark → end_at word ≡ up_to word
plain_end word h = end_cases (λ e. e ≡ up_to word) word (λ marked. absurd (omega arith)) (λ plain. refl)

-- An end that a word can hold without standing for no end.
abbrev pub Storable : End → Type 0
Storable (up_to last) = last < mark
Storable no_end = Unit

pub word_back : (word : ℕ) → word_of (end_at word) ≡ word
word_back word = end_cases (λ e. word_of e ≡ word) word (λ h. sym h) (λ h. refl)

pub ended_word : (time word : ℕ) → time ≤ mark → ended time (end_at word) ≡ ltb word time
ended_word time word h =
    end_cases (λ e. ended time e ≡ ltb word time) word (λ g. sym (le-ltb word time (omega arith))) (λ g. refl)

pub not_past_word : (time word : ℕ) → time ≤ mark → not_past? time (end_at word) ≡ leb time word
not_past_word time word h =
    end_cases (λ e. not_past? time e ≡ leb time word) word (λ g. sym (le-leb time word (omega arith))) (λ g. refl)

-- Every last of the list can be stored: it is not the number that stands for no end.
unfoldable pub Stored : List Span → Type 0
Stored [] = Unit
Stored ((first to last) ∷ S) = (end_at (word_of last) ≡ last) × Stored S

pub spans_stored : (words : List ℕ) (place count : ℕ) → Stored (spans_from words place count)
unfolding Stored spans_from
spans_stored words place zero = tt
spans_stored words place (suc count) = (ap end_at (word_back _), spans_stored words (suc place) count)

length_spans : (words : List ℕ) (place count : ℕ) → length (spans_from words place count) ≡ count
unfolding spans_from
length_spans words place zero = refl
length_spans words place (suc count) = ap suc (length_spans words (suc place) count)

-- The spans from a place on: the one there, and those after it.
pub spans-next : (words : List ℕ) (place count : ℕ) → place < count
    → spans_from words place (count - place) ≡ span_at words place ∷ spans_from words (place + 1) (count - (place + 1))
unfolding spans_from
spans-next words place count h =
    let e : count - place ≡ suc (count - (place + 1)) = omega arith in
    rw (e, add-one place) refl

pub spans-none : (words : List ℕ) (place count : ℕ) → count ≤ place → spans_from words place (count - place) ≡ []
unfolding spans_from
spans-none words place count h =
    let e : count - place ≡ 0 = omega arith in
    rw e refl

pub spans_shift : (a b : ℕ) (words : List ℕ) (place count : ℕ) → spans_from (a ∷ b ∷ words) (suc place) count ≡ spans_from words place count
unfolding spans_from
spans_shift a b words place zero = refl
spans_shift a b words place (suc count) =
    let e₁ : 2 * suc place + 1 ≡ suc (suc (2 * place + 1)) = omega arith in
    let e₀ : 2 * suc place ≡ suc (suc (2 * place)) = omega arith in
    rw (e₁, e₀, spans_shift a b words (suc place) count) refl

words-read : (S : List Span) (rest : List ℕ) → Stored S → spans_from (words_of S ++ rest) 0 (length S) ≡ S
unfolding spans_from words_of Stored
words-read [] rest h = refl
words-read ((first to last) ∷ S) rest h =
    rw (h.0, spans_shift first (word_of last) (words_of S ++ rest) 0 (length S), words-read S rest h.1) refl

-- What was packed is read back.
pub read_back : (size : ℕ) (S : List Span) → Stored S → spans_from (packed size S) 0 (length S) ≡ S
unfolding packed
read_back size S h = words-read S _ h

pub laid-read : {size : ℕ} {words : List ℕ} {held : Held} {S : List Span} → Laid size words held S → Stored S → spans_held words held ≡ S
laid-read {size} {words} {held} {S} laid h = rw (laid.written, laid.counted) (read_back size S h)

pub length_words : (S : List Span) → length (words_of S) ≡ 2 * length S
unfolding words_of
length_words [] = refl
length_words ((first to last) ∷ S) =
    let h : length (words_of S) ≡ 2 * length S = length_words S in
    omega arith

pub length_packed : (size : ℕ) (S : List Span) → 2 * length S ≤ size → length (packed size S) ≡ size
unfolding packed
length_packed size S h = simp (length-append, length_words, length-replicate) (omega arith)

-- Zeros come after it.
pub zeros-after : (size : ℕ) (S : List Span) → drop (2 * length S) (packed size S) ≡ replicate (size - 2 * length S) 0
unfolding packed
zeros-after size S = drop_at (words_of S) _ (2 * length S) (length_words S)

pub laid-zeros : {size : ℕ} {words : List ℕ} {held : Held} {S : List Span} → Laid size words held S
    → drop (2 * held.count) (round_from held.first words) ≡ replicate (size - 2 * held.count) 0
laid-zeros {size} {words} {held} {S} laid = rw (laid.written, laid.counted) (zeros-after size S)

-- A stretch that is as long as it is said to be has room for its spans, and places for them.
pub laid-fits : {words : List ℕ} {held : Held} {S : List Span} → Laid (length words) words held S → 2 * held.count ≤ length words
unfolding packed
laid-fits {words} {held} {S} laid =
    let count : held.count ≡ length S = laid.counted in
    let sum : length words ≡ 2 * length S + (length words - 2 * length S) =
    sym (length_round held.first words) ∙ ap length laid.written ∙ simp (length-append, length_words, length-replicate)
    in
    omega arith

pub laid-inside : {words : List ℕ} {held : Held} {S : List Span} → Laid (length words) words held S → Inside words held
laid-inside {words} {held} laid = go (eqb held.count 0) refl
  where
    go : (b : Bool) → eqb held.count 0 ≡ b → Inside words held
    go true e =
        let none : held.count ≡ 0 = eqb-true held.count 0 e in
        (omega (arith, laid.unplaced none), omega arith)
    go false e =
        let some : 0 < held.count = omega (arith, eqb-false held.count 0 e) in
        let placed : held.first < places_of (length words) = laid.inside some in
        (omega arith, omega (arith, laid-fits laid, places_whole (length words) (omega arith)))

-- What was read is packed again as the words that were there.
words_again : (words : List ℕ) (place count : ℕ) → 2 * place + 2 * count ≤ length words
    → words_of (spans_from words place count) ≡ take (2 * count) (drop (2 * place) words)
unfolding spans_from words_of
words_again words place zero h = refl
words_again words place (suc count) h =
    let h₀ : 2 * place < length words = omega arith in
    let h₁ : suc (2 * place) < length words = omega arith in
    let e : 2 * suc count ≡ suc (suc (2 * count)) = omega arith in
    let n : suc (suc (2 * place)) ≡ 2 * suc place = omega arith in
    rw (
      word_back,
      words_again words (suc place) count (omega arith),
      e,
      drop-cons words (2 * place) 0 h₀,
      drop-cons words (suc (2 * place)) 0 h₁,
      add-one (2 * place),
      n,
    )
    refl

-- Words that have room for so many spans are these spans written over them.
pub read-written : (words : List ℕ) (count : ℕ) → 2 * count ≤ length words → Overwrites words words count (spans_from words 0 count)
unfolding spans_over
read-written words count room =
    let many : length (spans_from words 0 count) ≡ count = length_spans words 0 count in
    record {
      written = sym (take-append-drop (2 * count) words) ∙ rw (words_again words 0 count (omega arith), many) refl;
      counted = sym many;
    }

pub held_written : (words : List ℕ) (held : Held) → Inside words held → SpansWritten words words held (spans_held words held)
held_written words held inside =
    read-written (round_from held.first words) held.count
    (rw (length_round held.first words) (omega (arith, inside.1, places_fit (length words))))

-- The last word of the i-th span read is the one at its place.
pub last_read : (words : List ℕ) (held : Held) (i place : ℕ) → Inside words held → i < held.count → place ≡ place_at (places_of (length words)) held.first i
    → get_or (round_from held.first words) (2 * i + 1) 0 ≡ get_or words (2 * place + 1) 0
last_read words held i place inside fewer at =
    let whole : 2 * places_of (length words) ≡ length words = places_whole (length words) (omega arith) in
    round_get words (places_of (length words)) held.first i whole (omega arith) (omega arith) 1 (omega arith) refl (omega (arith, at))

-- With zeros after them, they are what the spans lay out.
pub read-laid : (words : List ℕ) (held : Held) → Inside words held
    → (held.count ≡ 0 → held.first ≡ 0)
    → (0 < held.count → held.first < places_of (length words))
    → drop (2 * held.count) (round_from held.first words) ≡ replicate (length words - 2 * held.count) 0
    → Laid (length words) words held (spans_held words held)
unfolding packed spans_over
read-laid words held inside unplaced placed zeros =
    let read = held_written words held inside in
    record {
      written = read.written ∙ rw (← read.counted, zeros) refl;
      counted = read.counted;
      unplaced = unplaced;
      inside = placed;
    }

-- Spans written over words are read back.
pub written_read : {words after : List ℕ} {count : ℕ} {S : List Span} → Overwrites words after count S → Stored S → spans_from after 0 count ≡ S
unfolding spans_over
written_read {S = S} done h = rw (done.written, done.counted) (words-read S _ h)

-- More spans over fewer: the fewer leave no trace.
pub over_again : (words : List ℕ) (K S : List Span) → length K ≤ length S → spans_over (spans_over words K) S ≡ spans_over words S
unfolding spans_over
over_again words K S h =
    let place : length (words_of K) + (2 * length S - 2 * length K) ≡ 2 * length S = rw length_words (omega arith) in
    let again : 2 * length K + (2 * length S - 2 * length K) ≡ 2 * length S = omega arith in
    ap (λ (rest : List ℕ). words_of S ++ rest)
    (ap (λ (k : ℕ). drop k (words_of K ++ drop (2 * length K) words)) (sym place)
    ∙ drop-append-add (words_of K) (drop (2 * length K) words) (2 * length S - 2 * length K)
    ∙ drop-drop (2 * length S - 2 * length K) (2 * length K) words
    ∙ ap (λ (k : ℕ). drop k words) again)

pub length_freed : (count : ℕ) (words : List ℕ) → 2 * count ≤ length words → length (freed count words) ≡ length words
length_freed count words h = simp (length-append, length-replicate, length-drop) (omega arith)

pub drop_zeros : (n m : ℕ) → n ≤ m → drop n (replicate {A = ℕ} m 0) ≡ replicate (m - n) 0
drop_zeros n m h =
    let sum : n + (m - n) ≡ m = omega arith in
    ap (λ (k : ℕ). drop n (replicate {A = ℕ} k 0)) (sym sum)
    ∙ ap (λ (l : List ℕ). drop n l) (sym (replicate-append-replicate n (m - n) 0))
    ∙ drop_at (replicate n 0) (replicate (m - n) 0) n (length-replicate n 0)

pub take_zeros : (n m : ℕ) → n ≤ m → take n (replicate {A = ℕ} m 0) ≡ replicate n 0
take_zeros n m h =
    let sum : n + (m - n) ≡ m = omega arith in
    ap (λ (k : ℕ). take n (replicate {A = ℕ} k 0)) (sym sum)
    ∙ ap (λ (l : List ℕ). take n l) (sym (replicate-append-replicate n (m - n) 0))
    ∙ take_at (replicate n 0) (replicate (m - n) 0) n (length-replicate n 0)

-- Where those that were packed are freed, all words are 0; and spans over zeros are packed.
pub freed-packed : (size : ℕ) (S : List Span) → 2 * length S ≤ size → freed (length S) (packed size S) ≡ replicate size 0
unfolding packed
freed-packed size S room =
    let sum : 2 * length S + (size - 2 * length S) ≡ size = omega arith in
    rw (drop_at (words_of S) (replicate (size - 2 * length S) 0) (2 * length S) (length_words S), replicate-append-replicate, sum) refl

pub over_zeros : (size : ℕ) (S : List Span) → 2 * length S ≤ size → spans_over (replicate size 0) S ≡ packed size S
unfolding spans_over packed
over_zeros size S fits = ap (λ (rest : List ℕ). words_of S ++ rest) (drop_zeros (2 * length S) size fits)

-- Spans that have places all fit.
pub fitting_all : (words : List ℕ) (S : List Span) → length S ≤ places_of (length words) → fitting words S ≡ S
fitting_all words S h = take_all (places_of (length words)) S h

pub take_stored : (n : ℕ) (S : List Span) → Stored S → Stored (take n S)
unfolding Stored
take_stored zero S h = tt
take_stored (suc n) [] h = tt
take_stored (suc n) ((first to last) ∷ S) h = (h.0, take_stored n S h.1)
