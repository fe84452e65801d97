-- Laws of the places of a stretch, round: what is read from a place on is read back; a word there is a word at its place; and to go on by some places and
-- then by more is to go on by both.
use mathlib.Core.Bool.{Bool, true, false}
use mathlib.Core.List.{List, [], ◌∷◌, ◌++◌, append_assoc}
use mathlib.Core.Logic.{⊎_elim}
use mathlib.Core.Path.{◌≡◌, refl, sym, ap, ◌∙◌}
use Prim.Native.Nat.{ℕ, suc, ◌+◌, ◌*◌, ◌-◌, ◌/◌, ◌%◌, ◌≤◌, ◌<◌}
use native.Mathlib.Omega.{arith}
use borrow.Author.Tests.{eq-eqb, eqb-true, lt-ltb, le-ltb}
use lib.Dec.{eqb}
use lib.ListN.{length, get_or, take, drop, set, length-append, length-drop, length-take, length-set, take-append-drop, get_or-append}
use lib.Seq.{take_at, drop_at, take-append-add, drop-append-add, take-append-le, drop-append-le, take-take, take-add, drop-drop, length-take-le, get_or-append-add, get_or-drop, get_or-take, set-append_left, take-set-le, take-set-lt, drop-set-lt, drop-set-add}
use Rattle.meaning.proofs.SpansLaws.{le_or_lt}
use Rattle.spans.specs.Layout.{places_of, place_at, span_at, round_from, laid_from}

-- How many places: so many for twice as many words, and never more than there are words for.
pub places_double : (n : ℕ) → places_of (2 * n) ≡ n
unfolding places_of
places_double n =
    let even : 2 * n % 2 ≡ 0 = omega arith in
    let half : 2 * n / 2 ≡ n = omega arith in
    rw (eq-eqb (2 * n % 2) 0 even) half

places_cases : (P : ℕ → Type 0) (size : ℕ) → (size % 2 ≡ 0 → P (size / 2)) → P 0 → P (places_of size)
unfolding places_of
places_cases P size whole odd = go (eqb (size % 2) 0) refl
  where
    go : (b : Bool) → eqb (size % 2) 0 ≡ b → P (places_of size)
    go true e = rw e (whole (eqb-true (size % 2) 0 e))
    go false e = rw e odd

pub places_fit : (size : ℕ) → 2 * places_of size ≤ size
places_fit size = places_cases (λ n. 2 * n ≤ size) size (λ even. omega arith) (omega arith)

-- Where there is a place, the places take all words.
pub places_whole : (size : ℕ) → 0 < places_of size → 2 * places_of size ≡ size
places_whole size = places_cases (λ n. 0 < n → 2 * n ≡ size) size (λ even some. omega arith) (λ none. absurd (omega arith))

-- By cases: before the last place, or past it and round.
place_cases : (P : ℕ → Type 0) (places first i : ℕ)
    → (i < places - first → P (first + i))
    → (places - first ≤ i → P (i - (places - first)))
    → P (place_at places first i)
unfolding place_at
place_cases P places first i before past =
    ⊎_elim
    (λ (h : places - first ≤ i). rw (le-ltb i (places - first) h) (past h))
    (λ (h : i < places - first). rw (lt-ltb i (places - first) h) (before h))
    (le_or_lt (places - first) i)

-- A place that is less than all of them on is a place, and its two words are there.
pub place_inside : (places first i : ℕ) → first ≤ places → i < places → place_at places first i < places
place_inside places first i h l =
    place_cases (λ n. n < places) places first i (λ before. omega arith) (λ past. omega arith)

pub place_fits : (size first i : ℕ) → first ≤ places_of size → i < places_of size → 2 * (place_at (places_of size) first i + 1) ≤ size
place_fits size first i inside known = omega (arith, place_inside (places_of size) first i inside known, places_fit size)

pub length_round : (place : ℕ) (words : List ℕ) → length (round_from place words) ≡ length words
unfolding round_from
length_round place words = rw (length-append, length-drop, length-take) (omega arith)

-- A list in two parts that change places, and change places again.
swapped_back : (p q : List ℕ) (n : ℕ) → length q ≡ n → drop n (q ++ p) ++ take n (q ++ p) ≡ p ++ q
swapped_back p q n h = rw (drop_at q p n h, take_at q p n h) refl

pub laid_round : (place : ℕ) (words : List ℕ) → laid_from place (round_from place words) ≡ words
unfolding laid_from round_from
laid_round place words =
    let k : ℕ = 2 * place in
    let size : length (drop k words ++ take k words) ≡ length words = rw (length-append, length-drop, length-take) (omega arith) in
    rw size (swapped_back (take k words) (drop k words) (length words - k) (length-drop k words)) ∙ take-append-drop k words

pub round_laid : (place : ℕ) (words : List ℕ) → 2 * place ≤ length words → round_from place (laid_from place words) ≡ words
unfolding laid_from round_from
round_laid place words h =
    let k : ℕ = length words - 2 * place in
    let size : length (drop k words) ≡ 2 * place = rw length-drop (omega arith) in
    swapped_back (take k words) (drop k words) (2 * place) size ∙ take-append-drop k words

pub length_laid : (place : ℕ) (words : List ℕ) → length (laid_from place words) ≡ length words
unfolding laid_from
length_laid place words = rw (length-append, length-drop, length-take) (omega arith)

set_append_add : (xs ys : List ℕ) (n a : ℕ) → set (xs ++ ys) (length xs + n) a ≡ xs ++ set ys n a
set_append_add [] ys n a =
    let e : 0 + n ≡ n = omega arith in
    rw e refl
set_append_add (x ∷ xs) ys n a =
    let e : suc (length xs) + n ≡ suc (length xs + n) = omega arith in
    rw e (ap (λ (l : List ℕ). x ∷ l) (set_append_add xs ys n a))

-- Words that are all places, and a number of places to go on by.
module _ (words : List ℕ) (p first i : ℕ) (whole : 2 * p ≡ length words) (inside : first ≤ p) (known : i < p) where
  abbrev later : List ℕ
  later = drop (2 * first) words

  abbrev early : List ℕ
  early = take (2 * first) words

  rest : length later ≡ 2 * (p - first)
  rest = rw length-drop (omega (arith, whole))

  -- A word that is read from a place on is the word at its place; the two are told by their numbers, as they may be written.
  pub round_get : (c : ℕ) {j n : ℕ} → c < 2 → j ≡ 2 * i + c → n ≡ 2 * place_at p first i + c → get_or (round_from first words) j 0 ≡ get_or words n 0
  unfolding round_from
  round_get c one read at =
      rw (read, at)
      (place_cases
      (λ n. get_or (round_from first words) (2 * i + c) 0 ≡ get_or words (2 * n + c) 0)
      p
      first
      i
      (λ before.
      let e : 2 * first + (2 * i + c) ≡ 2 * (first + i) + c = omega arith in
      get_or-append later early 0 (2 * i + c) (omega (arith, rest))
      ∙ get_or-drop (2 * first) words (2 * i + c) 0
      ∙ ap (λ (k : ℕ). get_or words k 0) e)
      (λ past.
      let e : 2 * i + c ≡ length later + (2 * (i - (p - first)) + c) = omega (arith, rest) in
      ap (λ (k : ℕ). get_or (later ++ early) k 0) e
      ∙ get_or-append-add later early (2 * (i - (p - first)) + c) 0
      ∙ get_or-take (2 * first) words (2 * (i - (p - first)) + c) 0 (omega arith)))

  -- To write it there is to write it in what is read.
  pub round_set : (c word : ℕ) {j n : ℕ} → c < 2 → j ≡ 2 * i + c → n ≡ 2 * place_at p first i + c
      → round_from first (set words n word) ≡ set (round_from first words) j word
  unfolding round_from
  round_set c word one read at =
      rw (read, at)
      (place_cases
      (λ n. round_from first (set words (2 * n + c) word) ≡ set (round_from first words) (2 * i + c) word)
      p
      first
      i
      (λ before.
      let e : 2 * (first + i) + c ≡ 2 * first + (2 * i + c) = omega arith in
      rw (
        e,
        drop-set-add (2 * first) words (2 * i + c) word,
        take-set-le (2 * first) words (2 * first + (2 * i + c)) word (omega arith),
        set-append_left later early (2 * i + c) word (omega (arith, rest)),
      ))
      (λ past.
      let k : ℕ = 2 * (i - (p - first)) + c in
      let e : 2 * i + c ≡ length later + k = omega (arith, rest) in
      let low : k < 2 * first = omega arith in
      rw (e, drop-set-lt (2 * first) words k word low, take-set-lt (2 * first) words k word low, set_append_add later early k word)))

  -- The i-th span read is the span at its place.
  pub round_span : span_at (round_from first words) i ≡ span_at words (place_at p first i)
  round_span =
      rw (
        round_get 0 {j = 2 * i} {n = 2 * place_at p first i} (omega arith) (omega arith) (omega arith),
        round_get 1 {j = 2 * i + 1} {n = 2 * place_at p first i + 1} (omega arith) refl refl,
      )
      refl

  -- To go on by some places, and then by more.
  pub round_on : round_from (place_at p first i) words ≡ round_from i (round_from first words)
  unfolding round_from
  round_on =
      place_cases
      (λ n. round_from n words ≡ round_from i (round_from first words))
      p
      first
      i
      (λ before.
      let e : 2 * (first + i) ≡ 2 * first + 2 * i = omega arith in
      rw (
        e,
        drop-append-le (2 * i) later early (omega (arith, rest)),
        take-append-le (2 * i) later early (omega (arith, rest)),
        drop-drop (2 * i) (2 * first) words,
        take-add (2 * first) (2 * i) words,
      )
      (simp append_assoc))
      (λ past.
      let j : ℕ = i - (p - first) in
      let e : 2 * i ≡ length later + 2 * j = omega (arith, rest) in
      let split : drop (2 * j) words ≡ drop (2 * j) early ++ later =
      ap (λ (l : List ℕ). drop (2 * j) l) (sym (take-append-drop (2 * first) words))
      ∙ drop-append-le (2 * j) early later (rw (length-take-le (2 * first) words (omega arith)) (omega arith))
      in
      rw (
        e,
        drop-append-add later early (2 * j),
        take-append-add later early (2 * j),
        take-take (2 * j) (2 * first) words (omega arith),
        split,
      )
      (simp append_assoc))

-- To write both words of a place.
pub round_sets : (words : List ℕ) (p first i : ℕ) (place a b : ℕ) → 2 * p ≡ length words → first ≤ p → i < p → place ≡ place_at p first i
    → round_from first (set (set words (2 * place) a) (2 * place + 1) b) ≡ set (set (round_from first words) (2 * i) a) (2 * i + 1) b
round_sets words p first i place a b whole inside known at =
    let whole_set : 2 * p ≡ length (set words (2 * place) a) = whole ∙ sym (length-set words (2 * place) a) in
    round_set (set words (2 * place) a) p first i whole_set inside known 1 b (omega arith) refl (omega (arith, at))
    ∙ ap (λ (l : List ℕ). set l (2 * i + 1) b) (round_set words p first i whole inside known 0 a (omega arith) (omega arith) (omega (arith, at)))
