-- Laws of joining a span in: the last word of the last span tells whether the two meet; then one word is written, or two.
use mathlib.Core.Bool.{Bool, true, false}
use mathlib.Core.List.{List, [], ◌∷◌, ◌++◌}
use mathlib.Core.Path.{◌≡◌, refl, sym, ap, ◌∙◌}
use Prim.Native.Nat.{ℕ, suc, ◌+◌, ◌*◌, ◌-◌, ◌≤◌, ◌<◌}
use native.Mathlib.Omega.{arith}
use borrow.Author.Tests.{le-leb, lt-leb}
use lib.Dec.{leb}
use lib.ListN.{length, get_or, take, drop, set, length-append}
use lib.Seq.{drop-cons, take_all, take_at}
use Rattle.meaning.specs.Interval.{End, up_to, no_end}
use Rattle.meaning.specs.Spans.{Span, ◌to◌, touches, join}
use Rattle.spans.specs.Layout.{mark, word_of, end_at, words_of, spans_over}
use Rattle.spans.specs.Stretch.{Overwrites}
use Rattle.spans.proofs.LayoutLaws.{Stored, end_cases, word_back}

-- A span that begins at next meets one with that end.
abbrev meets : End → ℕ → Bool
meets (up_to last) next = leb next (last + 1)
meets no_end next = true

touches_meets : (first next : ℕ) (last end : End) → touches (first to last) (next to end) ≡ meets last next
touches_meets first next (up_to last) end = refl
touches_meets first next no_end end = refl

meets_word : (next word : ℕ) → next ≤ mark → meets (end_at word) next ≡ leb next (word + 1)
meets_word next word h =
    end_cases (λ e. meets e next ≡ leb next (word + 1)) word (λ g. sym (le-leb next (word + 1) (omega arith))) (λ g. refl)

-- The end of the last span, of a list that has one.
unfoldable last_end : Span → List Span → End
last_end (first to last) [] = last
last_end (first to last) (q ∷ S) = last_end q S

last_stored : (p : Span) (S : List Span) → Stored (p ∷ S) → end_at (word_of (last_end p S)) ≡ last_end p S
unfolding last_end Stored
last_stored (first to last) [] h = h.0
last_stored (first to last) (q ∷ S) h = last_stored q S h.1

last_word : (p : Span) (S : List Span) (rest : List ℕ) → get_or (words_of (p ∷ S) ++ rest) (2 * length S + 1) 0 ≡ word_of (last_end p S)
unfolding last_end words_of
last_word (first to last) [] rest = refl
last_word (first to last) (q ∷ S) rest =
    let e : 2 * suc (length S) + 1 ≡ suc (suc (2 * length S + 1)) = omega arith in
    rw e (last_word q S rest)

-- Where the two do not meet, the new span follows; where they do, its end takes the place of the last one's.
join-after : (p : Span) (S : List Span) (next : ℕ) (end : End) → meets (last_end p S) next ≡ false
    → join (next to end) (p ∷ S) ≡ (p ∷ S) ++ ((next to end) ∷ [])
unfolding join last_end
join-after (first to last) [] next end h = rw (touches_meets first next last end, h) refl
join-after (first to last) (q ∷ S) next end h = ap (λ (r : List Span). (first to last) ∷ r) (join-after q S next end h)

join_length : (p : Span) (S : List Span) (next : ℕ) (end : End) → meets (last_end p S) next ≡ true
    → length (join (next to end) (p ∷ S)) ≡ suc (length S)
unfolding join last_end
join_length (first to last) [] next end h = rw (touches_meets first next last end, h) refl
join_length (first to last) (q ∷ S) next end h = ap suc (join_length q S next end h)

join-words : (p : Span) (S : List Span) (next : ℕ) (end : End) (rest : List ℕ) → meets (last_end p S) next ≡ true
    → set (words_of (p ∷ S) ++ rest) (2 * length S + 1) (word_of end) ≡ words_of (join (next to end) (p ∷ S)) ++ rest
unfolding join last_end words_of
join-words (first to last) [] next end rest h = rw (touches_meets first next last end, h) refl
join-words (first to last) (q ∷ S) next end rest h =
    let e : 2 * suc (length S) + 1 ≡ suc (suc (2 * length S + 1)) = omega arith in
    rw (e, join-words q S next end rest h) refl

written_after : (S : List Span) (a b first last : ℕ) (rest : List ℕ)
    → set (set (words_of S ++ (a ∷ b ∷ rest)) (2 * length S) first) (2 * length S + 1) last ≡ words_of S ++ (first ∷ last ∷ rest)
unfolding words_of
written_after [] a b first last rest = refl
written_after ((from to end) ∷ S) a b first last rest =
    let e₁ : 2 * suc (length S) + 1 ≡ suc (suc (2 * length S + 1)) = omega arith in
    let e₀ : 2 * suc (length S) ≡ suc (suc (2 * length S)) = omega arith in
    rw (e₁, e₀, written_after S a b first last rest) refl

words-after : (S : List Span) (first : ℕ) (last : End) (rest : List ℕ)
    → words_of (S ++ ((first to last) ∷ [])) ++ rest ≡ words_of S ++ (first ∷ word_of last ∷ rest)
unfolding words_of
words-after [] first last rest = refl
words-after ((from to end) ∷ S) first last rest = rw (words-after S first last rest) refl

pub join_stored : (next : ℕ) (end : End) (S : List Span) → end_at (word_of end) ≡ end → Stored S → Stored (join (next to end) S)
unfolding join Stored
join_stored next end [] e h = (e, tt)
join_stored next end ((first to last) ∷ []) e h = go (touches (first to last) (next to end)) refl
  where
    go : (b : Bool) → touches (first to last) (next to end) ≡ b → Stored (join (next to end) ((first to last) ∷ []))
    go true t = rw t (e, tt)
    go false t = rw t (h.0, (e, tt))
join_stored next end ((first to last) ∷ (q ∷ S)) e h = (h.0, join_stored next end (q ∷ S) e h.1)

last_meets : (p : Span) (S : List Span) (next : ℕ) → Stored (p ∷ S) → next ≤ mark
    → meets (last_end p S) next ≡ leb next (word_of (last_end p S) + 1)
last_meets p S next stored h =
    ap (λ (e : End). meets e next) (sym (last_stored p S stored)) ∙ meets_word next (word_of (last_end p S)) h

-- The word that is read before a join is the last word of the last span.
read-last : {before words : List ℕ} {count : ℕ} {p : Span} {S : List Span} → Overwrites before words count (p ∷ S)
    → get_or words (2 * (count - 1) + 1) 0 ≡ word_of (last_end p S)
unfolding spans_over
read-last {p = p} {S = S} read =
    let e : suc (length S) - 1 ≡ length S = omega arith in
    rw (read.written, read.counted, e) (last_word p S _)

-- A span that begins two or more past that word follows those held, also where none is held.
pub follows : {before words : List ℕ} {count : ℕ} {S : List Span} (first : ℕ) (end : End)
    → Overwrites before words count S
    → Stored S
    → first ≤ mark
    → (¬ (count ≡ 0) → get_or words (2 * (count - 1) + 1) 0 + 2 ≤ first)
    → join (first to end) S ≡ S ++ ((first to end) ∷ [])
unfolding join
follows {S = []} first end read stored h apart = refl
follows {count = count} {S = p ∷ S} first end read stored h apart =
    let c : count ≡ suc (length S) = read.counted in
    let e : word_of (last_end p S) + 2 ≤ first = rw (read-last read) at (apart (omega arith)) in
    join-after p S first end (last_meets p S first stored h ∙ lt-leb first (word_of (last_end p S) + 1) (omega arith))

-- It takes the two words after theirs, if there is a place; otherwise it is left out.
pub append_written : {before words : List ℕ} {count : ℕ} {S : List Span} (room first last : ℕ)
    → Overwrites before words count S
    → count < room
    → 2 * room ≤ length before
    → Overwrites
    before
    (set (set words (2 * count) first) (2 * count + 1) last)
    (count + 1)
    (take room (S ++ ((first to end_at last) ∷ [])))
unfolding spans_over
append_written {before} {words} {count} {S} room first last read known fits =
    let s : Span = first to end_at last in
    let many : count ≡ length S = read.counted in
    let more : length (S ++ (s ∷ [])) ≡ length S + 1 = length-append S (s ∷ []) in
    let all : take room (S ++ (s ∷ [])) ≡ S ++ (s ∷ []) = take_all room (S ++ (s ∷ [])) (omega arith) in
    let place : 2 * (length S + 1) ≡ suc (suc (2 * length S)) = omega arith in
    let a : ℕ = get_or before (2 * length S) 0 in
    let b : ℕ = get_or before (suc (2 * length S)) 0 in
    let free : drop (2 * length S) before ≡ a ∷ b ∷ drop (suc (suc (2 * length S))) before =
    drop-cons before (2 * length S) 0 (omega arith)
    ∙ ap (λ (l : List ℕ). a ∷ l) (drop-cons before (suc (2 * length S)) 0 (omega arith))
    in
    record {
      written =
          rw
          (all, read.written, many, free, more, place, words-after S first (end_at last), word_back last)
          (written_after S a b first last (drop (suc (suc (2 * length S))) before));
      counted = rw (all, more, many) refl;
    }

pub left_out : {before words : List ℕ} {count : ℕ} {S : List Span} (room : ℕ) (s : Span)
    → Overwrites before words count S
    → count ≡ room
    → Overwrites before words count (take room (S ++ (s ∷ [])))
left_out {count = count} {S = S} room s read full =
    let many : count ≡ length S = read.counted in
    rw (take_at S (s ∷ []) room (omega arith)) read

-- Any other extends the last one.
pub extend_written : {before words : List ℕ} {count : ℕ} {S : List Span} (room first last : ℕ)
    → Overwrites before words count S
    → Stored S
    → first ≤ mark
    → count ≤ room
    → ¬ (count ≡ 0)
    → first < get_or words (2 * (count - 1) + 1) 0 + 2
    → Overwrites before (set words (2 * (count - 1) + 1) last) count (take room (join (first to end_at last) S))
unfolding spans_over
extend_written {S = []} room first last read stored h known some near = absurd (some read.counted)
extend_written {before = before} {count = count} {S = p ∷ S} room first last read stored h known some near =
    let e : first < word_of (last_end p S) + 2 = rw (read-last read) at near in
    let m : meets (last_end p S) first ≡ true = last_meets p S first stored h ∙ le-leb first (word_of (last_end p S) + 1) (omega arith) in
    let n : length (join (first to end_at last) (p ∷ S)) ≡ suc (length S) = join_length p S first (end_at last) m in
    let many : count ≡ suc (length S) = read.counted in
    let all : take room (join (first to end_at last) (p ∷ S)) ≡ join (first to end_at last) (p ∷ S) = take_all room _ (omega arith) in
    let i : suc (length S) - 1 ≡ length S = omega arith in
    record {
      written = rw (all, n, read.written, many, i, ← join-words p S first (end_at last) _ m, word_back last) refl;
      counted = rw all (many ∙ sym n);
    }
