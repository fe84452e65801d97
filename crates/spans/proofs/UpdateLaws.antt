-- Laws of one event's update: what it leaves can be stored, so that it is read back as it was written; and of a stretch that lays out its spans, with room
-- for all, it leaves one that lays out those after it.
use mathlib.Core.Bool.{Bool, true, false, cond, ◌&&◌}
use mathlib.Core.List.{List, [], ◌∷◌, ◌++◌}
use mathlib.Core.Path.{◌≡◌, refl, sym, ap, subst, ◌∙◌}
use Prim.Native.Nat.{ℕ, ◌+◌, ◌*◌, ◌-◌, ◌≤◌, ◌<◌}
use native.Mathlib.Omega.{arith}
use borrow.Author.Tests.{eqb-true, eqb-false, lt-ltb, le-leb}
use lib.Dec.{eqb, ltb, leb}
use lib.ListN.{length, take, drop, replicate, length-take, length-replicate, replicate-append-replicate}
use Rattle.meaning.specs.Spans.{Span, ◌to◌, Rising, touches, extended, clip, join, update}
use Rattle.spans.specs.declared.stretch.Held.{Held}
use Rattle.spans.specs.declared.stretch.Ring.{Ring}
use Rattle.spans.specs.declared.stretch.Span as Words
use Rattle.spans.specs.declared.stretch.Updated.{Updated}
use Rattle.spans.specs.Ring.{spans_of, SameWords, RingKept, RingWritten, RingUpdated}
use Rattle.spans.specs.Layout.{end_at, span_in, places_of, round_from, laid_from, spans_held, packed, ring_of, Laid, Packed, fitting, spans_over, freed, freed_from}
use Rattle.spans.specs.Stretch.{
  covered,
  first_covers,
  held_found,
  kept_of,
  spans_fed,
  first_left,
  Inside,
  SpansWritten,
  SpansKept,
  UpdatedTo,
  ClippedTo,
}
use Rattle.spans.proofs.RoundLaws.{places_fit, place_inside, laid_round, round_laid, length_laid}
use Rattle.spans.proofs.LayoutLaws.{
  Stored,
  word_back,
  spans_stored,
  take_stored,
  length_packed,
  laid-inside,
  held_written,
  written_read,
  over_again,
  over_zeros,
  freed-packed,
  drop_zeros,
  take_zeros,
  fitting_all,
}
use Rattle.spans.proofs.ClipLaws.{clip_stored, clip_shorter}
use Rattle.spans.proofs.JoinLaws.{join_stored}
use Rattle.spans.proofs.CoverLaws.{first_tells}

kept_stored : (keep : Bool) (time : ℕ) (S : List Span) → Stored S → Stored (kept_of keep time S)
unfolding Stored
kept_stored true time S h = clip_stored time S h
kept_stored false time S h = tt

update_stored : (keep feed : Bool) (time first last : ℕ) (S : List Span) → Stored S
    → Stored (update keep feed time (first to end_at last) S)
unfolding update
update_stored keep true time first last S h =
    join_stored first (end_at last) (kept_of keep time S) (ap end_at (word_back last)) (kept_stored keep time S h)
update_stored keep false time first last S h = kept_stored keep time S h

-- A join makes no list shorter, so the words of the spans kept are written over.
join_grows : (s : Span) (S : List Span) → length S ≤ length (join s S)
unfolding join
join_grows s [] = omega arith
join_grows s (p ∷ []) = go (touches p s)
  where
    go : (b : Bool) → 1 ≤ length (cond b (extended p s ∷ []) (p ∷ s ∷ []))
    go true = omega arith
    go false = omega arith
join_grows s (p ∷ q ∷ S) = omega (arith, join_grows s (q ∷ S))

kept_shorter : (keep : Bool) (time : ℕ) (S : List Span) → length (kept_of keep time S) ≤ length S
kept_shorter true time S = clip_shorter time S
kept_shorter false time S = omega arith

pub kept_grows : (keep feed : Bool) (time : ℕ) (s : Span) (S : List Span) → length (kept_of keep time S) ≤ length (update keep feed time s S)
unfolding update
kept_grows keep true time s S = join_grows s (kept_of keep time S)
kept_grows keep false time s S = omega arith

fed_grows : (feed : Bool) (s : Span) (K : List Span) (room : ℕ) → length K ≤ room → length K ≤ length (take room (cond feed (join s K) K))
fed_grows true s K room h = rw length-take (omega (arith, join_grows s K))
fed_grows false s K room h = rw length-take (omega arith)

-- The first place of what is left is a place, where there is one.
first-left : (places : ℕ) (held : Held) (left : ℕ) → held.first ≤ places → held.count ≤ places → 0 < places → first_left places held left < places
unfolding first_left
first-left places held left inside few some = go (eqb left 0) refl
  where
    go : (b : Bool) → eqb left 0 ≡ b → first_left places held left < places
    go true e = rw e some
    go false e = rw e (place_inside places held.first (held.count - left) inside (omega (arith, eqb-false left 0 e)))

pub first_none : (places : ℕ) (held : Held) (left : ℕ) → left ≡ 0 → first_left places held left ≡ 0
unfolding first_left
first_none places held left none = rw none refl

pub first_within : (places : ℕ) (held : Held) (left : ℕ) → held.first ≤ places → held.count ≤ places → left ≤ held.count
    → first_left places held left ≤ places
first_within places held left inside few fewer = go (eqb left 0) refl
  where
    go : (b : Bool) → eqb left 0 ≡ b → first_left places held left ≤ places
    go true e = omega (arith, first_none places held left (eqb-true left 0 e))
    go false e = omega (arith, first-left places held left inside few (omega (arith, eqb-false left 0 e)))

-- Where it is right for so many spans, of which those left are some: 0 for none, otherwise a place.
pub record FirstFits (places many first : ℕ) : Type 0 where
  pub unplaced : many ≡ 0 → first ≡ 0
  pub inside : 0 < many → first < places

pub first_fits : (places : ℕ) (held : Held) (left many : ℕ) → held.first ≤ places → held.count ≤ places → left ≤ many → many ≤ places
    → FirstFits places many (first_left places held left)
first_fits places held left many inside few fewer fit =
    record {
      unplaced = λ none. first_none places held left (omega arith);
      inside = λ some. first-left places held left inside few (omega arith);
    }

pub first_small : {places many first : ℕ} → FirstFits places many first → many ≤ places → first ≤ places
first_small {places} {many} {first} right few = go (eqb many 0) refl
  where
    go : (b : Bool) → eqb many 0 ≡ b → first ≤ places
    go true e = omega (arith, right.unplaced (eqb-true many 0 e))
    go false e = omega (arith, right.inside (omega (arith, eqb-false many 0 e)))

-- The spans held are clipped or dropped, and then the span is joined in or not; what each step writes is read by the next.
pub ring_updated : (ring kept fed : Ring) (keep feed : Bool) (time : ℕ) (s : Words.Span) {told : Bool} → SameWords ring kept
    → RingKept ring kept (kept_of keep time (spans_of ring))
    → RingWritten kept fed (spans_fed kept.words.now kept.held feed (span_in s))
    → told ≡ first_covers time (spans_of fed)
    → RingUpdated ring keep feed time (span_in s) fed told
unfolding update
ring_updated ring kept fed keep feed time s same clipped joined answer =
    record {
      spans =
          record {
            written =
                fed-over.written
                ∙ ap (λ (l : List ℕ). spans_over l U)
                (ap (λ (n : ℕ). round_from n kept.words.now) joined.0 ∙ clipped.spans.written)
                ∙ over_again (round_from kept.held.first (freed_from ring.held.first ring.held.count words)) K U fed-longer
                ∙ rw joined.0 refl;
            counted = fed-over.counted;
          };
      placed = joined.0 ∙ clipped.placed;
      told = answer ∙ ap (first_covers time) (written_read fed-over stored);
    }
  where
    words : List ℕ
    words = ring.words.now

    K : List Span
    K = kept_of keep time (spans_of ring)

    U : List Span
    U = fitting words (update keep feed time (span_in s) (spans_of ring))

    held_stored : Stored (spans_of ring)
    held_stored = spans_stored (round_from ring.held.first words) 0 ring.held.count

    fewer : length K ≤ ring.held.count
    fewer = omega (arith, kept_shorter keep time (spans_of ring), (held_written words ring.held ring.inside).counted)

    kept_read : spans_of kept ≡ K
    kept_read = written_read clipped.spans (kept_stored keep time (spans_of ring) held_stored)

    fed-over : SpansWritten kept.words.now fed.words.now fed.held U
    fed-over = rw (kept_read, same.1) at joined.1

    fed-longer : length K ≤ length U
    fed-longer = fed_grows feed (span_in s) K (places_of (length words)) (omega (arith, fewer, ring.inside.1))

    stored : Stored U
    stored = take_stored (places_of (length words)) _ (update_stored keep feed time s.first s.last (spans_of ring) held_stored)

-- Zeros are read as zeros, from any place.
swapped_zeros : (n size : ℕ) → n ≤ size → drop n (replicate {A = ℕ} size 0) ++ take n (replicate size 0) ≡ replicate size 0
swapped_zeros n size h =
    let sum : size - n + n ≡ size = omega arith in
    rw (drop_zeros n size h, take_zeros n size h, replicate-append-replicate, sum) refl

round_zeros : (place size : ℕ) → 2 * place ≤ size → round_from place (replicate size 0) ≡ replicate size 0
unfolding round_from
round_zeros place size h = swapped_zeros (2 * place) size h

laid_from_zeros : (place size : ℕ) → laid_from place (replicate size 0) ≡ replicate size 0
unfolding laid_from
laid_from_zeros place size = rw length-replicate (swapped_zeros (size - 2 * place) size (omega arith))

-- The words that lay out spans, by the first place.
pub laid_ring : {size : ℕ} {words : List ℕ} {held : Held} {S : List Span} → Laid size words held S → words ≡ ring_of size held.first S
laid_ring {words = words} {held = held} laid = sym (laid_round held.first words) ∙ ap (laid_from held.first) laid.written

pub length_ring : (size first : ℕ) (S : List Span) → 2 * length S ≤ size → length (ring_of size first S) ≡ size
length_ring size first S room = length_laid first (packed size S) ∙ length_packed size S room

pub ring_read : (size first : ℕ) (S : List Span) → 2 * length S ≤ size → 2 * first ≤ size → round_from first (ring_of size first S) ≡ packed size S
ring_read size first S room inside = round_laid first (packed size S) (rw (length_packed size S room) inside)

-- Of a stretch that lays out its spans, those are found that are held.
module _ (words : List ℕ) (held : Held) (laid : Packed words held) where
  abbrev places : ℕ
  places = places_of (length words)

  is_inside : Inside words held
  is_inside = laid-inside laid

  pub found-held : held_found words held ≡ held
  unfolding held_found
  found-held = go (eqb held.count 0) refl
    where
      nothing : Held
      nothing = record { first = 0; count = 0 }

      either : (b : Bool) → nothing ≡ held → cond b held nothing ≡ held
      either true e = refl
      either false e = e

      go : (b : Bool) → eqb held.count 0 ≡ b → held_found words held ≡ held
      go true e =
          let none : held.count ≡ 0 = eqb-true held.count 0 e in
          let start : held.first ≡ 0 = laid.unplaced none in
          either (ltb held.first places && leb held.count places) (λ i. record { first = sym start i; count = sym none i })
      go false e =
          let some : 0 < held.count = omega (arith, eqb-false held.count 0 e) in
          rw (lt-ltb held.first places (laid.inside some), le-leb held.count places is_inside.1) refl

  -- Where they are freed and others written that have places, it lays out these.
  rewritten_laid : (kept : ℕ) (S : List Span) (after : List ℕ) (left : Held) → kept ≤ length S → length S ≤ places
      → left.first ≡ first_left places held kept
      → SpansWritten (freed_from held.first held.count words) after left S
      → Laid (length words) after left S
  rewritten_laid kept S after left fewer few placed done =
      let count : left.count ≡ length S = done.counted in
      let fits : 2 * places ≤ length words = places_fit (length words) in
      let right = first_fits places held kept (length S) is_inside.0 is_inside.1 fewer few in
      let many : held.count ≡ length (spans_held words held) = laid.counted in
      let zeros : freed_from held.first held.count words ≡ replicate (length words) 0 =
      ap (λ (l : List ℕ). laid_from held.first (freed held.count l)) laid.written
      ∙ ap (λ (n : ℕ). laid_from held.first (freed n (packed (length words) (spans_held words held)))) many
      ∙ ap (laid_from held.first) (freed-packed (length words) (spans_held words held) (omega (arith, is_inside.1)))
      ∙ laid_from_zeros held.first (length words)
      in
      record {
        written =
            done.written
            ∙ ap (λ (l : List ℕ). spans_over (round_from left.first l) S) zeros
            ∙ ap (λ (l : List ℕ). spans_over l S) (round_zeros left.first (length words) (omega (arith, placed, first_small right few)))
            ∙ over_zeros (length words) S (omega arith);
        counted = count;
        unplaced = λ none. placed ∙ right.unplaced (omega arith);
        inside = λ some. rw placed (right.inside (omega arith));
      }

  -- After time alone: the spans that are left, and the first place.
  module _ (t : ℕ) {after : List ℕ} {left : Held} (done : ClippedTo words held after left t) where
    kept-held : SpansKept words held after left (clip t (spans_held words held))
    kept-held = subst (λ (found : Held). SpansKept words found after left (clip t (spans_held words found))) found-held done

    pub clip-placed : left.first ≡ first_left places held (length (clip t (spans_held words held)))
    clip-placed = kept-held.placed

    pub clip-laid : Laid (length words) after left (clip t (spans_held words held))
    clip-laid =
        rewritten_laid (length (clip t (spans_held words held))) (clip t (spans_held words held)) after left (omega arith)
        (omega (arith, clip_shorter t (spans_held words held), laid.counted, is_inside.1)) clip-placed kept-held.spans

  -- After an update, one that has room.
  module _
      {after : List ℕ}
      {updated : Updated}
      (x y : Bool)
      (t : ℕ)
      (s : Span)
      (room : length (update x y t s (spans_held words held)) ≤ places)
      (done : UpdatedTo words held x y t s after updated)
    where
      all : fitting words (update x y t s (spans_held words held)) ≡ update x y t s (spans_held words held)
      all = fitting_all words (update x y t s (spans_held words held)) room

      same : UpdatedTo words held x y t s after updated
          → (updated.held.first ≡ first_left places held (length (kept_of x t (spans_held words held))))
          × SpansWritten (freed_from held.first held.count words) after updated.held (update x y t s (spans_held words held))
          × (updated.covered ≡ first_covers t (update x y t s (spans_held words held)))
      same done =
          let h = rw found-held at done.spans in
          (rw found-held at done.placed, rw all at h, rw all at (rw found-held at done.told))

      pub update-placed : updated.held.first ≡ first_left places held (length (kept_of x t (spans_held words held)))
      update-placed = (same done).0

      pub update-laid : Laid (length words) after updated.held (update x y t s (spans_held words held))
      update-laid = rewritten_laid (length (kept_of x t (spans_held words held))) (update x y t s (spans_held words held)) after updated.held
          (kept_grows x y t s (spans_held words held)) room (same done).0 (same done).1

      -- The answer, where the spans rise from the time: whether it lies in one.
      pub update-told : Rising t (update x y t s (spans_held words held)) → updated.covered ≡ covered t (update x y t s (spans_held words held))
      update-told rises = (same done).2 ∙ first_tells t (update x y t s (spans_held words held)) rises
