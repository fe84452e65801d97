-- What a call reads of the store, and what it leaves there. A row's spans and truth depend on its own stretch only. Where the spans of each row
-- have room in its stretch, the store is as long as it was, and the words past the rows' stretches are as found; one row more is one turn.
use mathlib.Core.Bool.{Bool, true, false, cond}
use mathlib.Core.List.{List, append_assoc}
use mathlib.Core.Path.{◌≡◌, refl, sym, ap, ◌∙◌}
use Prim.Native.Nat.{ℕ, zero, suc, ◌+◌, ◌-◌, ◌≤◌, ◌<◌}
use native.Mathlib.Numerals.{add-one}
use native.Mathlib.Omega.{arith}
use lib.ListN.{length, take, drop, set, length-append, length-drop, length-take}
use lib.Seq.{take_at, drop_at, drop-drop}
use borrow.Rule.Slice.PartMut.{put_mid, Post-is}
use Rattle.meaning.specs.Heartbeat.{heartbeat?}
use Rattle.rules.specs.Rows.{numbers_at}
use Rattle.rules.specs.Stretches.{spans_of, width, offset}
use Rattle.rules.specs.declared.numbers.Numbers.{Numbers}
use Rattle.spans.specs.Layout.{ring_of}
use Rattle.soundness.specs.declared.record.Record.{Record}
use Rattle.soundness.specs.Record.{held_at, stretch_at}
use Rattle.monitor.specs.Event.{
  Moment,
  spans_after,
  spans_judged,
  spans_clipped,
  truth_of,
  truths_after,
  Ring,
  ring_judged,
  ring_clipped,
  spans_now,
  entries_with,
  counts_with,
  firsts_with,
  words_done,
  store_with,
}
use Rattle.spans.proofs.UpdateLaws.{FirstFits, length_ring}
use Rattle.soundness.proofs.SoundnessLaws.{part_told}
use Rattle.monitor.proofs.RisingLaws.{entry_left}

pub length_stretch : (table store : List ℕ) (row : ℕ)
    → offset table row + width (numbers_at table row) ≤ length store
    → length (stretch_at table store row) ≡ width (numbers_at table row)
unfolding stretch_at
length_stretch table store row inside = simp (length-take, length-drop) (omega arith)

-- The same event at two stores.
module _ (table store other : List ℕ) (found : Record) (time mask : ℕ) where
  abbrev here : Moment
  here = record { table = table; store = store; found = found; time = time; mask = mask }

  abbrev there : Moment
  there = record { table = table; store = other; found = found; time = time; mask = mask }

  module _ (row : ℕ) (truths : List ℕ) (same : stretch_at table other row ≡ stretch_at table store row) where
    pub spans-same : spans_after there row truths ≡ spans_after here row truths
    unfolding spans_after
    spans-same = rw same

    pub truth-same : truth_of there row truths ≡ truth_of here row truths
    unfolding truth_of
    truth-same = rw spans-same

-- What a row holds after a heartbeat, and after an event.
module _ (m : Moment) (row : ℕ) where
  pub spans_clipped_lem : heartbeat? m.mask ≡ true
      → spans_now m row ≡ spans_clipped m.table m.store m.found.counts m.found.firsts m.time row
  spans_clipped_lem beat =
      ap (λ (b : Bool). (cond b (ring_clipped m.table m.store m.found.counts m.found.firsts m.time) (ring_judged m) row).spans) beat

  pub spans-judged : heartbeat? m.mask ≡ false → spans_now m row ≡ spans_judged m row
  spans-judged no-beat =
      ap (λ (b : Bool). (cond b (ring_clipped m.table m.store m.found.counts m.found.firsts m.time) (ring_judged m) row).spans) no-beat

-- The spans of each row below n have room in its stretch, and its first place is right for them.
pub record RingFits (n : Numbers) (ring : Ring) : Type 0 where
  pub few : length ring.spans ≤ spans_of n
  pub placed : FirstFits (spans_of n) (length ring.spans) ring.first

abbrev pub Room : List ℕ → (ℕ → Ring) → ℕ → Type 0
Room table rings n = (r : ℕ) → r < n → RingFits (numbers_at table r) (rings r)

module _ (table : List ℕ) (rings : ℕ → Ring) where
  -- What is done fills the stretches of the rows done.
  pub length_done : (n : ℕ) → Room table rings n → length (words_done table rings n) ≡ offset table n
  unfolding words_done offset
  length_done zero room = refl
  length_done (suc n) room =
      rw (
        length-append,
        length_done n (λ r below. room r (omega arith)),
        length_ring (width (numbers_at table n)) (rings n).first (rings n).spans (omega (arith, (room n (omega arith)).few)),
      )

  module _ (store : List ℕ) where
    pub length-store : (n : ℕ) → Room table rings n → offset table n ≤ length store → length (store_with table store rings n) ≡ length store
    unfolding store_with
    length-store n room fits = rw (length-append, length_done n room, length-drop) (omega arith)

    pub words-done : (n : ℕ) → Room table rings n → take (offset table n) (store_with table store rings n) ≡ words_done table rings n
    unfolding store_with
    words-done n room = take_at (words_done table rings n) (drop (offset table n) store) (offset table n) (length_done n room)

    pub words_left : (n : ℕ) → Room table rings n → drop (offset table n) (store_with table store rings n) ≡ drop (offset table n) store
    unfolding store_with
    words_left n room = drop_at (words_done table rings n) (drop (offset table n) store) (offset table n) (length_done n room)

-- The record and the store after the rows below n, whose stretches end at a word: these are the truths then, and the rows have such rings.
pub record AfterRows
    (table store : List ℕ)
    (found : Record)
    (truths : ℕ → List ℕ)
    (rings : ℕ → Ring)
    (n from : ℕ)
    (kept : Record)
    (now : List ℕ)
    : Type 0 where
  pub place : from ≡ offset table n
  pub left_is : kept ≡ record found { truths = truths n; counts = counts_with rings found.counts n; firsts = firsts_with rings found.firsts n }
  pub store_is : now ≡ store_with table store rings n

-- At a heartbeat, and at an event.
abbrev pub Clipped : (table store : List ℕ) → Record → (time n from : ℕ) → Record → (now : List ℕ) → Type 0
Clipped table store found time = AfterRows table store found (λ row. found.truths) (ring_clipped table store found.counts found.firsts time)

abbrev pub Judged : Moment → (n from : ℕ) → Record → (now : List ℕ) → Type 0
Judged m = AfterRows m.table m.store m.found (truths_after m) (ring_judged m)

-- The rows of a table one after the other, each stretch within the store and each row's spans with room in it: the store is what is done and the rest as
-- found.
module _
    (table store : List ℕ)
    (found : Record)
    (truths : ℕ → List ℕ)
    (rings : ℕ → Ring)
    (rows : ℕ)
    (inside : (r : ℕ) → r < rows → offset table r + width (numbers_at table r) ≤ length store)
    (room : Room table rings rows)
  where
    room-below : (n : ℕ) → n ≤ rows → Room table rings n
    room-below n within r below = room r (omega arith)

    offset-within : (n : ℕ) → n ≤ rows → offset table n ≤ length store
    unfolding offset
    offset-within zero within = omega arith
    offset-within (suc n) within = inside n (omega arith)

    length-after : (n : ℕ) → n ≤ rows → length (store_with table store rings n) ≡ length store
    length-after n within = length-store table rings store n (room-below n within) (offset-within n within)

    -- The words from the next stretch on are as found.
    later-after : (n size : ℕ) → n ≤ rows → drop (offset table n + size) (store_with table store rings n) ≡ drop (offset table n + size) store
    later-after n size within =
        sym (drop-drop size (offset table n) (store_with table store rings n))
        ∙ ap (drop size) (words_left table rings store n (room-below n within))
        ∙ drop-drop size (offset table n) store

    stretch-after : (n : ℕ) → n ≤ rows → stretch_at table (store_with table store rings n) n ≡ stretch_at table store n
    unfolding stretch_at
    stretch-after n within = rw (words_left table rings store n (room-below n within))

    -- The next row: its numbers and the words of its stretch as they were read.
    module _
        {n from words : ℕ}
        {numbers : Numbers}
        {kept : Record}
        {now : List ℕ}
        (lower : n < rows)
        (done : AfterRows table store found truths rings n from kept now)
        (read : numbers ≡ numbers_at table n)
        (size : words ≡ width numbers)
      where
        pub held-found : held_at kept n ≡ held_at found n
        held-found =
            rw (
              done.left_is,
              entry_left (λ row. length (rings row).spans) found.counts n n (omega arith),
              entry_left (λ row. (rings row).first) found.firsts n n (omega arith),
            )

        pub part-found : take (from + words - from) (drop from now) ≡ stretch_at table store n
        part-found = part_told table now n read done.place size ∙ rw done.store_is (stretch-after n (omega arith))

        pub part-inside : from + words ≤ length now
        part-inside = rw (size, done.place, read, done.store_is, length-after n (omega arith)) (inside n lower)

        -- Its spans are written and counted, and the first of them is placed.
        pub rows-turn : {truths_now written : List ℕ} {count first : ℕ}
            → truths_now ≡ truths (n + 1)
            → count ≡ length (rings n).spans
            → first ≡ (rings n).first
            → written ≡ ring_of (width numbers) first (rings n).spans
            → AfterRows table store found truths rings (n + 1) (from + words)
            (record kept { truths = truths_now; counts = set kept.counts n count; firsts = set kept.firsts n first })
            (put_mid from (from + words - from) now written)
        unfolding entries_with store_with words_done offset
        rows-turn told counted starts spanned =
            record {
              place = rw (size, done.place, read, add-one);
              left_is = rw (told, add-one, counted, starts, done.left_is);
              store_is =
                  rw (
                    Post-is from (from + words) now (omega arith),
                    spanned,
                    size,
                    read,
                    starts,
                    done.store_is,
                    done.place,
                    words-done table rings store n (room-below n (omega arith)),
                    later-after n (width (numbers_at table n)) (omega arith),
                    add-one,
                    append_assoc,
                  );
            }
