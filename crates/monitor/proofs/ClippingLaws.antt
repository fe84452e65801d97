-- A row at a heartbeat: what clipping its stretch leaves of its spans, and that it has room there.
use mathlib.Core.List.{List}
use mathlib.Core.Path.{◌≡◌, refl, ◌∙◌}
use Prim.Native.Nat.{ℕ, ◌+◌, ◌^◌, ◌≤◌, ◌<◌}
use native.Mathlib.Omega.{arith}
use lib.ListN.{length}
use Rattle.meaning.specs.Spans.{clip}
use Rattle.rules.specs.Limits.{row_limit}
use Rattle.rules.specs.Rows.{numbers_at}
use Rattle.rules.specs.Stretches.{spans_of, width, offset}
use Rattle.spans.specs.declared.stretch.Held.{Held}
use Rattle.spans.specs.Layout.{places_of, spans_held, ring_of, Packed}
use Rattle.spans.specs.Stretch.{ClippedTo}
use Rattle.spans.proofs.RoundLaws.{places_double}
use Rattle.spans.proofs.LayoutLaws.{laid-inside}
use Rattle.spans.proofs.ClipLaws.{clip_shorter}
use Rattle.spans.proofs.UpdateLaws.{first_fits, first_small, laid_ring, clip-laid, clip-placed}
use Rattle.soundness.specs.declared.record.Record.{Record}
use Rattle.soundness.specs.Record.{held_at, stretch_at}
use Rattle.monitor.specs.Event.{ring_clipped}
use Rattle.monitor.proofs.EventLaws.{length_stretch, RingFits}

-- The rows can be clipped: there are no more than the arrays have, each one's stretch lies within the store and lays out its spans, which a number counts.
pub record RowsLaid (table store : List ℕ) (found : Record) (rows : ℕ) : Type 0 where
  pub few : rows ≤ row_limit
  pub inside : (row : ℕ) → row < rows → offset table row + width (numbers_at table row) ≤ length store
  pub laid : (row : ℕ) → row < rows → Packed (stretch_at table store row) (held_at found row)
  pub counted : (row : ℕ) → row < rows → spans_of (numbers_at table row) < 2 ^ 32

module _ (table store : List ℕ) (found : Record) (rows time : ℕ) (all : RowsLaid table store found rows) {n : ℕ} (lower : n < rows) where
  abbrev part : List ℕ
  part = stretch_at table store n

  abbrev held : Held
  held = held_at found n

  part-size : length part ≡ width (numbers_at table n)
  part-size = length_stretch table store n (all.inside n lower)

  places : places_of (length part) ≡ spans_of (numbers_at table n)
  places = rw (part-size, places_double) refl

  -- What is left of a row's spans at the time has room, and its first place is right.
  pub clipped_fits : RingFits (numbers_at table n) (ring_clipped table store found.counts found.firsts time n)
  clipped_fits =
      let inside = laid-inside (all.laid n lower) in
      let spans = spans_held part held in
      let few : length (clip time spans) ≤ spans_of (numbers_at table n) =
      omega (arith, clip_shorter time spans, (all.laid n lower).counted, inside.1, places)
      in
      record {
        few = few;
        placed =
            first_fits (spans_of (numbers_at table n)) held (length (clip time spans)) (length (clip time spans)) (omega (arith, inside.0, places))
            (omega (arith, inside.1, places)) (omega arith) few;
      }

  -- The row's spans, as they are clipped.
  module _ {after : List ℕ} {left : Held} (clipped : ClippedTo part held after left time) where
    pub count_is : left.count ≡ length (ring_clipped table store found.counts found.firsts time n).spans
    count_is = (clip-laid part held (all.laid n lower) time clipped).counted

    pub first_is : left.first ≡ (ring_clipped table store found.counts found.firsts time n).first
    first_is = clip-placed part held (all.laid n lower) time clipped ∙ rw places refl

    pub spanned : after ≡ ring_of (width (numbers_at table n)) left.first (ring_clipped table store found.counts found.firsts time n).spans
    spanned = laid_ring (clip-laid part held (all.laid n lower) time clipped) ∙ rw part-size refl

    -- Both are counted by a number of the record.
    pub clip-count : left.count < 2 ^ 32
    clip-count = omega (arith, count_is, clipped_fits.few, all.counted n lower)

    pub clip-first : left.first < 2 ^ 32
    clip-first = omega (arith, first_is, first_small clipped_fits.placed clipped_fits.few, all.counted n lower)
