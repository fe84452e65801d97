-- One row of an event: what its spans and its truth become. A row with a stretch, then one without.
use mathlib.Core.Bool.{Bool, true, false, not, beq}
use mathlib.Core.List.{List}
use mathlib.Core.Path.{◌≡◌, refl, sym, ap, ◌∙◌}
use Prim.Native.Nat.{ℕ, ◌≤◌}
use native.Mathlib.Omega.{arith}
use lib.ListN.{length}
use Rattle.std.proofs.lemmas.List.{nil_from_length}
use Rattle.meaning.specs.Interval.{end_of}
use Rattle.meaning.specs.Spans.{Span, Rising, reached_from, update}
use Rattle.kinds.specs.Kinds.{plain, stretch}
use Rattle.kinds.specs.declared.plain.Plain.{Plain}
use Rattle.kinds.specs.declared.stretch.Stretch.{Stretch}
use Rattle.rules.specs.Rows.{rule_of, kept_by, fed_by, taken}
use Rattle.rules.specs.Stretches.{spans_of}
use Rattle.rules.specs.declared.numbers.Numbers.{Numbers}
use Rattle.spans.specs.declared.stretch.Held.{Held}
use Rattle.spans.specs.declared.stretch.Updated.{Updated}
use Rattle.spans.specs.Layout.{places_of, spans_held, packed, words_of, laid_from}
use Rattle.spans.specs.Stretch.{first_left, UpdatedTo}
use Rattle.spans.proofs.RoundLaws.{places_double}
use Rattle.spans.proofs.UpdateLaws.{laid_ring, update-placed, update-laid, update-told}
use Rattle.monitor.specs.declared.event.Arrival.{Arrival}
use Rattle.row_list.specs.Truths.{truth_at}
use Rattle.monitor.specs.Event.{truth_by}
use Rattle.monitor.specs.Core.{spans_in, RowReady, RowJudged}

-- A truth that is the one asked for is taken as it is, or its opposite.
pub same-taken : (straight value : Bool) → beq value straight ≡ taken not straight value
same-taken true true = refl
same-taken true false = refl
same-taken false true = refl
same-taken false false = refl

module _ (e : Arrival) {words : List ℕ} {n : Numbers} {held : Held} {truths : List ℕ} (ready : RowReady words n held e.time truths) where
  places : places_of (length words) ≡ spans_of n
  places = rw (ready.size, places_double) refl

  -- The spans of a row that owns a stretch are updated.
  module _ {columns : Stretch} (rule : rule_of n ≡ stretch columns) where
    abbrev keep : Bool
    keep = kept_by true (truth_at truths) n columns.keep

    abbrev feed : Bool
    feed = fed_by not (truth_at truths) n columns

    abbrev span : Span
    span = reached_from e.time n.a (end_of n.b)

    abbrev updated : List Span
    updated = update keep feed e.time span (spans_held words held)

    spans-are : spans_in words n held e.time truths ≡ updated
    spans-are = rw rule

    rises : Rising e.time updated
    rises = rw rule at ready.rises

    room : length updated ≤ places_of (length words)
    room = omega (arith, places, ready.room, ap length spans-are)

    pub stretch-judged : {after : List ℕ} {done : Updated} {truth : Bool}
        → UpdatedTo words held keep feed e.time span after done
        → truth ≡ taken not columns.inside done.covered
        → RowJudged words n held e truths after (record { truth = truth; held = done.held })
    stretch-judged given told =
        let laid = update-laid words held ready.laid keep feed e.time span room given in
        record {
          truth = rw (rule, told, update-told words held ready.laid keep feed e.time span room given rises);
          left =
              record {
                count = laid.counted ∙ ap length (sym spans-are);
                first = update-placed words held ready.laid keep feed e.time span room given ∙ rw (places, rule) refl;
                written = laid_ring laid ∙ rw (ready.size, rule) refl;
              };
        }

  -- A row without one holds no spans, and its stretch has no words.
  pub plain-judged : {said : Plain} {truth : Bool}
      → rule_of n ≡ plain said
      → ((spans : List Span) → truth ≡ truth_by e truths spans n (plain said))
      → RowJudged words n held e truths words (record { truth = truth; held = record { first = 0; count = 0 } })
  unfolding packed words_of first_left laid_from
  plain-judged rule told =
      let empty : length words ≡ 0 = ready.size ∙ rw rule refl in
      record {
        truth = rw rule (told (spans_in words n held e.time truths));
        left = record { count = rw rule refl; first = rw rule refl; written = rw rule (nil_from_length words empty) };
      }
