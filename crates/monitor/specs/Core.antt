-- What the private functions of src/event and src/heartbeat ask and leave. No public contract cites this file.
use Rattle.std.specs.Prelude.{List, ◌≡◌, ℕ, ◌≤◌, length}
use Rattle.std.proofs.Math.Option.{none}
use Rattle.meaning.specs.Spans.{Span, Rising}
use Rattle.rules.specs.Rows.{rule_of}
use Rattle.rules.specs.Stretches.{spans_of, width}
use Rattle.rules.specs.declared.numbers.Numbers.{Numbers}
use Rattle.spans.specs.declared.stretch.Held.{Held}
use Rattle.spans.specs.Layout.{spans_held, ring_of, Packed}
use Rattle.spans.specs.Stretch.{first_left}
use Rattle.times.specs.Times.{time_limit}
use Rattle.soundness.specs.declared.record.Record.{Record}
use Rattle.soundness.specs.Setup.{Setup}
use Rattle.monitor.specs.declared.event.Arrival.{Arrival}
use Rattle.monitor.specs.declared.event.Judgement.{Judgement}
use Rattle.monitor.specs.Event.{Moment, spans_by, spans_left, truth_by, record_after, store_after}
use Rattle.monitor.specs.Step.{event, refusal_of}

-- Nothing refuses an event at the time, whatever its mask.
pub record Unrefused (setup : Setup) (store : List ℕ) (found : Record) (time : ℕ) : Type 0 where
  pub passes : (mask : ℕ) → refusal_of setup store found (event time mask) ≡ none

-- The record and the store are left as after a moment.
pub record Left (m : Moment) (left : Record) (store : List ℕ) : Type 0 where
  pub left_is : left ≡ record_after m
  pub store_is : store ≡ store_after m

-- The spans of a row after an event, by the words of its stretch; and its first place then.
abbrev pub spans_in : (words : List ℕ) → Numbers → Held → (time : ℕ) (truths : List ℕ) → List Span
spans_in words n held time truths = spans_by time truths (spans_held words held) n (rule_of n)

abbrev pub first_in : (words : List ℕ) → Numbers → Held → (time : ℕ) (truths : List ℕ) → ℕ
first_in words n held time truths = first_left (spans_of n) held (length (spans_left time truths (spans_held words held) n (rule_of n)))

-- A row can be judged: its stretch has its words and lays out its spans, and those after the event rise from its time and have room.
pub record RowReady (words : List ℕ) (n : Numbers) (held : Held) (time : ℕ) (truths : List ℕ) : Type 0 where
  pub early : time ≤ time_limit
  pub size : length words ≡ width n
  pub laid : Packed words held
  pub rises : Rising time (spans_in words n held time truths)
  pub room : length (spans_in words n held time truths) ≤ spans_of n

-- What is held of its spans then, and their words; and that it was judged: its truth beside them.
pub record RowLeft (words : List ℕ) (n : Numbers) (held : Held) (time : ℕ) (truths after : List ℕ) (left : Held) : Type 0 where
  pub count : left.count ≡ length (spans_in words n held time truths)
  pub first : left.first ≡ first_in words n held time truths
  pub written : after ≡ ring_of (width n) left.first (spans_in words n held time truths)

pub record RowJudged (words : List ℕ) (n : Numbers) (held : Held) (e : Arrival) (truths after : List ℕ) (judged : Judgement) : Type 0 where
  pub truth : judged.truth ≡ truth_by e truths (spans_in words n held e.time truths) n (rule_of n)
  pub left : RowLeft words n held e.time truths after judged.held
