-- The whole case of document 01 ("The program's text"), computed from the definition.
use mathlib.Core.Path.{refl}
use Rattle.text.specs.Transcript.{empty_store, transcript, rules_from, setup_then, frames_from}
use Rattle.lines.specs.Lines.{lines_going_on}
use Rattle.text.specs.Replies.{reply_line}
use Rattle.lines.specs.Digits.{is_digit, digit_value, digits_at, hex_at, digit_byte, digits}
use Rattle.lines.specs.Line.{right_at, sum_at, line_at}
use Rattle.lines.specs.ListLine.{list_marked}
use Rattle.row_list.specs.RowList.{rises_within, list_passes}
use Rattle.row_list.specs.Verdict.{bits_of, verdict_number}
use Rattle.kinds.specs.Kinds.{kind_at}
use Rattle.rules.specs.Table.{check_of, length_passes, row_passes, limits_pass, fault_of, first_fault}
use Rattle.rules.specs.Rows.{numbers_at}
use Rattle.rules.specs.Stretches.{offset}
use Rattle.rules.specs.RowFormula.{below}
use Rattle.dead_rows.specs.DeadRows.{reaches, reached?, lowest_not}
use Rattle.meaning.specs.Interval.{end_of}
use Rattle.meaning.specs.Figure.{figure}
use Rattle.meaning.specs.FrameTime.{frame_time}
use Rattle.meaning.specs.Spans.{clip, join, update}
use Rattle.spans.specs.Layout.{end_at, places_of, place_at, spans_from, round_from, laid_from, words_of, packed, zeros?, placed?}
use Rattle.spans.specs.Stretch.{covered, first_left}
use Rattle.sound_spans.specs.StretchSound.{sound_span?, sound_from?, sound_endless?, sound_spans?, sound_stretch?}
use Rattle.soundness.specs.Record.{stretch_at, nothing_seen}
use Rattle.soundness.specs.Soundness.{every, sound_row?, zero_past?, sound?}
use Rattle.soundness.specs.Ready.{ready_of}
use Rattle.monitor.specs.Start.{start_of}
use Rattle.monitor.specs.Event.{spans_after, first_after, truth_of, truths_after, entries_with, words_done, store_with, record_after}
use Rattle.monitor.specs.Step.{refusal_of, step_of}
use Rattle.text_promises.specs.WholeCase.{WholeCase}

pub whole_case : WholeCase
unfolding empty_store transcript rules_from setup_then frames_from lines_going_on reply_line is_digit digit_value digits_at hex_at digit_byte digits right_at sum_at line_at list_marked rises_within list_passes bits_of verdict_number check_of length_passes row_passes limits_pass fault_of first_fault kind_at numbers_at offset below reaches reached? lowest_not end_of figure frame_time clip join update end_at places_of place_at spans_from round_from laid_from words_of packed covered first_left sound_span? sound_from? sound_endless? sound_spans? zeros? placed? sound_stretch? stretch_at nothing_seen every sound_row? zero_past? sound? ready_of start_of spans_after first_after truth_of truths_after entries_with words_done store_with record_after refusal_of step_of
whole_case = refl
