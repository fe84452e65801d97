-- Line times are true times: good lines make frames alone, so this is `frame_times_are_true` of them. And no frame is refused 5.
use mathlib.Core.List.{List, [], ◌∷◌, ◌++◌}
use mathlib.Core.Path.{◌≡◌, refl, ap, ◌∙◌}
use Prim.Native.Nat.{ℕ}
use native.Mathlib.Omega.{arith}
use Rattle.meaning.specs.FrameTime.{frame_time}
use Rattle.refusals.specs.Refusals.{Refused, refused, number_of}
use Rattle.refusals.specs.declared.refusal.Refusal.TheVariants.{Earlier}
use Rattle.soundness.specs.declared.record.Record.{Record}
use Rattle.soundness.specs.Setup.{Setup}
use Rattle.monitor.specs.Step.{Call, event, frame, frame_of}
use Rattle.promises.specs.Stream.{State, next, started}
use Rattle.promises.specs.Refusing as Refusing
use Rattle.promises.specs.Refusing.{TableRefused, StartRefused, CallRefused}
use Rattle.promises.specs.TextRead.{lines_read, good_lines, counter_in, frames_of, counters_of}
use Rattle.promises.specs.LineTimes.{replies, record_times, LineTimesAreTrue, TextTimesAreTrue, FramesNeverEarlier}
use Rattle.promises.specs.FrameTimes.{frame_counters, of_frames, FramesTimed}
use Rattle.promises.proofs.Refusing.{refused_exactly}
use Rattle.promises.proofs.FrameTimes.{frame_times_are_true}

-- Good lines make frames and no event, so the lists of the frames among them are those of all.
no_event : (lines : List (List ℕ)) (before later : List Call) (time mask : ℕ) → ¬ (frames_of lines ≡ before ++ (event time mask ∷ later))
no_event [] [] later time mask same = let clash : ◌≡◌ {A = ℕ} 0 1 = cc in omega arith
no_event [] (c ∷ before) later time mask same = let clash : ◌≡◌ {A = ℕ} 0 1 = cc in omega arith
no_event (given ∷ lines) [] later time mask same = let clash : ◌≡◌ {A = ℕ} 0 1 = cc in omega arith
no_event (given ∷ lines) (c ∷ before) later time mask same = no_event lines before later time mask (cc)

counters_all : (lines : List (List ℕ)) → frame_counters (frames_of lines) ≡ counters_of lines
unfolding frame_counters
counters_all [] = refl
counters_all (given ∷ lines) = ap (λ (counters : List ℕ). counter_in given ∷ counters) (counters_all lines)

module _ (setup : Setup) where
  replies-all : (s : State) (lines : List (List ℕ)) → of_frames (frames_of lines) (replies setup s (frames_of lines)) ≡ replies setup s (frames_of lines)
  unfolding of_frames replies
  replies-all s [] = refl
  replies-all s (given ∷ lines) = rw (replies-all (next setup s (frame_of given)) lines)

  times-all : (s : State) (lines : List (List ℕ)) → of_frames (frames_of lines) (record_times setup s (frames_of lines)) ≡ record_times setup s (frames_of lines)
  unfolding of_frames record_times
  times-all s [] = refl
  times-all s (given ∷ lines) = rw (times-all (next setup s (frame_of given)) lines)

pub line_times_are_true : LineTimesAreTrue
line_times_are_true setup store lines times starts same =
    let timed : FramesTimed setup store (frames_of lines) times =
    frame_times_are_true setup store (frames_of lines) times starts
    (λ before later time mask e keeps. absurd (no_event lines before later time mask e))
    (counters_all lines ∙ same)
    in
    let replied = replies-all setup (started setup store) lines in
    let shown = times-all setup (started setup store) lines in
    record { all = rw (replied, shown) at timed.all; accepted_ones = rw (replied, shown) at timed.accepted_ones }

pub text_times_are_true : TextTimesAreTrue
text_times_are_true setup store text times = line_times_are_true setup store (good_lines (lines_read text)) times

-- None of the refusals tried before 5 has its number, and the time of a frame is not below the last one.
table_not_five : {table : List ℕ} {fault : Refused} → TableRefused table fault → ¬ (fault.number ≡ number_of Earlier)
table_not_five (Refusing.one wrong) is-five = omega arith
table_not_five (Refusing.two lengths r lower rows wrong) is-five = omega arith
table_not_five (Refusing.three lengths r lower rows right wrong) is-five = omega arith

start_not_five : {setup : Setup} {size : ℕ} {fault : Refused} → StartRefused setup size fault → ¬ (fault.number ≡ number_of Earlier)
start_not_five (Refusing.table wrong) is-five = table_not_five wrong is-five
start_not_five (Refusing.ten right wrong) is-five = omega arith
start_not_five (Refusing.eleven right listed r lower reached dead) is-five = omega arith
start_not_five (Refusing.four right listed short) is-five = omega arith

frame_not_five : {setup : Setup} {store : List ℕ} {found : Record} {counter mask : ℕ} {fault : Refused}
    → CallRefused setup store found (frame counter mask) fault
    → ¬ (fault.number ≡ number_of Earlier)
unfolding frame_time
frame_not_five (Refusing.start wrong) is-five = start_not_five wrong is-five
frame_not_five (Refusing.seven ready wrong) is-five = omega arith
frame_not_five (Refusing.six ready right late) is-five = omega arith
frame_not_five (Refusing.five ready right early below) is-five = omega arith

pub frames_never_earlier : FramesNeverEarlier
frames_never_earlier setup store found counter mask e =
    frame_not_five ((refused_exactly.call setup store found (frame counter mask) (refused Earlier)).0 e) refl
