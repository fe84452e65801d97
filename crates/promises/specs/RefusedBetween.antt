-- Refused calls between the calls of a stream. A stream (`Stream`) has one table and one list and lends the whole store, so only 5 and 6 occur in it; a call
-- with another table or list, or with too few words lent, may be refused 1 to 4, 10, 11 or 7, and takes nothing from the monitor. For every list of attempts,
-- from any state: where those that are accepted have one setup, however many words each was lent, what they are answered, the record and every word are
-- those of the stream of the accepted calls. Of accepted calls with another list see `OtherList`.
-- So demands 2 and 3 speak of them. From `started setup store`, after a good start, that stream is `state setup store calls` with `calls` the accepted
-- ones: `SpansAreTheRuns` speaks of its record and words, which are those here (`same_state`), and `VerdictIsMeaning` of the verdict on each further
-- attempt (`next`).
use Rattle.std.specs.Prelude.{List, map, ◌≡◌, T}
use Rattle.soundness.specs.Setup.{Setup}
use Rattle.monitor.specs.Step.{Call}
use Rattle.promises.specs.Stream.{State, call, after, accepted?}
use Rattle.promises.specs.LeftOut.{answers, end, others, other_answers}
use Rattle.promises.specs.AsIfNotMade.{Attempt, attempt, attempts}
use Rattle.promises.specs.LineTimes.{replies, Every}

-- The calls of those attempts that are accepted, in their order.
abbrev pub accepted_calls : State → List Attempt → List Call
accepted_calls s made = map (λ (t : Attempt). t.made) (others attempts s made)

-- Each accepted attempt is made with this table and this list; the refused ones with any.
abbrev pub WithSetup : Setup → Attempt → Type 0
WithSetup setup t = t.setup ≡ setup

abbrev pub AcceptedWith : Setup → State → List Attempt → Type 0
AcceptedWith setup s made = Every (WithSetup setup) (others attempts s made)

pub record GoesOnAsStream (setup : Setup) (s : State) (made : List Attempt) : Type 0 where
  pub same_answers : other_answers attempts (answers attempts s made) ≡ replies setup s (accepted_calls s made)
  pub same_state : end attempts s made ≡ after setup s (accepted_calls s made)
  -- A further attempt that is accepted is answered as the next call of the stream.
  pub next : (t : Attempt)
      → WithSetup setup t
      → T (accepted? (attempt (end attempts s made) t).reply)
      → (call setup (after setup s (accepted_calls s made)) t.made).reply ≡ (attempt (end attempts s made) t).reply

abbrev pub RefusedBetween : Type 0
RefusedBetween = (setup : Setup) (s : State) (made : List Attempt) → AcceptedWith setup s made → GoesOnAsStream setup s made
