-- The code of a call after calls in place is that of the stream's reply, so the promise of the verdicts is read off it: the call is kept, a true event or a
-- heartbeat, or its time is over the limit, or it is below the clock.
use mathlib.Core.List.{List}
use mathlib.Core.Logic.{inl, inr, ⊎_elim}
use mathlib.Core.Path.{◌≡◌, refl, ap, ◌∙◌}
use native.Mathlib.Omega.{arith}
use Prim.Native.Nat.{ℕ, ◌≤◌, ◌<◌}
use Rattle.meaning.proofs.SpansLaws.{le_or_lt}
use Rattle.meaning.proofs.Tells.{tells_decided}
use Rattle.refusals.specs.Refusals.{refused}
use Rattle.refusals.specs.declared.refusal.Refusal.TheVariants.{Earlier, Late}
use Rattle.times.specs.Times.{time_limit}
use Rattle.soundness.specs.Setup.{Setup}
use Rattle.monitor.specs.Step.{Call, time_of, mask_of, verdict}
use Rattle.monitor.proofs.StepLaws.{verdict-fits}
use Rattle.promises.specs.Stream.{Starts, Keeps, Beats, clock, outcome}
use Rattle.promises.specs.Verdicts.{Answered, Meant}
use Rattle.promises.proofs.StreamLaws.{beats_told}
use Rattle.promises.proofs.Verdicts.{truths_are_meaning, verdict_is_meaning}
use Rattle.codes.specs.Code.{verdict_room, moved_code, code_of, refusal_code}
use Rattle.board.specs.Left.{Left}
use Rattle.board_promises.specs.Meaning.{CodeMeant, CodesTellTheMeaning}
use Rattle.board_promises.proofs.Starting.{start_is_the_streams}
use Rattle.board_promises.proofs.Calls.{calls_are_the_stream}

module _ (setup : Setup) (calls : List Call) (c : Call) (code : ℕ) where
  kept_meant : (number : ℕ)
      → code ≡ code_of (verdict number)
      → number < verdict_room
      → Keeps (clock calls) c
      → ¬ Beats c
      → Meant setup calls c number
      → CodeMeant setup calls c code
  kept_meant number is small keeps no-beat means =
      record {
        judged = (λ _. (keeps, no-beat), λ _. omega arith);
        moved = (λ told. absurd (omega arith), λ both. absurd (no-beat both.1));
        bits = λ _ k within. rw is (means.holding k within);
        others = λ _ k past. rw is (means.others k past);
        late = λ over. absurd (omega (arith, keeps.within));
        earlier = λ within below. absurd (omega (arith, keeps.risen));
        number = λ large. absurd (omega arith);
      }

  moved_meant : code ≡ moved_code → Keeps (clock calls) c → Beats c → CodeMeant setup calls c code
  moved_meant is keeps beat =
      record {
        judged = (λ small. absurd (omega arith), λ both. absurd (both.1 beat));
        moved = (λ told. (keeps, beat), λ both. is);
        bits = λ small. absurd (omega arith);
        others = λ small. absurd (omega arith);
        late = λ over. absurd (omega (arith, keeps.within));
        earlier = λ within below. absurd (omega (arith, keeps.risen));
        number = λ told. absurd (omega arith);
      }

  late_meant : time_limit < time_of (clock calls) c → code ≡ refusal_code (refused Late) → CodeMeant setup calls c code
  late_meant over is =
      record {
        judged = (λ small. absurd (omega arith), λ both. absurd (omega (arith, both.0.within)));
        moved = (λ told. absurd (omega arith), λ both. absurd (omega (arith, both.0.within)));
        bits = λ small. absurd (omega arith);
        others = λ small. absurd (omega arith);
        late = λ _. is;
        earlier = λ within below. absurd (omega arith);
        number = λ large. inl (omega arith);
      }

  earlier_meant : time_of (clock calls) c ≤ time_limit
      → time_of (clock calls) c < clock calls
      → code ≡ refusal_code (refused Earlier)
      → CodeMeant setup calls c code
  earlier_meant within below is =
      record {
        judged = (λ small. absurd (omega arith), λ both. absurd (omega (arith, both.0.risen)));
        moved = (λ told. absurd (omega arith), λ both. absurd (omega (arith, both.0.risen)));
        bits = λ small. absurd (omega arith);
        others = λ small. absurd (omega arith);
        late = λ over. absurd (omega arith);
        earlier = λ _ _. is;
        number = λ large. inr (omega arith);
      }

  reply_meant : (lent : List ℕ) → Starts setup lent → code ≡ code_of (outcome setup lent calls c).reply → CodeMeant setup calls c code
  reply_meant lent starts is =
      let answered : Answered setup lent calls c = (truths_are_meaning setup lent starts calls).answered c in
      ⊎_elim
      (λ within.
      ⊎_elim
      (λ risen.
      let keeps : Keeps (clock calls) c = record { within = within; risen = risen } in
      ⊎_elim
      (λ beat. moved_meant (is ∙ ap code_of (answered.moved keeps beat)) keeps beat)
      (λ no-beat.
      let told = answered.judged keeps no-beat in
      kept_meant told.0 (is ∙ ap code_of told.1) (verdict-fits setup _ _ c told.0 told.1) keeps no-beat
      (verdict_is_meaning setup lent starts calls c told.0 told.1))
      (tells_decided (beats_told (mask_of c))))
      (λ below. earlier_meant within below (is ∙ ap code_of (answered.earlier within below)))
      (le_or_lt (clock calls) (time_of (clock calls) c)))
      (λ over. late_meant over (is ∙ ap code_of (answered.late over)))
      (le_or_lt (time_of (clock calls) c) time_limit)

pub codes_tell_the_meaning : CodesTellTheMeaning
codes_tell_the_meaning setup lent store found calls codes between stand c code kept words start made last =
    let starts : Starts setup lent = (start_is_the_streams setup lent 0 found store start).good.0 refl in
    let so_far = calls_are_the_stream.from_start setup lent store found calls codes between stand start made in
    let is : code ≡ code_of (outcome setup lent calls c).reply =
    ap (λ (l : Left). l.code) last ∙ rw (so_far.kept_is, so_far.words_are) in
    reply_meant setup calls c code lent starts is
