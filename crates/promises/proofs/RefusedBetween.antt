-- An accepted attempt is answered and leaves what the call of the stream, which is lent every word, is answered and leaves: it was lent the need, and
-- no other word matters or is written (`spare-words`). A refused one leaves the state (`refused-leaves`). By induction over the attempts.
use mathlib.Core.Bool.{Bool, true, false}
use mathlib.Core.List.{List, [], ◌∷◌, ◌++◌, append_assoc}
use mathlib.Core.Path.{◌≡◌, refl, sym, ap, subst, ◌∙◌}
use Prim.Native.Nat.{ℕ, ◌≤◌}
use native.Mathlib.Omega.{arith}
use lib.Dec.{T}
use lib.ListN.{length, take, drop, length-take, take-append-drop}
use lib.Seq.{take-take, drop-append-le}
use Rattle.rules.specs.Stretches.{need_of}
use Rattle.soundness.specs.Setup.{Setup}
use Rattle.monitor.specs.Step.{Reply, step_of, refusal_of, moment_of}
use Rattle.promises.specs.Stream.{State, call, next, after, accepted?}
use Rattle.promises.specs.LeftOut.{answers, end, others, other_answers}
use Rattle.promises.specs.AsIfNotMade.{Attempt, attempt, leaves, attempts}
use Rattle.promises.specs.SpareWords.{SameNeeded, Alike}
use Rattle.promises.specs.LineTimes.{replies}
use Rattle.promises.specs.RefusedBetween.{accepted_calls, WithSetup, AcceptedWith, RefusedBetween}
use Rattle.promises.proofs.Refusing.{Accepted, accepted_of}
use Rattle.promises.proofs.SoundIsKept.{accepted_passes}
use Rattle.promises.proofs.AsIfNotMade.{refused-leaves}
use Rattle.promises.proofs.SpareWords.{spare-words}

-- Words that were lent, with the rest of the store put back after them: where the words from a number on are as they were, and those before are
-- those of another list that has the store's from there on, it is that list.
put_back : (n size : ℕ) (store after whole : List ℕ)
    → n ≤ length (take size store)
    → take n after ≡ take n whole
    → drop n after ≡ drop n (take size store)
    → drop n whole ≡ drop n store
    → after ++ drop size store ≡ whole
put_back n size store after whole within first lent spare =
    ap (λ (words : List ℕ). words ++ drop size store) (sym (take-append-drop n after))
    ∙ rw (first, lent, append_assoc, ← drop-append-le n (take size store) (drop size store) within, take-append-drop size store, ← spare)
    (take-append-drop n whole)

-- One accepted attempt with the stream's setup.
module _ (setup : Setup) (s : State) (t : Attempt) (with-setup : WithSetup setup t) (yes : T (accepted? (attempt s t).reply)) where
  abbrev lent : List ℕ
  lent = take t.size s.store

  room : need_of setup.table ≤ length lent
  unfolding step_of
  room =
      let m = moment_of setup lent s.found t.made in
      let accepted : Accepted setup lent s.found t.made =
      accepted_of setup lent s.found t.made
      (accepted_passes setup lent s.found m (refusal_of setup lent s.found t.made) (rw with-setup at yes))
      in
      accepted.ready.room

  same_needed : SameNeeded setup.table lent s.store
  same_needed =
      let size = length-take t.size s.store in
      record {
        room = room;
        other-room = omega (arith, room);
        words = take-take (need_of setup.table) t.size s.store (omega (arith, room));
      }

  alike : Alike setup lent s.store s.found t.made
  alike = spare-words.call setup lent s.store s.found t.made same_needed

  all_alike : Alike setup s.store s.store s.found t.made
  all_alike =
      spare-words.call setup s.store s.store s.found t.made
      (record { room = same_needed.other-room; other-room = same_needed.other-room; words = refl })

  accepted_reply_lem : (call setup s t.made).reply ≡ (attempt s t).reply
  accepted_reply_lem = rw with-setup (sym alike.reply)

  accepted_leaves : leaves s t ≡ next setup s t.made
  accepted_leaves =
      rw (
        with-setup,
        alike.left,
        put_back (need_of setup.table) t.size s.store (step_of setup lent s.found t.made).store (call setup s t.made).store
            room alike.needed alike.spare all_alike.spare,
      )

module _ (setup : Setup) where
  abbrev Follows : State → List Attempt → Type 0
  Follows s made =
      (other_answers attempts (answers attempts s made) ≡ replies setup s (accepted_calls s made))
      × (end attempts s made ≡ after setup s (accepted_calls s made))

  -- One attempt more at the front, where so it is of the others: a refused one, then an accepted one.
  refused-first : (s : State) (t : Attempt) (more : List Attempt)
      → accepted? (attempt s t).reply ≡ false
      → ((from : State) → AcceptedWith setup from more → Follows from more)
      → AcceptedWith setup s (t ∷ more)
      → Follows s (t ∷ more)
  unfolding answers end others other_answers
  refused-first s t more e on with-setup =
      let left : leaves s t ≡ s = refused-leaves s t e in
      let rest : Follows s more = on s (rw (e, left) at with-setup) in
      (rw (e, left) rest.0, rw (e, left) rest.1)

  accepted_first : (s : State) (t : Attempt) (more : List Attempt)
      → accepted? (attempt s t).reply ≡ true
      → ((from : State) → AcceptedWith setup from more → Follows from more)
      → AcceptedWith setup s (t ∷ more)
      → Follows s (t ∷ more)
  unfolding answers end others other_answers replies after
  accepted_first s t more e on with-setup =
      let here : WithSetup setup t × AcceptedWith setup (leaves s t) more = rw e at with-setup in
      let answered = accepted_reply_lem setup s t here.0 (rw e tt) in
      let left = accepted_leaves setup s t here.0 (rw e tt) in
      let rest : Follows (leaves s t) more = on (leaves s t) here.1 in
      let ends : end attempts (leaves s t) more ≡ after setup (next setup s t.made) (accepted_calls (leaves s t) more) = rw (← left) rest.1 in
      (rw (e, answered, ← left) (ap (λ (given : List Reply). (attempt s t).reply ∷ given) rest.0), rw e ends)

  attempts_follow : (s : State) (made : List Attempt) → AcceptedWith setup s made → Follows s made
  unfolding answers end others other_answers replies after
  attempts_follow s [] with-setup = (refl, refl)
  attempts_follow s (t ∷ more) with-setup = go (accepted? (attempt s t).reply) refl (λ from. attempts_follow from more)
    where
      go : (yes : Bool)
          → accepted? (attempt s t).reply ≡ yes
          → ((from : State) → AcceptedWith setup from more → Follows from more)
          → Follows s (t ∷ more)
      go true e on = accepted_first s t more e on with-setup
      go false e on = refused-first s t more e on with-setup

pub refused_between : RefusedBetween
refused_between setup s made with-setup =
    let follow = attempts_follow setup s made with-setup in
    record {
      same_answers = follow.0;
      same_state = follow.1;
      next = λ t is-setup yes.
          subst (λ (from : State). (call setup from t.made).reply ≡ (attempt (end attempts s made) t).reply) follow.1
          (accepted_reply_lem setup (end attempts s made) t is-setup yes);
    }
