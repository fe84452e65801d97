-- Of the list a call uses the tests and the verdict's bits alone, so two lists that serve the table leave the same.
use mathlib.Core.Bool.{Bool, true, false, cond}
use mathlib.Core.List.{List, [], ◌∷◌}
use mathlib.Core.Logic.{⊎_elim}
use mathlib.Core.Option.{Option, none, some}
use mathlib.Core.Path.{◌≡◌, refl, sym}
use Prim.Native.Nat.{ℕ}
use native.Mathlib.Omega.{arith}
use lib.ListN.{length}
use Rattle.meaning.specs.Heartbeat.{heartbeat?}
use Rattle.refusals.specs.Refusals.{Refused}
use Rattle.soundness.specs.declared.record.Record.{Record}
use Rattle.soundness.specs.Setup.{setup_of}
use Rattle.soundness.specs.Ready.{ready_of}
use Rattle.monitor.specs.Start.{start_of}
use Rattle.monitor.specs.Step.{Call, mask_of, refusal_of, verdict, clock_moved, moment_of, step_of}
use Rattle.promises.specs.Stream.{State, next, after, started}
use Rattle.promises.specs.Conditions.{ListServes}
use Rattle.promises.specs.OtherList.{SameButForBits, OtherList}
use Rattle.promises.proofs.TableRefusals.{table-refuses, table_decided, listed-passes}
use Rattle.promises.proofs.Refusing.{unrefused}
use Rattle.promises.proofs.StartRight.{start_ready}

-- A heartbeat moves the clock whatever the verdict would be.
still_moved : (beat : Bool) (one another : ℕ) → cond beat clock_moved (verdict one) ≡ clock_moved → cond beat clock_moved (verdict another) ≡ clock_moved
still_moved true one another moved = refl
still_moved false one another moved = let clash : ◌≡◌ {A = ℕ} 0 1 = cc in absurd (omega arith)

module _ (table list other : List ℕ) (listed : ListServes table list) (other-listed : ListServes table other) where
  same_ready : (size : ℕ) → ready_of (setup_of table list) size ≡ ready_of (setup_of table other) size
  unfolding ready_of
  same_ready size =
      ⊎_elim
      (λ right.
      rw (listed-passes (setup_of table list) size right listed, listed-passes (setup_of table other) size right other-listed))
      (λ wrong. rw (table-refuses table wrong.0 wrong.1))
      (table_decided table)

  module _ (store : List ℕ) (found : Record) (c : Call) where
    same_refusal : refusal_of (setup_of table list) store found c ≡ refusal_of (setup_of table other) store found c
    unfolding refusal_of
    same_refusal = rw (same_ready (length store))

    same_by : (o : Option Refused)
        → refusal_of (setup_of table list) store found c ≡ o
        → refusal_of (setup_of table other) store found c ≡ o
        → SameButForBits (step_of (setup_of table list) store found c) (step_of (setup_of table other) store found c)
    unfolding step_of
    same_by none e e' =
        record {
          left = rw (e, e');
          store = rw (e, e');
          refused = λ fault said. absurd (unrefused (setup_of table list) (moment_of (setup_of table list) store found c) fault (rw e at said));
          moved = λ said. rw e' (still_moved (heartbeat? (mask_of c)) _ _ (rw e at said));
        }
    same_by (some fault) e e' =
        record { left = rw (e, e'); store = rw (e, e'); refused = λ first said. rw e' (rw e at said); moved = λ said. rw e' (rw e at said) }

    call_same : SameButForBits (step_of (setup_of table list) store found c) (step_of (setup_of table other) store found c)
    call_same = same_by (refusal_of (setup_of table list) store found c) refl (sym same_refusal)

  next_same : (s : State) (c : Call) → next (setup_of table list) s c ≡ next (setup_of table other) s c
  next_same s c = rw ((call_same s.store s.found c).left, (call_same s.store s.found c).store)

  after_same : (s : State) (calls : List Call) → after (setup_of table list) s calls ≡ after (setup_of table other) s calls
  unfolding after
  after_same s [] = refl
  after_same s (c ∷ calls) = rw (next_same s c) (after_same (next (setup_of table other) s c) calls)

  start_same : (store : List ℕ) → start_of (setup_of table list) store ≡ start_of (setup_of table other) store
  unfolding start_of
  start_same store = rw (same_ready (length store))

pub other-list : OtherList
other-list =
    record {
      call = λ table list other store found c listed other-listed. call_same table list other listed other-listed store found c;
      stream = λ table list other store other-listed starts calls.
          let listed = (start_ready (setup_of table list) store starts).listed in
          let begun = start_same table list other listed other-listed store in (
            rw (← begun) starts,
            rw (← begun) (after_same table list other listed other-listed (started (setup_of table list) store) calls),
          );
    }
