-- A start for C is the stream's: table and store are ready, or refused by number; in each case what it answers and leaves is read off.
use mathlib.Core.List.{List}
use mathlib.Core.Logic.{⊎_elim}
use mathlib.Core.Path.{◌≡◌, ap, ◌∙◌}
use native.Mathlib.Omega.{arith}
use Prim.Native.Nat.{ℕ, ◌≤◌}
use lib.ListN.{length}
use Rattle.refusals.specs.Refusals.{Refused}
use Rattle.rules.specs.Rows.{rows_of}
use Rattle.rules.specs.Stretches.{need_of}
use Rattle.rules.specs.Table.{passed, refused_by}
use Rattle.soundness.specs.declared.record.Record.{Record}
use Rattle.soundness.specs.Setup.{Setup}
use Rattle.monitor.specs.Start.{begin, start_of}
use Rattle.promises.specs.Conditions.{Ready}
use Rattle.promises.specs.Refusing.{StartRefused}
use Rattle.promises.proofs.TableRefusals.{start-refuses, start-passes, start_decided}
use Rattle.codes.specs.Code.{verdict_room, refusal_code}
use Rattle.board.specs.Left.{Left, StartLeaves}
use Rattle.board_promises.specs.Starting.{StartTold, StartIsTheStreams}
use Rattle.board_promises.proofs.NumberLaws.{start_above}

module _ (setup : Setup) (store : List ℕ) (code : ℕ) (kept : Record) (words : List ℕ) (made : StartLeaves setup store code kept words) where
  ready_told : Ready setup (length store) → StartTold setup store code kept words
  unfolding start_of
  ready_told ready =
      let passes : start_of setup store ≡ begin store (passed (rows_of setup.table) (need_of setup.table)) = rw (start-passes setup (length store) ready) in
      let code_is : code ≡ 0 = ap (λ (l : Left). l.code) made ∙ rw passes in
      record {
        good = (λ zero. rw passes, λ starts. code_is);
        begins = λ zero. (ap (λ (l : Left). l.kept) made, ap (λ (l : Left). l.store) made);
        zeros = λ zero. (ap (λ (l : Left). l.kept) made ∙ rw passes, ap (λ (l : Left). l.store) made ∙ rw passes);
        refused = λ other. absurd (other code_is);
        stays = λ other. absurd (other code_is);
      }

  refused-told : (fault : Refused) → StartRefused setup (length store) fault → StartTold setup store code kept words
  unfolding start_of
  refused-told fault wrong =
      let refuses : start_of setup store ≡ begin store (refused_by fault) = rw (start-refuses setup (length store) fault wrong) in
      let code_is : code ≡ refusal_code fault = ap (λ (l : Left). l.code) made ∙ rw refuses in
      let above : verdict_room ≤ refusal_code fault = start_above wrong in
      let not_good : ¬ (code ≡ 0) = λ zero. omega arith in
      record {
        good = (λ zero. absurd (not_good zero), λ starts. let clash : ◌≡◌ {A = ℕ} 0 1 = cc in absurd (omega arith));
        begins = λ zero. absurd (not_good zero);
        zeros = λ zero. absurd (not_good zero);
        refused = λ other. (fault, wrong, code_is);
        stays = λ other. (ap (λ (l : Left). l.kept) made ∙ rw refuses, ap (λ (l : Left). l.store) made ∙ rw refuses);
      }

pub start_is_the_streams : StartIsTheStreams
start_is_the_streams setup store code kept words made =
    ⊎_elim
    (ready_told setup store code kept words made)
    (λ wrong. refused-told setup store code kept words made wrong.0 wrong.1)
    (start_decided setup (length store))
