-- What a refused call of C leaves, from the exact refusals and from `refused_call_stays`. A damaged record is not right, so it is refused 7.
use mathlib.Core.List.{List}
use mathlib.Core.Logic.{⊎_elim}
use mathlib.Core.Path.{◌≡◌, ap, ◌∙◌}
use native.Mathlib.Omega.{arith}
use Prim.Native.Nat.{ℕ}
use Rattle.refusals.specs.Refusals.{Refused, refused}
use Rattle.refusals.specs.declared.refusal.Refusal.TheVariants.{Unsound}
use Rattle.soundness.specs.declared.record.Record.{Record}
use Rattle.soundness.specs.Setup.{Setup}
use Rattle.monitor.specs.Step.{Call, Reply, step_of}
use Rattle.monitor.proofs.StepLaws.{verdict-fits}
use Rattle.promises.specs.Conditions.{RecordRight}
use Rattle.promises.specs.Refusing.{CallRefused, seven}
use Rattle.promises.proofs.Refusing.{refused_exactly}
use Rattle.codes.specs.Code.{code_of, refusal_code, IsRefusal}
use Rattle.board.specs.Left.{Left, CallLeaves}
use Rattle.codes.proofs.CodeLaws.{refusal-only}
use Rattle.board.proofs.RefusedLaws.{refused_call_stays}
use Rattle.board_promises.specs.Refusing.{RefusedCallLeavesAll, Damaged, DamagedIsRefused}
use Rattle.board_promises.proofs.NumberLaws.{call-told}

module _ (setup : Setup) (store : List ℕ) (found : Record) (c : Call) (code : ℕ) (kept : Record) (words : List ℕ)
    (made : CallLeaves setup store found c code kept words) where
  abbrev answer : Reply
  answer = (step_of setup store found c).reply

  code_is : code ≡ code_of answer
  code_is = ap (λ (l : Left). l.code) made

  refuses : (fault : Refused) → CallRefused setup store found c fault → (code ≡ refusal_code fault) × IsRefusal code
  refuses fault wrong =
      let is : code ≡ refusal_code fault = code_is ∙ ap code_of ((refused_exactly.call setup store found c fault).1 wrong) in
      (is, rw is (call-told wrong))

  only : IsRefusal code → (fault : Refused) × CallRefused setup store found c fault × (code ≡ refusal_code fault)
  only told =
      let (fault, said) = refusal-only answer (verdict-fits setup store found c) (rw code_is at told) in
      (fault, (refused_exactly.call setup store found c fault).0 said, code_is ∙ ap code_of said)

  stays : IsRefusal code → (kept ≡ found) × (words ≡ store)
  stays told =
      let stayed = refused_call_stays setup store found c (rw code_is at told) in
      (ap (λ (l : Left). l.kept) made ∙ stayed.0, ap (λ (l : Left). l.store) made ∙ stayed.1)

pub refused_call_leaves_all : RefusedCallLeavesAll
refused_call_leaves_all setup store found c code kept words made =
    record {
      refuses = refuses setup store found c code kept words made;
      only = only setup store found c code kept words made;
      stays = stays setup store found c code kept words made;
    }

damaged_wrong : (table store : List ℕ) (found : Record) → Damaged found → ¬ RecordRight table store found
damaged_wrong table store found damaged right =
    ⊎_elim
    (λ seen. omega (arith, right.seen_byte))
    (λ truth. let byte = right.truth-bytes truth.0 truth.1 in omega (arith, truth.2))
    damaged

pub damaged_is_refused : DamagedIsRefused
damaged_is_refused setup store found c code kept words ready damaged made =
    let told = refuses setup store found c code kept words made (refused Unsound) (seven ready (damaged_wrong setup.table store found damaged)) in
    let stayed = stays setup store found c code kept words made told.1 in
    (told.0, stayed.0, stayed.1)
