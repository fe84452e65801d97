-- Demand 2, read off the invariant: before the call for what is answered, after it for what the truths mean.
use mathlib.Core.Bool.{false}
use mathlib.Core.List.{List}
use mathlib.Core.Logic.{◌↔◌}
use mathlib.Core.Path.{◌≡◌, sym, subst}
use Prim.Native.Nat.{ℕ, ◌≤◌, ◌<◌}
use lib.Dec.{T}
use lib.ListN.{length, get_or}
use Rattle.meaning.specs.History.{BitSet}
use Rattle.meaning.specs.Computed.{bit_set?}
use Rattle.meaning.specs.Formula.{Holds}
use Rattle.meaning.proofs.NumberedLaws.{numbered_newest}
use Rattle.meaning.proofs.Tells.{Tells, tells_eqb}
use Rattle.row_list.specs.Truths.{truth_at}
use Rattle.row_list.specs.Verdict.{verdict_number}
use Rattle.row_list.proofs.VerdictLaws.{verdict-bit, verdict-past}
use Rattle.soundness.specs.Setup.{Setup}
use Rattle.monitor.specs.Step.{Call, verdict}
use Rattle.promises.specs.Stream.{Starts, event_of, state, history, clock, outcome, longer}
use Rattle.promises.specs.Conditions.{ListServes}
use Rattle.promises.specs.Verdicts.{Answered, TruthsAreMeaning, judged_formula, VerdictIsMeaning}
use Rattle.promises.proofs.Invariant.{Invariant}
use Rattle.promises.proofs.StartRight.{start_ready}
use Rattle.promises.proofs.CallKept.{kept-reply, moved-reply, late-reply, earlier-reply, call_kept, only-judged, only-moved}
use Rattle.promises.proofs.StreamKept.{stream-kept}

module _ (setup : Setup) (store : List ℕ) (starts : Starts setup store) (calls : List Call) (c : Call) where
  before : Invariant setup.table (history calls) (clock calls) (state setup store calls)
  before = stream-kept setup store starts calls

  listed : ListServes setup.table setup.list
  listed = (start_ready setup store starts).listed

  answered : Answered setup store calls c
  answered =
      record {
        judged = λ keeps no-beat. (_, kept-reply listed before c keeps no-beat);
        moved = moved-reply listed before c;
        only-judged = only-judged listed before c;
        only-moved = only-moved listed before c;
        late = late-reply listed before c;
        earlier = earlier-reply listed before c;
      }

  -- The verdict's bits are the truths of the listed rows after the call, and no others.
  module _ (number : ℕ) (said : (outcome setup store calls c).reply ≡ verdict number) where
    abbrev truths_now : List ℕ
    truths_now = (outcome setup store calls c).left.truths

    number_is : number ≡ verdict_number truths_now setup.list
    number_is =
        let kept = only-judged listed before c number said in
        let reply = kept-reply listed before c kept.0 kept.1 in
        cc

    bit-means : (k : ℕ) → k < length setup.list → BitSet k number ↔ Holds (judged_formula setup k) (longer calls c)
    bit-means k within =
        let kept = only-judged listed before c number said in
        let row = get_or setup.list k 0 in
        let says : T (truth_at truths_now row) ↔ Holds (judged_formula setup k) (longer calls c) =
        ((call_kept listed before c kept.0 kept.1).follows row (listed.right.within k within)).says
        in
        let told : Tells (bit_set? k number) (BitSet k number) = tells_eqb _ 1 in
        let same : bit_set? k number ≡ truth_at truths_now row =
        rw number_is (verdict-bit truths_now setup.list k listed.right.most within)
        in (
          λ set. says.0 (subst T same (told.complete set)),
          λ holds. told.sound (subst T (sym same) (says.1 holds)),
        )

    no_other : (k : ℕ) → length setup.list ≤ k → ¬ BitSet k number
    no_other k past set =
        let told : Tells (bit_set? k number) (BitSet k number) = tells_eqb _ 1 in
        let unset : bit_set? k number ≡ false = rw number_is (verdict-past truths_now setup.list k listed.right.most past) in
        subst T unset (told.complete set)

pub truths_are_meaning : TruthsAreMeaning
truths_are_meaning setup store starts calls =
    record {
      answered = answered setup store starts calls;
      truths = λ row known. ((stream-kept setup store starts calls).follows row known).says;
    }

pub verdict_is_meaning : VerdictIsMeaning
verdict_is_meaning setup store starts calls c number said =
    let means = bit-means setup store starts calls c number said in
    record {
      holding = means;
      by_number = λ k within.
          let numbers = numbered_newest (judged_formula setup k) (event_of (clock calls) c) (history calls) in
          (λ set. numbers.1 ((means k within).0 set), λ holding. (means k within).1 (numbers.0 holding));
      others = no_other setup store starts calls c number said;
    }
