-- What the table of refusals names has a number that fits its bits, so its code is above every verdict's, and tells it.
use mathlib.Core.List.{List}
use native.Mathlib.Omega.{arith}
use Prim.Native.Nat.{ℕ, ◌≤◌}
use Rattle.refusals.specs.Refusals.{Refused}
use Rattle.soundness.specs.declared.record.Record.{Record}
use Rattle.soundness.specs.Setup.{Setup}
use Rattle.monitor.specs.Step.{Call}
use Rattle.promises.specs.Refusing as Refusing
use Rattle.promises.specs.Refusing.{TableRefused, StartRefused, CallRefused}
use Rattle.codes.specs.Code.{verdict_room, refusal_code, IsRefusal}
use Rattle.codes.proofs.CodeLaws.{Numbered, refusal_above, refusal-told}

table-numbered : {table : List ℕ} {fault : Refused} → TableRefused table fault → Numbered fault
table-numbered (Refusing.one wrong) = (omega arith, omega arith)
table-numbered (Refusing.two lengths r lower rows wrong) = (omega arith, omega arith)
table-numbered (Refusing.three lengths r lower rows right wrong) = (omega arith, omega arith)

start-numbered : {setup : Setup} {size : ℕ} {fault : Refused} → StartRefused setup size fault → Numbered fault
start-numbered (Refusing.table wrong) = table-numbered wrong
start-numbered (Refusing.ten right wrong) = (omega arith, omega arith)
start-numbered (Refusing.eleven right listed r lower reached dead) = (omega arith, omega arith)
start-numbered (Refusing.four right listed short) = (omega arith, omega arith)

call-numbered : {setup : Setup} {store : List ℕ} {found : Record} {c : Call} {fault : Refused} → CallRefused setup store found c fault → Numbered fault
call-numbered (Refusing.start wrong) = start-numbered wrong
call-numbered (Refusing.seven ready wrong) = (omega arith, omega arith)
call-numbered (Refusing.six ready right late) = (omega arith, omega arith)
call-numbered (Refusing.five ready right early below) = (omega arith, omega arith)

pub start_above : {setup : Setup} {size : ℕ} {fault : Refused} → StartRefused setup size fault → verdict_room ≤ refusal_code fault
start_above {fault = fault} wrong = refusal_above fault (start-numbered wrong)

pub call-told : {setup : Setup} {store : List ℕ} {found : Record} {c : Call} {fault : Refused}
    → CallRefused setup store found c fault
    → IsRefusal (refusal_code fault)
call-told {fault = fault} wrong = refusal-told fault (call-numbered wrong)
