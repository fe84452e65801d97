-- A code tells a verdict, a moved clock and a refusal apart, the refusal's number and its row. Bit 31 is a moved clock's alone; bits 24 to 30 are 0.
use mathlib.Core.Logic.{◌↔◌}
use mathlib.Core.Path.{◌≡◌, refl, ap}
use native.Mathlib.Omega.{arith}
use Prim.Native.Nat.{ℕ, ◌*◌, ◌≤◌, ◌<◌, ◌%◌}
use Rattle.refusals.specs.Refusals.{Refused, refused, row_in}
use Rattle.refusals.specs.declared.refusal.Refusal.{Refusal}
use Rattle.refusals.specs.declared.refusal.Refusal.TheVariants.{Length, Row, Limits, Store, Earlier, Late, Unsound, BadLine, BadSum, RowList, DeadRow}
use Rattle.monitor.specs.Step.{Reply, verdict, clock_moved, refusal}
use Rattle.codes.specs.Code.{verdict_room, number_room, moved_code, refusal_code, code_of, number_told, IsRefusal}

-- A reply whose verdict, if it is one, fits its sixteen bits. Every call's does.
abbrev pub VerdictFits : Reply → Type 0
VerdictFits reply = (number : ℕ) → reply ≡ verdict number → number < verdict_room

-- A number that fits its eight bits and is not 0. Every refusal has one.
abbrev pub Numbered : Refused → Type 0
Numbered fault = (0 < fault.number) × (fault.number < number_room)

pub numbered : (r : Refusal) → Numbered (refused r)
numbered Length = (omega arith, omega arith)
numbered (Row row) = (omega arith, omega arith)
numbered (Limits row) = (omega arith, omega arith)
numbered Store = (omega arith, omega arith)
numbered Earlier = (omega arith, omega arith)
numbered Late = (omega arith, omega arith)
numbered Unsound = (omega arith, omega arith)
numbered BadLine = (omega arith, omega arith)
numbered BadSum = (omega arith, omega arith)
numbered RowList = (omega arith, omega arith)
numbered (DeadRow row) = (omega arith, omega arith)

-- A verdict and a moved clock tell the number 0; a refusal tells its own, and its row in the bits below.
pub verdict_tag : (number : ℕ) → number < verdict_room → number_told (code_of (verdict number)) ≡ 0
verdict_tag number fits = omega arith

pub moved_tag : number_told moved_code ≡ 0
moved_tag = omega arith

pub refusal_tag : (fault : Refused) → Numbered fault → number_told (refusal_code fault) ≡ fault.number
refusal_tag fault fits = omega arith

pub refusal-row : (fault : Refused) → row_in fault < verdict_room → refusal_code fault % verdict_room ≡ row_in fault
refusal-row fault small = omega arith

-- A refusal's code is not below 65,536, as a verdict's is, and its bits above 23 are 0.
pub refusal_above : (fault : Refused) → Numbered fault → verdict_room ≤ refusal_code fault
refusal_above fault fits = omega arith

pub refusal_small : (fault : Refused) → Numbered fault → refusal_code fault < number_room * verdict_room
refusal_small fault fits = omega arith

-- So the code tells a refusal, and a moved clock.
pub refusal-told : (fault : Refused) → Numbered fault → IsRefusal (refusal_code fault)
refusal-told fault fits = omega arith

pub refusal-only : (reply : Reply) → VerdictFits reply → IsRefusal (code_of reply) → (fault : Refused) × (reply ≡ refusal fault)
refusal-only (verdict number) small told = absurd (omega (arith, small number refl))
refusal-only clock_moved small told = absurd (omega arith)
refusal-only (refusal fault) small told = (fault, refl)

pub moved_exactly : (reply : Reply) → VerdictFits reply → ((fault : Refused) → reply ≡ refusal fault → Numbered fault)
    → (code_of reply ≡ moved_code) ↔ (reply ≡ clock_moved)
moved_exactly (verdict number) small fits =
    let below : number < verdict_room = small number refl in
    (λ is. absurd (omega arith), λ same. ap code_of same)
moved_exactly clock_moved small fits = (λ is. refl, λ same. refl)
moved_exactly (refusal fault) small fits =
    let small : refusal_code fault < number_room * verdict_room = refusal_small fault (fits fault refl) in
    (λ is. absurd (omega arith), λ same. ap code_of same)
