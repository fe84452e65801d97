-- A run as far as its calls have come: what is left of the rows is still to be run, behind the codes that are written.
use mathlib.Core.List.{List, [], ◌∷◌, ◌++◌}
use mathlib.Core.Logic.{⊎_elim}
use mathlib.Core.Path.{◌≡◌, refl, ap, ◌∙◌}
use native.Mathlib.Numerals.{add-one}
use native.Mathlib.Omega.{arith}
use Prim.Native.Nat.{ℕ, suc, ◌+◌, ◌≤◌, ◌<◌, min}
use lib.ListN.{length, take, drop, set, take-append-drop, drop_of_length-le}
use lib.Seq.{take-suc-set, drop-set-lt, drop-cons, append_snoc}
use Rattle.std.specs.Prelude.{Result}
use Rattle.meaning.proofs.SpansLaws.{le_or_lt}
use Rattle.refusals.specs.declared.refusal.Refusal.{Refusal}
use Rattle.soundness.specs.declared.record.Record.{Record}
use Rattle.soundness.specs.Setup.{Setup}
use Rattle.monitor.specs.declared.answer.Accepted.{Accepted}
use Rattle.monitor.specs.Step.{Call, said, StepGives}
use Rattle.codes.specs.Code.{code_of}
use Rattle.call_runs.specs.Run.{Ran, ran, run_of, calls_of}

-- What a run leaves, with codes written before it.
abbrev pub behind : List ℕ → Ran → Ran
behind codes rest = ran rest.left rest.store (codes ++ rest.codes)

-- Where there is no place left, a run leaves what it found.
no_place : (setup : Setup) (found : Record) (store : List ℕ) (calls : List Call) → run_of setup found store [] calls ≡ ran found store []
unfolding run_of
no_place setup found store [] = refl
no_place setup found store (call ∷ calls) = refl

no_mask : {A : Type 0} (kind : A → ℕ → Call) (stamps : List A) → calls_of kind stamps [] ≡ []
unfolding calls_of
no_mask kind [] = refl
no_mask kind (stamp ∷ stamps) = refl

module _ {A : Type 0} (setup : Setup) (kind : A → ℕ → Call) (stamps : List A) (masks : List ℕ) where
  -- What a run leaves that goes on at a place of the rows.
  abbrev pub going_on : (place : ℕ) → Record → (store codes : List ℕ) → Ran
  going_on place found store codes =
      behind (take place codes) (run_of setup found store (drop place codes) (calls_of kind (drop place stamps) (drop place masks)))

  -- One turn: the call at the place is judged, and its answer's code is put there.
  pub one_turn : (place : ℕ) (found left : Record) (store words codes : List ℕ) (stamp : A) (mask code : ℕ) (answer : Result Accepted Refusal)
      {whole : Ran}
      → drop place stamps ≡ stamp ∷ drop (suc place) stamps
      → drop place masks ≡ mask ∷ drop (suc place) masks
      → place < length codes
      → StepGives setup store found (kind stamp mask) answer left words
      → code ≡ code_of (said answer)
      → going_on place found store codes ≡ whole
      → going_on (place + 1) left words (set codes place code) ≡ whole
  unfolding run_of calls_of
  one_turn place found left store words codes stamp mask code answer stamped masked room judged coded so_far =
      let rest : Ran = run_of setup left words (drop (suc place) codes) (calls_of kind (drop (suc place) stamps) (drop (suc place) masks)) in
      rw (
        add-one place,
        take-suc-set codes place code room,
        drop-set-lt (suc place) codes place code (omega arith),
        drop-cons codes place 0 room,
        stamped,
        masked,
        ← judged,
        coded,
      ) (ap (λ (all : List ℕ). ran rest.left rest.store all) (append_snoc (take place codes) (code_of (said answer)) rest.codes))
      ∙ so_far

  -- No stamp is left, or no mask, or no place.
  pub ended : (place : ℕ) (found : Record) (store codes : List ℕ)
      → min (min (length stamps) (length masks)) (length codes) ≤ place
      → going_on place found store codes ≡ ran found store codes
  unfolding run_of calls_of
  ended place found store codes stops =
      let whole = take-append-drop place codes in
      ⊎_elim
      (λ (past : length stamps ≤ place). let none = drop_of_length-le stamps {i = place} past in rw (none, whole))
      (λ (some : place < length stamps).
      ⊎_elim
      (λ (past : length masks ≤ place).
      let none = drop_of_length-le masks {i = place} past in rw (none, no_mask kind (drop place stamps), whole))
      (λ (more : place < length masks).
      let none = drop_of_length-le codes {i = place} (omega arith) in
      rw (none, no_place setup found store (calls_of kind (drop place stamps) (drop place masks)), ← none, whole))
      (le_or_lt (length masks) place))
      (le_or_lt (length stamps) place)
