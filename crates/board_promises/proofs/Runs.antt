-- A run is the stream of its calls, by induction over the calls and the places together: one call, its code, and the run of the rest.
use mathlib.Core.List.{List, [], ◌∷◌, ◌++◌, map}
use mathlib.Core.Path.{◌≡◌, refl, ap, ◌∙◌}
use native.Mathlib.Omega.{arith}
use Prim.Native.Nat.{ℕ, zero, suc, ◌<◌, min}
use lib.ListN.{length, get_or, take, drop, length-take}
use lib.Seq.{get_or-take}
use Rattle.soundness.specs.Setup.{Setup}
use Rattle.monitor.specs.Step.{Call}
use Rattle.promises.specs.Stream.{State, call, next, after}
use Rattle.promises.specs.LineTimes.{replies}
use Rattle.codes.specs.Code.{code_of}
use Rattle.call_runs.specs.Run as Run
use Rattle.call_runs.specs.Run.{calls_of, Ran, ran, run_of}
use Rattle.board_promises.specs.Calls.{standing}
use Rattle.board_promises.specs.Runs.{calls_made, RunsAreTheStream}

-- What the stream of these calls leaves, behind its codes the later ones.
abbrev streamed : Setup → State → List ℕ → List Call → Ran
streamed setup s codes calls =
    ran (after setup s calls).found (after setup s calls).store (map code_of (replies setup s calls) ++ drop (length calls) codes)

run_streamed : (setup : Setup) (s : State) (codes : List ℕ) (calls : List Call) (n : ℕ)
    → n ≡ min (length calls) (length codes)
    → run_of setup s.found s.store codes calls ≡ streamed setup s codes (take n calls)
unfolding run_of after replies
run_streamed setup s codes [] zero least = refl
run_streamed setup s codes [] (suc n) least = absurd (omega arith)
run_streamed setup s [] (c ∷ calls) zero least = refl
run_streamed setup s [] (c ∷ calls) (suc n) least = absurd (omega arith)
run_streamed setup s (code ∷ codes) (c ∷ calls) zero least = absurd (omega arith)
run_streamed setup s (code ∷ codes) (c ∷ calls) (suc n) least =
    ap (Run.code_then (code_of (call setup s c).reply)) (run_streamed setup (next setup s c) codes calls n (omega arith))

-- The calls of two rows: how many, and each by its place.
calls-end : (kind : ℕ → ℕ → Call) (numbers masks : List ℕ) → length (calls_of kind numbers masks) ≡ min (length numbers) (length masks)
unfolding calls_of
calls-end kind [] masks = omega arith
calls-end kind (number ∷ numbers) [] = omega arith
calls-end kind (number ∷ numbers) (mask ∷ masks) =
    let shorter : length (calls_of kind numbers masks) ≡ min (length numbers) (length masks) = calls-end kind numbers masks in
    omega arith

call-at : (kind : ℕ → ℕ → Call) (numbers masks : List ℕ) (i : ℕ) (other : Call) → i < length numbers → i < length masks
    → get_or (calls_of kind numbers masks) i other ≡ kind (get_or numbers i 0) (get_or masks i 0)
unfolding calls_of
call-at kind [] masks i other h h' = absurd (omega arith)
call-at kind (number ∷ numbers) [] i other h h' = absurd (omega arith)
call-at kind (number ∷ numbers) (mask ∷ masks) zero other h h' = refl
call-at kind (number ∷ numbers) (mask ∷ masks) (suc i) other h h' = call-at kind numbers masks i other (omega arith) (omega arith)

pub runs_are_the_stream : RunsAreTheStream
runs_are_the_stream setup store found kind numbers masks codes kept words answers left =
    let count : ℕ = calls_made numbers masks codes in
    let rows : List Call = calls_of kind numbers masks in
    let calls : List Call = take count rows in
    let many : length rows ≡ min (length numbers) (length masks) = calls-end kind numbers masks in
    let as_many : length calls ≡ count = length-take count rows ∙ omega arith in
    let is : ran kept words answers ≡ streamed setup (standing store found) codes calls =
    left ∙ run_streamed setup (standing store found) codes rows count (omega arith) in
    record {
      calls = calls;
      as_many = as_many;
      each = λ i other lower.
          get_or-take count rows i other (omega arith) ∙ call-at kind numbers masks i other (omega arith) (omega arith);
      kept_is = ap (λ (r : Ran). r.left) is;
      words_are = ap (λ (r : Ran). r.store) is;
      answers_are = ap (λ (r : Ran). r.codes) is;
    }
