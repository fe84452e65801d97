-- Where the limits of a row are in range, its latest last can be stored.
use Prim.Native.Nat.{ℕ, ◌≤◌}
use native.Mathlib.Omega.{arith}
use Rattle.meaning.specs.Interval.{end_of, ◌+End◌}
use Rattle.rules.proofs.PassedLaws.{InRange, range_cases}
use Rattle.spans.proofs.LayoutLaws.{Storable}
use Rattle.times.specs.Times.{time_limit}

pub latest_storable : (time a b : ℕ) → time ≤ time_limit → InRange a b → Storable (time +End end_of b)
latest_storable time a b within range = range_cases (λ end. Storable (time +End end)) a b range tt (λ order most. omega arith)
