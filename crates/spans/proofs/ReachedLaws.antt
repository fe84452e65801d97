-- The last number that an event reaches, as a word.
use mathlib.Core.Bool.{Bool, true, false, cond}
use mathlib.Core.Path.{◌≡◌, refl}
use Prim.Native.Nat.{ℕ, ◌+◌, ◌^◌, ◌≤◌, ◌<◌}
use native.Mathlib.Omega.{arith}
use lib.Dec.{eqb}
use borrow.Author.Tests.{le-leb, lt-leb}
use Rattle.meaning.specs.Interval.{up_to, no_end, no_end_number, end_of, ◌+End◌}
use Rattle.spans.specs.Layout.{mark, end_at}
use Rattle.spans.proofs.LayoutLaws.{Storable, plain_end}
use Rattle.times.specs.Times.{time_limit}
use Rattle.spans.specs.Reached.{last_reached}

-- The last number that an event reaches can be stored.
storable : (time b : ℕ) → time ≤ time_limit → b < 2 ^ 32 → (endless : Bool) → Storable (time +End cond endless no_end (up_to b))
storable time b early small true = tt
storable time b early small false = omega arith

pub reach_storable : (time b : ℕ) → time ≤ time_limit → b < 2 ^ 32 → Storable (time +End end_of b)
unfolding end_of
reach_storable time b early small = storable time b early small (eqb b no_end_number)

-- As a word it is the mark where b has no end, otherwise a sum.
pub marked : (time b : ℕ) → eqb b no_end_number ≡ true → end_at mark ≡ time +End end_of b
unfolding end_of end_at
marked time b endless = rw endless refl

pub summed : (time : ℕ) {b number : ℕ} → time ≤ time_limit → b < 2 ^ 32 → eqb b no_end_number ≡ false → number ≡ b
    → end_at (time + number) ≡ time +End end_of b
unfolding end_of
summed time {b} early small ended same =
    let storable : time + b < mark = omega arith in
    rw (ended, same, plain_end (time + b) storable) refl

-- Of a time within the limit it is the sum, as the definitions have it; the code's answers by its tests.
pub reached-early : (time b : ℕ) → time ≤ time_limit → last_reached time b ≡ time +End end_of b
unfolding last_reached
reached-early time b early = rw (le-leb time time_limit early)

pub reached-late : (time b : ℕ) → time_limit < time → end_at 0 ≡ last_reached time b
unfolding last_reached end_at
reached-late time b late = rw (lt-leb time time_limit late) refl
