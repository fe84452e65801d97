-- Intervals of milliseconds, with and without an end (document 01, "The rule table").
use Rattle.std.specs.Prelude.{cond, ℕ, ◌+◌, ◌≤◌, eqb}

-- "Both ends of [a,b] belong to it": the last number that belongs, or that there is no last.
pub data End : Type 0 where
  up_to : ℕ → End
  no_end : End

-- "b is a to 86,400,000, or 4,294,967,295 for 'no end'".
abbrev pub no_end_number : ℕ
no_end_number = 4_294_967_295

-- The end that the number b of a rule stands for.
unfoldable pub end_of : ℕ → End
end_of b = cond (eqb b no_end_number) no_end (up_to b)

-- The number is not past the end.
infix 50 ◌≤End◌
abbrev pub ◌≤End◌ : ℕ → End → Type 0
n ≤End up_to m = n ≤ m
n ≤End no_end = Unit

-- The end, moved on by t.
infixl 65 ◌+End◌
abbrev pub ◌+End◌ : ℕ → End → End
t +End up_to b = up_to (t + b)
t +End no_end = no_end

-- "t - s is in [a,b]", over all whole numbers: t is at least s + a and not past s + b.
pub record Within (a : ℕ) (b : End) (s t : ℕ) : Type 0 where
  pub from : s + a ≤ t
  pub to : t ≤End (s +End b)
