-- What a formula means at an event (document 01, "The rule table"), and when a millisecond is reached ("Spans, store and record").
use Rattle.std.specs.Prelude.{ℕ, ◌<◌, ◌⊎◌, length, drop}
use Rattle.meaning.specs.Interval.{End, Within}
use Rattle.meaning.specs.History.{History, BitSet, last_time, last_mask}

-- The kinds of the rule table in its order, their numbers x, y, a, b in its order.
pub data Formula : Type 0 where
  truth : Formula
  bit : ℕ → Formula
  negation : Formula → Formula
  both : Formula → Formula → Formula
  either : Formula → Formula → Formula
  previous : Formula → ℕ → End → Formula
  since : Formula → Formula → ℕ → End → Formula

-- "some accepted event j has y true, x true at every accepted event after j, and u-t(j) in [a,b]".
-- j counts back from the newest event, which is 0; x and y say what is true at the newest event of a history.
pub record Reached (x y : History → Type 0) (a : ℕ) (b : End) (h : History) (u : ℕ) : Type 0 where
  pub j : ℕ
  pub known : j < length h
  pub fed : y (drop j h)
  pub apart : Within a b (last_time (drop j h)) u
  pub kept : (k : ℕ) → k < j → x (drop k h)

-- The formula is true at the newest event of the history. "Before the first event there is nothing."
-- "x since y: some event j at or before i has y true, t(i)-t(j) is in [a,b], and x is true at every event after j up to i":
-- the time of the newest event is reached.
unfoldable pub Holds : Formula → History → Type 0
Holds truth h = Unit
Holds (bit x) h = BitSet x (last_mask h)
Holds (negation x) h = ¬ Holds x h
Holds (both x y) h = Holds x h × Holds y h
Holds (either x y) h = Holds x h ⊎ Holds y h
Holds (previous x a b) h = (1 < length h) × Holds x (drop 1 h) × Within a b (last_time (drop 1 h)) (last_time h)
Holds (since x y a b) h = Reached (Holds x) (Holds y) a b h (last_time h)

-- "'Once x' is written true since x; 'always' as not once not."
abbrev pub once : Formula → ℕ → End → Formula
once x a b = since truth x a b

abbrev pub always : Formula → ℕ → End → Formula
always x a b = negation (once (negation x) a b)
