-- `lines::line::line_digits` meets its contract: its tests are the definition's, in the same order. Assumes nothing.
use Rattle.std.proofs.Common.{◌≡◌, ◌+◌, ◌<◌, ℕ, Bool, true, eqb, List, length, take, refl, ◌∙◌, sym, arith}
use borrow.Author.Tests.{lt-leb, eq-eqb, ne_eqb}
use lib.Seq.{length-take-le}
use Rattle.lines.specs.Line.{right_at, line_at}
use Rattle.lines.proofs.LineLaws.{told-within}
use Rattle.lines.proofs.PartLaws.{line_judged}
use Rattle.lines.proofs.line.line_digits.Goals as goal

-- Digits that are there are as many as were asked for.
whole : (rest : List ℕ) (n : ℕ) (right : Bool) → right ≡ eqb (right_at rest 0 n) (n + 1) → right ≡ true → length (take n rest) ≡ n
whole rest n right is holds = let within : n < length rest = told-within rest n (sym is ∙ holds) in length-take-le n rest (omega arith)

pub returns-then-not-is_right : goal.returns-then-not-is_right
unfolding line_at
returns-then-not-is_right c = λ some. rw (lt-leb _ _ some, ← c.is_right.ensures, c.if-not-is_right.true)

pub slice_bounds-digits-end : goal.slice_bounds-digits-end
slice_bounds-digits-end c = sym (whole _ _ _ c.is_right.ensures c.if-not-is_right.false)

pub split_at-requires : goal.split_at-requires
split_at-requires c = omega (arith, whole _ _ _ c.is_right.ensures c.if-not-is_right.false)

pub returns-then-sum_of-number : goal.returns-then-sum_of-number
returns-then-sum_of-number c =
    λ some.
    line_judged _ _ _ c.args.n c.split_at.ensures.front c.split_at.ensures.back _ _ (sym c.is_right.ensures ∙ c.if-not-is_right.false)
    c.sum_of.ensures c.number.ensures.value
    ∙ rw (ne_eqb _ _ c.if-sum_of-number.true)

pub returns : goal.returns
returns c = (
  line_judged _ _ _ c.args.n c.split_at.ensures.front c.split_at.ensures.back _ _ (sym c.is_right.ensures ∙ c.if-not-is_right.false)
      c.sum_of.ensures c.number.ensures.value
      ∙ rw (eq-eqb _ _ c.if-sum_of-number.false),
  refl,
  whole _ _ _ c.is_right.ensures c.if-not-is_right.false,
)
