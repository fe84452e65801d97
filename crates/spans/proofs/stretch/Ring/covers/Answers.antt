-- `spans::stretch::Ring::covers` meets its contract: no span is held, or the first is the one at the first place (`first_at`). Assumes nothing.
use mathlib.Core.Path.{refl}
use native.Mathlib.Omega.{arith}
use borrow.Author.Tests.{le-leb, lt-leb}
use Rattle.spans.proofs.CoverLaws.{first_at}
use Rattle.spans.proofs.stretch.Ring.covers.Goals as goal

pub returns-then-self-first : goal.returns-then-self-first
returns-then-self-first c =
    rw (first_at c.args.self.now _ c.args.time (omega arith) (omega arith) c.place-first.ensures.at, le-leb _ _ c.if-self-first.true)
    refl

pub returns-else-self-first : goal.returns-else-self-first
returns-else-self-first c =
    rw (first_at c.args.self.now _ c.args.time (omega arith) (omega arith) c.place-first.ensures.at, lt-leb _ _ c.if-self-first.false)
    refl
