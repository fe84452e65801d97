use mathlib.Core.Path.{◌≡◌, sym, ◌∙◌}
use Prim.Native.Nat.{◌-◌}
use native.Mathlib.Omega.{arith}
use Rattle.meaning.proofs.Truths.{no_truth}
use Rattle.dead_rows.proofs.SweepLaws.{swept_start, swept-marked, swept-dead, swept_whole}
use Rattle.dead_rows.proofs.dead.lowest_dead.Goals as goal

pub loop-row-init : goal.loop-row-init
loop-row-init c = rw c.mark_listed.ensures (swept_start _ _ _ (omega arith))

pub loop-row-preserved-then-marks-row : goal.loop-row-preserved-then-marks-row
loop-row-preserved-then-marks-row c =
    let l = c.loop-row in
    rw (c.mark_named.ensures, c.numbers_at.ensures)
    (swept-marked _ _ _ (l.row - 1) _ _ _ l.invariant (omega arith) (omega arith) (omega arith) c.if-marks-row.true)

pub loop-row-preserved : goal.loop-row-preserved
loop-row-preserved c =
    let l = c.loop-row in
    swept-dead _ _ _ (l.row - 1) _ _ _ l.invariant (omega arith) (omega arith) (omega arith)
    (λ marked. no_truth (sym c.if-marks-row.false ∙ marked))

pub returns : goal.returns
returns c =
    let none : c.loop-row.row ≡ 0 = omega arith in
    rw (← c.min-count.ensures) (swept_whole _ _ _ c.loop-row.marks c.loop-row.dead (rw none at c.loop-row.invariant))
