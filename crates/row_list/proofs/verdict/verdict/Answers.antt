use native.Mathlib.Omega.{arith}
use Rattle.std.proofs.Math.Nat.{min_comm}
use lib.ListN.{length}
use Rattle.std.proofs.lemmas.List.{nil_from_length, take_min}
use Rattle.row_list.specs.RowList.{list_limit}
use Rattle.row_list.specs.Verdict.{verdict_number}
use Rattle.row_list.proofs.TruthsLaws.{byte_told}
use Rattle.row_list.proofs.VerdictLaws.{bits_onto, onto_none, onto_turn}
use Rattle.row_list.proofs.verdict.verdict.Goals as goal

pub loop-row-init : goal.loop-row-init
unfolding verdict_number
loop-row-init c =
    rw (
      c.into_iter-row-iterator.ensures.into_iter_gives,
      c.rev-row-items.ensures.source,
      c.iter.ensures.rest,
      c.min.ensures,
      min_comm (length c.args.list.now) list_limit,
      take_min list_limit c.args.list.now,
      onto_none,
    )

pub overflow_mul-number : goal.overflow_mul-number
overflow_mul-number c = omega (arith, (onto_turn _ _ _ _ _ _ c.in-Some.ensures.steps c.loop-row.invariant).1)

pub overflow_add-number : goal.overflow_add-number
overflow_add-number c =
    rw (c.from.ensures, c.truth_at.ensures, byte_told)
    (omega (arith, (onto_turn _ _ _ _ _ _ c.in-Some.ensures.steps c.loop-row.invariant).1))

pub loop-row-preserved : goal.loop-row-preserved
loop-row-preserved c =
    rw (c.from.ensures, c.truth_at.ensures, byte_told) (onto_turn _ _ _ _ _ _ c.in-Some.ensures.steps c.loop-row.invariant).0

pub returns : goal.returns
unfolding bits_onto
returns c = rw (nil_from_length _ c.in-None.ensures.steps.0) at c.loop-row.invariant
