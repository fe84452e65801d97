use mathlib.Core.Path.{◌≡◌, sym, ◌∙◌, refl}
use Prim.Native.Nat.{ℕ, ◌+◌, ◌*◌, ◌-◌, ◌≤◌}
use native.Mathlib.Omega.{arith}
use lib.ListN.{length}
use borrow.Rule.Slice.PartMut.{mid_len}
use Rattle.rules.specs.Stretches.{spans_of, width, offset}
use Rattle.rules.specs.declared.numbers.Numbers.{Numbers}
use Rattle.rules.proofs.StretchesLaws.{spans_below}
use Rattle.spans.specs.Layout.{span_words}
use Rattle.soundness.specs.Soundness.{every, sound_row?}
use Rattle.soundness.proofs.ReadyLaws.{table_ready}
use Rattle.soundness.proofs.SoundnessLaws.{every_not, every_more, part_told, offset-next, stretch-fits}
use Rattle.soundness.proofs.soundness.sound_rows.Goals as goal
use Rattle.soundness.proofs.soundness.sound_rows.Goals.{After-spans-spans, After-sound_row}

-- The words of a stretch. The one that is next ends within the store, and what was tested of it is the row's.
wide : (numbers : Numbers) {spans : ℕ} → spans ≡ spans_of numbers → span_words * spans ≡ width numbers
wide numbers said = rw said

fits : (c : After-spans-spans) → c.loop-row.from + span_words * c.spans-spans.result ≤ length c.args.store.now
fits c =
    stretch-fits _ _ _ c.requires.table_ready (omega arith)
    c.numbers_at-numbers.ensures c.loop-row.invariant.0 (wide _ c.spans-spans.ensures)

told : (c : After-sound_row) → c.sound_row.result ≡ sound_row? c.args.table.now c.args.store.now c.args.found.now c.loop-row.row
unfolding sound_row?
told c =
    let part = part_told _ c.args.store.now _ c.numbers_at-numbers.ensures c.loop-row.invariant.0 (wide _ c.spans-spans.ensures) in
    c.sound_row.ensures ∙ rw (part, c.numbers_at-numbers.ensures)

pub loop-row-init : goal.loop-row-init
unfolding every offset
loop-row-init c = (refl, refl)

pub overflow_mul-end : goal.overflow_mul-end
overflow_mul-end c = omega (arith, spans_below c.numbers_at-numbers.result, c.spans-spans.ensures)

pub overflow_add-end : goal.overflow_add-end
overflow_add-end c = omega (arith, fits c)

pub offset_bounds-store-from : goal.offset_bounds-store-from
offset_bounds-store-from c = omega (arith, fits c)

pub slice_bounds-sound_row-end : goal.slice_bounds-sound_row-end
slice_bounds-sound_row-end c = omega (arith, fits c)

pub sound_row-requires : goal.sound_row-requires
sound_row-requires c =
    let from = c.loop-row.from in
    let words : ℕ = span_words * c.spans-spans.result in
    let all : from + words - from ≡ words = omega arith in (
      c.spans-spans.ensures,
      mid_len from (from + words) c.args.store.now (fits (goal.at.sound_row-requires c).After-spans-spans) ∙ all ∙ wide _ c.spans-spans.ensures,
      omega (arith, (table_ready _ _ c.requires.table_ready).passes.few-rows),
      c.requires.counted.1,
    )

pub returns-then-not-sound_row : goal.returns-then-not-sound_row
returns-then-not-sound_row c =
    sym (every_not _ _ _ c.loop-row-test.true (sym (told (goal.at.returns-then-not-sound_row c).After-sound_row) ∙ c.if-not-sound_row.true))

pub loop-row-preserved : goal.loop-row-preserved
loop-row-preserved c = (
  offset-next _ _ c.numbers_at-numbers.ensures c.loop-row.invariant.0 (wide _ c.spans-spans.ensures),
  every_more _ _ c.loop-row.invariant.1 (sym (told (goal.at.loop-row-preserved c).After-sound_row) ∙ c.if-not-sound_row.false),
)
