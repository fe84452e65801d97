-- A turn (`rising_turn`): the whole answer is that of the next span and of those after it; past the last there is none (`rising_none`).
use mathlib.Core.Path.{refl, sym, ◌∙◌}
use native.Mathlib.Omega.{arith}
use Rattle.sound_spans.proofs.SoundSteps.{rising_turn}
use Rattle.sound_spans.proofs.stretch.rising.Goals as goal

pub returns-then-not-span_sound : goal.returns-then-not-span_sound
returns-then-not-span_sound c =
    let inv = c.loop-span.invariant in
    let steps = c.in-Some.ensures.steps in
    sym
    (inv.told
    ∙ rising_turn _ _ _ _ c.in-Some.span.now _ steps.1.0 (steps.1.1 ∙ inv.pairs) c.requires
    ∙ rw (← c.span_sound.ensures, c.if-not-span_sound.true) refl)

pub loop-span-preserved : goal.loop-span-preserved
loop-span-preserved c =
    let inv = c.loop-span.invariant in
    let steps = c.in-Some.ensures.steps in
    record {
      can_next = omega (arith, steps.0, inv.pairs);
      is_finite = tt;
      pairs = steps.0 ∙ inv.pairs;
      told =
          inv.told
          ∙ rising_turn _ _ _ _ c.in-Some.span.now _ steps.1.0 (steps.1.1 ∙ inv.pairs) c.requires
          ∙ rw (← c.span_sound.ensures, c.if-not-span_sound.false, c.after-least.ensures) refl;
    }
