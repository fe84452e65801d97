use mathlib.Core.Path.{◌≡◌, refl, sym, ap, ◌∙◌}
use Prim.Native.Nat.{◌*◌}
use native.Mathlib.Omega.{arith}
use lib.ListN.{length, length-set}
use Rattle.spans.specs.Layout.{places_of, round_from, laid_from}
use Rattle.spans.proofs.RoundLaws.{places_whole, length_round, laid_round, round_sets}
use Rattle.spans.proofs.WordsLaws.{freed-more}
use Rattle.spans.proofs.stretch.Ring.free.Goals as goal

pub loop-i-preserved : goal.loop-i-preserved
loop-i-preserved c =
    let ring = c.args.self.now in
    let turn = c.loop-i in
    let inv = turn.invariant in
    let p = places_of (length ring.words.now) in
    let whole : 2 * p ≡ length ring.words.now = places_whole (length ring.words.now) (omega (arith, ring.inside.1)) in
    record {
      same_words = (inv.same_words.0, simp length-set inv.same_words.1);
      same_held = inv.same_held;
      freed =
          round_sets turn.self.words.now p ring.held.first turn.i c.place-place.result 0 0 (whole ∙ sym inv.same_words.1) ring.inside.0
          (omega (arith, ring.inside.1))
          (c.place-place.ensures.at ∙ rw (inv.same_words.1, inv.same_held) refl)
          ∙ rw inv.freed
          (freed-more (round_from ring.held.first ring.words.now) turn.i
          (rw (length_round ring.held.first ring.words.now) (omega (arith, whole, ring.inside.1))));
    }

pub returns-clause-freed : goal.returns-clause-freed
returns-clause-freed c =
    let turn = c.loop-i in
    let first = c.args.self.now.held.first in
    let done : turn.i ≡ c.args.count = omega arith in
    sym (laid_round first turn.self.words.now) ∙ ap (laid_from first) (rw done at turn.invariant.freed)
