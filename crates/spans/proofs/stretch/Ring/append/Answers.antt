-- `spans::stretch::Ring::append` meets its contract: no room and nothing written, or the two words of the place after those held (`left_out`,
-- `append_written`). Assumes nothing.
use mathlib.Core.Path.{◌≡◌, refl}
use Prim.Native.Nat.{◌*◌, ◌<◌}
use native.Mathlib.Omega.{arith}
use lib.ListN.{length}
use Rattle.spans.specs.Layout.{places_of}
use Rattle.spans.proofs.RoundLaws.{places_whole, length_round, round_sets}
use Rattle.spans.proofs.LayoutLaws.{held_written}
use Rattle.spans.proofs.JoinLaws.{append_written, left_out}
use Rattle.spans.proofs.stretch.Ring.append.Goals as goal

pub returns-then-places-self-clause-appended : goal.returns-then-places-self-clause-appended
returns-then-places-self-clause-appended c =
    let ring = c.args.self.now in
    (refl, left_out (places_of (length ring.words.now)) _ (held_written ring.words.now ring.held ring.inside) (omega (arith, ring.inside.1)))

pub returns-clause-appended : goal.returns-clause-appended
returns-clause-appended c =
    let ring = c.args.self.now in
    let words = ring.words.now in
    let p = places_of (length words) in
    let known : ring.held.count < p = omega arith in
    let whole : 2 * p ≡ length words = places_whole (length words) (omega arith) in (
      refl,
      rw
          (round_sets words p ring.held.first ring.held.count c.place-place.result c.args.span.first c.args.span.last whole ring.inside.0 known
          c.place-place.ensures.at)
          (append_written p c.args.span.first c.args.span.last (held_written words ring.held ring.inside) known
          (rw (length_round ring.held.first words) (omega (arith, whole)))),
    )
