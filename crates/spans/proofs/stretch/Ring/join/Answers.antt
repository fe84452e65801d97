-- `spans::stretch::Ring::join` meets its contract: where no span is held, or the new one is apart from the last, it follows (`follows`, the callee's
-- contract); otherwise it extends the last (`extend_written`). Assumes nothing.
use mathlib.Core.List.{List, [], ◌∷◌, ◌++◌}
use mathlib.Core.Path.{◌≡◌, refl, sym, ◌∙◌}
use Prim.Native.Nat.{ℕ, ◌+◌, ◌*◌, ◌-◌, ◌≤◌}
use native.Mathlib.Omega.{arith}
use borrow.Author.Tests.{leb-true, leb-false}
use lib.ListN.{length, get_or}
use Rattle.meaning.specs.Spans.{◌to◌, join}
use Rattle.spans.specs.declared.stretch.Held.{Held}
use Rattle.spans.specs.Layout.{mark, end_at, places_of, round_from, spans_held}
use Rattle.spans.specs.Stretch.{Inside}
use Rattle.spans.proofs.RoundLaws.{places_whole, round_set}
use Rattle.spans.proofs.LayoutLaws.{spans_stored, held_written, last_read}
use Rattle.spans.proofs.JoinLaws.{follows, extend_written}
use Rattle.spans.proofs.stretch.Ring.join.Goals as goal

-- What is joined in follows those held, where it begins two or more past the last word of theirs.
apart-follows : (words : List ℕ) (held : Held) (first last : ℕ) → Inside words held → first ≤ mark
    → (¬ (held.count ≡ 0) → get_or (round_from held.first words) (2 * (held.count - 1) + 1) 0 + 2 ≤ first)
    → join (first to end_at last) (spans_held words held) ≡ spans_held words held ++ ((first to end_at last) ∷ [])
apart-follows words held first last inside few apart =
    follows first (end_at last) (held_written words held inside) (spans_stored (round_from held.first words) 0 held.count) few apart

pub returns-then-self-eq0-clause-joined : goal.returns-then-self-eq0-clause-joined
returns-then-self-eq0-clause-joined c =
    let ring = c.args.self.now in
    let span = c.args.span in
    rw (apart-follows ring.words.now ring.held span.first span.last ring.inside (omega arith) (λ some. absurd (some c.if-self-eq0.true)))
    c.append.ensures.appended

pub returns-then-past_by-clause-joined : goal.returns-then-past_by-clause-joined
returns-then-past_by-clause-joined c =
    let ring = c.args.self.now in
    let span = c.args.span in
    let place = c.place-place in
    let read = last_read ring.words.now ring.held (ring.held.count - 1) place.result ring.inside (omega arith) place.ensures.at in
    rw (apart-follows ring.words.now ring.held span.first span.last ring.inside (omega arith)
    (λ some. rw read (leb-true _ _ (sym c.past_by.ensures ∙ c.if-past_by.true))))
    c.append-then-past_by.ensures.appended

pub returns-else-past_by-clause-joined : goal.returns-else-past_by-clause-joined
returns-else-past_by-clause-joined c =
    let ring = c.args.self.now in
    let span = c.args.span in
    let words = ring.words.now in
    let count = ring.held.count in
    let place = c.place-place in
    let p = places_of (length words) in
    let whole : 2 * p ≡ length words = places_whole (length words) (omega (arith, ring.inside.1)) in
    let stored = spans_stored (round_from ring.held.first words) 0 count in
    let read = last_read words ring.held (count - 1) place.result ring.inside (omega arith) place.ensures.at in (
      refl,
      rw
          (round_set words p ring.held.first (count - 1) whole ring.inside.0 (omega (arith, ring.inside.1)) 1 span.last {j = 2 * (count - 1) + 1}
          {n = 2 * place.result + 1} (omega arith) refl
          (omega (arith, place.ensures.at)))
          (extend_written p span.first span.last (held_written words ring.held ring.inside) stored (omega arith) ring.inside.1 (omega arith)
          (rw read (leb-false _ _ (sym c.past_by.ensures ∙ c.if-past_by.false)))),
    )
