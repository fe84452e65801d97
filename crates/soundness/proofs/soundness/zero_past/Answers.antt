-- `soundness::soundness::zero_past` meets its contract: what is put together of each list's entries past the rows. Assumes nothing.
use mathlib.Core.Path.{◌≡◌, ap, ◌∙◌}
use Prim.Native.Nat.{ℕ, ◌-◌, ◌+◌}
use native.Mathlib.Omega.{arith}
use borrow.Author.Tests.{tests}
use lib.Bits.{bit_or}
use lib.ListN.{take, drop}
use Rattle.std.proofs.Common.{rules}
use Rattle.std.proofs.lemmas.Iterator.{YieldsList-from_slice}
use Rattle.std.proofs.lemmas.Iterator.Consumers.{fold_from_yields_List}
use Rattle.rules.specs.Limits.{row_limit}
use Rattle.soundness.specs.Soundness.{every, zero_past?}
use Rattle.soundness.proofs.PastLaws.{or_zero_lem, bits_past, past_told}
use Rattle.soundness.proofs.soundness.zero_past.Goals as goal

pub returns : goal.returns
returns c =
    let rows : ℕ = c.args.rows in
    let left : ℕ = row_limit - rows in
    let found = c.args.found.now in
    let all : rows + left ≡ row_limit = omega (arith, c.requires) in
    let truths : c.fold-truth_bits.result ≡ bits_past rows found.truths left =
    fold_from_yields_List _ bit_or 0 _ c.fold-truth_bits.ensures.ran
    (YieldsList-from_slice (take left (drop rows found.truths)) (cc)) (λ a x b q k. search (rules, tests))
    in
    let counts : c.fold-count_bits.result ≡ bits_past rows found.counts left =
    fold_from_yields_List _ bit_or 0 _ c.fold-count_bits.ensures.ran
    (YieldsList-from_slice (take left (drop rows found.counts)) (cc)) (λ a x b q k. search (rules, tests))
    in
    let firsts : c.fold-first_bits.result ≡ bits_past rows found.firsts left =
    fold_from_yields_List _ bit_or 0 _ c.fold-first_bits.ensures.ran
    (YieldsList-from_slice (take left (drop rows found.firsts)) (cc)) (λ a x b q k. search (rules, tests))
    in
    rw (
      c.from.ensures,
      truths,
      counts,
      firsts,
      or_zero_lem (bit_or (bits_past rows found.truths left) (bits_past rows found.counts left)) (bits_past rows found.firsts left),
      or_zero_lem (bits_past rows found.truths left) (bits_past rows found.counts left),
    )
    (past_told rows found.truths found.counts found.firsts left
    ∙ ap (λ end. every end (zero_past? rows found.truths found.counts found.firsts)) all)
