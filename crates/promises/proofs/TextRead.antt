-- As many readings as a text has bytes reach its end: each reading before the end moves the place on.
use mathlib.Core.List.{List, []}
use mathlib.Core.Logic.{⊎_elim}
use mathlib.Core.Path.{◌≡◌, refl, ap}
use Prim.Native.Nat.{ℕ, zero, suc, ◌+◌, ◌≤◌, ◌<◌}
use native.Mathlib.Omega.{arith}
use lib.ListN.{length}
use Rattle.meaning.proofs.SpansLaws.{le_or_lt}
use Rattle.lines.specs.Read.{LineReply, at_end, good_line, bad_line}
use Rattle.lines.specs.Frame.{read_frame}
use Rattle.promises.specs.Reading.{Past, first, none}
use Rattle.promises.specs.TextRead.{place_after, until_end, lines_from, ReadWhole}
use Rattle.promises.proofs.Reading.{read_refused_exactly, place_moves}

module _ (text : List ℕ) (place : ℕ) where
  said-end : length text ≤ place → (read_frame text place).said ≡ at_end
  said-end past = (read_refused_exactly.frame.ends text place).1 past

  stays : length text ≤ place → (read_frame text place).next ≡ place
  stays past = (place_moves text place).ended (said-end past)

  past_on : (next : ℕ) → place < length text → Past text place next → place < next
  past_on next before (first feed from fed others e) = omega arith
  past_on next before (none others e) = omega arith

  moves_on : place < length text → place < (read_frame text place).next
  moves_on before = go (read_frame text place).said refl
    where
      go : (said : LineReply) → (read_frame text place).said ≡ said → place < (read_frame text place).next
      go at_end e = let past = (read_refused_exactly.frame.ends text place).0 e in absurd (omega arith)
      go (good_line given) e = let moved = (place_moves text place).good given e in omega arith
      go (bad_line fault) e = past_on (read_frame text place).next before ((place_moves text place).refused fault e)

  -- With enough readings for what is left of the text, so many less one are enough from the next place.
  enough_on : (readings : ℕ) → length text ≤ place + suc readings → length text ≤ (read_frame text place).next + readings
  enough_on readings enough =
      ⊎_elim
      (λ past. omega (arith, stays past))
      (λ before. omega (arith, moves_on before))
      (le_or_lt (length text) place)

reaches_end : (text : List ℕ) (place readings : ℕ) → length text ≤ place + readings → length text ≤ place_after text place readings
unfolding place_after
reaches_end text place zero enough = omega arith
reaches_end text place (suc readings) enough = reaches_end text (read_frame text place).next readings (enough_on text place readings enough)

no_lines : (text : List ℕ) (place readings : ℕ) → length text ≤ place → lines_from text place readings ≡ []
unfolding lines_from
no_lines text place zero past = refl
no_lines text place (suc readings) past =
    ap (λ (said : LineReply). until_end said (lines_from text (read_frame text place).next readings)) (said-end text place past)

no_more_lines : (text : List ℕ) (more place readings : ℕ)
    → length text ≤ place + readings
    → lines_from text place (readings + more) ≡ lines_from text place readings
unfolding lines_from
no_more_lines text more place zero enough = no_lines text place (zero + more) (omega arith)
no_more_lines text more place (suc readings) enough =
    let on : suc readings + more ≡ suc (readings + more) = omega arith in
    rw on
    (ap (until_end (read_frame text place).said)
    (no_more_lines text more (read_frame text place).next readings (enough_on text place readings enough)))

pub read_whole : (text : List ℕ) → ReadWhole text
read_whole text =
    record {
      at_end = reaches_end text 0 (length text) (omega arith);
      no_more = λ more. no_more_lines text more 0 (length text) (omega arith);
    }
