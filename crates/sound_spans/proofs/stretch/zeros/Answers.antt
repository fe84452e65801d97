-- `sound_spans::stretch::zeros` meets its contract: `all` tells of each word what `zeros?` asks. Assumes nothing.
use Rattle.std.proofs.Common.{rules}
use Rattle.std.proofs.lemmas.List.Recursion.{and_is}
use lib.Dec.{eqb}
use mathlib.Core.Path.{refl}
use Rattle.spans.specs.Layout.{zeros?}
use Rattle.sound_spans.proofs.stretch.zeros.Goals as goal

pub returns : goal.returns
unfolding zeros?
returns c = and_is zeros? (λ word. eqb word 0) refl (λ _ _. refl) c.args.words.now 0 _ (search rules) (search rules)
