-- `lines::digits::leading_digits` meets its contract: the digits taken are the digits counted. Assumes nothing.
use Rattle.std.proofs.Common.{◌∙◌, rules}
use Rattle.std.proofs.lemmas.Iterator.{YieldsList-from_slice, YieldsList-from_take}
use Rattle.std.proofs.lemmas.Iterator.Consumers.{count_from_yields_List}
use Rattle.std.proofs.lemmas.Iterator.Search.{YieldsList-from_take_while}
use Rattle.lines.specs.Digits.{is_digit}
use Rattle.lines.proofs.DigitLaws.{digits_taken}
use Rattle.lines.proofs.digits.leading_digits.Goals as goal

pub returns : goal.returns
returns c =
    let n = c.args.n in
    let text = c.args.text.now in
    count_from_yields_List _ _ c.count.ensures.ran
    (YieldsList-from_take_while _ is_digit (YieldsList-from_take n (YieldsList-from_slice text cc) (cc)) (cc) (cc) (λ x b q k. search rules))
    ∙ digits_taken text n
