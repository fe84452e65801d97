-- `lines::rule::read_rule` meets its contract: a rule at a place is the rule that the rest begins with. Assumes nothing.
use Rattle.std.proofs.Common.{rules}
use Rattle.lines.specs.Rule.{rule_numbers, read_rule}
use Rattle.lines.proofs.RestLaws.{rule_ends, rule-here, found_here}
use Rattle.lines.proofs.rule.read_rule.Goals as goal

pub returns : goal.returns
returns c =
    let text = c.args.text.now in
    let place = c.args.place in
    found_here rule_numbers (λ bytes. (read_rule bytes 0).said) text place _ (rule_ends text place) (rule-here text place) _ _ _
    c.at.ensures.next c.at.ensures.found (λ line made. (made.0.now, made.2, search rules))
