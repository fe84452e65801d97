-- A rule line read at a place (document 01, "The program's text"). Its five numbers are not judged.
use Rattle.std.specs.Prelude.{cond, List, [], ◌∷◌, ◌≡◌, ℕ}
use Rattle.refusals.specs.Refusals.{refused}
use Rattle.refusals.specs.declared.refusal.Refusal.TheVariants.{BadLine}
use Rattle.lines.specs.declared.rule.Rule.{Rule}
use Rattle.lines.specs.declared.read.Read as Code
use Rattle.lines.specs.Line.{past_line_feed}
use Rattle.lines.specs.ListLine.{list_marked}
use Rattle.lines.specs.Read.{bad_line, Read, read_line, read_said}

-- "kind 2 digits, x 2, y 2, a 8, b 8".
abbrev pub rule_widths : List ℕ
rule_widths = 1 ∷ 1 ∷ 1 ∷ 4 ∷ 4 ∷ []

-- What a line that is not as required brings: 8, and the place past its line feed.
abbrev pub read_bad : List ℕ → ℕ → Read
read_bad text place = record { said = bad_line (refused BadLine); next = past_line_feed text place }

-- "AA, with which no rule line may start" (document 02, E4).
abbrev pub read_rule : List ℕ → ℕ → Read
read_rule text place = cond (list_marked text place) (read_bad text place) (read_line rule_widths text place)

-- The numbers of a rule.
abbrev pub rule_numbers : Rule → List ℕ
rule_numbers rule = rule.kind ∷ rule.x ∷ rule.y ∷ rule.a ∷ rule.b ∷ []

-- An answer that is right for a text and a place: it says what reading a rule line there gives.
abbrev pub ReadsRule : List ℕ → ℕ → Code.Read Rule → Type 0
ReadsRule text place read = read_said rule_numbers read ≡ read_rule text place
