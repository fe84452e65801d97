-- The one table of kinds (document 01, "The rule table"; 7 and 8 by document 02, E1). A new kind is a line here and in src/table.rt, a case of `Kind` in
-- src/kind.rt with its number, and a case of `Plain` where it is no stretch.
use Rattle.std.specs.Prelude.{Bool, true, false, List, [], ◌∷◌, ◌++◌, ◌≡◌, ℕ, eqb, ltb, length, get_or, codes, decimal, Result, MatchResult}
use Rattle.meaning.specs.Heartbeat.{heartbeat_bit}
use Rattle.kinds.specs.declared.table.Use.{Use}
use Rattle.kinds.specs.declared.table.Use.TheVariants.{Unused, Bit, Lower, Limit}
use Rattle.kinds.specs.declared.table.KindLine.{KindLine}
use Rattle.kinds.specs.declared.kind.Kind as Named
use Rattle.kinds.specs.declared.kind.Kind.TheVariants as named
use Rattle.kinds.specs.declared.kind.UnknownKind.{UnknownKind}
use Rattle.kinds.specs.declared.rule.Rule as Says
use Rattle.kinds.specs.declared.rule.Rule.TheVariants as says
use Rattle.kinds.specs.declared.plain.Plain.{Plain}
use Rattle.kinds.specs.declared.stretch.Keep.TheVariants.{Unasked, WhileX}
use Rattle.kinds.specs.declared.stretch.Feed.TheVariants.{FromX, FromY}
use Rattle.kinds.specs.declared.stretch.Stretch.{Stretch}

-- What a row says: a plain kind, or a stretch with limits a and b, by its columns: what is asked for its spans to be kept, which row feeds it and at which
-- truth, and whether it is true inside a span or outside every span.
pub data Rule : Type 0 where
  plain : Plain → Rule
  stretch : Stretch → Rule

-- "x since y": kept while x is true, fed where y is true, true inside a span.
abbrev pub x_since_y : Stretch
x_since_y = record { keep = WhileX; feed = FromY; when = true; inside = true }

-- "once x", true since x: kept whatever comes, fed where x is true, true inside a span.
abbrev pub once_x : Stretch
once_x = record { keep = Unasked; feed = FromX; when = true; inside = true }

-- "always x", not once not x: kept whatever comes, fed where x is false, true outside every span.
abbrev pub always_x : Stretch
always_x = record { keep = Unasked; feed = FromX; when = false; inside = false }

-- A line of the table: what x, y, a and b are used as, and what a row of the kind says.
pub record Kind : Type 0 where
  pub x : Use
  pub y : Use
  pub a : Use
  pub b : Use
  pub rule : Rule

abbrev pub kind : (x y a b : Use) → Rule → Kind
kind x y a b rule = record { x = x; y = y; a = a; b = b; rule = rule }

abbrev pub kinds : List Kind
kinds =
    -- 0: "true"
    kind Unused Unused Unused Unused (plain Plain.Truth)
    -- 1: "bit x of the event's mask is set"
    ∷ kind Bit Unused Unused Unused (plain Plain.Bit)
    -- 2: "row x is false"
    ∷ kind Lower Unused Unused Unused (plain Plain.Negation)
    -- 3: "rows x and y both true"
    ∷ kind Lower Lower Unused Unused (plain Plain.Both)
    -- 4: "row x or row y true"
    ∷ kind Lower Lower Unused Unused (plain Plain.Either)
    -- 5: "there is an event i-1, row x was true at it, and t(i)-t(i-1) is in [a,b]"
    ∷ kind Lower Unused Limit Limit (plain Plain.Previous)
    -- 6: "x since y"
    ∷ kind Lower Lower Limit Limit (stretch x_since_y)
    -- 7: "once x in [a,b]"
    ∷ kind Lower Unused Limit Limit (stretch once_x)
    -- 8: "always x in [a,b]"
    ∷ kind Lower Unused Limit Limit (stretch always_x)
    ∷ []

-- "kinds over 8" are those without a line.
abbrev pub known : ℕ → Bool
known k = ltb k (length kinds)

-- The line of a kind; where there is none, a line that uses nothing and says true; such a row is refused.
unfoldable pub kind_at : ℕ → Kind
kind_at k = get_or kinds k (kind Unused Unused Unused Unused (plain Plain.Truth))

-- "each since row owns its own stretch": the table tells which kinds do, by what their rows say.
abbrev pub has_stretch : Rule → Bool
has_stretch (plain said) = false
has_stretch (stretch columns) = true

abbrev pub owns_stretch : ℕ → Bool
owns_stretch k = has_stretch (kind_at k).rule

-- The number of a kind as the code has it, and which kind a number names: that with this number, or none, where no kind has a line.
abbrev pub number_of : Named.Kind → ℕ
number_of named.Truth = 0
number_of named.Bit = 1
number_of named.Negation = 2
number_of named.Both = 3
number_of named.Either = 4
number_of named.Previous = 5
number_of named.Since = 6
number_of named.Once = 7
number_of named.Always = 8

abbrev pub Names : ℕ → Result Named.Kind UnknownKind → Type 0
Names number answer = MatchResult answer (λ kind. number_of kind ≡ number) (λ unknown. (unknown.0 ≡ number) × (known number ≡ false))

-- What is printed of a number that names no kind.
abbrev pub unknown_text : UnknownKind → List ℕ
unknown_text unknown = codes "no kind of row has number " ++ decimal unknown.0

-- What a row says, and the line of a kind, as the code has them.
abbrev pub rule_line : Rule → Says.Rule
rule_line (plain said) = says.Plain said
rule_line (stretch columns) = says.Stretch columns

abbrev pub kind_line : Kind → KindLine
kind_line k = record { x = k.x; y = k.y; a = k.a; b = k.b; rule = rule_line k.rule }

-- Which numbers name a lower row.
abbrev pub is_lower : Use → Bool
is_lower Unused = false
is_lower Bit = false
is_lower Lower = true
is_lower Limit = false

-- "x or y not lower, bit over 31, unused not 0" is a number that does not fit its use; "refusal 2 now refuses bit 31 in a rule" (document 02, E2).
-- Limits are judged later.
abbrev pub fits : ℕ → Use → ℕ → Bool
fits row Unused number = eqb number 0
fits row Bit number = ltb number heartbeat_bit
fits row Lower number = ltb number row
fits row Limit number = true
