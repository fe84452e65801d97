-- Laws of the table of kinds: what a rule asks of the line that has it, tests over all lines, and what a number that fits its use is.
use mathlib.Core.Bool.{Bool, true, false, not, ◌&&◌}
use mathlib.Core.List.{List, [], ◌∷◌}
use mathlib.Core.Path.{◌≡◌, refl, sym, ap}
use Prim.Native.Nat.{ℕ, zero, suc, ◌≤◌, ◌<◌}
use native.Mathlib.Omega.{arith}
use native.Mathlib.Nat.{le_of_suc-le-suc, not-suc-le-zero}
use lib.ListN.{length, get_or, get_or-eq_default}
use borrow.Author.Tests.{ltb-false}
use Rattle.std.specs.Prelude.{Result, Ok, Err}
use Rattle.std.specs.Result.{result_unwrap_or}
use Rattle.meaning.proofs.Tells.{Tells, tells_ltb, tells_eqb}
use Rattle.meaning.proofs.Truths.{and_left, and_right}
use Rattle.meaning.specs.Heartbeat.{heartbeat_bit}
use Rattle.kinds.specs.Kinds.{Rule, plain, stretch, Kind, kind, kinds, kind_at, owns_stretch, number_of, Names, rule_line, is_lower, fits}
use Rattle.kinds.specs.declared.kind.Kind as Named
use Rattle.kinds.specs.declared.kind.Kind.TheVariants as named
use Rattle.kinds.specs.declared.kind.UnknownKind.{UnknownKind}
use Rattle.kinds.specs.declared.table.Use.{Use}
use Rattle.kinds.specs.declared.table.Use.TheVariants.{Unused, Bit, Lower, Limit}
use Rattle.kinds.specs.declared.rule.Rule.TheVariants as says
use Rattle.kinds.specs.declared.plain.Plain.{Plain}
use Rattle.kinds.specs.declared.stretch.Keep.{Keep}
use Rattle.kinds.specs.declared.stretch.Keep.TheVariants.{Unasked, WhileX, WhileY}
use Rattle.kinds.specs.declared.stretch.Feed.{Feed}
use Rattle.kinds.specs.declared.stretch.Feed.TheVariants.{FromX, FromY}
use Rattle.kinds.specs.declared.stretch.Stretch.{Stretch}

-- What `kind_at` reads where a kind has no line.
abbrev no_line : Kind
no_line = kind Unused Unused Unused Unused (plain Plain.Truth)

-- What a row says, from the code's answer.
pub plain-said : (rule : Rule) {said : Plain} → says.Plain said ≡ rule_line rule → rule ≡ plain said
plain-said (plain said) h = cc
plain-said (stretch columns) h = cc

pub stretch-said : (rule : Rule) {columns : Stretch} → says.Stretch columns ≡ rule_line rule → rule ≡ stretch columns
stretch-said (plain said) h = cc
stretch-said (stretch columns) h = cc

-- What a rule asks of the line that has it: the rows that it speaks of are used as lower rows, and its bit as a bit.
abbrev pub is_bit : Use → Bool
is_bit Unused = false
is_bit Bit = true
is_bit Lower = false
is_bit Limit = false

abbrev pub keeper_right : Kind → Keep → Bool
keeper_right k Unasked = true
keeper_right k WhileX = is_lower k.x
keeper_right k WhileY = is_lower k.y

abbrev pub feeder_right : Kind → Feed → Bool
feeder_right k FromX = is_lower k.x
feeder_right k FromY = is_lower k.y

abbrev pub plain_right : Kind → Plain → Bool
plain_right k Plain.Truth = true
plain_right k Plain.Bit = is_bit k.x
plain_right k Plain.Negation = is_lower k.x
plain_right k Plain.Both = is_lower k.x && is_lower k.y
plain_right k Plain.Either = is_lower k.x && is_lower k.y
plain_right k Plain.Previous = is_lower k.x

abbrev pub rule_right : Kind → Rule → Bool
rule_right k (plain says) = plain_right k says
rule_right k (stretch columns) = keeper_right k columns.keep && feeder_right k columns.feed

-- A test of a number and its line, computed over all lines of the table, is passed by the line of each kind.
abbrev every : (ℕ → Kind → Bool) → List Kind → Bool
every test [] = true
every test (k ∷ l) = test 0 k && every (λ (n : ℕ). test (suc n)) l

every-at : (test : ℕ → Kind → Bool) (l : List Kind) (n : ℕ) (other : Kind) → every test l ≡ true → n < length l → test n (get_or l n other) ≡ true
every-at test [] n other h lower = absurd (not-suc-le-zero lower)
every-at test (k ∷ l) zero other h lower = and_left (test 0 k) (every (λ (n : ℕ). test (suc n)) l) h
every-at test (k ∷ l) (suc n) other h lower =
    every-at (λ (n : ℕ). test (suc n)) l n other (and_right (test 0 k) (every (λ (n : ℕ). test (suc n)) l) h) (le_of_suc-le-suc lower)

pub kinds_pass : (test : ℕ → Kind → Bool) → every test kinds ≡ true → (n : ℕ) → n < length kinds → test n (kind_at n) ≡ true
unfolding kind_at
kinds_pass test computed n lower = every-at test kinds n _ computed lower

-- Past the lines there is none, and so no stretch.
past_line : (n : ℕ) → length kinds ≤ n → kind_at n ≡ no_line
unfolding kind_at
past_line n past = get_or-eq_default kinds no_line past

pub past_bare : (n : ℕ) → length kinds ≤ n → owns_stretch n ≡ false
past_bare n past = rw (past_line n past)

-- The kind that a number names, and that of true where it names none, has the line of the number.
pub line_read : (number : ℕ) (answer : Result Named.Kind UnknownKind) → Names number answer
    → kind_at (number_of (result_unwrap_or answer named.Truth)) ≡ kind_at number
unfolding kind_at
line_read number (Ok k) names = ap kind_at names
line_read number (Err unknown) names = sym (past_line number (ltb-false number (length kinds) names.1))

-- What a number that fits its use is.
abbrev pub Fits : ℕ → Use → ℕ → Type 0
Fits r Unused number = number ≡ 0
Fits r Bit number = number < heartbeat_bit
Fits r Lower number = number < r
Fits r Limit number = Unit

pub fits_told : (r : ℕ) (usage : Use) (number : ℕ) → Tells (fits r usage number) (Fits r usage number)
fits_told r Unused number = tells_eqb number 0
fits_told r Bit number = tells_ltb number heartbeat_bit
fits_told r Lower number = tells_ltb number r
fits_told r Limit number = record { sound = λ _. tt; complete = λ _. tt }

-- Which use is that of a lower row.
pub lower_use_told : (usage : Use) → Tells (is_lower usage) (usage ≡ Lower)
lower_use_told Unused = record { sound = λ none. absurd none; complete = λ e. (cc) }
lower_use_told Bit = record { sound = λ none. absurd none; complete = λ e. (cc) }
lower_use_told Lower = record { sound = λ _. refl; complete = λ _. tt }
lower_use_told Limit = record { sound = λ none. absurd none; complete = λ e. (cc) }

-- A number that is used as a lower row is lower, and one that is used as a bit is below the heartbeat's.
pub lower_told : (r : ℕ) (usage : Use) (number : ℕ) → is_lower usage ≡ true → Fits r usage number → number < r
lower_told r Unused number h fit = cc
lower_told r Bit number h fit = cc
lower_told r Lower number h fit = fit
lower_told r Limit number h fit = cc

pub bit-told : (r : ℕ) (usage : Use) (number : ℕ) → is_bit usage ≡ true → Fits r usage number → number < heartbeat_bit
bit-told r Unused number h fit = cc
bit-told r Bit number h fit = fit
bit-told r Lower number h fit = cc
bit-told r Limit number h fit = cc

-- A number that is no limit is below every bound that is over 30 and not below the row.
abbrev pub is_limit : Use → Bool
is_limit Unused = false
is_limit Bit = false
is_limit Lower = false
is_limit Limit = true

pub no_limit_below : (r most : ℕ) (usage : Use) (number : ℕ) → r ≤ most → heartbeat_bit ≤ most → not (is_limit usage) ≡ true → Fits r usage number → number < most
no_limit_below r most Unused number few wide h fit = omega arith
no_limit_below r most Bit number few wide h fit = omega arith
no_limit_below r most Lower number few wide h fit = omega arith
no_limit_below r most Limit number few wide h fit = cc
