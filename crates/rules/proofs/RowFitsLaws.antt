-- What a row that passes 2 is: each of its numbers fits its use, so that the rows which it speaks of are lower, and x and y small.
use mathlib.Core.Bool.{true, not, ◌&&◌}
use mathlib.Core.Path.{◌≡◌, refl}
use Prim.Native.Nat.{ℕ, ◌≤◌, ◌<◌}
use lib.ListN.{length}
use Rattle.meaning.proofs.Tells.{Tells, tells_ltb, tells_and, tells_same}
use Rattle.meaning.proofs.Truths.{and_left, and_right}
use Rattle.meaning.specs.Heartbeat.{heartbeat_bit}
use Rattle.kinds.specs.Kinds.{Rule, plain, stretch, Kind, kinds, kind_at, is_lower}
use Rattle.kinds.specs.declared.plain.Plain.{Plain}
use Rattle.kinds.specs.declared.stretch.Keep.{Keep}
use Rattle.kinds.specs.declared.stretch.Keep.TheVariants.{Unasked, WhileX, WhileY}
use Rattle.kinds.specs.declared.stretch.Feed.{Feed}
use Rattle.kinds.specs.declared.stretch.Feed.TheVariants.{FromX, FromY}
use Rattle.kinds.proofs.KindsLaws.{
  is_limit,
  keeper_right,
  feeder_right,
  plain_right,
  rule_right,
  kinds_pass,
  Fits,
  fits_told,
  lower_told,
  bit-told,
  no_limit_below,
}
use Rattle.rules.specs.Rows.{rule_of, feeder}
use Rattle.rules.specs.Table.{row_passes}
use Rattle.rules.specs.declared.numbers.Numbers.{Numbers}

-- Each number of a row fits the use that the line of a kind has for it.
pub record AllFit (r : ℕ) (k : Kind) (row : Numbers) : Type 0 where
  pub x : Fits r k.x row.x
  pub y : Fits r k.y row.y
  pub a : Fits r k.a row.a
  pub b : Fits r k.b row.b

-- What a row that passes 2 is.
pub record RowFits (r : ℕ) (row : Numbers) : Type 0 where
  pub known : row.kind < length kinds
  pub all : AllFit r (kind_at row.kind) row

pub row_fits_told : (r : ℕ) (row : Numbers) → Tells (row_passes r row) (RowFits r row)
unfolding row_passes
row_fits_told r row =
    let k : Kind = kind_at row.kind in
    tells_same
    (λ h. record { known = h.0; all = record { x = h.1.0.0.0; y = h.1.0.0.1; a = h.1.0.1; b = h.1.1 } })
    (λ right. (right.known, (((right.all.x, right.all.y), right.all.a), right.all.b)))
    (tells_and
    (tells_ltb row.kind (length kinds))
    (tells_and
    (tells_and (tells_and (fits_told r k.x row.x) (fits_told r k.y row.y)) (fits_told r k.a row.a))
    (fits_told r k.b row.b)))

-- "A row may name only lower rows", and "x 0 to 31", but for the heartbeat's: by what the row says.
abbrev pub PlainNames : ℕ → Numbers → Plain → Type 0
PlainNames r row Plain.Truth = Unit
PlainNames r row Plain.Bit = row.x < heartbeat_bit
PlainNames r row Plain.Negation = row.x < r
PlainNames r row Plain.Both = (row.x < r) × (row.y < r)
PlainNames r row Plain.Either = (row.x < r) × (row.y < r)
PlainNames r row Plain.Previous = row.x < r

abbrev pub KeeperLower : ℕ → Numbers → Keep → Type 0
KeeperLower r row Unasked = Unit
KeeperLower r row WhileX = row.x < r
KeeperLower r row WhileY = row.y < r

abbrev pub Names : ℕ → Numbers → Rule → Type 0
Names r row (plain says) = PlainNames r row says
Names r row (stretch columns) = KeeperLower r row columns.keep × (feeder columns.feed row < r)

module _ (r : ℕ) (row : Numbers) (k : Kind) (fit : AllFit r k row) where
  x_lower : is_lower k.x ≡ true → row.x < r
  x_lower h = lower_told r k.x row.x h fit.x

  y_lower : is_lower k.y ≡ true → row.y < r
  y_lower h = lower_told r k.y row.y h fit.y

  keeper_lower : (keep : Keep) → keeper_right k keep ≡ true → KeeperLower r row keep
  keeper_lower Unasked h = tt
  keeper_lower WhileX h = x_lower h
  keeper_lower WhileY h = y_lower h

  feeder_lower : (feed : Feed) → feeder_right k feed ≡ true → feeder feed row < r
  feeder_lower FromX h = x_lower h
  feeder_lower FromY h = y_lower h

  plain_names : (says : Plain) → plain_right k says ≡ true → PlainNames r row says
  plain_names Plain.Truth h = tt
  plain_names Plain.Bit h = bit-told r k.x row.x h fit.x
  plain_names Plain.Negation h = x_lower h
  plain_names Plain.Both h =
      (x_lower (and_left (is_lower k.x) (is_lower k.y) h), y_lower (and_right (is_lower k.x) (is_lower k.y) h))
  plain_names Plain.Either h =
      (x_lower (and_left (is_lower k.x) (is_lower k.y) h), y_lower (and_right (is_lower k.x) (is_lower k.y) h))
  plain_names Plain.Previous h = x_lower h

  rule_names : (rule : Rule) → rule_right k rule ≡ true → Names r row rule
  rule_names (plain says) h = plain_names says h
  rule_names (stretch columns) h = (
    keeper_lower columns.keep (and_left (keeper_right k columns.keep) (feeder_right k columns.feed) h),
    feeder_lower columns.feed (and_right (keeper_right k columns.keep) (feeder_right k columns.feed) h),
  )

-- The rows that a row speaks of are lower, for every kind of the table.
pub names_lower : (r : ℕ) (row : Numbers) → RowFits r row → Names r row (rule_of row)
names_lower r row fits = rule_names r row (kind_at row.kind) fits.all (rule_of row)
    (kinds_pass (λ (n : ℕ) (k : Kind). rule_right k k.rule) refl row.kind fits.known)

-- x and y are no limits in any kind, so both are below every bound that is over 30 and not below the row.
pub x_and_y_below : (r most : ℕ) (row : Numbers) → r ≤ most → heartbeat_bit ≤ most → RowFits r row → (row.x < most) × (row.y < most)
x_and_y_below r most row few wide fits =
    let k : Kind = kind_at row.kind in
    let both : (not (is_limit k.x) && not (is_limit k.y)) ≡ true =
    kinds_pass (λ (n : ℕ) (k : Kind). not (is_limit k.x) && not (is_limit k.y)) refl row.kind fits.known in (
      no_limit_below r most k.x row.x few wide (and_left (not (is_limit k.x)) (not (is_limit k.y)) both) fits.all.x,
      no_limit_below r most k.y row.y few wide (and_right (not (is_limit k.x)) (not (is_limit k.y)) both) fits.all.y,
    )
