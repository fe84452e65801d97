-- The tests of the table check tell the conditions on a table in document 01's words, in both directions. What each test tells is proved in `rules`;
-- here it is taken to those words.
use mathlib.Core.List.{List}
use mathlib.Core.Logic.{⊎_elim, inl, inr}
use mathlib.Core.Path.{◌≡◌, refl, subst⁻¹}
use Prim.Native.Nat.{ℕ, zero, suc, ◌<◌}
use native.Mathlib.Omega.{arith}
use lib.ListN.{length}
use Rattle.meaning.proofs.Tells.{Tells, tells_same}
use Rattle.kinds.specs.Kinds.{kinds, kind_at}
use Rattle.rules.specs.Table.{length_passes, row_passes, limits_pass}
use Rattle.rules.specs.declared.numbers.Numbers.{Numbers}
use Rattle.rules.proofs.RowFitsLaws.{AllFit, RowFits, row_fits_told}
use Rattle.rules.proofs.TableLaws.{whole_rows_told}
use Rattle.rules.proofs.PassedLaws.{range_told}
use Rattle.promises.specs.Conditions.{LengthRight, RowRight, truth, bit, negation, both, either, previous, since, once, always, LimitsRight}

pub length_told : (table : List ℕ) → Tells (length_passes (length table)) (LengthRight table)
length_told table =
    tells_same
    (λ rows. record { whole = rows.no_rest; least = rows.some-row; most = rows.few-rows })
    (λ right. record { no_rest = right.whole; some-row = right.least; few-rows = right.most })
    (whole_rows_told (length table))

-- The line of each kind asks what document 01 says of the kind.
right_of_fit : (row : ℕ) (n : Numbers) (kind : ℕ) → n.kind ≡ kind → kind < length kinds → AllFit row (kind_at kind) n → RowRight row n
unfolding kind_at
right_of_fit row n zero e lower fit = truth e fit.x fit.y fit.a fit.b
right_of_fit row n (suc zero) e lower fit = bit e fit.x fit.y fit.a fit.b
right_of_fit row n (suc (suc zero)) e lower fit = negation e fit.x fit.y fit.a fit.b
right_of_fit row n (suc (suc (suc zero))) e lower fit = both e fit.x fit.y fit.a fit.b
right_of_fit row n (suc (suc (suc (suc zero)))) e lower fit = either e fit.x fit.y fit.a fit.b
right_of_fit row n (suc (suc (suc (suc (suc zero))))) e lower fit = previous e fit.x fit.y
right_of_fit row n (suc (suc (suc (suc (suc (suc zero)))))) e lower fit = since e fit.x fit.y
right_of_fit row n (suc (suc (suc (suc (suc (suc (suc zero))))))) e lower fit = once e fit.x fit.y
right_of_fit row n (suc (suc (suc (suc (suc (suc (suc (suc zero)))))))) e lower fit = always e fit.x fit.y
right_of_fit row n (suc (suc (suc (suc (suc (suc (suc (suc (suc kind))))))))) e lower fit = absurd (omega arith)

-- What is right fits.
fits-at : (row : ℕ) (n : Numbers) (kind : ℕ) → n.kind ≡ kind → kind < length kinds → AllFit row (kind_at kind) n → RowFits row n
fits-at row n kind e lower fit = record { known = omega arith; all = subst⁻¹ (λ (k : ℕ). AllFit row (kind_at k) n) e fit }

fit_of_right : (row : ℕ) (n : Numbers) → RowRight row n → RowFits row n
unfolding kind_at
fit_of_right row n (truth e x y a b) = fits-at row n 0 e (omega arith) (record { x = x; y = y; a = a; b = b })
fit_of_right row n (bit e x y a b) = fits-at row n 1 e (omega arith) (record { x = x; y = y; a = a; b = b })
fit_of_right row n (negation e x y a b) = fits-at row n 2 e (omega arith) (record { x = x; y = y; a = a; b = b })
fit_of_right row n (both e x y a b) = fits-at row n 3 e (omega arith) (record { x = x; y = y; a = a; b = b })
fit_of_right row n (either e x y a b) = fits-at row n 4 e (omega arith) (record { x = x; y = y; a = a; b = b })
fit_of_right row n (previous e x y) = fits-at row n 5 e (omega arith) (record { x = x; y = y; a = tt; b = tt })
fit_of_right row n (since e x y) = fits-at row n 6 e (omega arith) (record { x = x; y = y; a = tt; b = tt })
fit_of_right row n (once e x y) = fits-at row n 7 e (omega arith) (record { x = x; y = y; a = tt; b = tt })
fit_of_right row n (always e x y) = fits-at row n 8 e (omega arith) (record { x = x; y = y; a = tt; b = tt })

pub row_told : (row : ℕ) (n : Numbers) → Tells (row_passes row n) (RowRight row n)
row_told row n = tells_same (λ fits. right_of_fit row n n.kind refl fits.known fits.all) (fit_of_right row n) (row_fits_told row n)

pub limits_told : (a b : ℕ) → Tells (limits_pass a b) (LimitsRight a b)
limits_told a b =
    tells_same
    (λ range. record { low = range.least; high = ⊎_elim inr inl range.most })
    (λ right. record { least = right.low; most = ⊎_elim inr inl right.high })
    (range_told a b)
