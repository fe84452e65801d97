-- The formula of a row is made of those of the rows that it names.
use mathlib.Core.List.{List}
use mathlib.Core.Logic.{⊎_elim}
use mathlib.Core.Path.{◌≡◌, refl, sym, ◌∙◌}
use Prim.Native.Nat.{ℕ, zero, suc, ◌≤◌, ◌<◌}
use native.Mathlib.Nat.{eq-or-lt_of_le, le_of_suc-le-suc}
use native.Mathlib.Omega.{arith}
use borrow.Author.Tests.{eq-eqb, ne_eqb}
use Rattle.meaning.specs.Formula.{Formula}
use Rattle.kinds.specs.Kinds.{Rule, plain, stretch}
use Rattle.kinds.specs.declared.plain.Plain.TheVariants as Plain
use Rattle.kinds.specs.declared.stretch.Keep.{Keep}
use Rattle.kinds.specs.declared.stretch.Keep.TheVariants.{Unasked, WhileX, WhileY}
use Rattle.rules.specs.Rows.{numbers_at, rule_of, kept_by}
use Rattle.rules.specs.RowFormula.{below, formula, made_of, formula_of}
use Rattle.rules.specs.declared.numbers.Numbers.{Numbers}
use Rattle.rules.proofs.RowFitsLaws.{KeeperLower, Names}

-- The value of a row does not depend on how many rows above it there are.
pub below_at : {A : Type 0} (other : A) (make : ℕ → (ℕ → A) → A) (n r : ℕ) → r < n → below other make n r ≡ make r (below other make r)
unfolding below
below_at other make zero r lower = absurd (omega arith)
below_at other make (suc n) r lower =
    ⊎_elim
    (λ e. rw (eq-eqb r n e, e))
    (λ further. rw (ne_eqb r n (λ e. omega arith), below_at other make n r further))
    (eq-or-lt_of_le (le_of_suc-le-suc lower))

-- Past the rows that were made there is nothing but the other value.
pub below-past : {A : Type 0} (other : A) (make : ℕ → (ℕ → A) → A) (n r : ℕ) → n ≤ r → below other make n r ≡ other
unfolding below
below-past other make zero r past = refl
below-past other make (suc n) r past = rw (ne_eqb r n (λ e. omega arith)) (below-past other make n r (omega arith))

-- What keeps a row's spans is the same for two that agree on lower rows.
pub kept_same :
    {A : Type 0} (unasked : A) (f g : ℕ → A) (r : ℕ) (row : Numbers)
    → ((x : ℕ) → x < r → f x ≡ g x)
    → (keep : Keep)
    → KeeperLower r row keep
    → kept_by unasked f row keep ≡ kept_by unasked g row keep
kept_same unasked f g r row same Unasked lower = refl
kept_same unasked f g r row same WhileX lower = same _ lower
kept_same unasked f g r row same WhileY lower = same _ lower

-- Two ways to give formulas to rows that agree on lower rows give a row that names only such the same formula.
formula_same :
    (f g : ℕ → Formula) (r : ℕ) (row : Numbers)
    → ((x : ℕ) → x < r → f x ≡ g x)
    → (rule : Rule)
    → Names r row rule
    → formula f row rule ≡ formula g row rule
formula_same f g r row same (plain Plain.Truth) names = refl
formula_same f g r row same (plain Plain.Bit) names = refl
formula_same f g r row same (plain Plain.Negation) names = rw (same _ names)
formula_same f g r row same (plain Plain.Both) names = rw (same _ names.0, same _ names.1)
formula_same f g r row same (plain Plain.Either) names = rw (same _ names.0, same _ names.1)
formula_same f g r row same (plain Plain.Previous) names = rw (same _ names)
formula_same f g r row same (stretch columns) names =
    rw (kept_same Formula.truth f g r row same columns.keep names.0, same _ names.1)

pub formula-made :
    (table : List ℕ) (r : ℕ)
    → Names r (numbers_at table r) (rule_of (numbers_at table r))
    → formula_of table r ≡ made_of table r (formula_of table)
unfolding formula_of
formula-made table r names =
    below_at Formula.truth (made_of table) (suc r) r (omega arith)
    ∙ formula_same _ _ r (numbers_at table r)
    (λ x lower. below_at Formula.truth (made_of table) r x lower ∙ sym (below_at Formula.truth (made_of table) (suc x) x (omega arith)))
    (rule_of (numbers_at table r)) names
