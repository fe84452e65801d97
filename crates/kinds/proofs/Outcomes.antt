-- Any two outcomes that the contract of `Kind::try_from` allows are the same: a number names one kind, or none. Every other public function's contract is
-- `r ≡ value`, whose law is `one_value` of crate `meaning`.
use Rattle.std.proofs.Common.{◌≡◌, ℕ, Ok, Err, [], ◌∷◌, get_or, true, false, refl, sym, ap, ◌∙◌}
use Rattle.std.specs.Prelude.{Result}
use Rattle.kinds.specs.Kinds.{known, number_of, Names}
use Rattle.kinds.specs.declared.kind.Kind.{Kind}
use Rattle.kinds.specs.declared.kind.Kind.TheVariants.{Truth, Bit, Negation, Both, Either, Previous, Since, Once, Always}
use Rattle.kinds.specs.declared.kind.UnknownKind.{UnknownKind}

-- The kind of a number; some kind past the last.
abbrev kind_of : ℕ → Kind
kind_of number = get_or (Truth ∷ Bit ∷ Negation ∷ Both ∷ Either ∷ Previous ∷ Since ∷ Once ∷ Always ∷ []) number Truth

-- A kind is the one of its number, which is known.
kind_back : (k : Kind) → (kind_of (number_of k) ≡ k) × (known (number_of k) ≡ true)
kind_back Truth = (refl, refl)
kind_back Bit = (refl, refl)
kind_back Negation = (refl, refl)
kind_back Both = (refl, refl)
kind_back Either = (refl, refl)
kind_back Previous = (refl, refl)
kind_back Since = (refl, refl)
kind_back Once = (refl, refl)
kind_back Always = (refl, refl)

-- The number of a kind is known.
pub number-known : (k : Kind) → known (number_of k) ≡ true
number-known k = (kind_back k).1

-- A number that a kind has is not unknown.
named_known : (k : Kind) (number : ℕ) → number_of k ≡ number → ¬ (known number ≡ false)
named_known k number e unknown = cc (number-known k)

abbrev no_kind : ℕ → Result Kind UnknownKind
no_kind number = Err (record { 0 = number })

pub try_from_one_outcome : (number : ℕ) (p q : Result Kind UnknownKind) → Names number p → Names number q → p ≡ q
try_from_one_outcome number (Ok k) (Ok l) p q = ap Ok (sym (kind_back k).0 ∙ ap kind_of (p ∙ sym q) ∙ (kind_back l).0)
try_from_one_outcome number (Ok k) (Err unknown) p q = absurd (named_known k number p q.1)
try_from_one_outcome number (Err unknown) (Ok k) p q = absurd (named_known k number q p.1)
try_from_one_outcome number (Err unknown) (Err other) p q = ap no_kind (p.0 ∙ sym q.0)
