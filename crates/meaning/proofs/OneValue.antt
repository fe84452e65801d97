-- What equals the same is the same: why a contract that is an equation allows one outcome only.
use mathlib.Core.Path.{◌≡◌, sym, ap, ◌∙◌}

-- Two that equal the same: the one law of every contract `r ≡ value`, where the value does not speak of r.
pub one_value : {A : Type 0} {x p q : A} → p ≡ x → q ≡ x → p ≡ q
one_value p q = p ∙ sym q

-- What can be got back from what is said of it is said of one only.
pub one-said : {A B : Type 0} {x : B} (say : A → B) (back : B → A) → ((a : A) → back (say a) ≡ a) → (p q : A) → say p ≡ x → say q ≡ x → p ≡ q
one-said say back returns p q e e' = sym (returns p) ∙ ap back (one_value e e') ∙ returns q
