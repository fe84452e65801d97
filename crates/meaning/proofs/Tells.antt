-- A computed test that tells a proposition, in both directions, and one law for each connective.
use mathlib.Core.Bool.{Bool, true, false, not, ◌&&◌, ◌||◌}
use mathlib.Core.Logic.{◌⊎◌, inl, inr, ⊎_elim}
use mathlib.Core.Path.{◌≡◌, refl, sym, subst}
use Prim.Native.Nat.{ℕ, ◌≤◌, ◌<◌}
use lib.Dec.{T, leb, ltb, eqb, leb→le, le→leb, ltb→lt, lt→ltb, eqb→eq, eqb_refl}

pub record Tells (test : Bool) (A : Type 0) : Type 0 where
  pub sound : T test → A
  pub complete : A → T test

-- A flag tells that it is set.
pub tells_flag : (flag : Bool) → Tells flag (T flag)
tells_flag flag = record { sound = λ set. set; complete = λ set. set }

pub tells_leb : (m n : ℕ) → Tells (leb m n) (m ≤ n)
tells_leb m n = record { sound = leb→le m n; complete = le→leb m n }

pub tells_ltb : (m n : ℕ) → Tells (ltb m n) (m < n)
tells_ltb m n = record { sound = ltb→lt m n; complete = lt→ltb m n }

pub tells_eqb : (m n : ℕ) → Tells (eqb m n) (m ≡ n)
tells_eqb m n = record { sound = eqb→eq m n; complete = λ e. subst (λ (k : ℕ). T (eqb m k)) e (eqb_refl m) }

pub tells_not : {s : Bool} {A : Type 0} → Tells s A → Tells (not s) (¬ A)
tells_not {s = true} told = record { sound = λ none. absurd none; complete = λ refuted. refuted (told.sound tt) }
tells_not {s = false} told = record { sound = λ _ a. told.complete a; complete = λ _. tt }

pub tells_and : {s t : Bool} {A B : Type 0} → Tells s A → Tells t B → Tells (s && t) (A × B)
tells_and {s = true} left right =
    record { sound = λ told. (left.sound tt, right.sound told); complete = λ holds. right.complete holds.1 }
tells_and {s = false} left right = record { sound = λ none. absurd none; complete = λ holds. left.complete holds.0 }

pub tells_or : {s t : Bool} {A B : Type 0} → Tells s A → Tells t B → Tells (s || t) (A ⊎ B)
tells_or {s = true} left right = record { sound = λ _. inl (left.sound tt); complete = λ _. tt }
tells_or {s = false} left right =
    record { sound = λ told. inr (right.sound told); complete = ⊎_elim (λ a. absurd (left.complete a)) right.complete }

-- The same test tells whatever is equivalent.
pub tells_same : {s : Bool} {A B : Type 0} → (A → B) → (B → A) → Tells s A → Tells s B
tells_same there back told = record { sound = λ t. there (told.sound t); complete = λ b. told.complete (back b) }

-- What a test that passes tells.
pub tells_passed : {s : Bool} {A : Type 0} → Tells s A → s ≡ true → A
tells_passed told passes = told.sound (subst T (sym passes) tt)

-- What a test comes to, where what it tells is so and where it is not.
pub told_true : {s : Bool} {A : Type 0} → Tells s A → A → s ≡ true
told_true {s = true} told holds = refl
told_true {s = false} told holds = absurd (told.complete holds)

pub told_false : {s : Bool} {A : Type 0} → Tells s A → ¬ A → s ≡ false
told_false {s = true} told none = absurd (none (told.sound tt))
told_false {s = false} told none = refl

-- What a test tells is decided.
pub tells_decided : {s : Bool} {A : Type 0} → Tells s A → A ⊎ (¬ A)
tells_decided {s = true} told = inl (told.sound tt)
tells_decided {s = false} told = inr told.complete
