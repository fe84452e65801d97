-- Laws of deciding: more of what a test tells, and that an answer refuses exactly under conditions that are decided.
use mathlib.Core.Bool.{Bool, true, false, ◌&&◌, beq}
use mathlib.Core.Logic.{◌⊎◌, ◌↔◌, inl, inr, ⊎_elim}
use mathlib.Core.Path.{◌≡◌, refl, sym, subst, ◌∙◌}
use Prim.Native.Nat.{ℕ, zero, suc, ◌<◌}
use native.Mathlib.Nat.{eq-or-lt_of_le, le_of_suc-le-suc}
use native.Mathlib.Omega.{arith}
use lib.Dec.{T}
use Rattle.meaning.proofs.Truths.{no_truth}
use Rattle.meaning.proofs.Tells.{Tells, tells_and, tells_same}
use Rattle.refusals.specs.Refusals.{Refused}
use Rattle.soundness.specs.Soundness.{every}

-- Of two tests that come out the same, one tells what the other does.
pub same_tells : (test other : Bool) {A : Type 0} → beq test other ≡ true → Tells other A → Tells test A
same_tells true true same told = told
same_tells true false same told = absurd (no_truth same)
same_tells false true same told = absurd (no_truth same)
same_tells false false same told = told

-- The second test tells its condition where the first one passed.
pub tells_and_then : {s t : Bool} {A B : Type 0} → Tells s A → (A → Tells t B) → Tells (s && t) (A × B)
tells_and_then {s = true} left right =
    record {
      sound = λ told. (left.sound tt, (right (left.sound tt)).sound told);
      complete = λ holds. (right holds.0).complete holds.1;
    }
tells_and_then {s = false} left right = record { sound = λ none. absurd none; complete = λ holds. left.complete holds.0 }

pub tells_every : (n : ℕ) (test : ℕ → Bool) (A : ℕ → Type 0)
    → ((row : ℕ) → row < n → Tells (test row) (A row))
    → Tells (every n test) ((row : ℕ) → row < n → A row)
unfolding every
tells_every zero test A told = record { sound = λ _ row lower. absurd (omega arith); complete = λ _. tt }
tells_every (suc n) test A told =
    tells_same
    (λ both row lower. ⊎_elim (λ e. rw e both.1) (both.0 row) (eq-or-lt_of_le (le_of_suc-le-suc lower)))
    (λ all. (λ row lower. all row (omega arith), all n (omega arith)))
    (tells_and (tells_every n test A (λ row lower. told row (omega arith))) (told n (omega arith)))

-- What holds where a flag is not set.
pub unset : (flag : Bool) → flag ≡ false → ¬ T flag
unset true e set = let clash : ◌≡◌ {A = ℕ} 0 1 = cc in omega arith
unset false e set = set

pub set_or : {A : Type 0} (flag : Bool) → (flag ≡ false → A) → T flag ⊎ A
set_or true other = inl tt
set_or false other = inr (other refl)

pub or_unset : {A : Type 0} (flag : Bool) → T flag ⊎ A → flag ≡ false → A
or_unset flag either e = ⊎_elim (λ set. absurd (unset flag e set)) (λ a. a) either

-- Either all is right, or something refuses; what refuses is answered, and where all is right no refusal is: so what is answered refuses.
pub exactly : {A Right : Type 0} {Refuses : Refused → Type 0} (answer : A) (refusing : Refused → A)
    → ((f g : Refused) → refusing f ≡ refusing g → f ≡ g)
    → ((f : Refused) → Refuses f → answer ≡ refusing f)
    → (Right → (f : Refused) → ¬ (answer ≡ refusing f))
    → Right ⊎ ((f : Refused) × Refuses f)
    → (f : Refused)
    → (answer ≡ refusing f) ↔ Refuses f
exactly {Refuses = Refuses} answer refusing one refuses passes decided f = (
  λ answered.
      ⊎_elim
      (λ right. absurd (passes right f answered))
      (λ bad. subst Refuses (one bad.0 f (sym (refuses bad.0 bad.1) ∙ answered)) bad.1)
      decided,
  refuses f,
)
