-- Where what is refused leaves the state as it was, the others go on from the same states with or without it: by induction over the things.
use mathlib.Core.Bool.{Bool, true, false}
use mathlib.Core.List.{List, [], ◌∷◌}
use mathlib.Core.Path.{◌≡◌, refl, sym, ap, ◌∙◌}
use Rattle.promises.specs.LeftOut.{Machine, answers, end, others, other_answers, Unchanged}

module _ {State Thing Answer : Type 0} (m : Machine State Thing Answer)
    (leaves : (s : State) (t : Thing) → m.unrefused (m.answer s t) ≡ false → m.left s t ≡ s) where
  pub left_out : (s : State) (things : List Thing) → Unchanged m s things
  unfolding answers end others other_answers
  left_out s [] = record { same_answers = refl; same_state = refl }
  left_out s (t ∷ more) = go (m.unrefused (m.answer s t)) refl (left_out (m.left s t) more)
    where
      go : (yes : Bool) → m.unrefused (m.answer s t) ≡ yes → Unchanged m (m.left s t) more → Unchanged m s (t ∷ more)
      go true e rest =
          record {
            same_answers = rw e (ap (λ (given : List Answer). m.answer s t ∷ given) rest.same_answers);
            same_state = rw e rest.same_state;
          }
      go false e rest =
          let same : s ≡ m.left s t = sym (leaves s t e) in
          record {
            same_answers = rw e (ap (λ (from : State). answers m from (others m (m.left s t) more)) same ∙ rest.same_answers);
            same_state = rw e (ap (λ (from : State). end m from (others m (m.left s t) more)) same ∙ rest.same_state);
          }
