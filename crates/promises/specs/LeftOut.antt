-- "the stream goes on as if it hadn't been made", of anything that answers one thing after another: leaving out those that are refused leaves every
-- other answer and the state at the end the same.
use Rattle.std.specs.Prelude.{Bool, cond, List, [], ◌∷◌, ◌≡◌}

-- What a thing is answered in a state, what it leaves, and whether an answer is no refusal.
pub record Machine (State Thing Answer : Type 0) : Type 0 where
  pub answer : State → Thing → Answer
  pub left : State → Thing → State
  pub unrefused : Answer → Bool

module _ {State Thing Answer : Type 0} (m : Machine State Thing Answer) where
  -- The answers in turn, the state after them, and the things that were not refused, with their answers.
  unfoldable pub answers : State → List Thing → List Answer
  answers s [] = []
  answers s (t ∷ more) = m.answer s t ∷ answers (m.left s t) more

  unfoldable pub end : State → List Thing → State
  end s [] = s
  end s (t ∷ more) = end (m.left s t) more

  unfoldable pub others : State → List Thing → List Thing
  others s [] = []
  others s (t ∷ more) = cond (m.unrefused (m.answer s t)) (t ∷ others (m.left s t) more) (others (m.left s t) more)

  unfoldable pub other_answers : List Answer → List Answer
  other_answers [] = []
  other_answers (given ∷ more) = cond (m.unrefused given) (given ∷ other_answers more) (other_answers more)

  pub record Unchanged (s : State) (things : List Thing) : Type 0 where
    pub same_answers : answers s (others s things) ≡ other_answers (answers s things)
    pub same_state : end s (others s things) ≡ end s things
