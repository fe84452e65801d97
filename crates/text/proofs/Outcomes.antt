-- Any two outcomes that the contract of a public function allows are the same: the answer, and every number, word and byte that was lent.
use mathlib.Core.List.{List}
use mathlib.Core.Path.{◌≡◌, sym, ap, ◌∙◌}
use Prim.Native.Nat.{ℕ}
use Rattle.std.specs.Prelude.{Option}
use Rattle.text.specs.declared.feed.Fed.{Fed}
use Rattle.text.specs.declared.state.State.{State}
use Rattle.text.specs.Replies.{Wrote}
use Rattle.text.specs.Feed.{Memory, memory_of, state_in, fresh, Stepped, Ended}

-- `text::state::fresh`.
pub one_state : (r r' : State) → r ≡ fresh → r' ≡ fresh → r ≡ r'
one_state r r' is is' = is ∙ sym is'

-- What is written, and how many bytes it has.
one_writing : (out text : List ℕ) (wrote wrote' : ℕ) (after after' : List ℕ)
    → Wrote out text wrote after → Wrote out text wrote' after' → (wrote ≡ wrote') × (after ≡ after')
one_writing out text wrote wrote' after after' w w' = (w.count ∙ sym w'.count, w.bytes ∙ sym w'.bytes)

-- `text::feed::step`.
pub record SameStep (state' state'' : State) (table' table'' store' store'' : List ℕ) (fed fed' : Fed) (after after' : List ℕ) : Type 0 where
  pub answer : fed ≡ fed'
  pub state : state' ≡ state''
  pub numbers : table' ≡ table''
  pub words : store' ≡ store''
  pub output : after ≡ after'

pub one_step : (state : State) (table store piece out : List ℕ)
    (state' state'' : State) (table' table'' store' store'' : List ℕ) (fed fed' : Fed) (after after' : List ℕ)
    → Stepped state table store piece out state' table' store' fed after
    → Stepped state table store piece out state'' table'' store'' fed' after'
    → SameStep state' state'' table' table'' store' store'' fed fed' after after'
one_step state table store piece out state' state'' table' table'' store' store'' fed fed' after after' s s' =
    let left : memory_of state' table' store' ≡ memory_of state'' table'' store'' = s.left ∙ sym s'.left in
    let used : fed.used ≡ fed'.used = s.used ∙ sym s'.used in
    let written = one_writing out _ fed.wrote fed'.wrote after after' s.wrote s'.wrote in
    record {
      answer = λ i. record { used = used i; wrote = written.0 i };
      state = ap state_in left;
      numbers = ap (λ (m : Memory). m.desk.table) left;
      words = ap (λ (m : Memory). m.desk.store) left;
      output = written.1;
    }

-- `text::feed::finish`.
pub record SameEnd (wrote wrote' : Option ℕ) (after after' : List ℕ) : Type 0 where
  pub answer : wrote ≡ wrote'
  pub output : after ≡ after'

pub one_end : (text out : List ℕ) (wrote wrote' : Option ℕ) (after after' : List ℕ)
    → Ended text out wrote after → Ended text out wrote' after' → SameEnd wrote wrote' after after'
one_end text out wrote wrote' after after' e e' =
    record { answer = e.count ∙ sym e'.count; output = e.bytes ∙ sym e'.bytes }
