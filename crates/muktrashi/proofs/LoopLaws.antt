-- The pieces that the loop has taken: none at first, and one more with each turn.
use mathlib.Core.Bool.{true, false}
use mathlib.Core.List.{List, [], ◌∷◌, ◌++◌}
use mathlib.Core.Path.{◌≡◌, refl, sym, ap, ◌∙◌}
use Prim.Native.Nat.{ℕ, ◌+◌, ◌<◌}
use native.Mathlib.Omega.{arith}
use lib.ListN.{length, take, length-append}
use lib.Seq.{take-length}
use Rattle.text.specs.declared.feed.Fed.{Fed}
use Rattle.text.specs.declared.state.State.{State}
use Rattle.text.specs.Replies.{Wrote}
use Rattle.text.specs.Transcript.{empty_store}
use Rattle.text.specs.Feed.{Memory, piece_fed, memory_of, fresh, text_end, Stepped}
use Rattle.text.specs.Course.{Lent, course}
use Rattle.text.proofs.CourseLaws.{left-more, taken_more, joined-more}
use Rattle.text.proofs.ShortLaws.{step_all}
use Rattle.text.proofs.WroteLaws.{wrote-begins}
use Rattle.muktrashi.specs.Loop.{ReadyForWhole, TakenWhole, NoneEmpty, Went, Looped}

pub went-first : (table store : List ℕ) (state : State) → state ≡ fresh → store ≡ empty_store → Went table 0 state table store
unfolding course
went-first table store state is empty =
    rw (is, empty) (record { lents = []; pieces = refl; none_empty = tt; taken = refl; left = refl })

-- A read that gave some bytes.
pub some_read : (n size : ℕ) → n ≡ size → (n ≡ 0 → ⊥) → 0 < size
some_read n size is some = omega arith

none_empty_more : (lents : List Lent) (lent : Lent) → NoneEmpty lents → 0 < length lent.piece → NoneEmpty (lents ++ (lent ∷ []))
none_empty_more [] lent none some = (some, tt)
none_empty_more (first ∷ lents) lent none some = (none.0, none_empty_more lents lent none.1 some)

-- A step that is ready for its whole piece takes it whole.
module _ (state : State) (table store piece out : List ℕ) (state' : State) (table' store' : List ℕ) (fed : Fed) (after : List ℕ) where
  pub taken-whole : ReadyForWhole state table piece out → Stepped state table store piece out state' table' store' fed after
      → TakenWhole state table store piece out state' table' store' fed after
  taken-whole ready stepped =
      let all = step_all (memory_of state table store) (length out) piece ready.counted ready.rows ready.lines in
      record { whole = stepped.used ∙ all; stepped = stepped }

pub went_on : (lent-table : List ℕ) (turns : ℕ) (state : State) (table store piece out : List ℕ)
    (state' : State) (table' store' : List ℕ) (fed : Fed) (after : List ℕ)
    → Went lent-table turns state table store
    → 0 < length piece
    → TakenWhole state table store piece out state' table' store' fed after
    → Went lent-table (turns + 1) state' table' store'
went_on lent-table turns state table store piece out state' table' store' fed after went some taken =
    let m : Memory = memory_of fresh lent-table empty_store in
    let lents : List Lent = went.lents in
    let lent : Lent = record { piece = piece; room = length out } in
    let pieces : length lents ≡ turns = went.pieces in
    let used : (piece_fed (course m lents).left (length out) piece).used ≡ length piece =
    ap (λ (m : Memory). (piece_fed m (length out) piece).used) (sym went.left) ∙ sym taken.stepped.used ∙ taken.whole in
    let all : take (piece_fed (course m lents).left (length out) piece).used piece ≡ piece = rw used (take-length piece) in
    record {
      lents = lents ++ (lent ∷ []);
      pieces = length-append lents (lent ∷ []) ∙ ap (λ (n : ℕ). n + 1) pieces;
      none_empty = none_empty_more lents lent went.none_empty some;
      taken = taken_more m lents lent ∙ rw (went.taken, all) (sym (joined-more lents lent));
      left = taken.stepped.left ∙ ap (λ (m : Memory). (piece_fed m (length out) piece).left) went.left ∙ sym (left-more m lents lent);
    }

-- The answer, by whether the loop ended at the text's end.
not_ended : {A : Type 0} → false ≡ true → A
not_ended is = let clash : ◌≡◌ {A = ℕ} 0 1 = cc in absurd (omega arith)

module _ (lent-table : List ℕ) (turns : ℕ) (state : State) (table store : List ℕ) (went : Went lent-table turns state table store) where
  pub looped_on : (out : List ℕ) → Looped lent-table (record { state = state; turns = turns; ended = false }) table store out
  looped_on out = record { went = went; last = λ is. not_ended is }

  pub looped_end : (out : List ℕ) (wrote : ℕ) (after : List ℕ)
      → Wrote out (text_end state) wrote after
      → Looped lent-table (record { state = state; turns = turns; ended = true }) table store after
  looped_end out wrote after w = record { went = went; last = λ is. wrote-begins out (text_end state) wrote after w }
