-- A text as it arrives in pieces: one step after another, from the first byte on.
use Rattle.std.specs.Prelude.{List, [], ◌∷◌, ◌++◌, ℕ, take}
use Rattle.text.specs.Transcript.{empty_store}
use Rattle.text.specs.Feed.{Memory, piece_fed, memory_of, fresh}

-- A piece, and the room of the output that is lent for it.
pub record Lent : Type 0 where
  pub piece : List ℕ
  pub room : ℕ

-- What a list of steps leaves, the bytes that they took, and what they wrote, in order.
pub record Course : Type 0 where
  pub left : Memory
  pub taken : List ℕ
  pub written : List ℕ

abbrev pub and_on : Memory → Lent → Course → Course
and_on m lent rest =
    record {
      left = rest.left;
      taken = take (piece_fed m lent.room lent.piece).used lent.piece ++ rest.taken;
      written = (piece_fed m lent.room lent.piece).text ++ rest.written;
    }

unfoldable pub course : Memory → List Lent → Course
course m [] = record { left = m; taken = []; written = [] }
course m (lent ∷ more) = and_on m lent (course (piece_fed m lent.room lent.piece).left more)

-- From the first byte on, with a table that is lent and a store whose words are all 0.
abbrev pub course_of : List ℕ → List Lent → Course
course_of table lents = course (memory_of fresh table empty_store) lents

-- The pieces, one after the other.
abbrev pub joined : List Lent → List ℕ
joined [] = []
joined (lent ∷ more) = lent.piece ++ joined more
