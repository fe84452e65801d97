-- One piece more: the course of the pieces before it, then its step.
use mathlib.Core.List.{List, [], ◌∷◌, ◌++◌, append-nil, append_assoc}
use mathlib.Core.Path.{◌≡◌, refl, sym, ap, ◌∙◌}
use Prim.Native.Nat.{ℕ}
use lib.ListN.{take}
use Rattle.text.specs.Feed.{Memory, piece_fed}
use Rattle.text.specs.Course.{Lent, course, joined}

pub left-more : (m : Memory) (lents : List Lent) (lent : Lent)
    → (course m (lents ++ (lent ∷ []))).left ≡ (piece_fed (course m lents).left lent.room lent.piece).left
unfolding course
left-more m [] lent = refl
left-more m (first ∷ lents) lent = left-more (piece_fed m first.room first.piece).left lents lent

pub taken_more : (m : Memory) (lents : List Lent) (lent : Lent)
    → (course m (lents ++ (lent ∷ []))).taken
    ≡ (course m lents).taken ++ take (piece_fed (course m lents).left lent.room lent.piece).used lent.piece
unfolding course
taken_more m [] lent = append-nil _
taken_more m (first ∷ lents) lent =
    let taken : List ℕ = take (piece_fed m first.room first.piece).used first.piece in
    let left : Memory = (piece_fed m first.room first.piece).left in
    ap (λ (l : List ℕ). taken ++ l) (taken_more left lents lent) ∙ sym (append_assoc taken (course left lents).taken _)

pub joined-more : (lents : List Lent) (lent : Lent) → joined (lents ++ (lent ∷ [])) ≡ joined lents ++ lent.piece
joined-more [] lent = append-nil _
joined-more (first ∷ lents) lent =
    ap (λ (l : List ℕ). first.piece ++ l) (joined-more lents lent) ∙ sym (append_assoc first.piece (joined lents) lent.piece)
