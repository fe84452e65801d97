-- The laws of spans as lists: their least member, clip, join, and that a rising list is known by its members. First the case split on which of two
-- numbers is larger (`by_leb`, `le_or_lt`), which other files use too.
use mathlib.Core.Bool.{Bool, true, false, not, cond}
use mathlib.Core.List.{List, [], ◌∷◌}
use mathlib.Core.Logic.{◌↔◌, ◌⊎◌, inl, inr, ⊎_elim}
use mathlib.Core.Path.{◌≡◌, refl, sym, subst}
use Prim.Native.Nat.{ℕ, suc, ◌+◌, ◌≤◌, ◌<◌, max}
use native.Mathlib.Omega.{arith}
use lib.Dec.{T, leb, leb→le, nleb→lt}
use Rattle.meaning.specs.Interval.{End, up_to, no_end, ◌≤End◌}
use Rattle.meaning.specs.Spans.{Span, ◌to◌, In, Rising, clip, touches, join}

-- A case split on a test, with what the test says in each case.
by_test : (P : Bool → Type 0) (test : Bool) {A B : Type 0} → (T test → A) → (T (not test) → B) → (A → P true) → (B → P false) → P test
by_test P true holds fails yes-case no-case = yes-case (holds tt)
by_test P false holds fails yes-case no-case = no-case (fails tt)

pub by_leb : (P : Bool → Type 0) (m n : ℕ) → (m ≤ n → P true) → (n < m → P false) → P (leb m n)
by_leb P m n = by_test P (leb m n) (leb→le m n) (nleb→lt m n)

-- Two spans touch or overlap, or a gap lies between them.
by_touch : (P : Bool → Type 0) (first last next : ℕ) (end : End)
    → (next ≤ last + 1 → P true)
    → (last + 2 ≤ next → P false)
    → P (touches (first to up_to last) (next to end))
by_touch P first last next end =
    by_test P (touches (first to up_to last) (next to end)) (λ near. omega (arith, leb→le)) (λ far. omega (arith, nleb→lt))

-- One number is at most the other, or above it.
pub le_or_lt : (m n : ℕ) → (m ≤ n) ⊎ (n < m)
le_or_lt m n = by_leb (λ _. (m ≤ n) ⊎ (n < m)) m n inl inr

pub end_trans : (u v : ℕ) (end : End) → u ≤ v → v ≤End end → u ≤End end
end_trans u v (up_to last) below within = omega arith
end_trans u v no_end below within = tt

-- No member of a rising list is below its least.
pub in_least : (least : ℕ) (S : List Span) (u : ℕ) → Rising least S → In u S → least ≤ u
unfolding In Rising
in_least least [] u rises inside = absurd inside
in_least least ((first to up_to last) ∷ S) u rises (inl here) = omega arith
in_least least ((first to up_to last) ∷ S) u rises (inr later) =
    let rest : last + 2 ≤ u = in_least (last + 2) S u rises.2 later in omega arith
in_least least ((first to no_end) ∷ S) u rises (inl here) = omega arith
in_least least ((first to no_end) ∷ S) u rises (inr later) = absurd (subst (In u) rises.1 later)

-- The members of a clipped list are the members from t on.
pub clip_in_lem : (least t : ℕ) (S : List Span) (u : ℕ) → Rising least S → In u (clip t S) ↔ ((t ≤ u) × In u S)
unfolding In Rising clip
clip_in_lem least t [] u rises = (λ none. absurd none, λ both. both.1)
clip_in_lem least t ((first to up_to last) ∷ S) u rises =
    by_leb
    (λ over. In u (cond over (clip t S) ((max t first to up_to last) ∷ S)) ↔ ((t ≤ u) × In u ((first to up_to last) ∷ S)))
    (suc last)
    t
    (λ over.
    let rest : In u (clip t S) ↔ ((t ≤ u) × In u S) = clip_in_lem (last + 2) t S u rises.2 in (
      λ inside. ((rest.0 inside).0, inr (rest.0 inside).1),
      λ both. ⊎_elim (λ here. absurd (omega arith)) (λ later. rest.1 (both.0, later)) both.1,
    ))
    (λ lasts. (
      ⊎_elim
          (λ here. (omega arith, inl (omega arith)))
          (λ later. let beyond : last + 2 ≤ u = in_least (last + 2) S u rises.2 later in (omega arith, inr later)),
      λ both. ⊎_elim (λ here. inl (omega arith)) inr both.1,
    ))
clip_in_lem least t ((first to no_end) ∷ S) u rises = (
  ⊎_elim
      (λ here. (omega arith, inl (omega arith, tt)))
      (λ later. absurd (subst (In u) rises.1 later)),
  λ both. ⊎_elim (λ here. inl (omega arith, tt)) inr both.1,
)

-- A clipped list rises from t.
pub clip-rising : (least t : ℕ) (S : List Span) → Rising least S → Rising t (clip t S)
unfolding Rising clip
clip-rising least t [] rises = tt
clip-rising least t ((first to up_to last) ∷ S) rises =
    by_leb
    (λ over. Rising t (cond over (clip t S) ((max t first to up_to last) ∷ S)))
    (suc last)
    t
    (λ over. clip-rising (last + 2) t S rises.2)
    (λ lasts. (omega arith, omega arith, rises.2))
clip-rising least t ((first to no_end) ∷ S) rises = (omega arith, rises.1)

-- One end is not past another.
abbrev pub NotLater : End → End → Type 0
NotLater (up_to last) end = last ≤End end
NotLater no_end (up_to last) = ⊥
NotLater no_end no_end = Unit

-- No span of the list begins after `next` or lasts past `end`: what a join at the end of a list asks of it.
unfoldable pub Under : ℕ → End → List Span → Type 0
Under next end [] = Unit
Under next end ((first to last) ∷ S) = (first ≤ next) × NotLater last end × Under next end S

-- The members after a join are those before and those of the new span.
pub join_in : (next : ℕ) (end : End) (S : List Span) (u : ℕ)
    → Under next end S
    → In u (join (next to end) S) ↔ (In u S ⊎ ((next ≤ u) × (u ≤End end)))
unfolding In join Under
join_in next end [] u under = (⊎_elim inr (λ none. absurd none), ⊎_elim (λ none. absurd none) inl)
join_in next end ((first to up_to last) ∷ []) u under =
    by_touch
    (λ near.
    In u (cond near ((first to end) ∷ []) ((first to up_to last) ∷ (next to end) ∷ []))
    ↔ (In u ((first to up_to last) ∷ []) ⊎ ((next ≤ u) × (u ≤End end))))
    first
    last
    next
    end
    (λ near. (
      ⊎_elim
          (λ here. ⊎_elim (λ low. inl (inl (here.0, low))) (λ high. inr (omega arith, here.1)) (le_or_lt u last))
          (λ none. absurd none),
      ⊎_elim
          (⊎_elim (λ here. inl (here.0, end_trans u last end here.1 under.1)) inr)
          (λ new. inl (omega arith, new.1)),
    ))
    (λ far. (
      ⊎_elim (λ here. inl (inl here)) (⊎_elim inr (λ none. absurd none)),
      ⊎_elim (⊎_elim inl (λ none. absurd none)) (λ new. inr (inl new)),
    ))
join_in next (up_to last) ((first to no_end) ∷ []) u under = absurd under.1
join_in next no_end ((first to no_end) ∷ []) u under = (
  ⊎_elim (λ here. inl (inl here)) (λ none. absurd none),
  ⊎_elim (⊎_elim inl (λ none. absurd none)) (λ new. inl (omega arith, tt)),
)
join_in next end ((first to last) ∷ q ∷ S) u under =
    let rest : In u (join (next to end) (q ∷ S)) ↔ (In u (q ∷ S) ⊎ ((next ≤ u) × (u ≤End end))) = join_in next end (q ∷ S) u under.2 in (
      ⊎_elim (λ here. inl (inl here)) (λ inside. ⊎_elim (λ later. inl (inr later)) inr (rest.0 inside)),
      ⊎_elim (⊎_elim inl (λ later. inr (rest.1 (inl later)))) (λ new. inr (rest.1 (inr new))),
    )

rising-one : (least first : ℕ) (end : End) → least ≤ first → first ≤End end → Rising least ((first to end) ∷ [])
unfolding Rising
rising-one least first (up_to last) low within = (low, within, tt)
rising-one least first no_end low within = (low, refl)

not_empty : (p : Span) (S : List Span) → ¬ (p ∷ S ≡ [])
not_empty p S none = let clash : ◌≡◌ {A = ℕ} 0 1 = cc in omega arith

least_under : (least next : ℕ) (end : End) (p : Span) (S : List Span) → Rising least (p ∷ S) → Under next end (p ∷ S) → least ≤ next
unfolding Rising Under
least_under least next end (first to up_to last) S rises under = omega arith
least_under least next end (first to no_end) S rises under = omega arith

-- A joined list rises from the same least.
pub join-rising : (least next : ℕ) (end : End) (S : List Span)
    → least ≤ next
    → next ≤End end
    → Under next end S
    → Rising least S
    → Rising least (join (next to end) S)
unfolding Rising join Under
join-rising least next end [] low within under rises = rising-one least next end low within
join-rising least next end ((first to up_to last) ∷ []) low within under rises =
    by_touch
    (λ near. Rising least (cond near ((first to end) ∷ []) ((first to up_to last) ∷ (next to end) ∷ [])))
    first
    last
    next
    end
    (λ near. rising-one least first end rises.0 (end_trans first next end under.0 within))
    (λ far. (rises.0, rises.1, rising-one (last + 2) next end (omega arith) within))
join-rising least next end ((first to no_end) ∷ []) low within under rises =
    rising-one least first end rises.0 (end_trans first next end under.0 within)
join-rising least next end ((first to up_to last) ∷ q ∷ S) low within under rises = (
  rises.0,
  rises.1,
  join-rising (last + 2) next end (q ∷ S) (least_under (last + 2) next end q S rises.2 under.2) within under.2 rises.2,
)
join-rising least next end ((first to no_end) ∷ q ∷ S) low within under rises = absurd (not_empty q S rises.1)

-- The first number of a rising list is a member; the number after its first span's last is none.
first_in : (least first : ℕ) (end : End) (S : List Span) → Rising least ((first to end) ∷ S) → In first ((first to end) ∷ S)
unfolding In Rising
first_in least first (up_to last) S rises = inl (omega arith)
first_in least first no_end S rises = inl (omega arith, tt)

pub gap_out : (least first last : ℕ) (S : List Span) → Rising least ((first to up_to last) ∷ S) → ¬ In (last + 1) ((first to up_to last) ∷ S)
unfolding In Rising
gap_out least first last S rises (inl here) = omega arith
gap_out least first last S rises (inr later) =
    let beyond : last + 2 ≤ last + 1 = in_least (last + 2) S (last + 1) rises.2 later in omega arith

-- A member past the first span's last is a member of the rest.
pub in_rest : (u first last : ℕ) (S : List Span) → last < u → In u ((first to up_to last) ∷ S) → In u S
unfolding In
in_rest u first last S past (inl here) = absurd (omega arith)
in_rest u first last S past (inr later) = later

pub rising_from_first : (least first : ℕ) (end : End) (S : List Span)
    → Rising least ((first to end) ∷ S)
    → Rising first ((first to end) ∷ S)
unfolding Rising
rising_from_first least first (up_to last) S rises = (omega arith, rises.1, rises.2)
rising_from_first least first no_end S rises = (omega arith, rises.1)

-- Two rising lists: what each first is at most, where the members of one are members of the other.
first_at_most : (least least' first first' : ℕ) (end end' : End) (S S' : List Span)
    → Rising least ((first to end) ∷ S)
    → Rising least' ((first' to end') ∷ S')
    → ((u : ℕ) → In u ((first' to end') ∷ S') → In u ((first to end) ∷ S))
    → first ≤ first'
first_at_most least least' first first' end end' S S' rises rises' into =
    in_least first ((first to end) ∷ S) first' (rising_from_first least first end S rises)
    (into first' (first_in least' first' end' S' rises'))

-- The rest of one list is in the rest of the other, where the first spans are the same.
rest_into : (least first first' last last' : ℕ) (S S' : List Span)
    → Rising least ((first to up_to last) ∷ S)
    → last ≡ last'
    → ((u : ℕ) → In u ((first to up_to last) ∷ S) → In u ((first' to up_to last') ∷ S'))
    → (u : ℕ)
    → In u S
    → In u S'
unfolding In Rising
rest_into least first first' last last' S S' rises same into u inside =
    let beyond : last + 2 ≤ u = in_least (last + 2) S u rises.2 inside in
    in_rest u first' last' S' (omega arith) (into u (inr inside))

-- A first span that has a last lasts as long as any other with the same members.
lasts_as_long : (least first first' last : ℕ) (end' : End) (S S' : List Span)
    → Rising least ((first to up_to last) ∷ S)
    → first' ≤ first
    → ((u : ℕ) → In u ((first' to end') ∷ S') → In u ((first to up_to last) ∷ S))
    → ¬ ((last + 1) ≤End end')
unfolding In Rising
lasts_as_long least first first' last end' S S' rises low into longer =
    gap_out least first last S rises (into (last + 1) (inl (omega arith, longer)))

-- A rising list is known by its members.
pub rising-known : (least least' : ℕ) (S S' : List Span)
    → Rising least S
    → Rising least' S'
    → ((u : ℕ) → In u S → In u S')
    → ((u : ℕ) → In u S' → In u S)
    → S ≡ S'
unfolding In Rising
rising-known least least' [] [] rises rises' into back = refl
rising-known least least' [] ((first to end) ∷ S') rises rises' into back =
    absurd (back first (first_in least' first end S' rises'))
rising-known least least' ((first to end) ∷ S) [] rises rises' into back =
    absurd (into first (first_in least first end S rises))
rising-known least least' ((first to up_to last) ∷ S) ((first' to up_to last') ∷ S') rises rises' into back =
    let low : first ≤ first' = first_at_most least least' first first' (up_to last) (up_to last') S S' rises rises' back in
    let high : first' ≤ first = first_at_most least' least first' first (up_to last') (up_to last) S' S rises' rises into in
    let short : ¬ (last + 1 ≤ last') = lasts_as_long least first first' last (up_to last') S S' rises high back in
    let long : ¬ (last' + 1 ≤ last) = lasts_as_long least' first' first last' (up_to last) S' S rises' low into in
    let firsts : first ≡ first' = omega arith in
    let lasts : last ≡ last' = omega arith in
    let rests : S ≡ S' =
    rising-known (last + 2) (last' + 2) S S' rises.2 rises'.2
    (rest_into least first first' last last' S S' rises lasts into)
    (rest_into least' first' first last' last S' S rises' (sym lasts) back)
    in
    cc
rising-known least least' ((first to up_to last) ∷ S) ((first' to no_end) ∷ S') rises rises' into back =
    absurd
    (lasts_as_long least first first' last no_end S S' rises
    (first_at_most least' least first' first no_end (up_to last) S' S rises' rises into) back tt)
rising-known least least' ((first to no_end) ∷ S) ((first' to up_to last') ∷ S') rises rises' into back =
    absurd
    (lasts_as_long least' first' first last' no_end S' S rises'
    (first_at_most least least' first first' no_end (up_to last') S S' rises rises' back) into tt)
rising-known least least' ((first to no_end) ∷ S) ((first' to no_end) ∷ S') rises rises' into back =
    let low : first ≤ first' = first_at_most least least' first first' no_end no_end S S' rises rises' back in
    let high : first' ≤ first = first_at_most least' least first' first no_end no_end S' S rises' rises into in
    let firsts : first ≡ first' = omega arith in
    let empty : S ≡ [] = rises.1 in
    let empty' : S' ≡ [] = rises'.1 in
    cc
