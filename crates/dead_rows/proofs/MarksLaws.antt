-- Which rows are marked after each of the private functions.
use mathlib.Core.Bool.{Bool, true, false}
use mathlib.Core.List.{List, [], ◌∷◌}
use mathlib.Core.Logic.{◌⊎◌, inl, inr, ⊎_elim}
use mathlib.Core.Path.{◌≡◌, refl, sym, subst, ◌∙◌}
use Prim.Native.Nat.{ℕ, suc, ◌≤◌, ◌<◌}
use native.Mathlib.Omega.{arith}
use lib.ListN.{length, get_or, set, length-set}
use lib.Seq.{get_or-set_same, get_or-set_other}
use borrow.Author.Tests.{lt-ltb, le-ltb}
use Rattle.meaning.proofs.SpansLaws.{le_or_lt}
use Rattle.meaning.proofs.Tells.{tells_eqb, tells_decided, told_true, told_false}
use Rattle.kinds.specs.Kinds.{Kind, kind_at}
use Rattle.kinds.specs.declared.table.Use.{Use}
use Rattle.kinds.specs.declared.table.Use.TheVariants.{Lower}
use Rattle.rules.specs.declared.numbers.Numbers.{Numbers}
use Rattle.dead_rows.specs.Reached.{RowNames, by_x, by_y}
use Rattle.dead_rows.specs.Marks.{marked_below, marked_where, marked_named, marked_listed}
use Rattle.kinds.proofs.KindsLaws.{lower_use_told}
use Rattle.dead_rows.proofs.ReachedLaws.{Somewhere, nowhere, somewhere, here_or_later}

abbrev pub Marked : List Bool → ℕ → Type 0
Marked marks row = get_or marks row false ≡ true

-- Marks were added on such rows and no others.
pub record Added (Such : ℕ → Type 0) (marks after : List Bool) : Type 0 where
  pub size : length after ≡ length marks
  pub stays : (row : ℕ) → Marked marks row → Marked after row
  pub such : (row : ℕ) → Such row → Marked after row
  pub only : (row : ℕ) → Marked after row → Marked marks row ⊎ Such row

added_none : {Such : ℕ → Type 0} (marks : List Bool) → ((row : ℕ) → ¬ Such row) → Added Such marks marks
added_none marks none =
    record { size = refl; stays = λ row marked. marked; such = λ row is. absurd (none row is); only = λ row marked. inl marked }

added_both : {Such More : ℕ → Type 0} (marks between after : List Bool)
    → Added Such marks between
    → Added More between after
    → Added (λ (row : ℕ). Such row ⊎ More row) marks after
added_both marks between after first second =
    record {
      size = second.size ∙ first.size;
      stays = λ row marked. second.stays row (first.stays row marked);
      such = λ row. ⊎_elim (λ is. second.stays row (first.such row is)) (second.such row);
      only = λ row marked.
          ⊎_elim
          (λ earlier. ⊎_elim inl (λ is. inr (inl is)) (first.only row earlier))
          (λ is. inr (inr is))
          (second.only row marked);
    }

added_same : {Such Other : ℕ → Type 0} (marks after : List Bool)
    → ((row : ℕ) → Such row → Other row)
    → ((row : ℕ) → Other row → Such row)
    → Added Such marks after
    → Added Other marks after
added_same marks after there back added =
    record {
      size = added.size;
      stays = added.stays;
      such = λ row is. added.such row (back row is);
      only = λ row marked. ⊎_elim inl (λ is. inr (there row is)) (added.only row marked);
    }

-- One mark.
module _ (marks : List Bool) (at : ℕ) (inside : at < length marks) where
  set_stays : (row : ℕ) → Marked marks row → Marked (set marks at true) row
  set_stays row marked =
      ⊎_elim
      (λ same. subst (λ (r : ℕ). Marked (set marks at true) r) (sym same) (get_or-set_same marks at true false inside))
      (λ differs. get_or-set_other marks at row true false differs ∙ marked)
      (tells_decided (tells_eqb row at))

  set_only : (row : ℕ) → Marked (set marks at true) row → Marked marks row ⊎ (at ≡ row)
  set_only row marked =
      ⊎_elim
      (λ same. inr (sym same))
      (λ differs. inl (sym (get_or-set_other marks at row true false differs) ∙ marked))
      (tells_decided (tells_eqb row at))

-- A number that is a row, and below a bound.
abbrev pub Below : (bound row : ℕ) → ℕ → Type 0
Below bound row at = (at ≡ row) × (at < bound)

pub below_added : (bound at : ℕ) (marks : List Bool) → bound ≤ length marks
    → Added (λ (row : ℕ). Below bound row at) marks (marked_below bound at marks)
unfolding marked_below
below_added bound at marks room =
    ⊎_elim
    (λ lower.
    rw (lt-ltb at bound lower)
    (record {
      size = simp length-set;
      stays = set_stays marks at (omega arith);
      such = λ row is. subst (λ (r : ℕ). Marked (set marks at true) r) is.0 (get_or-set_same marks at true false (omega arith));
      only = λ row marked. ⊎_elim inl (λ same. inr (same, lower)) (set_only marks at (omega arith) row marked);
    }))
    (λ past. rw (le-ltb at bound (omega arith)) (added_none marks (λ row is. omega (arith, is.1))))
    (le_or_lt (suc at) bound)

-- A number that is used as a lower row, and is one.
abbrev LowerBy : Use → (bound at : ℕ) → ℕ → Type 0
LowerBy usage bound at row = (usage ≡ Lower) × Below bound row at

pub where_added : (usage : Use) (bound at : ℕ) (marks : List Bool) → bound ≤ length marks
    → Added (LowerBy usage bound at) marks (marked_where usage bound at marks)
unfolding marked_where
where_added usage bound at marks room =
    ⊎_elim
    (λ lower.
    rw (told_true (lower_use_told usage) lower)
    (added_same marks (marked_below bound at marks) (λ row is. (lower, is)) (λ row is. is.1)
    (below_added bound at marks room)))
    (λ other. rw (told_false (lower_use_told usage) other) (added_none marks (λ row is. other is.0)))
    (tells_decided (lower_use_told usage))

-- The rows that a row names, and which are lower.
module _ (n : Numbers) (bound : ℕ) where
  abbrev k : Kind
  k = kind_at n.kind

  names_either : (row : ℕ) → RowNames n row → row < bound → LowerBy k.x bound n.x row ⊎ LowerBy k.y bound n.y row
  names_either row (by_x lower same) within = inl (lower, (same, omega arith))
  names_either row (by_y lower same) within = inr (lower, (same, omega arith))

  pub named_added : (marks : List Bool)
      → bound ≤ length marks
      → Added (λ (row : ℕ). RowNames n row × (row < bound)) marks (marked_named bound n marks)
  unfolding marked_named
  named_added marks room =
      let between : List Bool = marked_where k.x bound n.x marks in
      let first = where_added k.x bound n.x marks room in
      added_same marks (marked_where k.y bound n.y between)
      (λ row.
      ⊎_elim
      (λ is. (by_x is.0 is.1.0, omega (arith, is.1)))
      (λ is. (by_y is.0 is.1.0, omega (arith, is.1))))
      (λ row is. names_either row is.0 is.1)
      (added_both marks between (marked_where k.y bound n.y between) first
      (where_added k.y bound n.y between (omega (arith, first.size))))

pub listed_added : (rows : ℕ) (list : List ℕ) (marks : List Bool) → rows ≤ length marks
    → Added (λ (row : ℕ). Somewhere (Below rows row) list) marks (marked_listed rows list marks)
unfolding marked_listed
listed_added rows [] marks room = added_none marks (λ row. nowhere (Below rows row))
listed_added rows (at ∷ list) marks room =
    let between : List Bool = marked_below rows at marks in
    let first = below_added rows at marks room in
    added_same marks (marked_listed rows list between)
    (λ row. somewhere (Below rows row) at list)
    (λ row. here_or_later (Below rows row) at list)
    (added_both marks between (marked_listed rows list between) first (listed_added rows list between (omega (arith, first.size))))
