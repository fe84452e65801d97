-- The need is the sum over the since rows: row by row, by what the table of kinds says of each kind.
use mathlib.Core.List.{List}
use mathlib.Core.Logic.{⊎_elim}
use Prim.Native.Nat.{ℕ, zero, suc}
use native.Mathlib.Nat.{add-zero}
use Rattle.kinds.specs.Kinds.{kind_at}
use Rattle.rules.specs.Rows.{rows_of, numbers_at}
use Rattle.rules.specs.Stretches.{offset}
use Rattle.rules.specs.declared.numbers.Numbers.{Numbers}
use Rattle.monitor.proofs.StartLaws.{start-need}
use Rattle.promises.specs.Need.{OwnsStretch, Needs, none, since, other, NeedFollows}
use Rattle.promises.proofs.StretchTold.{since_or_other, other-rule, since-spans, other-spans}

-- What the table of kinds says.
owns_stretch_lem : (n : Numbers) → OwnsStretch n
unfolding kind_at
owns_stretch_lem n = record { since = λ six. rw six; once = λ seven. rw seven; always = λ eight. rw eight; other = other-rule n }

needs : (table : List ℕ) (n : ℕ) → Needs table n (offset table n)
unfolding offset
needs table zero = none
needs table (suc n) =
    ⊎_elim
    (λ is-since. rw (since-spans (numbers_at table n) is-since) (since (needs table n) is-since))
    (λ is-other. rw (other-spans (numbers_at table n) is-other, add-zero) (other (needs table n) is-other))
    (since_or_other (numbers_at table n))

pub need_follows : NeedFollows
need_follows =
    record {
      row = owns_stretch_lem;
      table = λ table. needs table (rows_of table);
      start = start-need;
    }
