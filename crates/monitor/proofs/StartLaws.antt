-- What a good start answers, and the record that a start gives.
use mathlib.Core.List.{List}
use mathlib.Core.Option.{none}
use mathlib.Core.Path.{◌≡◌, refl, ap}
use Prim.Native.Nat.{ℕ}
use lib.ListN.{length}
use Rattle.std.specs.Prelude.{Result}
use Rattle.refusals.specs.declared.refusal.Refusal.{Refusal}
use Rattle.rules.specs.Stretches.{need_of}
use Rattle.rules.specs.Table.{CheckReply, passed, refused_by}
use Rattle.soundness.specs.declared.record.Record.{Record}
use Rattle.soundness.specs.Record.{nothing_seen}
use Rattle.soundness.specs.Setup.{Setup}
use Rattle.soundness.specs.Ready.{ready_of}
use Rattle.soundness.proofs.ReadyLaws.{ready_need}
use Rattle.monitor.specs.Start.{Beginning, begin, start_of, StartGives}

-- A good start answers the table's need.
pub start-need : (setup : Setup) (store : List ℕ) → (start_of setup store).refusal ≡ none → (start_of setup store).need ≡ need_of setup.table
unfolding start_of
start-need setup store good = by (ready_of setup (length store)) refl good
  where
    by : (said : CheckReply) → ready_of setup (length store) ≡ said → (begin store said).refusal ≡ none → (begin store said).need ≡ need_of setup.table
    by (passed rows need) is good = ready_need setup (length store) rows need is
    by (refused_by fault) is good = cc

-- The record that a start gives is told by its row count.
begin_empty : (store : List ℕ) (said : CheckReply) → nothing_seen (begin store said).given.rows ≡ (begin store said).given
unfolding nothing_seen
begin_empty store (passed rows need) = refl
begin_empty store (refused_by fault) = refl

pub start_empty : (setup : Setup) (store : List ℕ) (answer : Result ℕ Refusal) (given : Record) (after : List ℕ)
    → StartGives setup store answer given after
    → nothing_seen given.rows ≡ given
unfolding start_of
start_empty setup store answer given after gives =
    let same : given ≡ (begin store (ready_of setup (length store))).given = ap (λ (b : Beginning). b.given) gives in
    rw same (begin_empty store (ready_of setup (length store)))
