-- Any two outcomes that the contract of a public function allows are the same: its code, and every word, field and number that it was lent. The
-- contract of `muk_version` is that the answer equals a value, so for it `one_value` of `meaning` is the law.
use mathlib.Core.List.{List}
use mathlib.Core.Path.{◌≡◌, ap}
use Prim.Native.Nat.{ℕ}
use Rattle.meaning.proofs.OneValue.{one_value}
use Rattle.soundness.specs.declared.record.Record.{Record}
use Rattle.soundness.specs.Setup.{Setup}
use Rattle.monitor.specs.Step.{Call}
use Rattle.board.specs.Left.{Left, left, StartLeaves, CallLeaves}
use Rattle.board.specs.Numbers.{Taken, checked, CheckLeaves, Timed, timed, TimeLeaves, LineGiven, line, LineLeaves}

-- The parts of two that equal the same.
one_left : {x : Left} (r r' : ℕ) (k k' : Record) (s s' : List ℕ) → left r k s ≡ x → left r' k' s' ≡ x → (r ≡ r') × (k ≡ k') × (s ≡ s')
one_left r r' k k' s s' p q =
    let e : left r k s ≡ left r' k' s' = one_value p q in
    (ap (λ (o : Left). o.code) e, ap (λ (o : Left). o.kept) e, ap (λ (o : Left). o.store) e)

pub start_one_outcome : (setup : Setup) (store : List ℕ) (r r' : ℕ) (k k' : Record) (s s' : List ℕ)
    → StartLeaves setup store r k s → StartLeaves setup store r' k' s' → (r ≡ r') × (k ≡ k') × (s ≡ s')
start_one_outcome setup store = one_left

-- `muk_event` and `muk_frame`.
pub call-one-outcome : (setup : Setup) (store : List ℕ) (found : Record) (call : Call) (r r' : ℕ) (k k' : Record) (s s' : List ℕ)
    → CallLeaves setup store found call r k s → CallLeaves setup store found call r' k' s' → (r ≡ r') × (k ≡ k') × (s ≡ s')
call-one-outcome setup store found call = one_left

pub check_one_outcome : (table : List ℕ) (rows need : ℕ) (r r' n n' w w' : ℕ)
    → CheckLeaves table rows need r n w → CheckLeaves table rows need r' n' w' → (r ≡ r') × (n ≡ n') × (w ≡ w')
check_one_outcome table rows need r r' n n' w w' p q =
    let e : checked r n w ≡ checked r' n' w' = one_value p q in
    (ap (λ (o : Taken). o.code) e, ap (λ (o : Taken). o.rows) e, ap (λ (o : Taken). o.need) e)

pub frame_time_one_outcome : (clock counter time : ℕ) (r r' t t' : ℕ)
    → TimeLeaves clock counter time r t → TimeLeaves clock counter time r' t' → (r ≡ r') × (t ≡ t')
frame_time_one_outcome clock counter time r r' t t' p q =
    let e : timed r t ≡ timed r' t' = one_value p q in (ap (λ (o : Timed). o.code) e, ap (λ (o : Timed). o.time) e)

pub read_frame_one_outcome : (text : List ℕ) (place counter mask : ℕ) (r r' n n' c c' m m' : ℕ)
    → LineLeaves text place counter mask r n c m → LineLeaves text place counter mask r' n' c' m'
    → (r ≡ r') × (n ≡ n') × (c ≡ c') × (m ≡ m')
read_frame_one_outcome text place counter mask r r' n n' c c' m m' p q =
    let e : line r n c m ≡ line r' n' c' m' = one_value p q in (
      ap (λ (o : LineGiven). o.code) e,
      ap (λ (o : LineGiven). o.place) e,
      ap (λ (o : LineGiven). o.counter) e,
      ap (λ (o : LineGiven). o.mask) e,
    )
