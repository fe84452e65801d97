-- `monitor::start::start` meets its contract: what `ready` answered decides, and the words of the need become 0. Assumes nothing.
use Rattle.std.proofs.Common.{◌≡◌, ◌≤◌, ℕ, length, take, length-take, arith, sym}
use Rattle.monitor.specs.Start.{start_of}
use Rattle.soundness.proofs.ReadyLaws.{ready_room}
use Rattle.monitor.proofs.start.start.Goals as goal

-- The need is within the store, so the words before its end become 0 and the others stay.
pub slice_bounds-fill-end : goal.slice_bounds-fill-end
slice_bounds-fill-end c =
    let fits : c.in-Ok.field-0.need ≤ length c.args.store.now = ready_room _ _ _ _ (sym c.in-Ok.ensures) in
    omega arith

pub slice_bounds-fill-end-in-Ok : goal.slice_bounds-fill-end-in-Ok
slice_bounds-fill-end-in-Ok c =
    let fits : c.in-Ok.field-0.need ≤ length c.args.store.now = ready_room _ _ _ _ (sym c.in-Ok.ensures) in
    omega (arith, length-take {A = ℕ})

pub returns-in-Ok : goal.returns-in-Ok
unfolding start_of
returns-in-Ok c =
    let fits : c.in-Ok.field-0.need ≤ length c.args.store.now = ready_room _ _ _ _ (sym c.in-Ok.ensures) in
    let size : length (take c.in-Ok.field-0.need c.args.store.now) ≡ c.in-Ok.field-0.need = omega (arith, length-take {A = ℕ}) in
    rw (← c.in-Ok.ensures, c.nothing_seen.ensures, c.fill.ensures.after (λ y h. h), size)

pub returns-in-Err : goal.returns-in-Err
unfolding start_of
returns-in-Err c = rw (← c.in-Err.ensures, c.nothing_seen-in-Err.ensures)
