-- Refusals 1 to 3, 10, 11 and 4, then 7, with which every call begins (document 01, "Refusal numbers"; document 02, E4 and E8).
use Rattle.std.specs.Prelude.{Bool, cond, List, ◌≡◌, ℕ, length, Result}
use Rattle.refusals.specs.Refusals.{refused}
use Rattle.refusals.specs.declared.refusal.Refusal.{Refusal}
use Rattle.refusals.specs.declared.refusal.Refusal.TheVariants.{Unsound}
use Rattle.rules.specs.Table.{CheckReply, passed, refused_by, check_reply}
use Rattle.rules.specs.declared.table.Passed.{Passed}
use Rattle.soundness.specs.declared.record.Record.{Record}
use Rattle.soundness.specs.Soundness.{sound?}
use Rattle.soundness.specs.Setup.{Setup}
use Rattle.soundness.specs.Ready.{ready_of}

-- 7, "record not sound", after those.
abbrev pub with_sound : Bool → CheckReply → CheckReply
with_sound sound (passed rows need) = cond sound (passed rows need) (refused_by (refused Unsound))
with_sound sound (refused_by fault) = refused_by fault

unfoldable pub fit_of : Setup → List ℕ → Record → CheckReply
fit_of setup store found = with_sound (sound? setup.table store found) (ready_of setup (length store))

-- What `fit` promises: its answer says this.
abbrev pub Fits : Setup → (store : List ℕ) → Record → Result Passed Refusal → Type 0
Fits setup store found answer = check_reply answer ≡ fit_of setup store found
