-- Events and what was seen of them so far (document 01, "The rule table").
use Rattle.std.specs.Prelude.{List, [], ◌∷◌, ◌≡◌, ℕ, ◌/◌, ◌%◌, ◌^◌}

-- An event has a time in milliseconds and a mask of 32 bits.
pub record Event : Type 0 where
  pub time : ℕ
  pub mask : ℕ

-- "bit x of the event's mask is set".
abbrev pub BitSet : ℕ → ℕ → Type 0
BitSet x mask = mask / 2 ^ x % 2 ≡ 1

-- The events so far, the newest first. Two may have the same time. `drop j h` is what was known j events ago.
abbrev pub History : Type 0
History = List Event

-- The time and the mask of the newest event; 0 where there is none.
abbrev pub last_time : History → ℕ
last_time [] = 0
last_time (e ∷ h) = e.time

abbrev pub last_mask : History → ℕ
last_mask [] = 0
last_mask (e ∷ h) = e.mask
