-- Names at the ends of labels.
use Rattle.std.specs.Prelude.{◌≡◌, ◌≢◌, ◌-◌, ◌≤◌, ℕ, List, length, drop, get_or}

-- how long the name is that a label holds, by its first byte: 0 where it holds none
abbrev pub held_length : List ℕ → ℕ
held_length label = get_or label 0 0

-- the label's end is the name, whose length its first byte tells
pub record IsHeld (name label : List ℕ) : Type 0 where
  pub told : held_length label ≡ length name
  pub room : length name ≤ 15
  pub here : drop (16 - length name) label ≡ name

-- a label of 16 bytes holds the whole name, or none: a name of at most 15 bytes is held
pub record IsLabelOf (name label : List ℕ) : Type 0 where
  pub sized : length label ≡ 16
  pub short : length name ≤ 15 → held_length label ≡ length name
  pub held : held_length label ≢ 0 → IsHeld name label
