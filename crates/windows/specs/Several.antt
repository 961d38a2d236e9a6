-- The windows of several parts, each below a bound of its own.
use Rattle.std.specs.Prelude.{◌≡◌, ℕ, List, [], ◌∷◌, ◌++◌, map}
use Rattle.std.specs.FinMap.{FinMap}
use Rattle.base.specs.Order.{key_cmp}
use Rattle.scenario.specs.Setup.{Setup}
use Rattle.member.specs.declared.event.Event.{Event}
use Rattle.windows.specs.declared.bounded.Bounded.{Bounded}
use Rattle.windows.specs.declared.part.Part.{Part}
use Rattle.windows.specs.declared.part.Done.{Done}
use Rattle.windows.specs.WorldOf.{world_of}
use Rattle.windows.specs.Window.{RunsWindow}
use Rattle.windows.specs.Wears.{OverflowsInWindow}

-- the parts, without how far their windows go
abbrev pub parts_of : {Q : Type 0} → List (Bounded Q) → List (Part Q)
parts_of {Q} bounded = map (λ (b : Bounded Q). b.part) bounded

-- their numbers
abbrev pub numbers_of : {Q : Type 0} → List (Part Q) → List ℕ
numbers_of {Q} parts = map (λ (p : Part Q). p.number) parts

module _ {Q : Type 0} (set : Q → FinMap key_cmp Event) where
  -- the part had its window, after which it has its number still
  abbrev pub RanWindow : Setup → Bounded Q → Done Q → Type 0
  RanWindow s b d = RunsWindow s b.bound (world_of set b.part) d.out.items d.rows.items (world_of set d.part) × (d.part.number ≡ b.part.number)

  -- each of these parts had its window
  abbrev pub RanWindows : Setup → List (Bounded Q) → List (Done Q) → Type 0
  RanWindows s [] [] = Unit {0}
  RanWindows s (b ∷ bs) (d ∷ ds) = RanWindow s b d × RanWindows s bs ds
  RanWindows s _ _ = ⊥

  -- a counter overflows in one of these parts within its window
  pub record OneWears (s : Setup) (parts : List (Bounded Q)) : Type 0 where
    pub before : List (Bounded Q)
    pub one : Bounded Q
    pub after : List (Bounded Q)
    pub there : parts ≡ before ++ one ∷ after
    pub wears : OverflowsInWindow s one.bound (world_of set one.part)
