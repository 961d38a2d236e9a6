-- A part of one member, which the tests run window by window.
use Rattle.std.specs.Prelude.{◌≡◌, ℕ, nat_eq}
use Rattle.std.specs.FinMap.{FinMap}
use Rattle.base.specs.Order.{key_cmp}
use Rattle.member.specs.declared.event.Event.{Event}
use Rattle.windows.specs.declared.part.Part.{Part}
use Rattle.windows.specs.WorldOf.{world_of}
use Rattle.windows.specs.Window.{is_own}

-- The part has one member, the one whose number it has.
abbrev pub IsSingle : {Q : Type 0} → (Q → FinMap key_cmp Event) → Part Q → Type 0
IsSingle set part = (m : ℕ) → is_own (world_of set part) m ≡ nat_eq m part.number
