-- Which text is which shard.
use Rattle.std.specs.Prelude.{◌≡◌, ◌+◌, ℕ, List, Some, Vec, slice_get}
use Rattle.std.specs.declared.alloc.Global.{Global}
use Rattle.shards.specs.declared.shard.Shard.{Shard}

-- the text is one of these
abbrev pub IsAmongTexts : List (Vec ℕ Global) → List ℕ → Type 0
IsAmongTexts texts text = (place : ℕ) × (held : Vec ℕ Global) × (slice_get texts place ≡ Some held) × (text ≡ held.items)

-- the shard of this number, counted from 0, of so many
abbrev pub shard_at : ℕ → ℕ → Shard
shard_at number of = record { number = number + 1; of = of }
