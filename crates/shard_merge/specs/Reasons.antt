-- Why texts aren't the shards of one sweep.
use Rattle.std.specs.Prelude.{◌≡◌, ◌⊎◌, ◌<◌, ◌≤◌, ℕ, List, [], ◌∷◌, ◌++◌, Option, Some, None, Vec, codes, length, slice_get, get_or}
use Rattle.std.specs.Option.{ForSome}
use Rattle.std.specs.Str.{IsUtf8}
use Rattle.std.specs.declared.alloc.Global.{Global}
use Rattle.sweep_plan.specs.Sweep.{Sweep}
use Rattle.sweep_plan.specs.declared.fault.PlanFault.{PlanFault}
use Rattle.sweep_plan.specs.declared.fault.PlanFault.TheVariants as unread
use Rattle.shards.specs.declared.shard.Shard.{Shard}
use Rattle.shards.specs.Shards.{IsShard}
use Rattle.sweep.specs.Shards.{shard_header}
use Rattle.sweep.specs.Runs.{IsAskedFor}
use Rattle.sweep.specs.Sums.{IsOlder, line_key}
use Rattle.sweep.specs.declared.summing.LineKey.{LineKey}
use Rattle.shard_merge.specs.Among.{shard_at}
use Rattle.shard_merge.specs.Behind.{AreBehind}
use Rattle.shard_merge.specs.Joined.{IsFirstSeed, IsMark}
use Rattle.shard_merge.specs.declared.fault.JoinFault.{JoinFault}
use Rattle.shard_merge.specs.declared.fault.JoinFault.TheVariants as fault
use Rattle.figures.specs.declared.column_set.ColumnSet.{ColumnSet}

-- the text at a place
abbrev pub IsTextAt : List (Vec ℕ Global) → ℕ → List ℕ → Type 0
IsTextAt texts place text = (held : Vec ℕ Global) × (slice_get texts place ≡ Some held) × (text ≡ held.items)

-- the text begins with the first line of this shard of a sweep
pub record BeginsAs (text mark : List ℕ) (columns : ColumnSet) (sweep : Sweep) (p : Shard) : Type 0 where
  pub asked : IsAskedFor sweep
  pub marked : IsMark mark
  pub sound : IsShard p
  pub rest : List ℕ
  pub written : text ≡ shard_header columns mark sweep p ++ rest

-- it begins with that of none
abbrev pub BeginsAsNone : List ℕ → Type 0
BeginsAsNone text = (mark : List ℕ) (columns : ColumnSet) (sweep : Sweep) (p : Shard) → ¬ (BeginsAs text mark columns sweep p)

-- what stands behind the first line of the shard is in UTF-8, and a line for each of its runs, or its settings, each line genuine at its place
pub record AreIts (until : Option ℕ) (key : LineKey) (sweep : Sweep) (p : Shard) (text : List ℕ) : Type 0 where
  pub encoded : IsUtf8 text
  pub are : AreBehind until key sweep p text

-- there is no text, or the one at this place isn't UTF-8, or begins as no shard
abbrev pub IsNoShard : List (Vec ℕ Global) → ℕ → Type 0
IsNoShard texts place = (texts ≡ []) ⊎ ((text : List ℕ) × IsTextAt texts place text × ((¬ (IsUtf8 text)) ⊎ BeginsAsNone text))

-- the first text begins as a shard of this sweep, of so many
pub record IsFirst (texts : List (Vec ℕ Global)) (mark : List ℕ) (columns : ColumnSet) (sweep : Sweep) (p : Shard) : Type 0 where
  pub text : List ℕ
  pub there : IsTextAt texts 0 text
  pub begins : BeginsAs text mark columns sweep p

-- the text at this place begins as no shard of the sweep of the first, of as many
pub record IsOther (texts : List (Vec ℕ Global)) (place : ℕ) : Type 0 where
  pub mark : List ℕ
  pub columns : ColumnSet
  pub sweep : Sweep
  pub p : Shard
  pub first : IsFirst texts mark columns sweep p
  pub text : List ℕ
  pub there : IsTextAt texts place text
  pub none : (q : Shard) → q.of ≡ p.of → ¬ (BeginsAs text mark columns sweep q)

-- the text at this place begins as the same shard as one before it
pub record IsDoubled (texts : List (Vec ℕ Global)) (place : ℕ) : Type 0 where
  pub mark : List ℕ
  pub columns : ColumnSet
  pub sweep : Sweep
  pub p : Shard
  pub earlier : ℕ
  pub before : earlier < place
  pub text : List ℕ
  pub there : IsTextAt texts place text
  pub begins : BeginsAs text mark columns sweep p
  pub other : List ℕ
  pub there_too : IsTextAt texts earlier other
  pub begins_too : BeginsAs other mark columns sweep p

-- The text at this place begins as a shard, but what comes after its first line isn't that of its runs, or settings. Where a seed is named, it isn't that with this
-- seed, which the line of the sweep's first run has.
pub record IsTorn (texts : List (Vec ℕ Global)) (place : ℕ) : Type 0 where
  pub mark : List ℕ
  pub columns : ColumnSet
  pub sweep : Sweep
  pub p : Shard
  pub text : List ℕ
  pub there : IsTextAt texts place text
  pub begins : BeginsAs text mark columns sweep p
  pub seed : Option ℕ
  pub first : ForSome seed (IsFirstSeed texts mark columns sweep p.of)
  pub torn : ¬ (AreIts sweep.until (line_key columns seed mark sweep) sweep p begins.rest)

-- the text at this place begins as a shard, and then comes a line without a checksum
pub record IsOlderAt (texts : List (Vec ℕ Global)) (place : ℕ) : Type 0 where
  pub mark : List ℕ
  pub columns : ColumnSet
  pub sweep : Sweep
  pub p : Shard
  pub text : List ℕ
  pub there : IsTextAt texts place text
  pub begins : BeginsAs text mark columns sweep p
  pub older : IsOlder begins.rest

-- no text begins as the shard of this number of the sweep of the first, which has it
pub record IsMissing (texts : List (Vec ℕ Global)) (number : ℕ) : Type 0 where
  pub mark : List ℕ
  pub columns : ColumnSet
  pub sweep : Sweep
  pub p : Shard
  pub first : IsFirst texts mark columns sweep p
  pub low : 1 ≤ number
  pub high : number ≤ p.of
  pub none : (place : ℕ) (text : List ℕ) (q : Shard) → IsTextAt texts place text → q.number ≡ number → q.of ≡ p.of → ¬ (BeginsAs text mark columns sweep q)

-- why texts weren't put together; nothing is said of want of memory, nor of a table that fails
abbrev pub IsReason : List (Vec ℕ Global) → JoinFault → Type 0
IsReason texts (fault.NoShard place) = IsNoShard texts place
IsReason texts (fault.Other place) = IsOther texts place
IsReason texts (fault.Doubled place) = IsDoubled texts place
IsReason texts (fault.Torn place) = IsTorn texts place
IsReason texts (fault.Older place) = IsOlderAt texts place
IsReason texts (fault.Missing number) = IsMissing texts number
IsReason texts fault.Write = Unit {0}
IsReason texts fault.Memory = Unit {0}

-- the second of some words says this of a width
abbrev pub SaysWidth : List (List ℕ) → List ℕ → Type 0
SaysWidth words value = (first : List ℕ) × (more : List (List ℕ)) × (words ≡ first ∷ (codes "until=" ++ value) ∷ more)

-- the name of a text is that of no shard, or memory was refused
abbrev pub RefusesName : List ℕ → PlanFault → Type 0
RefusesName text unread.Words = BeginsAsNone text
RefusesName text unread.Memory = Unit {0}

-- The text of this place isn't a shard of the sweep, of so many: it isn't UTF-8 or begins as no shard, or it begins as none of these.
abbrev pub RefusesText : List ℕ → List ℕ → ColumnSet → Sweep → ℕ → ℕ → JoinFault → Type 0
RefusesText text mark columns sweep of place (fault.NoShard at) = (at ≡ place) × ((¬ (IsUtf8 text)) ⊎ BeginsAsNone text)
RefusesText text mark columns sweep of place (fault.Other at) = (at ≡ place) × ((q : Shard) → q.of ≡ of → ¬ (BeginsAs text mark columns sweep q))
RefusesText text mark columns sweep of place fault.Memory = Unit {0}
RefusesText text mark columns sweep of place _ = ⊥

-- behind its first line, which is this, the text of this place has a line without a checksum, or isn't UTF-8
abbrev pub RefusesLines : List ℕ → List ℕ → ℕ → JoinFault → Type 0
RefusesLines text header place (fault.Older at) = (at ≡ place) × ((rest : List ℕ) × (text ≡ header ++ rest) × IsOlder rest)
RefusesLines text header place (fault.Torn at) = (at ≡ place) × ((rest : List ℕ) × (text ≡ header ++ rest) × ¬ (IsUtf8 rest))
RefusesLines text header place fault.Memory = Unit {0}
RefusesLines text header place _ = ⊥

-- the shard of this number has a place already
abbrev pub RefusesPlace : List (Option ℕ) → ℕ → ℕ → JoinFault → Type 0
RefusesPlace places number place (fault.Doubled at) = (at ≡ place) × ((earlier : ℕ) × (get_or places number None ≡ Some earlier))
RefusesPlace places number place _ = ⊥

-- the first text begins as no shard, or memory was refused
abbrev pub HasNoHead : JoinFault → Type 0
HasNoHead (fault.NoShard place) = Unit {0}
HasNoHead fault.Memory = Unit {0}
HasNoHead _ = ⊥

-- memory was refused, or the table failed
abbrev pub IsOfSink : JoinFault → Type 0
IsOfSink fault.Write = Unit {0}
IsOfSink fault.Memory = Unit {0}
IsOfSink _ = ⊥

-- the shard of this number has its text at this place, and these lines stand behind its first
pub record IsBehind (texts : List (Vec ℕ Global)) (mark : List ℕ) (columns : ColumnSet) (sweep : Sweep) (of : ℕ) (places : List (Option ℕ)) (number place : ℕ) (lines : List ℕ) : Type 0 where
  pub found : get_or places number None ≡ Some place
  pub text : List ℕ
  pub there : IsTextAt texts place text
  pub written : text ≡ shard_header columns mark sweep (shard_at number of) ++ lines

-- what the texts before a place are: each of the places that are kept by the numbers of shards is that of a text that begins as that shard,
-- and each text before has its place
pub record ArePlaces (texts : List (Vec ℕ Global)) (mark : List ℕ) (columns : ColumnSet) (sweep : Sweep) (of : ℕ) (places : List (Option ℕ)) (till : ℕ) : Type 0 where
  pub size : length places ≡ of
  pub held : (number place : ℕ) → get_or places number None ≡ Some place
      → (place < till) × ((text : List ℕ) × IsTextAt texts place text × BeginsAs text mark columns sweep (shard_at number of))
  pub kept : (place : ℕ) (text : List ℕ) → place < till → IsTextAt texts place text
      → (number : ℕ) × (get_or places number None ≡ Some place) × BeginsAs text mark columns sweep (shard_at number of)
