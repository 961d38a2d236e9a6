-- Which word of a command line is wrong: what a reason says is true of the words, and by it they ask for nothing.
use Rattle.std.specs.Prelude.{◌≡◌, ℕ, List, [], ◌∷◌, Option, Some, None, Bool, true, ◌&&◌, ◌||◌, is_none, is_some, Contains, codes, option_map, unwrap_or}
use Rattle.clap.specs.Words.{Row, Text, all_of, first_of}
use Rattle.arguments.specs.Numbers.{IsNumber}
use Rattle.arguments.specs.Rules.{is_given}
use Rattle.goals.specs.Words.{IsWantWord}
use Rattle.goals.specs.declared.want.Want.{Want}
use Rattle.sweep_plan.specs.Asked.{IsSweepOf}
use Rattle.sweep_plan.specs.Keys.{IsKeyNamed}
use Rattle.sweep_plan.specs.Sweep.{Sweep}
use Rattle.sweep_plan.specs.Values.{IsValue}
use Rattle.sweep_plan.specs.declared.keys.SweptKey.{SweptKey}
use Rattle.sweep_plan.specs.declared.values.SweptValue.{SweptValue}
use Rattle.shards.specs.Shards.{IsShardWord}
use Rattle.shards.specs.declared.shard.Shard.{Shard}
use Rattle.ticks.specs.Ticks.{IsTickWord}
use Rattle.ticks.specs.declared.tick.Tick.{Tick}
use Rattle.reasons.specs.Words.{written_name}
use Rattle.reasons.specs.declared.words.Clash.{Clash}
use Rattle.reasons.specs.declared.words.Clash.TheVariants as clash
use Rattle.reasons.specs.declared.words.WordFault.{WordFault}
use Rattle.reasons.specs.declared.words.WordFault.TheVariants as fault
use Rattle.reasons.specs.declared.words.WordReason.{WordReason}
use Rattle.reasons.specs.declared.words.WordReason.TheVariants as reason

-- the words of an option
abbrev pub words_of : Text → List Row → List Text
words_of option rows = unwrap_or (all_of option rows) []

-- ---- single words

-- a word of --set sets nothing, even by itself
abbrev pub SetsNothing : Text → Type 0
SetsNothing word = (sweep : Sweep) → ¬ (IsSweepOf (word ∷ []) None None sweep)

-- a word of --seeds gives no seeds
abbrev pub SeedsNothing : Text → Type 0
SeedsNothing word = (sweep : Sweep) → ¬ (IsSweepOf [] (Some word) None sweep)

-- a word of --want wants nothing
abbrev pub WantsNothing : Text → Type 0
WantsNothing word = (want : Want) → ¬ (IsWantWord word want)

-- the name is that of a key that may be set
abbrev pub NamesKey : Text → Type 0
NamesKey name = (k : SweptKey) × IsKeyNamed name k

abbrev pub NamesNoKey : Text → Type 0
NamesNoKey name = (k : SweptKey) → ¬ (IsKeyNamed name k)

-- the item is no value
abbrev pub IsNoValue : Text → Type 0
IsNoValue item = (value : SweptValue) → ¬ (IsValue item value)

-- ---- what is wrong with words

-- whether options that don't go together stand so
abbrev pub tells_settings : List Row → Bool
tells_settings rows = is_some (first_of (codes "page") rows) || is_given (first_of (codes "jsonl") rows)

abbrev pub clashes : List Row → Clash → Bool
clashes rows clash.PartsAndDivision = is_some (first_of (codes "parts") rows) && is_some (first_of (codes "division") rows)
clashes rows clash.ResumeAlone = is_none (first_of (codes "shard") rows) && is_given (first_of (codes "resume") rows)
clashes rows clash.ShardTelling = is_some (first_of (codes "shard") rows) && tells_settings rows
clashes rows clash.NameAlone = is_some (first_of (codes "name") rows) && is_none (first_of (codes "page") rows)

-- the word of an option is no number from 1 to the most
pub record IsNoNumber (option : Text) (most : ℕ) (rows : List Row) (word : Text) : Type 0 where
  pub given : first_of option rows ≡ Some word
  pub none : (n : ℕ) → ¬ (IsNumber 1 most word n)

-- the word of an option is refused
abbrev pub IsRefusedWord : List Row → WordFault → Text → Type 0
IsRefusedWord rows fault.Workers word = IsNoNumber (codes "workers") 64 rows word
IsRefusedWord rows fault.Parts word = IsNoNumber (codes "parts") 64 rows word
IsRefusedWord rows fault.PartNumber word = first_of (codes "division") rows ≡ Some word
IsRefusedWord rows fault.ListLength word = first_of (codes "division") rows ≡ Some word
IsRefusedWord rows fault.Until word = IsNoNumber (codes "until") 100 rows word
IsRefusedWord rows fault.Shard word = (first_of (codes "shard") rows ≡ Some word) × ((p : Shard) → ¬ (IsShardWord word p))
IsRefusedWord rows fault.Seeds word = (first_of (codes "seeds") rows ≡ Some word) × SeedsNothing word
IsRefusedWord rows fault.SeedsOrder word = (first_of (codes "seeds") rows ≡ Some word) × SeedsNothing word
IsRefusedWord rows fault.SeedsMany word = (first_of (codes "seeds") rows ≡ Some word) × SeedsNothing word
IsRefusedWord rows fault.Swept word = Contains (words_of (codes "set") rows) word × SetsNothing word
IsRefusedWord rows fault.Joined word = Contains (words_of (codes "set") rows) word × SetsNothing word
IsRefusedWord rows fault.KeyTwice word = Contains (words_of (codes "set") rows) word
IsRefusedWord rows fault.Want word = Contains (words_of (codes "want") rows) word × WantsNothing word
IsRefusedWord rows fault.Tick word = (first_of (codes "tick") rows ≡ Some word) × ((tick : Tick) → ¬ (IsTickWord word tick))

-- what a reason says is true of the words that were found, and by it they ask for nothing
abbrev pub IsReasonOf : List Row → WordReason → Type 0
IsReasonOf rows (reason.Clash clash) = clashes rows clash ≡ true
IsReasonOf rows (reason.Dash file) = first_of (written_name file) rows ≡ Some (codes "-")
IsReasonOf rows (reason.Word fault word) = IsRefusedWord rows fault word.now
IsReasonOf rows (reason.Key word key guess) = (Contains (words_of (codes "set") rows) word.now × SetsNothing word.now) × NamesNoKey key.now
IsReasonOf rows (reason.Value word value) = (Contains (words_of (codes "set") rows) word.now × SetsNothing word.now) × IsNoValue value.now
IsReasonOf rows (reason.Share word parts) = Contains (words_of (codes "set") rows) word.now × SetsNothing word.now
IsReasonOf rows (reason.Statistic word name) = Contains (words_of (codes "want") rows) word.now × WantsNothing word.now
IsReasonOf rows reason.Runs = (sweep : Sweep) → ¬ (IsSweepOf (words_of (codes "set") rows) (first_of (codes "seeds") rows) None sweep)
IsReasonOf rows reason.NoText = ⊥

-- the same of the words of the command that was met
abbrev pub IsReasonMet : Option (Text × List Row) → WordReason → Type 0
IsReasonMet met reason = (rows : List Row) × (option_map (λ (p : Text × List Row). p.1) met ≡ Some rows) × IsReasonOf rows reason

-- what is wrong with a word of --set
abbrev pub IsSweptReason : Text → WordReason → Type 0
IsSweptReason word (reason.Word fault.Swept w) = w.now ≡ word
IsSweptReason word (reason.Word fault.Joined w) = w.now ≡ word
IsSweptReason word (reason.Key w key guess) = (w.now ≡ word) × NamesNoKey key.now
IsSweptReason word (reason.Value w value) = (w.now ≡ word) × IsNoValue value.now
IsSweptReason word (reason.Share w parts) = w.now ≡ word
IsSweptReason word _ = ⊥

-- what is wrong with a word of --seeds
abbrev pub IsSeedsReason : Text → WordReason → Type 0
IsSeedsReason word (reason.Word fault.Seeds w) = w.now ≡ word
IsSeedsReason word (reason.Word fault.SeedsOrder w) = w.now ≡ word
IsSeedsReason word (reason.Word fault.SeedsMany w) = w.now ≡ word
IsSeedsReason word _ = ⊥

-- what is wrong with a word of --want
abbrev pub IsWantReason : Text → WordReason → Type 0
IsWantReason word (reason.Word fault.Want w) = w.now ≡ word
IsWantReason word (reason.Statistic w name) = w.now ≡ word
IsWantReason word _ = ⊥

-- what is wrong with the word of an option that is a number
abbrev pub IsNumberReason : List Row → WordFault → Text → ℕ → WordReason → Type 0
IsNumberReason rows given option most (reason.Word fault word) = (fault ≡ given) × IsNoNumber option most rows word.now
IsNumberReason rows given option most _ = ⊥
