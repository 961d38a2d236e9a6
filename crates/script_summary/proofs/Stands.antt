-- From what is read of a document to what its entries stand for.
use Rattle.std.proofs.Common.{◌≡◌, ℕ, List, codes, map, refl, subst, sym}
use Rattle.std.specs.List.{AllZip}
use Rattle.toml.specs.Data.{Data}
use Rattle.schema.specs.Schema.{spelling_of}
use Rattle.schema.specs.Tree.{items_at}
use Rattle.schema.specs.declared.schema.FormatKey.TheVariants as key
use Rattle.written_groups.specs.Groups.{IsExtraIn}
use Rattle.written_groups.specs.Values.{items_at as items_of_key}
use Rattle.streams.specs.Draw.{Words}
use Rattle.plain_entries.specs.declared.script.Script.{Script}
use Rattle.plain_entries.specs.Entries.{start_in}
use Rattle.plain_entries.specs.Script.{plain_of, PlainLists}
use Rattle.script_draws.specs.Turns.{text_words}
use Rattle.scenario.specs.Setup.{Group}
use Rattle.script_reader.specs.Script.{IsScriptIn}
use Rattle.written_names.specs.Roster.{group_of}
use Rattle.written_names.specs.declared.roster.WrittenGroup.{WrittenGroup}
use Rattle.expanded_text.specs.Rule.{seed_in, starts_of}
use Rattle.script_summary.specs.Summary.{HasReturns, StandsFor}

-- the lists end by the restarts of crashes and of leaves
have_returns : (start : ℕ → ℕ) (script : Script) (words : Words) → HasReturns (plain_of start script words)
unfolding plain_of
have_returns start script words = record { own = _; whole = refl }

pub returned : (d : Data) (tick : ℕ) (groups : List WrittenGroup) (lists : PlainLists) → StandsFor d tick groups lists → HasReturns lists
returned d tick groups lists stands =
    subst HasReturns (sym stands.plain) (have_returns (start_in (starts_of groups)) stands.script (text_words (seed_in d)))

-- what is read with these groups is read with them as a roster
pub read_by : (d : Data) (tick : ℕ) (roster : List Group) (groups : List WrittenGroup) (script : Script) → roster ≡ map group_of groups
    → IsScriptIn tick d roster groups script → IsScriptIn tick d (map group_of groups) groups script
read_by d tick roster groups script same is = subst (λ (r : List Group). IsScriptIn tick d r groups script) same is

-- by how much members are slow
pub slow_by : (d : Data) (tick : ℕ) (extras : List ℕ) → AllZip (IsExtraIn tick) (items_of_key (codes "slow") d) extras → AllZip (IsExtraIn tick) (items_at key.Slow d) extras
unfolding spelling_of
slow_by d tick extras are = are
