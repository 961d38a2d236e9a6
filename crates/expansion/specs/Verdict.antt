-- For which rule the six lists of a text are refused, the lowest of the written text first, then that of the plain one.
use Rattle.std.specs.Prelude.{ℕ, Option, Some, None, nat_lt, if◌then◌else◌}
use Rattle.std.specs.Option.{option_or}
use Rattle.script_draws.specs.Turns.{text_words}
use Rattle.plain_entries.specs.declared.script.Script.{Script}
use Rattle.plain_entries.specs.Script.{PlainLists, entries_made, most_made, plain_of}
use Rattle.written_entries.specs.Bad.{breaks_entries}
use Rattle.expansion.specs.Late.{has_late}
use Rattle.expansion.specs.Turns.{comes_too_often}
use Rattle.expansion.specs.declared.refusal.ScriptRefusal.{ScriptRefusal}
use Rattle.expansion.specs.declared.refusal.ScriptRefusal.TheVariants.{Entry, TooMany, Late, Memory}

abbrev pub rule_of : ScriptRefusal → ℕ
rule_of (Entry fault) = 9
rule_of TooMany = 10
rule_of Late = 5
rule_of Memory = 11

-- the lists as they are written; `start` says when a member starts, and there are so many members
abbrev pub written_rule : (start : ℕ → ℕ) → (count : ℕ) → Script → Option ℕ
written_rule start count script =
    if breaks_entries start count script then Some 9
    else if comes_too_often start script then Some 10
    else None

-- the plain lists
abbrev pub plain_rule : PlainLists → Option ℕ
plain_rule lists =
    if nat_lt most_made (entries_made lists) then Some 10
    else if has_late lists then Some 5
    else None

-- a text is refused as it is written, else for its plain text, under a seed
abbrev pub script_rule : (start : ℕ → ℕ) → (count : ℕ) → Script → (seed : ℕ) → Option ℕ
script_rule start count script seed = option_or (written_rule start count script) (plain_rule (plain_of start script (text_words seed)))
