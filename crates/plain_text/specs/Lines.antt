-- How a plain text is laid out: `key = value` a line, `[table]` and `[[list]]` above the keys of a table and of an item.
use Rattle.std.specs.Prelude.{ℕ, List, ◌++◌, codes, flat_map, if◌then◌else◌}
use Rattle.std.specs.Fmt.{decimal}
use Rattle.plain_text.specs.declared.line.PlainLine.{PlainLine}
use Rattle.plain_text.specs.declared.line.PlainLine.TheVariants.{Pair, Table, Item}
use Rattle.plain_text.specs.declared.line.PlainValue.{PlainValue}
use Rattle.plain_text.specs.declared.line.PlainValue.TheVariants.{Whole, Switch, Name}

-- a whole number, a switch, or a name between quotes
abbrev pub value_text : PlainValue → List ℕ
value_text (Whole number) = decimal number
value_text (Switch on) = if on then codes "true" else codes "false"
value_text (Name name) = codes "\"" ++ name.now ++ codes "\""

abbrev pub line_text : PlainLine → List ℕ
line_text (Pair key value) = key.now ++ codes " = " ++ value_text value ++ codes "\n"
line_text (Table name) = codes "[" ++ name.now ++ codes "]\n"
line_text (Item name) = codes "[[" ++ name.now ++ codes "]]\n"

-- the lines, one after the other
abbrev pub text_of : List PlainLine → List ℕ
text_of lines = flat_map line_text lines
