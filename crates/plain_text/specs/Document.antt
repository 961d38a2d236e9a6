-- The TOML document that the lines of a plain text define.
use Rattle.std.specs.Prelude.{◌≡◌, ◌<◌, ◌^◌, ℕ, Bool, true, ◌&&◌, List, [], ◌∷◌, length, nat_lt, Option, Some, option_map, option_and_then, pos}
use Rattle.std.specs.List.{list_all}
use Rattle.toml_parser.specs.Lexical.{is_bare}
use Rattle.toml.specs.Data.{Data, string, integer, boolean, Members}
use Rattle.toml.specs.Tables.{Document, Expression, no_nodes, close, define, key_value, std_table, array_table}
use Rattle.plain_text.specs.declared.line.PlainLine.{PlainLine}
use Rattle.plain_text.specs.declared.line.PlainLine.TheVariants.{Pair, Table, Item}
use Rattle.plain_text.specs.declared.line.PlainValue.{PlainValue}
use Rattle.plain_text.specs.declared.line.PlainValue.TheVariants.{Whole, Switch, Name}

-- the value in a document
abbrev pub data_of : PlainValue → Data
data_of (Whole number) = integer (pos number)
data_of (Switch on) = boolean on
data_of (Name name) = string name.now

-- what a line defines
abbrev pub expression_of : PlainLine → Expression
expression_of (Pair key value) = (([], key.now), key_value (data_of value))
expression_of (Table name) = (([], name.now), std_table)
expression_of (Item name) = (([], name.now), array_table)

-- the document behind what some more lines define; none where a key is there twice
abbrev pub defined : Document → List Expression → Option Document
defined doc [] = Some doc
defined doc (line ∷ lines) = option_and_then (λ next. defined next lines) (define doc line)

abbrev pub document_of : List Expression → Option Members
document_of lines = option_map (λ doc. close doc.0) (defined (no_nodes, []) lines)

-- letters, digits, `-` and `_`, which need no quotes as a key and no escapes as a value
abbrev pub is_plain_name : List ℕ → Bool
is_plain_name name = nat_lt 0 (length name) && list_all is_bare name

abbrev pub IsPlainValue : PlainValue → Type 0
IsPlainValue (Whole number) = number < 2 ^ 63
IsPlainValue (Switch on) = Unit {0}
IsPlainValue (Name name) = is_plain_name name.now ≡ true

abbrev pub IsPlainLine : PlainLine → Type 0
IsPlainLine (Pair key value) = (is_plain_name key.now ≡ true) × IsPlainValue value
IsPlainLine (Table name) = is_plain_name name.now ≡ true
IsPlainLine (Item name) = is_plain_name name.now ≡ true
