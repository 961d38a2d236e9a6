-- From what a document says, its plain entries and its lines to its plain text.
use Rattle.std.proofs.Common.{◌≡◌, ℕ, List, map, subst, string_bytes, String, Global, Result, IfOk, Ok, Err}
use Rattle.toml.specs.Data.{Data}
use Rattle.toml_places.specs.declared.places.Places.{Places}
use Rattle.plain_document.specs.Order.{Section, IsOrderedDocument}
use Rattle.plain_document.specs.declared.document.PlainParts.{PlainParts}
use Rattle.plain_entries.specs.declared.script.Script.{Script}
use Rattle.script_reader.specs.Script.{IsScriptIn}
use Rattle.written_names.specs.Roster.{group_of}
use Rattle.written_names.specs.declared.roster.WrittenGroup.{WrittenGroup}
use Rattle.expanded_text.specs.Rule.{Says}
use Rattle.expanded_text.specs.Text.{ArePartsOf, IsLaidIn, IsPlainTextOf, IsTextIn}

pub text_stands : (sections : List Section) (d : Data) (tick : ℕ) (groups : List WrittenGroup) (script : Script) (text : List ℕ) (parts : PlainParts)
    → IsLaidIn sections tick d parts text → Says d tick groups → IsScriptIn tick d (map group_of groups) groups script → ArePartsOf d tick groups script parts
    → IsTextIn sections d text
text_stands sections d tick groups script text parts laid says read lists =
    record { tick = tick; groups = groups; script = script; parts = parts; says = says; read = read; of_lists = lists; laid_in = laid }

-- in the order of a text
in_order : (sections : List Section) (d : Data) (places : Places) (text : List ℕ) → IsOrderedDocument places d sections → IsTextIn sections d text → IsPlainTextOf d text
in_order sections d places text order is = record {
  tick = is.tick;
  groups = is.groups;
  script = is.script;
  parts = is.parts;
  says = is.says;
  read = is.read;
  of_lists = is.of_lists;
  laid_out = record {
    places = places;
    sections = sections;
    lines = is.laid_in.lines;
    order = order;
    plain = is.laid_in.plain;
    whole = is.laid_in.whole;
    reads = is.laid_in.reads;
  };
}

pub text_in_order : {E : Type 0} (sections : List Section) (d : Data) (places : Places) (r : Result (String Global) E) → IsOrderedDocument places d sections
    → IfOk r (λ text. IsTextIn sections d (string_bytes text)) → IfOk r (λ text. IsPlainTextOf d (string_bytes text))
text_in_order sections d places (Ok text) order is = in_order sections d places (string_bytes text) order is
text_in_order sections d places (Err error) order is = is

pub text_in_tree : {E : Type 0} (sections other : List Section) (d : Data) (r : Result (String Global) E) → sections ≡ other
    → IfOk r (λ text. IsTextIn sections d (string_bytes text)) → IfOk r (λ text. IsTextIn other d (string_bytes text))
text_in_tree sections other d r same is = subst (λ (ss : List Section). IfOk r (λ text. IsTextIn ss d (string_bytes text))) same is
