-- What a text of version 4 stands for.
use Rattle.std.specs.Prelude.{◌≡◌, ℕ, List, All, map, flat_map, codes, string_bytes}
use Rattle.std.specs.List.{AllZip}
use Rattle.toml.specs.Data.{Data}
use Rattle.toml.specs.Parse.{parse_document}
use Rattle.toml_places.specs.declared.places.Places.{Places}
use Rattle.scenario.specs.Setup.{names_in}
use Rattle.plain_entries.specs.Entries.{start_in}
use Rattle.plain_entries.specs.Script.{lists_of, plain_of}
use Rattle.plain_entries.specs.declared.script.Script.{Script}
use Rattle.script_draws.specs.Turns.{text_words}
use Rattle.script_reader.specs.Script.{IsScriptIn}
use Rattle.plain_document.specs.Document.{AreLinesOf}
use Rattle.plain_document.specs.Order.{Section, IsOrderedDocument}
use Rattle.plain_document.specs.declared.document.PlainParts.{PlainParts}
use Rattle.plain_text.specs.Document.{document_of, expression_of, IsPlainLine}
use Rattle.plain_text.specs.Lines.{text_of}
use Rattle.plain_text.specs.declared.line.PlainLine.{PlainLine}
use Rattle.written_groups.specs.Groups.{IsExtraIn}
use Rattle.written_groups.specs.Values.{items_at}
use Rattle.written_names.specs.Roster.{group_of}
use Rattle.written_names.specs.declared.roster.WrittenGroup.{WrittenGroup}
use Rattle.expanded_text.specs.Order.{tree_order}
use Rattle.expanded_text.specs.Rule.{seed_in, starts_of, Says}

-- the plain entries of the six lists under the text's seed, members' names, and by how much members are slow
pub record ArePartsOf (d : Data) (tick : ℕ) (groups : List WrittenGroup) (script : Script) (parts : PlainParts) : Type 0 where
  pub entries : lists_of parts.script.now ≡ plain_of (start_in (starts_of groups)) script (text_words (seed_in d))
  pub names : map string_bytes parts.names.now ≡ flat_map (λ (group : WrittenGroup). names_in (group_of group)) groups
  pub extras : AllZip (IsExtraIn tick) (items_at (codes "slow") d) parts.extras.now

-- the plain lines of a document as a text, each of its keys once; where they are plain the text is the document that they define
pub record IsLaidOut (tick : ℕ) (d : Data) (parts : PlainParts) (text : List ℕ) : Type 0 where
  pub places : Places
  pub sections : List Section
  pub lines : List PlainLine
  pub order : IsOrderedDocument places d sections
  pub plain : AreLinesOf tick d sections parts (map expression_of lines)
  pub whole : text ≡ text_of lines
  pub reads : All IsPlainLine lines → parse_document text ≡ document_of (map expression_of lines)

-- the text for which a document stands
pub record IsPlainTextOf (d : Data) (text : List ℕ) : Type 0 where
  pub tick : ℕ
  pub groups : List WrittenGroup
  pub script : Script
  pub parts : PlainParts
  pub says : Says d tick groups
  pub read : IsScriptIn tick d (map group_of groups) groups script
  pub of_lists : ArePartsOf d tick groups script parts
  pub laid_out : IsLaidOut tick d parts text

-- ---- in a given order of its keys

-- the plain lines of a document, its keys in this order, as a text; where they are plain the text is the document that they define
pub record IsLaidIn (sections : List Section) (tick : ℕ) (d : Data) (parts : PlainParts) (text : List ℕ) : Type 0 where
  pub lines : List PlainLine
  pub plain : AreLinesOf tick d sections parts (map expression_of lines)
  pub whole : text ≡ text_of lines
  pub reads : All IsPlainLine lines → parse_document text ≡ document_of (map expression_of lines)

-- the text for which a document stands, its keys in this order
pub record IsTextIn (sections : List Section) (d : Data) (text : List ℕ) : Type 0 where
  pub tick : ℕ
  pub groups : List WrittenGroup
  pub script : Script
  pub parts : PlainParts
  pub says : Says d tick groups
  pub read : IsScriptIn tick d (map group_of groups) groups script
  pub of_lists : ArePartsOf d tick groups script parts
  pub laid_in : IsLaidIn sections tick d parts text

-- the text for which a document stands, its keys in the order in which its tables hold them
abbrev pub IsTreeTextOf : Data → List ℕ → Type 0
IsTreeTextOf d text = IsTextIn (tree_order d) d text
