-- What is printed of the diagnostics of a text that is refused.
use Rattle.std.specs.Prelude.{◌≡◌, ℕ, ◌-◌, ◌==◌, nat_le, nat_eq, if◌then◌else◌, List, [], ◌∷◌, ◌++◌, Option, Some, Bool, false, codes, find, length, map, take}
use Rattle.std.specs.Fmt.{decimal}
use Rattle.std.specs.List.{list_all}
use Rattle.std.specs.Option.{option_map_or}
use Rattle.serde_json.specs.Data.{Data, boolean, number, unsigned, string, array, object, member, put, no_members, depth}
use Rattle.serde_json.specs.Find.{get}
use Rattle.serde_json.specs.Read.{read}
use Rattle.serde_json.specs.View.{items_of}
use Rattle.diagnostics.specs.Told.{IsLeastRule, has_rule}
use Rattle.diagnostics.specs.declared.list.Diagnostic.{Diagnostic}

-- the first diagnostic of this rule, if there is one
abbrev pub first_of_rule : ℕ → List Diagnostic → List Diagnostic
first_of_rule rule found = option_map_or (λ m. m ∷ []) (find (λ m. nat_eq m.rule rule) found) []

-- The diagnostics that are shown, at most 50: the first by their places; where none of these is of the least rule, the last of
-- them gives way to the first that is.
abbrev pub shown_of : ℕ → List Diagnostic → List Diagnostic
shown_of rule found = if has_rule rule (take 50 found) then take 50 found else take 49 found ++ first_of_rule rule found

-- these diagnostics are shown of what was found, and the least rule of all is among them
pub record AreShown (rule : ℕ) (found shown : List Diagnostic) : Type 0 where
  pub chosen : shown ≡ shown_of rule found
  pub least : IsLeastRule rule shown

-- what the words on a diagnostic of a rule begin with
abbrev pub head_of : ℕ → List ℕ
head_of rule = codes "error[rule " ++ decimal rule ++ codes "]: "

-- the words on one
abbrev pub block_of : ℕ → List ℕ → List ℕ
block_of rule words = head_of rule ++ words

-- words on each of the diagnostics, in their order
abbrev pub AreBlocks : List Diagnostic → List ℕ → Type 0
AreBlocks [] text = text ≡ []
AreBlocks (m ∷ ms) text = (words : List ℕ) × (rest : List ℕ) × (text ≡ block_of m.rule words ++ rest) × AreBlocks ms rest

-- how many diagnostics there are, and how many of them aren't shown
abbrev pub count_line : ℕ → List ℕ
count_line count =
    if count == 1 then codes "1 error\n"
    else if nat_le count 50 then decimal count ++ codes " errors\n"
    else decimal count ++ codes " errors, " ++ decimal (count - 50) ++ codes " of them not shown\n"

-- the text has words on each diagnostic that is shown, and then says how many there are
pub record TellsLines (rule : ℕ) (text : List ℕ) : Type 0 where
  pub found : List Diagnostic
  pub shown : List Diagnostic
  pub are : AreShown rule found shown
  pub blocks : List ℕ
  pub each : AreBlocks shown blocks
  pub whole : text ≡ blocks ++ count_line (length found)

-- what a document says of a diagnostic
unfoldable pub diagnostic_data : ℕ → List ℕ → List ℕ → ℕ → ℕ → ℕ → Data
diagnostic_data rule message remedy line column length =
    object (put (codes "length") (number (unsigned length)) (put (codes "column") (number (unsigned column)) (put (codes "line") (number (unsigned line))
    (put (codes "remedy") (string remedy) (put (codes "message") (string message) (put (codes "rule") (number (unsigned rule)) no_members))))))

-- the values have the rules of these diagnostics
abbrev pub AreRulesOf : List Diagnostic → List Data → Type 0
AreRulesOf shown values = map (λ d. get (codes "rule") d) values ≡ map (λ m. Some (number (unsigned m.rule))) shown

-- no value has another one that is a list or an object
abbrev pub are_shallow : List Data → Bool
are_shallow values = list_all (λ d. nat_le (depth d) 1) values

-- the document of a file's diagnostics, and how many more there are
abbrev pub document_with : List ℕ → Data → ℕ → Data
document_with file diagnostics more =
    let counted = member (codes "more") (number (unsigned more)) no_members in
    let listed = member (codes "mistakes") diagnostics counted in
    object (member (codes "accepted") (boolean false) (member (codes "file") (string file) listed))

-- the same with these values of them
abbrev pub document_of : List ℕ → List Data → ℕ → Data
document_of file values more = document_with file (array (items_of values)) more

-- the text is a line that reads as a document, whose values have the rules of the diagnostics that are shown
pub record TellsDocument (rule : ℕ) (text : List ℕ) : Type 0 where
  pub found : List Diagnostic
  pub shown : List Diagnostic
  pub are : AreShown rule found shown
  pub values : List Data
  pub rules : AreRulesOf shown values
  pub file : List ℕ
  pub line : List ℕ
  pub reads : read line ≡ Some (document_of file values (length found - 50))
  pub whole : text ≡ line ++ 10 ∷ []
