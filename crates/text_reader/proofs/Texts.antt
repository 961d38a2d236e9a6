-- The plain text of a document is one, its keys in a given order.
use Rattle.std.proofs.Common.{◌≡◌, ◌≤◌, ℕ, Bool, List, [], ◌∷◌, ◌++◌, map, flat_map, Option, Some, None, refl, ap, sym, subst, ◌∙◌, codes, cond, is_none, bytes_eq, string_bytes, String, Global}
use Rattle.std.specs.List.{slice_get, AllZip}
use Rattle.std.specs.Option.{option_map, option_map_or}
use Rattle.std.specs.Fmt.{decimal}
use Rattle.std.proofs.lemmas.Option.{slice_get-map}
use Rattle.toml.specs.Data.{Data, get}
use Rattle.toml.specs.Tables.{Expression}
use Rattle.plain_entries.specs.Entries.{start_in}
use Rattle.plain_entries.specs.Script.{lists_of, plain_of}
use Rattle.plain_entries.specs.declared.script.Script.{Script}
use Rattle.script_draws.specs.Turns.{text_words}
use Rattle.plain_document.specs.Document.{last_lines, lines_of_part, lines_of_restarts, AddsPart, AddsSections, AreLinesOf}
use Rattle.plain_document.specs.Entries.{contact_lines, extra_at, item_line, name_at, name_line, span_lines, whole_line}
use Rattle.plain_document.specs.Order.{Section}
use Rattle.plain_document.specs.declared.document.PlainParts.{PlainParts}
use Rattle.plain_document.proofs.One.{one_document}
use Rattle.plain_text.specs.Document.{data_of, expression_of}
use Rattle.plain_text.specs.Lines.{line_text, text_of, value_text}
use Rattle.plain_text.specs.declared.line.PlainLine.{PlainLine}
use Rattle.plain_text.specs.declared.line.PlainLine.TheVariants.{Pair, Table, Item}
use Rattle.plain_text.specs.declared.line.PlainValue.{PlainValue}
use Rattle.plain_text.specs.declared.line.PlainValue.TheVariants.{Whole, Switch, Name}
use Rattle.toml.specs.Tables.{key_value, std_table, array_table}
use Rattle.written_groups.specs.Groups.{IsGroupIn}
use Rattle.written_groups.specs.Values.{items_at}
use Rattle.script_reader.specs.Script.{IsScriptIn}
use Rattle.written_names.specs.Roster.{group_of}
use Rattle.written_names.specs.declared.roster.WrittenGroup.{WrittenGroup}
use Rattle.expanded_text.specs.Rule.{seed_in, starts_of}
use Rattle.expanded_text.specs.Text.{ArePartsOf, IsTextIn}
use Rattle.text_reader.proofs.Groups.{same_extras, same_groups, same_names, same_starts}
use Rattle.text_reader.proofs.Numbers.{one_tick, some_tick}
use Rattle.text_reader.proofs.Scripts.{same_plain, same_script, SayTheSame}

-- ---- the lines of parts

record AreSame (a b : PlainParts) : Type 0 where
  lists : lists_of a.script.now ≡ lists_of b.script.now
  names : map string_bytes a.names.now ≡ map string_bytes b.names.now
  extras : a.extras.now ≡ b.extras.now

abbrev name_in : List (List ℕ) → ℕ → List ℕ
name_in names member = option_map_or (λ name. name) (slice_get names member) []

plain_name : (o : Option (String Global)) → option_map_or string_bytes o [] ≡ option_map_or (λ name. name) (option_map string_bytes o) []
plain_name None = refl
plain_name (Some name) = refl

name_is : (names : List (String Global)) (member : ℕ) → name_at names member ≡ name_in (map string_bytes names) member
name_is names member =
    plain_name (slice_get names member) ∙ ap (λ (o : Option (List ℕ)). option_map_or (λ name. name) o []) (sym (slice_get-map string_bytes names member))

module _ (a b : PlainParts) (same : AreSame a b) where
  same_name : (member : ℕ) → name_at a.names.now member ≡ name_at b.names.now member
  same_name member = name_is a.names.now member ∙ ap (λ (names : List (List ℕ)). name_in names member) same.names ∙ sym (name_is b.names.now member)

  same_contact : (contact : Option ℕ) → contact_lines a.names.now contact ≡ contact_lines b.names.now contact
  same_contact None = refl
  same_contact (Some contact) = λ i. name_line (codes "contact") (same_name contact i) ∷ []

  same_restarts : lines_of_restarts a ≡ lines_of_restarts b
  same_restarts = λ i.
      flat_map (λ it.
      (item_line (codes "restart") ∷ name_line (codes "member") (same_name it.member i) ∷ []) ++ (whole_line (codes "at") it.time.at ∷ same_contact it.time.contact i))
      (same.lists i).restarts

  same_part : (name : List ℕ) → lines_of_part a name ≡ lines_of_part b name
  same_part name = λ i.
      cond (bytes_eq name (codes "crash"))
      (Some (flat_map (λ it. (item_line (codes "crash") ∷ name_line (codes "member") (same_name it.member i) ∷ []) ++ whole_line (codes "at") it.time.at ∷ []) (same.lists i).crashes))
      (cond (bytes_eq name (codes "leave"))
      (Some (flat_map (λ it. (item_line (codes "leave") ∷ name_line (codes "member") (same_name it.member i) ∷ []) ++ whole_line (codes "at") it.time.at ∷ []) (same.lists i).leaves))
      (cond (bytes_eq name (codes "restart")) (Some (same_restarts i))
      (cond (bytes_eq name (codes "slow"))
      (Some (flat_map (λ it.
      ((item_line (codes "slow") ∷ name_line (codes "member") (same_name it.member i) ∷ []) ++ span_lines it.time)
      ++ whole_line (codes "extra") (extra_at (same.extras i) it.entry) ∷ []) (same.lists i).slows))
      (cond (bytes_eq name (codes "pause"))
      (Some (flat_map (λ it. (item_line (codes "pause") ∷ name_line (codes "member") (same_name it.member i) ∷ []) ++ span_lines it.time) (same.lists i).pauses))
      (cond (bytes_eq name (codes "block"))
      (Some (flat_map (λ it. (item_line (codes "block") ∷ name_line (codes "member") (same_name it.member i) ∷ []) ++ span_lines it.time) (same.lists i).blocks))
      None)))))

  same_last : (d : Data) → last_lines d a ≡ last_lines d b
  same_last d = λ i. cond (is_none (get (codes "restart") d)) (same_restarts i) []

  move_sections : (tick : ℕ) (d : Data) (sections : List Section) (before after : List Expression) → AddsSections tick d a sections before after
      → AddsSections tick d b sections before after
  move_sections tick d [] before after is = is
  move_sections tick d (section ∷ sections) before after is = (
    is.0,
    subst (λ (lines : Option (List Expression)). AddsPart tick d lines section before is.0) (same_part section.name) is.1,
    move_sections tick d sections is.0 after is.2,
  )

  move_lines : (tick : ℕ) (d : Data) (sections : List Section) (lines : List Expression) → AreLinesOf tick d sections a lines → AreLinesOf tick d sections b lines
  move_lines tick d sections lines is = record {
    pairs = is.pairs;
    listed = is.listed;
    of_top = is.of_top;
    of_sections = move_sections tick d sections is.pairs is.listed is.of_sections;
    whole = is.whole ∙ ap (λ (last : List Expression). is.listed ++ last) (same_last d);
  }

-- ---- the text of lines

same_value : (a b : PlainValue) → data_of a ≡ data_of b → value_text a ≡ value_text b
same_value (Whole a) (Whole b) same = ap (λ (n : ℕ). decimal n) cc
same_value (Whole a) (Switch b) same = cc
same_value (Whole a) (Name b) same = cc
same_value (Switch a) (Whole b) same = cc
same_value (Switch a) (Switch b) same = ap (λ (on : Bool). cond on (codes "true") (codes "false")) cc
same_value (Switch a) (Name b) same = cc
same_value (Name a) (Whole b) same = cc
same_value (Name a) (Switch b) same = cc
same_value (Name a) (Name b) same = ap (λ (name : List ℕ). codes "\"" ++ name ++ codes "\"") cc

pair_no_table : (d : Data) → ¬ (key_value d ≡ std_table)
pair_no_table d same = cc

pair_no_item : (d : Data) → ¬ (key_value d ≡ array_table)
pair_no_item d same = cc

table_no_item : ¬ (std_table ≡ array_table)
table_no_item same = cc

same_line : (a b : PlainLine) → expression_of a ≡ expression_of b → line_text a ≡ line_text b
same_line (Pair a v) (Pair b w) same =
    let key : a.now ≡ b.now = ap (λ (e : Expression). e.0.1) same in
    let kind : key_value (data_of v) ≡ key_value (data_of w) = ap (λ (e : Expression). e.1) same in
    let text : value_text v ≡ value_text w = same_value v w cc in
    λ i. key i ++ codes " = " ++ text i ++ codes "\n"
same_line (Pair a v) (Table b) same = absurd (pair_no_table (data_of v) (ap (λ (e : Expression). e.1) same))
same_line (Pair a v) (Item b) same = absurd (pair_no_item (data_of v) (ap (λ (e : Expression). e.1) same))
same_line (Table a) (Pair b w) same = absurd (pair_no_table (data_of w) (sym (ap (λ (e : Expression). e.1) same)))
same_line (Table a) (Table b) same = ap (λ (e : Expression). codes "[" ++ e.0.1 ++ codes "]\n") same
same_line (Table a) (Item b) same = absurd (table_no_item (ap (λ (e : Expression). e.1) same))
same_line (Item a) (Pair b w) same = absurd (pair_no_item (data_of w) (sym (ap (λ (e : Expression). e.1) same)))
same_line (Item a) (Table b) same = absurd (table_no_item (sym (ap (λ (e : Expression). e.1) same)))
same_line (Item a) (Item b) same = ap (λ (e : Expression). codes "[[" ++ e.0.1 ++ codes "]]\n") same

same_head : {A : Type 0} (x y : A) (xs ys : List A) → x ∷ xs ≡ y ∷ ys → x ≡ y
same_head x y xs ys same = cc

same_tail : {A : Type 0} (x y : A) (xs ys : List A) → x ∷ xs ≡ y ∷ ys → xs ≡ ys
same_tail x y xs ys same = cc

same_text : (a b : List PlainLine) → map expression_of a ≡ map expression_of b → text_of a ≡ text_of b
same_text [] [] same = refl
same_text [] (y ∷ b) same = cc
same_text (x ∷ a) [] same = cc
same_text (x ∷ a) (y ∷ b) same =
    let head = same_line x y (same_head (expression_of x) (expression_of y) (map expression_of a) (map expression_of b) same) in
    let more = same_text a b (same_tail (expression_of x) (expression_of y) (map expression_of a) (map expression_of b) same) in
    λ i. head i ++ more i

-- ---- the text of a document

parts_are : (d : Data) (tick : ℕ) → 1 ≤ tick → (g h : List WrittenGroup) → map group_of g ≡ map group_of h → (s t : Script) → SayTheSame s t → (a b : PlainParts)
    → ArePartsOf d tick g s a → ArePartsOf d tick h t b → AreSame a b
parts_are d tick some g h groups s t says a b first second = record {
  lists =
      first.entries ∙ ap (λ (starts : List ℕ). plain_of (start_in starts) s (text_words (seed_in d))) (same_starts g h groups)
      ∙ same_plain (start_in (starts_of h)) s t says (text_words (seed_in d)) ∙ sym second.entries;
  names = first.names ∙ same_names g h groups ∙ sym second.names;
  extras = same_extras tick some (items_at (codes "slow") d) a.extras.now b.extras.now first.extras second.extras;
}

alike : (sections : List Section) (d : Data) (a b : List ℕ) (first : IsTextIn sections d a) (second : IsTextIn sections d b) → second.tick ≡ first.tick → a ≡ b
alike sections d a b first second same =
    let some : 1 ≤ first.tick = some_tick d first.tick first.says.ticks in
    let groups = same_groups first.tick some (items_at (codes "group") d) first.groups second.groups first.says.named
    (subst (λ (tick : ℕ). AllZip (IsGroupIn tick) (items_at (codes "group") d) second.groups) same second.says.named) in
    let says = same_script first.tick some first.groups second.groups groups d first.script second.script first.read
    (subst (λ (tick : ℕ). IsScriptIn tick d (map group_of second.groups) second.groups second.script) same second.read) in
    let parts = parts_are d first.tick some first.groups second.groups groups first.script second.script says first.parts second.parts first.of_lists
    (subst (λ (tick : ℕ). ArePartsOf d tick second.groups second.script second.parts) same second.of_lists) in
    let lines = one_document first.tick d sections second.parts (map expression_of first.laid_in.lines) (map expression_of second.laid_in.lines) some
    (move_lines first.parts second.parts parts first.tick d sections (map expression_of first.laid_in.lines) first.laid_in.plain)
    (subst (λ (tick : ℕ). AreLinesOf tick d sections second.parts (map expression_of second.laid_in.lines)) same second.laid_in.plain) in
    first.laid_in.whole ∙ same_text first.laid_in.lines second.laid_in.lines lines ∙ sym second.laid_in.whole

pub one_text : (sections : List Section) (d : Data) (a b : List ℕ) → IsTextIn sections d a → IsTextIn sections d b → a ≡ b
one_text sections d a b first second = alike sections d a b first second (one_tick d second.tick first.tick second.says.ticks first.says.ticks)
