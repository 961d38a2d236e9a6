-- The text of some lines is read as the document that they define.
use Rattle.std.proofs.Common.{◌≡◌, ◌<◌, ℕ, suc, ◌-◌, true, false, ◌==◌, List, [], ◌∷◌, map, length, Option, Some, None, option_map, option_and_then, refl, ap, sym, ◌∙◌, arith, append_assoc, pos}
use Rattle.std.specs.Prelude.{All}
use Rattle.std.specs.List.{AllByRecursion}
use Rattle.std.specs.Int.{w64}
use Rattle.std.proofs.lemmas.Int.{fits_signed_from_abs}
use Rattle.std.proofs.lemmas.Bool.Decides.{nat_tests}
use Rattle.std.proofs.lemmas.List.Elements.{recursion_from_All}
use Rattle.toml_parser.specs.Lexical.{first, skip_blank}
use Rattle.toml_parser.proofs.LexicalLemmas.{skip_from-nil}
use Rattle.toml.specs.Tables.{Document, Expression, no_nodes, close, define}
use Rattle.toml.specs.Parse.{lines, line, parse_document, skip_bom}
use Rattle.toml.specs.Text.{IsLineText, IsValueText}
use Rattle.toml.proofs.Turns.{lines_end, lines_more, lines_refused, document_some, document_none}
use Rattle.toml.proofs.Blanks.{skip_newline, skip_within}
use Rattle.toml.proofs.ReadLines.{IsPrinted, line_turn}
use Rattle.plain_text.specs.declared.line.PlainLine.{PlainLine}
use Rattle.plain_text.specs.declared.line.PlainLine.TheVariants.{Pair, Table, Item}
use Rattle.plain_text.specs.declared.line.PlainValue.{PlainValue}
use Rattle.plain_text.specs.declared.line.PlainValue.TheVariants.{Whole, Switch, Name}
use Rattle.plain_text.specs.Lines.{line_text, text_of, value_text}
use Rattle.plain_text.specs.Document.{data_of, defined, document_of, expression_of, IsPlainLine, IsPlainValue}
use Rattle.plain_text.proofs.Names.{bare_key, bare_string}

-- ---- one line

value_is : (v : PlainValue) → IsPlainValue v → IsValueText false (data_of v) (value_text v)
value_is (Whole number) low = (refl, fits_signed_from_abs w64 (pos number) low)
value_is (Switch true) plain = refl
value_is (Switch false) plain = refl
value_is (Name name) plain = sym (bare_string name.now plain)

line_is : (l : PlainLine) → IsPlainLine l → IsLineText false false (expression_of l).0 (expression_of l).1 (line_text l)
line_is (Pair key value) plain = (value_text value, rw (bare_key key.now plain.0) (simp append_assoc refl), value_is value plain.1)
line_is (Table name) plain = rw (bare_key name.now plain) (simp append_assoc refl)
line_is (Item name) plain = rw (bare_key name.now plain) (simp append_assoc refl)

is_printed : (l : PlainLine) → IsPrinted (expression_of l).0 (expression_of l).1
is_printed (Pair key (Whole number)) = (refl, omega arith, refl)
is_printed (Pair key (Switch on)) = (refl, omega arith, refl)
is_printed (Pair key (Name name)) = (refl, omega arith, refl)
is_printed (Table name) = omega arith
is_printed (Item name) = omega arith

-- ---- all lines

read_step : (m : ℕ) (doc : Document) (x : List ℕ) (e : Expression) (after : List ℕ) (ls : List Expression) (found : Option Document) → found ≡ define doc e → 0 < m → (length (skip_blank x) == 0) ≡ false
    → line (skip_blank x) ≡ Some (e, after) → ((next : Document) → lines (m - 1) next after ≡ defined next ls) → lines m doc x ≡ option_and_then (λ n. defined n ls) found
read_step m doc x e after ls None same some other read more = lines_refused m doc x e after some other read (sym same)
read_step m doc x e after ls (Some next) same some other read more = lines_more m doc next x e after some other read (sym same) ∙ more next

read_lines : (ls : List PlainLine) (x : List ℕ) (doc : Document) (m : ℕ) → AllByRecursion IsPlainLine ls → skip_blank x ≡ skip_blank (text_of ls) → length x < m → lines m doc x ≡ defined doc (map expression_of ls)
read_lines [] x doc m plain skip room = lines_end m doc x (omega arith) (rw (skip, skip_from-nil true false) refl)
read_lines (l ∷ ls) x doc m plain skip room =
    let e = expression_of l in
    let rest = text_of ls in
    let (s, at_start, read, some, shorter, not_bom) = line_turn false false e.0 e.1 (line_text l) rest (line_is l plain.0) (is_printed l) in
    let same : skip_blank x ≡ s = skip ∙ at_start in
    let other : (length (skip_blank x) == 0) ≡ false = rw same (grind (arith, nat_tests)) in
    let within = skip_within x in
    read_step m doc x e (10 ∷ rest) (map expression_of ls) (define doc e) refl (omega arith) other (rw same read)
    (λ next. read_lines ls (10 ∷ rest) next (m - 1) plain.1 (skip_newline rest) (omega (arith, ap length same)))

-- ---- the whole text

no_mark : (ls : List PlainLine) → AllByRecursion IsPlainLine ls → (first (text_of ls) == 239) ≡ false
no_mark [] plain = refl
no_mark (l ∷ ls) plain =
    let e = expression_of l in
    let turn = line_turn false false e.0 e.1 (line_text l) (text_of ls) (line_is l plain.0) (is_printed l) in
    turn.5

no_skip : (text : List ℕ) → (first text == 239) ≡ false → skip_bom text ≡ text
unfolding skip_bom
no_skip text h = rw h

whole : (text : List ℕ) (found : Option Document) → lines (suc (length text)) (no_nodes, []) (skip_bom text) ≡ found → parse_document text ≡ option_map (λ doc. close doc.0) found
whole text None none = document_none text none
whole text (Some doc) some = document_some text doc some

pub reads_as : (ls : List PlainLine) → All IsPlainLine ls → parse_document (text_of ls) ≡ document_of (map expression_of ls)
reads_as ls all =
    let plain = recursion_from_All IsPlainLine ls all in
    let skipped = no_skip (text_of ls) (no_mark ls plain) in
    whole (text_of ls) (defined (no_nodes, []) (map expression_of ls)) (rw skipped (read_lines ls (text_of ls) (no_nodes, []) (suc (length (text_of ls))) plain refl (omega arith)))
