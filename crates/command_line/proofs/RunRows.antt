-- The command that the words met, by its name and its rows.
use Rattle.std.proofs.Common.{◌≡◌, ◌∙◌, ℕ, List, [], get_or, arith, Option, Some, None, IfSome, IsNone, Bor, option_map, sym, ap, ap₂, codes}
use Rattle.std.proofs.lemmas.Option.{none-some, same_Some}
use Rattle.std.specs.Box.{box_value}
use Rattle.clap.specs.Words.{Row, Text, first_of, found_of, rows_of, subcommand_name_of, subcommand_rows_of}
use Rattle.presets.specs.Presets.{word_of}
use Rattle.presets.specs.declared.preset.Preset.{Preset}
use Rattle.command_line.specs.Words.{IsCheckIn, IsInitIn, IsJoinIn, IsPageIn, IsSplitIn, IsSweepIn, Meets, NamesNoPreset}
use Rattle.command_line.specs.declared.joining.JoinWords.{JoinWords}
use Rattle.command_line.specs.declared.paging.PageWords.{PageWords}
use Rattle.command_line.specs.declared.words.SweepWords.{SweepWords}
use Rattle.command_line.specs.declared.words.Split.{Split}
use Rattle.command_line.specs.declared.words.Split.TheVariants as split
use Rattle.clap.specs.declared.parser.matches.ArgMatches.{ArgMatches}
use Rattle.clap.specs.declared.parser.matches.ArgMatches.TheViews.{out-ArgMatches, out-SubCommand}

abbrev pair_of : {X : Type 0} → (X → Text) → (X → List Row) → X → Text × List Row
pair_of f g x = (f x, g x)

abbrev rows_part : Text × List Row → List Row
rows_part p = p.1

-- both parts of a pair in a `Some`
both : {X : Type 0} (f : X → Text) (g : X → List Row) (o : Option X) (name : Text) (rows : List Row)
    → option_map f o ≡ Some name → option_map rows_part (option_map (pair_of f g) o) ≡ Some rows
    → option_map (pair_of f g) o ≡ Some (name, rows)
both f g None name rows n r = absurd (none-some name n)
both f g (Some x) name rows n r =
    let pair : Text → List Row → Option (Text × List Row) = λ m s. Some (m, s) in
    ap₂ pair (same_Some (f x) name n) (same_Some (g x) rows r)

pub met_rows : (m : ArgMatches) (name : Text) (rows : List Row) → subcommand_name_of m ≡ Some name
    → option_map (λ (p : Text × List Row). p.1) (subcommand_rows_of m) ≡ Some rows → subcommand_rows_of m ≡ Some (name, rows)
met_rows m name rows n r = both (λ b. (out-SubCommand (box_value b)).name.now)
    (λ b. rows_of (found_of (out-SubCommand (box_value b)).matches)) (out-ArgMatches m).subcommand name rows n r

-- the command that was met has one list of rows
pub same_rows : (met : Option (Text × List Row)) (name : Text) (rows given : List Row)
    → option_map (λ (p : Text × List Row). p.1) met ≡ Some rows → met ≡ Some (name, given) → given ≡ rows
same_rows met name rows given r e = same_Some given rows (sym (ap (option_map rows_part) e) ∙ r)

-- what the value of FILE says of the check that is asked for
pub check_some : (o : Option (Bor Text)) (met : Option (Text × List Row)) (rows : List Row)
    → option_map (λ (word : Bor Text). word.now) o ≡ first_of (codes "FILE") rows → met ≡ Some (codes "check", rows)
    → IfSome o (λ file. IsCheckIn met file.now)
check_some None met rows value e = tt
check_some (Some file) met rows value e = record { rows = rows; met_check = e; named = sym value }

pub check_none : (o : Option (Bor Text)) (met : Option (Text × List Row)) (rows : List Row)
    → option_map (λ (word : Bor Text). word.now) o ≡ first_of (codes "FILE") rows → option_map (λ (p : Text × List Row). p.1) met ≡ Some rows
    → IsNone o → (file : Text) → IsCheckIn met file → ⊥
check_none None met rows value r none file h =
    let same = same_rows met (codes "check") rows h.rows r h.met_check in
    none-some file (value ∙ (ap (first_of (codes "FILE")) (sym same) ∙ h.named))
check_none (Some word) met rows value r none file h = cc

-- both ways to divide the members exclude each other
pub not_both : (rows : List Row) (parts list : Text) → first_of (codes "parts") rows ≡ Some parts → first_of (codes "division") rows ≡ Some list
    → (split : Split) → IsSplitIn rows split → ⊥
not_both rows parts list p l split.Workers h = none-some parts (sym h.0 ∙ p)
not_both rows parts list p l (split.Parts word) h = none-some list (sym h.1 ∙ l)
not_both rows parts list p l (split.List word) h = none-some parts (sym h.0 ∙ p)

-- ---- words that meet one command ask for no other

abbrev name_first : Option (Text × List Row) → ℕ
name_first None = 0
name_first (Some met) = get_or met.0 0 0

-- two names that begin otherwise aren't those of one command
apart : (met : Option (Text × List Row)) (name other : Text) (rows given : List Row) → met ≡ Some (name, rows) → met ≡ Some (other, given)
    → get_or name 0 0 ≡ get_or other 0 0
apart met name other rows given is was = ap name_first (sym is ∙ was)

abbrev pub rows_met : Option (Text × List Row) → List Row
rows_met None = []
rows_met (Some met) = met.1

-- words that name no preset ask for no sweep, and for no preset's scenario
pub no_preset_no_sweep : (met : Option (Text × List Row)) → NamesNoPreset met → (sweep : SweepWords) → IsSweepIn met sweep → ⊥
no_preset_no_sweep met names sweep h =
    let letter = apart met (codes "init") (codes "sweep") names.rows h.rows names.met_init h.met_sweep in
    omega (arith, letter)

pub no_preset_no_init : (met : Option (Text × List Row)) → NamesNoPreset met → (preset : Preset) → IsInitIn met preset → ⊥
no_preset_no_init met names preset h =
    let same : h.rows ≡ names.rows = ap rows_met (sym h.met_init ∙ names.met_init) in
    names.unknown preset (same_Some (word_of preset) names.word (sym h.named ∙ (ap (first_of (codes "PRESET")) same ∙ names.given)))

-- nor for shards to be joined, nor for a page of them
pub no_preset_no_join : (met : Option (Text × List Row)) → NamesNoPreset met → (join : JoinWords) → IsJoinIn met join → ⊥
no_preset_no_join met names join h =
    let letter = apart met (codes "init") (codes "join") names.rows h.rows names.met_init h.met_join in
    omega (arith, letter)

pub no_preset_no_page : (met : Option (Text × List Row)) → NamesNoPreset met → (page : PageWords) → IsPageIn met page → ⊥
no_preset_no_page met names page h =
    let letter = apart met (codes "init") (codes "page") names.rows h.rows names.met_init h.met_page in
    omega (arith, letter)

-- words that meet `join` ask for no page, and for no sweep
pub no_join_no_page : (met : Option (Text × List Row)) → Meets (codes "join") met → (page : PageWords) → IsPageIn met page → ⊥
no_join_no_page met meets page h =
    let letter = apart met (codes "join") (codes "page") meets.0 h.rows meets.1 h.met_page in
    omega (arith, letter)

pub no_join_no_sweep : (met : Option (Text × List Row)) → Meets (codes "join") met → (sweep : SweepWords) → IsSweepIn met sweep → ⊥
no_join_no_sweep met meets sweep h =
    let letter = apart met (codes "join") (codes "sweep") meets.0 h.rows meets.1 h.met_sweep in
    omega (arith, letter)
