-- The text of rows, line by line.
use Rattle.std.proofs.Common.{◌≡◌, ℕ, true, ◌&&◌, List, [], ◌∷◌, ◌++◌, filter, flat_map, map, Option, Some, None, refl, sym, ap, ap₂, subst, ◌∙◌}
use Rattle.std.specs.Option.{option_map, option_map_or}
use Rattle.std.specs.List.{filter_map, cons_option, list_all}
use Rattle.std.proofs.lemmas.Bool.{and_parts}
use Rattle.std.proofs.lemmas.List.{append-nil, map-append}
use Rattle.std.proofs.lemmas.List.Elements.{filter-append}
use Rattle.std.proofs.lemmas.List.Folds.{list_all-append}
use Rattle.std.proofs.lemmas.Grind.{flat_map-append}
use Rattle.presets.specs.declared.preset.Preset.{Preset}
use Rattle.presets.specs.declared.preset.Preset.TheVariants.{Local, Lan, Wan, Serf, SerfWan, Consul, ConsulWan, Swim}
use Rattle.presets.specs.declared.rows.Row.{Row}
use Rattle.presets.specs.Rows.{row_text, setting_in, words_of, line_in, AreRows}
use Rattle.presets.specs.Texts.{Line, line_text, is_on_line, is_there, no_settings, TellsSettings}

abbrev told : Line → List ℕ
told l = line_text l.setting l.words

abbrev line_of : List ℕ → List ℕ → Line
line_of words setting = record { setting = setting; words = words }

one_told : (setting : Option (List ℕ)) (words more : List ℕ) (lines : List Line) → more ≡ flat_map told lines
    → option_map_or (λ s. line_text s words) setting [] ++ more ≡ flat_map told (cons_option (option_map (line_of words) setting) lines)
one_told None words more lines is = is
one_told (Some s) words more lines is = ap (λ l. line_text s words ++ l) is

all_told : (preset : Preset) (rows : List Row) → flat_map (row_text preset) rows ≡ flat_map told (filter_map (line_in preset) rows)
all_told preset [] = refl
all_told preset (row ∷ rows) = one_told (setting_in preset row) (words_of row) (flat_map (row_text preset) rows) (filter_map (line_in preset) rows) (all_told preset rows)

one_on_line : (setting : Option (List ℕ)) (words : List ℕ) (lines : List Line) → is_on_line words ≡ true → list_all (λ l. is_on_line l.words) lines ≡ true
    → list_all (λ l. is_on_line l.words) (cons_option (option_map (line_of words) setting) lines) ≡ true
one_on_line None words lines here rest = rest
one_on_line (Some s) words lines here rest = ap (λ b. b && list_all (λ l. is_on_line l.words) lines) here ∙ rest

all_on_line : (preset : Preset) (rows : List Row) → list_all (λ row. is_on_line (words_of row)) rows ≡ true → list_all (λ l. is_on_line l.words) (filter_map (line_in preset) rows) ≡ true
all_on_line preset [] h = refl
all_on_line preset (row ∷ rows) h =
    let parts = and_parts (is_on_line (words_of row)) (list_all (λ r. is_on_line (words_of r)) rows) h in
    one_on_line (setting_in preset row) (words_of row) (filter_map (line_in preset) rows) parts.0 (all_on_line preset rows parts.1)

-- the lines of rows state their settings
told_rows : (preset : Preset) (of : Preset → List (List ℕ)) (rows : List Row) → AreRows of rows → TellsSettings (of preset) (flat_map (row_text preset) rows)
told_rows preset of rows are =
    record {
      lines = filter_map (line_in preset) rows;
      on_line = all_on_line preset rows are.on_line;
      same = are.settings preset;
      written = all_told preset rows;
    }

-- one text after another states the settings of both
told_both : (some more : List (List ℕ)) (a b : List ℕ) → TellsSettings some a → TellsSettings more b → TellsSettings (some ++ more) (a ++ b)
told_both some more a b first second =
    record {
      lines = first.lines ++ second.lines;
      on_line = list_all-append (λ l. is_on_line l.words) first.lines second.lines
          ∙ ap₂ ◌&&◌ first.on_line second.on_line;
      same = ap (filter is_there) (map-append (λ l. l.setting) first.lines second.lines)
          ∙ filter-append is_there (map (λ l. l.setting) first.lines) (map (λ l. l.setting) second.lines)
          ∙ ap₂ ◌++◌ first.same second.same;
      written = ap₂ ◌++◌ first.written second.written ∙ sym (flat_map-append told first.lines second.lines);
    }

-- further rows state further settings
pub tells_more : (preset : Preset) (of : Preset → List (List ℕ)) (rows : List Row) (some : List (List ℕ)) (before text : List ℕ)
    → text ≡ before ++ flat_map (row_text preset) rows → AreRows of rows → TellsSettings some before → TellsSettings (some ++ of preset) text
tells_more preset of rows some before text is are so_far =
    subst (TellsSettings (some ++ of preset)) (sym is)
    (told_both some (of preset) before (flat_map (row_text preset) rows) so_far (told_rows preset of rows are))

-- further comments state no further settings
pub tells_comments : (preset : Preset) (rows : List Row) (some : List (List ℕ)) (before text : List ℕ)
    → text ≡ before ++ flat_map (row_text preset) rows → AreRows no_settings rows → TellsSettings some before → TellsSettings some text
tells_comments preset rows some before text is are so_far =
    subst (λ settings. TellsSettings settings text) (append-nil some) (tells_more preset no_settings rows some before text is are so_far)

-- the text that is empty states none
pub tells_none : (text : List ℕ) → text ≡ [] → TellsSettings [] text
tells_none text is = record { lines = []; on_line = refl; same = refl; written = is }

-- what holds of each preset
pub each_preset : (P : Preset → Type 0) → P Local → P Lan → P Wan → P Serf → P SerfWan → P Consul → P ConsulWan → P Swim → (preset : Preset) → P preset
each_preset P local lan wan serf serf_wan consul consul_wan swim Local = local
each_preset P local lan wan serf serf_wan consul consul_wan swim Lan = lan
each_preset P local lan wan serf serf_wan consul consul_wan swim Wan = wan
each_preset P local lan wan serf serf_wan consul consul_wan swim Serf = serf
each_preset P local lan wan serf serf_wan consul consul_wan swim SerfWan = serf_wan
each_preset P local lan wan serf serf_wan consul consul_wan swim Consul = consul
each_preset P local lan wan serf serf_wan consul consul_wan swim ConsulWan = consul_wan
each_preset P local lan wan serf serf_wan consul consul_wan swim Swim = swim
