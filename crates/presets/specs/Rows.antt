-- What the rows of the table stand for.
use Rattle.std.specs.Prelude.{◌≡◌, ℕ, Bool, true, false, Option, Some, None, List, [], ◌++◌, filter, map, if◌then◌else◌}
use Rattle.std.specs.Option.{option_map, option_map_or}
use Rattle.std.specs.List.{filter_map, list_all}
use Rattle.presets.specs.declared.preset.Preset.{Preset}
use Rattle.presets.specs.declared.preset.Preset.TheVariants.{Local, Lan, Wan, Serf, SerfWan, Consul, ConsulWan, Swim}
use Rattle.presets.specs.declared.rows.Row.{Row}
use Rattle.presets.specs.declared.rows.Values.{Values}
use Rattle.presets.specs.declared.rows.Owners.{Owners}
use Rattle.presets.specs.declared.rows.Row.TheVariants.{Same, Newer, Serf as SerfRow, Each, Owner}
use Rattle.presets.specs.Texts.{Line, line_text, is_on_line, is_there}

-- a key's value, by where members are
abbrev pub value_in : Preset → Values → Option (List ℕ)
value_in Local values = Some values.local.now
value_in Lan values = Some values.lan.now
value_in Wan values = Some values.wan.now
value_in Serf values = Some values.lan.now
value_in SerfWan values = Some values.wan.now
value_in Consul values = Some values.lan.now
value_in ConsulWan values = Some values.wan.now
value_in Swim values = option_map (λ value. value.now) values.swim

-- a key's value, by whose program members run
abbrev pub owners_value : Preset → Owners → Option (List ℕ)
owners_value Local owners = option_map (λ value. value.now) owners.memberlist
owners_value Lan owners = option_map (λ value. value.now) owners.memberlist
owners_value Wan owners = option_map (λ value. value.now) owners.memberlist
owners_value Serf owners = Some owners.serf.now
owners_value SerfWan owners = Some owners.serf.now
owners_value Consul owners = Some owners.consul.now
owners_value ConsulWan owners = Some owners.consul_wan.now
owners_value Swim owners = None

-- whether a preset has Serf's rules
abbrev pub is_serf : Preset → Bool
is_serf Local = false
is_serf Lan = false
is_serf Wan = false
is_serf Serf = true
is_serf SerfWan = true
is_serf Consul = true
is_serf ConsulWan = true
is_serf Swim = false

-- whether a preset has version 4's keys
abbrev pub is_newer : Preset → Bool
is_newer Local = true
is_newer Lan = true
is_newer Wan = true
is_newer Serf = true
is_newer SerfWan = true
is_newer Consul = true
is_newer ConsulWan = true
is_newer Swim = false

-- what a row sets in a preset, where it stands in it
abbrev pub setting_in : Preset → Row → Option (List ℕ)
setting_in preset (Same text words) = Some text.now
setting_in preset (Newer text words) = if is_newer preset then Some text.now else None
setting_in preset (SerfRow text words) = if is_serf preset then Some text.now else None
setting_in preset (Each head values words) = option_map (λ value. head.now ++ value) (value_in preset values)
setting_in preset (Owner head owners words) = option_map (λ value. head.now ++ value) (owners_value preset owners)

abbrev pub words_of : Row → List ℕ
words_of (Same text words) = words.now
words_of (Newer text words) = words.now
words_of (SerfRow text words) = words.now
words_of (Each head values words) = words.now
words_of (Owner head owners words) = words.now

-- what a row adds to a preset's text
abbrev pub row_text : Preset → Row → List ℕ
row_text preset row = option_map_or (λ setting. line_text setting (words_of row)) (setting_in preset row) []

-- the line of a row in a preset
abbrev pub line_in : Preset → Row → Option Line
line_in preset row = option_map (λ setting. record { setting = setting; words = words_of row }) (setting_in preset row)

-- the rows set in each preset what is named here, and their words stand on one line
pub record AreRows (settings_of : Preset → List (List ℕ)) (rows : List Row) : Type 0 where
  pub settings : (preset : Preset) → filter is_there (map (λ l. l.setting) (filter_map (line_in preset) rows)) ≡ settings_of preset
  pub on_line : list_all (λ row. is_on_line (words_of row)) rows ≡ true
