-- What was run: the scenario's numbers and switches, those that aren't as in the nearest preset in bold.
use Rattle.std.specs.Prelude.{ℕ, Bool, false, not, ◌&&◌, nat_lt, nat_eq, if◌then◌else◌, Option, Some, None, List, [], ◌++◌, codes, flat_map}
use Rattle.presets.specs.Presets.{word_of}
use Rattle.presets.specs.declared.preset.Preset.{Preset}
use Rattle.schema.specs.Schema.{key_rules_of, spelling_of}
use Rattle.schema.specs.declared.schema.Version.{Version}
use Rattle.schema.specs.declared.schema.Version.TheVariants.{One, Two, Three, Four}
use Rattle.schema.specs.declared.schema.KeyRule.{KeyRule}
use Rattle.schema.specs.declared.schema.FormatKey.{FormatKey}
use Rattle.schema.specs.declared.schema.Section.{Section}
use Rattle.schema.specs.declared.schema.Section.TheVariants as section
use Rattle.scenario.specs.Setup.{Setup, Group}
use Rattle.scenario.specs.declared.settings.Link.{Link}
use Rattle.scenario.specs.declared.settings.Path.{Path}
use Rattle.scenario.specs.declared.settings.Gossip.{Gossip}
use Rattle.scenario.specs.declared.settings.Serf.{Serf}
use Rattle.drawing.specs.Escaped.{escaped}
use Rattle.drawing.specs.Numbers.{grouped}
use Rattle.drawing.specs.Shapes.{figure_opening, figure_end}
use Rattle.run_settings.specs.Events.{contact_words, group_name, events}
use Rattle.run_settings.specs.Nearest.{nearest, usual, usual_switch, is_other_number, is_other_switch}
use Rattle.run_settings.specs.Values.{value_of, switch_of}

-- an entry begins; one that isn't as in the nearest preset stands out
abbrev pub chip_opening : Bool → List ℕ
chip_opening changed = if changed then codes "<li class=\"changed\">" else codes "<li>"

-- a key and its number
unfoldable pub chip : List ℕ → List ℕ → ℕ → Bool → List ℕ
chip prefix key number changed = chip_opening changed ++ prefix ++ key ++ codes " " ++ grouped number ++ codes "</li>"

-- a key and its switch
unfoldable pub switch : List ℕ → List ℕ → Bool → Bool → List ℕ
switch prefix key on changed = chip_opening changed ++ prefix ++ key ++ (if on then codes " on</li>" else codes " off</li>")

-- a key of a table beside a preset, where it has a number or is a switch
abbrev pub entry_of : Option ℕ → Option Bool → Preset → List ℕ → FormatKey → List ℕ
entry_of (Some number) on preset prefix key = chip prefix (spelling_of key) number (is_other_number number (usual preset key))
entry_of None (Some on) preset prefix key = switch prefix (spelling_of key) on (is_other_switch on (usual_switch preset key))
entry_of None None preset prefix key = []

abbrev pub key_entry : Setup → Preset → List ℕ → Section → KeyRule → List ℕ
key_entry s preset prefix section rule = entry_of (value_of s section rule.key) (switch_of s rule.key) preset prefix rule.key

-- the keys of a table
abbrev pub section_entries : Setup → Preset → List ℕ → Section → List ℕ
section_entries s preset prefix section = flat_map (key_entry s preset prefix section) (key_rules_of s.version section)

-- the keys of how members gossip, where they do
abbrev pub gossip_entries : Setup → Preset → Option Gossip → List ℕ
gossip_entries s preset (Some gossip) = section_entries s preset (codes "gossip.") section.Gossip
gossip_entries s preset None = []

-- the keys of how members leave and reconnect, where they do as Serf's
abbrev pub serf_entries : Setup → Preset → Option Serf → List ℕ
serf_entries s preset (Some serf) = section_entries s preset (codes "serf.") section.Serf
serf_entries s preset None = []

-- the keys of the tables that versions 3 and 4 add
abbrev pub third_entries : Setup → Preset → Version → List ℕ
third_entries s preset One = []
third_entries s preset Two = []
third_entries s preset Three = gossip_entries s preset s.gossip ++ section_entries s preset (codes "stream.") section.Stream
third_entries s preset Four =
    gossip_entries s preset s.gossip ++ section_entries s preset (codes "stream.") section.Stream ++ serf_entries s preset s.serf

-- when the members of a group start, where that is later than at 0
abbrev pub start_words : ℕ → List ℕ
start_words at = if nat_lt 0 at then codes ", start " ++ grouped at else []

-- when they start and whom they ask
unfoldable pub joining_words : Setup → ℕ → Option ℕ → List ℕ
joining_words s start contact = start_words start ++ contact_words s contact

-- a group: how many members it has, when they start, and whom they ask to let them join
unfoldable pub group_entry : Setup → Group → List ℕ
group_entry s g = chip_opening (nat_lt 0 g.start) ++ codes "group " ++ escaped g.name ++ codes ": count " ++ grouped g.count ++ joining_words s g.start g.contact ++ codes "</li>"

-- the link isn't the one of all pairs
abbrev pub is_other_link : Link → Link → Bool
is_other_link link usual = not (nat_eq link.delay usual.delay && (nat_eq link.jitter usual.jitter && nat_eq link.loss usual.loss))

-- the numbers of a link
unfoldable pub link_words : Link → List ℕ
link_words link = codes ": delay " ++ grouped link.delay ++ codes ", jitter " ++ grouped link.jitter ++ codes ", loss " ++ grouped link.loss ++ codes "</li>"

-- a path between two groups, and its link
unfoldable pub path_entry : Setup → Path → List ℕ
path_entry s p =
    chip_opening (is_other_link p.link s.link) ++ codes "path " ++ escaped (group_name s.groups p.from) ++ codes " to " ++ escaped (group_name s.groups p.to) ++ link_words p.link

-- the number of a version
abbrev pub version_number : Version → ℕ
version_number One = 1
version_number Two = 2
version_number Three = 3
version_number Four = 4

-- the keys that stand above all tables
unfoldable pub top_entries : Setup → List ℕ
top_entries s =
    chip (codes "") (codes "version") (version_number s.version) false ++ chip (codes "") (codes "seed") s.seed false ++ chip (codes "") (codes "end") s.end false

-- the paths, and what the scenario has happen
unfoldable pub last_entries : Setup → List ℕ
last_entries s = flat_map (path_entry s) s.paths ++ events s

-- the keys of all tables beside a preset, groups and paths, and what the scenario has happen
unfoldable pub entries : Setup → Preset → List ℕ
entries s preset =
    top_entries s ++ section_entries s preset (codes "swim.") section.Swim ++ section_entries s preset (codes "suspicion.") section.Suspicion
    ++ section_entries s preset (codes "lifeguard.") section.Lifeguard ++ section_entries s preset (codes "link.") section.Link
    ++ third_entries s preset s.version ++ flat_map (group_entry s) s.groups ++ last_entries s

-- what is in bold beside a preset, and the list of all begins
unfoldable pub bold_words : Preset → List ℕ
bold_words preset =
    codes "<p class=\"soft\">In bold: keys of tables that aren't as <code>init " ++ word_of preset ++ codes "</code> prints them, late starts, and paths with a link of their own.</p><ul class=\"keys\">"

-- the figure beside a preset
unfoldable pub settings_beside : Setup → Preset → List ℕ → List ℕ
settings_beside s preset release =
    figure_opening (codes "settings") (codes "What was run") ++ bold_words preset ++ entries s preset ++ codes "</ul><p class=\"soft\">swimsim " ++ escaped release
    ++ codes "</p>" ++ figure_end

-- the figure beside the nearest preset, and which program ran it
abbrev pub settings_text : Setup → List ℕ → List ℕ
settings_text s release = settings_beside s (nearest s) release
