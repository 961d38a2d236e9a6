-- What of the script happens up to the end, as JSON.
use Rattle.std.specs.Prelude.{ℕ, nat_le, if◌then◌else◌, List, [], ◌∷◌, codes, flat_map}
use Rattle.std.specs.List.{range_with_len}
use Rattle.scenario.specs.Setup.{Setup, member_count, name_of, script_of}
use Rattle.scenario.specs.declared.settings.Slow.{Slow}
use Rattle.scenario.specs.declared.settings.Leave.{Leave}
use Rattle.scenario.specs.declared.settings.Cut.{Cut}
use Rattle.scenario.specs.declared.settings.Pause.{Pause}
use Rattle.scenario.specs.declared.settings.Restart.{Restart}
use Rattle.scenario.specs.declared.script.ScriptKind.{ScriptKind}
use Rattle.scenario.specs.declared.script.ScriptKind.TheVariants as kind
use Rattle.scenario.specs.declared.script.ScriptEvent.{ScriptEvent}
use Rattle.scenario.specs.Profile.{profile_of}
use Rattle.base.specs.declared.profile.Profile.{Profile}
use Rattle.base.specs.declared.profile.Profile.TheVariants.{Papers, Memberlist, Hashicorp}
use Rattle.serde_json.specs.Data.{Data, string, object, put, no_members}
use Rattle.meaning.specs.Groups.{group_name}
use Rattle.meaning_json.specs.Figures.{whole, list_of, contact_data}

-- who goes when
unfoldable pub departure_data : Setup → ℕ → ℕ → Data
departure_data s m at = object (put (codes "at") (whole at) (put (codes "member") (string (name_of s m)) no_members))

-- who goes by the end
abbrev pub departure_item : Setup → ℕ → ℕ → List Data
departure_item s m at = if nat_le at s.end then departure_data s m at ∷ [] else []

-- the same, where what happens is a crash
abbrev pub crash_by : ScriptKind → Setup → ℕ → ℕ → List Data
crash_by kind.Crash s m at = departure_item s m at
crash_by kind.Leave s m at = []
crash_by (kind.Restart contact) s m at = []

abbrev pub crash_item : Setup → ScriptEvent → List Data
crash_item s e = crash_by e.kind s e.member e.at

-- the crashes of a member, in the order of moments
abbrev pub crash_items : Setup → ℕ → List Data
crash_items s m = flat_map (crash_item s) (script_of s m)

abbrev pub crashes_data : Setup → Data
crashes_data s = list_of (flat_map (crash_items s) (range_with_len 0 (member_count s)))

abbrev pub leave_item : Setup → Leave → List Data
leave_item s l = departure_item s l.member l.at

abbrev pub leaves_data : Setup → Data
leaves_data s = list_of (flat_map (leave_item s) s.leaves)

-- who starts again when, and whom it asks to let it join
unfoldable pub restart_data : Setup → Restart → Data
restart_data s r =
    object (put (codes "contact") (contact_data s r.contact) (put (codes "at") (whole r.at) (put (codes "member") (string (name_of s r.member)) no_members)))

-- who starts again by the end
abbrev pub restart_item : Setup → Restart → List Data
restart_item s r = if nat_le r.at s.end then restart_data s r ∷ [] else []

abbrev pub restarts_data : Setup → Data
restarts_data s = list_of (flat_map (restart_item s) s.restarts)

-- who is slow when, and by how much
unfoldable pub slow_data : Setup → Slow → Data
slow_data s e =
    object (put (codes "extra") (whole e.extra) (put (codes "until") (whole e.until) (put (codes "from") (whole e.from) (put (codes "member") (string (name_of s e.member)) no_members))))

abbrev pub slow_item : Setup → Slow → List Data
slow_item s e = if nat_le e.from s.end then slow_data s e ∷ [] else []

abbrev pub slows_data : Setup → Data
slows_data s = list_of (flat_map (slow_item s) s.slows)

-- between which groups the link is cut, and when
unfoldable pub cut_data : Setup → Cut → Data
cut_data s c =
    object (put (codes "until") (whole c.until) (put (codes "at") (whole c.at) (put (codes "to") (string (group_name s c.to)) (put (codes "from") (string (group_name s c.from)) no_members))))

abbrev pub cut_item : Setup → Cut → List Data
cut_item s c = if nat_le c.at s.end then cut_data s c ∷ [] else []

abbrev pub cuts_data : Setup → Data
cuts_data s = list_of (flat_map (cut_item s) s.cuts)

-- who is paused, or blocked, when
unfoldable pub pause_data : Setup → Pause → Data
pause_data s p = object (put (codes "until") (whole p.until) (put (codes "from") (whole p.from) (put (codes "member") (string (name_of s p.member)) no_members)))

abbrev pub pause_item : Setup → Pause → List Data
pause_item s p = if nat_le p.from s.end then pause_data s p ∷ [] else []

abbrev pub pauses_data : Setup → Data
pauses_data s = list_of (flat_map (pause_item s) s.pauses)

abbrev pub blocks_data : Setup → Data
blocks_data s = list_of (flat_map (pause_item s) s.blocks)

-- crashes, leaves, slow times and cuts
unfoldable pub script_with : Data → Data → Data → Data → Data
script_with crashes leaves slows cuts =
    object (put (codes "cuts") cuts (put (codes "slows") slows (put (codes "leaves") leaves (put (codes "crashes") crashes no_members))))

-- the same, and pauses
unfoldable pub paused_with : Data → Data → Data → Data → Data → Data
paused_with crashes leaves slows cuts pauses =
    object (put (codes "pauses") pauses (put (codes "cuts") cuts (put (codes "slows") slows (put (codes "leaves") leaves (put (codes "crashes") crashes no_members)))))

-- the same, restarts and blocks
unfoldable pub restarted_with : Data → Data → Data → Data → Data → Data → Data → Data
restarted_with crashes leaves restarts slows cuts pauses blocks =
    object (put (codes "blocks") blocks (put (codes "pauses") pauses (put (codes "cuts") cuts (put (codes "slows") slows
    (put (codes "restarts") restarts (put (codes "leaves") leaves (put (codes "crashes") crashes no_members)))))))

-- pauses, restarts and blocks are listed where there may be some
abbrev pub script_by : Profile → Setup → Data
script_by Papers s = script_with (crashes_data s) (leaves_data s) (slows_data s) (cuts_data s)
script_by Memberlist s = paused_with (crashes_data s) (leaves_data s) (slows_data s) (cuts_data s) (pauses_data s)
script_by Hashicorp s =
    restarted_with (crashes_data s) (leaves_data s) (restarts_data s) (slows_data s) (cuts_data s) (pauses_data s) (blocks_data s)

abbrev pub script_data : Setup → Data
script_data s = script_by (profile_of s) s
