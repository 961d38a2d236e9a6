-- Which keys an entry has, which it needs (rule 2), and which exclude each other (rule 9).
use Rattle.std.specs.Prelude.{ℕ, Bool, not, ◌&&◌, ◌||◌, if◌then◌else◌, List, codes, is_some}
use Rattle.toml.specs.Data.{Data, get}
use Rattle.written_entries.specs.declared.keys.EntryKeys.{EntryKeys}
use Rattle.written_entries.specs.declared.keys.ScriptList.{ScriptList}
use Rattle.written_entries.specs.declared.keys.ScriptList.TheVariants.{Crash, Leave, Restart, Slow, Pause, Block}

abbrev pub has_key : List ℕ → Data → Bool
has_key key d = is_some (get key d)

-- the keys of an item
abbrev pub keys_in : Data → EntryKeys
keys_in d = record {
  member = has_key (codes "member") d;
  members = has_key (codes "members") d;
  group = has_key (codes "group") d;
  count = has_key (codes "count") d;
  at = has_key (codes "at") d;
  each = has_key (codes "each") d;
  back = has_key (codes "back") d;
  contact = has_key (codes "contact") d;
  from = has_key (codes "from") d;
  until = has_key (codes "until") d;
  every = has_key (codes "every") d;
  lasts = has_key (codes "lasts") d;
  lasts_most = has_key (codes "lasts_most") d;
  extra = has_key (codes "extra") d;
}

-- ---- rule 2

-- nobody is named
abbrev pub lacks_who : EntryKeys → Bool
lacks_who has = not has.member && not has.members && not has.group

-- a crash or leave has one moment, or times with all that they need
abbrev pub lacks_departure : EntryKeys → Bool
lacks_departure has = if has.every then not (has.from && has.until && has.back) else not has.at

-- a slow time, pause or block has a beginning and an end; and a length where it comes again and again
abbrev pub lacks_spell : EntryKeys → Bool
lacks_spell has = not (has.from && has.until) || (has.every && not has.lasts)

abbrev pub lacks_when : ScriptList → EntryKeys → Bool
lacks_when Crash has = lacks_departure has
lacks_when Leave has = lacks_departure has
lacks_when Restart has = not has.at
lacks_when Slow has = lacks_spell has || not has.extra
lacks_when Pause has = lacks_spell has
lacks_when Block has = lacks_spell has

-- an entry of the list lacks a key
abbrev pub lacks_key : ScriptList → EntryKeys → Bool
lacks_key list has = lacks_who has || lacks_when list has

-- ---- rule 9

-- members are named in more than one of the three ways
abbrev pub is_of_many : EntryKeys → Bool
is_of_many has = (has.member && has.members) || ((has.member && has.group) || (has.members && has.group))

-- in two ways, or so many of no group
abbrev pub excludes_in_who : EntryKeys → Bool
excludes_in_who has = is_of_many has || (has.count && not has.group)

-- `each` beside `every`, or with one member
abbrev pub excludes_each : EntryKeys → Bool
excludes_each has = has.each && (has.every || has.member)

-- `at` beside `every`, `from` or `until`; and `from` or `until` without `every`
abbrev pub excludes_times : EntryKeys → Bool
excludes_times has = if has.every then has.at else (has.from || has.until)

abbrev pub excludes_in_departure : EntryKeys → Bool
excludes_in_departure has = excludes_each has || (excludes_times has || (has.contact && not has.back))

abbrev pub excludes_in_when : ScriptList → EntryKeys → Bool
excludes_in_when Crash has = excludes_in_departure has
excludes_in_when Leave has = excludes_in_departure has
excludes_in_when Restart has = has.each && has.member
excludes_in_when Slow has = not has.every && (has.lasts || has.lasts_most)
excludes_in_when Pause has = not has.every && (has.lasts || has.lasts_most)
excludes_in_when Block has = not has.every && (has.lasts || has.lasts_most)

-- an entry of the list has keys that exclude each other
abbrev pub excludes : ScriptList → EntryKeys → Bool
excludes list has = excludes_in_who has || excludes_in_when list has
