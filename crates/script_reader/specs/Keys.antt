-- The names of the six lists, and which keys an entry of each may have.
use Rattle.std.specs.Prelude.{ℕ, Bool, ◌||◌, List, codes, bytes_eq}
use Rattle.written_entries.specs.declared.keys.ScriptList.{ScriptList}
use Rattle.written_entries.specs.declared.keys.ScriptList.TheVariants.{Crash, Leave, Restart, Slow, Pause, Block}

abbrev pub list_name : ScriptList → List ℕ
list_name Crash = codes "crash"
list_name Leave = codes "leave"
list_name Restart = codes "restart"
list_name Slow = codes "slow"
list_name Pause = codes "pause"
list_name Block = codes "block"

-- whom an entry is about, and its name
abbrev pub is_who_key : List ℕ → Bool
is_who_key key =
    bytes_eq key (codes "member")
    || (bytes_eq key (codes "members") || (bytes_eq key (codes "group") || (bytes_eq key (codes "count") || bytes_eq key (codes "name"))))

abbrev pub is_restart_key : List ℕ → Bool
is_restart_key key = is_who_key key || (bytes_eq key (codes "at") || (bytes_eq key (codes "each") || bytes_eq key (codes "contact")))

abbrev pub is_departure_key : List ℕ → Bool
is_departure_key key =
    is_restart_key key
    || (bytes_eq key (codes "back") || (bytes_eq key (codes "from") || (bytes_eq key (codes "until") || bytes_eq key (codes "every"))))

abbrev pub is_spell_key : List ℕ → Bool
is_spell_key key =
    is_who_key key
    || (bytes_eq key (codes "from")
    || (bytes_eq key (codes "until")
    || (bytes_eq key (codes "every") || (bytes_eq key (codes "lasts") || bytes_eq key (codes "lasts_most")))))

abbrev pub is_key : ScriptList → List ℕ → Bool
is_key Crash key = is_departure_key key
is_key Leave key = is_departure_key key
is_key Restart key = is_restart_key key
is_key Slow key = is_spell_key key || bytes_eq key (codes "extra")
is_key Pause key = is_spell_key key
is_key Block key = is_spell_key key
