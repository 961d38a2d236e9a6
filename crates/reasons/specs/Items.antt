-- What users read of the key of an item that means no item of the scenario, or more than one.
use Rattle.std.specs.Prelude.{ℕ, List, ◌++◌, codes, string_bytes}
use Rattle.std.specs.Fmt.{decimal}
use Rattle.shown_names.specs.Shown.{shown_name}
use Rattle.reasons.specs.declared.items.ItemReason.{ItemReason}
use Rattle.reasons.specs.declared.items.ItemReason.TheVariants.{Absent, Many, PastLast}

-- no item has the name in a key
abbrev pub absent_text : List ℕ → List ℕ
absent_text key = codes "no item of the scenario has the name in " ++ shown_name key

-- what to write
abbrev pub write_text : List ℕ → List ℕ
write_text key = codes "; write " ++ shown_name key

-- so many have a name
abbrev pub count_text : ℕ → List ℕ
count_text count = codes " is ambiguous: there are " ++ decimal count

abbrev pub many_text : List ℕ → ℕ → List ℕ
many_text name count = shown_name name ++ count_text count

-- the name has a number behind that is none of those that items of the name before it have
abbrev pub past_text : List ℕ → List ℕ → List ℕ
past_text name stem = codes "the scenario has no " ++ (shown_name name ++ (codes ": the last of " ++ shown_name stem))

abbrev pub number_text : ℕ → List ℕ
number_text count = codes " has the number " ++ decimal count

abbrev pub first_text : List ℕ → List ℕ
first_text key = write_text key ++ codes " for the first"

abbrev pub last_text : ℕ → List ℕ → List ℕ
last_text count key = number_text count ++ write_text key

-- what is wrong with the key, and what to write
abbrev pub item_reason_text : ItemReason → List ℕ
item_reason_text (Absent key) = absent_text (string_bytes key)
item_reason_text (Many name count first) = many_text (string_bytes name) count ++ first_text (string_bytes first)
item_reason_text (PastLast name stem count last) = past_text (string_bytes name) (string_bytes stem) ++ last_text count (string_bytes last)
