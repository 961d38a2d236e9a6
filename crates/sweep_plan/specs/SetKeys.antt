-- Keys that a sweep sets: those of plain texts, and those that only written texts have.
use Rattle.std.specs.Prelude.{ℕ, List, [], ◌∷◌, codes}
use Rattle.schema.specs.Schema.{spelling_of}
use Rattle.schema.specs.declared.schema.FormatKey.{FormatKey}
use Rattle.schema.specs.declared.schema.FormatKey.TheVariants as key
use Rattle.sweep_plan.specs.declared.entry_keys.EntryKey.{EntryKey}
use Rattle.sweep_plan.specs.declared.set_keys.SetKey.{SetKey}
use Rattle.sweep_plan.specs.declared.set_keys.SetKey.TheVariants as set

-- how the text spells the key
abbrev pub key_spelling : SetKey → List ℕ
key_spelling (set.Plain k) = spelling_of k
key_spelling set.Each = codes "each"
key_spelling set.Back = codes "back"
key_spelling set.Every = codes "every"
key_spelling set.Lasts = codes "lasts"
key_spelling set.LastsMost = codes "lasts_most"
key_spelling set.Both = codes "both"

abbrev pub entry_key : FormatKey → SetKey → EntryKey
entry_key t k = record { list = t; key = k }

-- the keys that items of lists have in written texts alone: which members are chosen, when an entry comes again, how long it lasts, and both directions
unfoldable pub entry_keys : List EntryKey
entry_keys =
    entry_key key.Path set.Both ∷
    entry_key key.Slow (set.Plain key.Count) ∷
    entry_key key.Slow set.Every ∷
    entry_key key.Slow set.Lasts ∷
    entry_key key.Slow set.LastsMost ∷
    entry_key key.Crash (set.Plain key.Count) ∷
    entry_key key.Crash (set.Plain key.From) ∷
    entry_key key.Crash (set.Plain key.Until) ∷
    entry_key key.Crash set.Each ∷
    entry_key key.Crash set.Back ∷
    entry_key key.Crash set.Every ∷
    entry_key key.Cut set.Both ∷
    entry_key key.Leave (set.Plain key.Count) ∷
    entry_key key.Leave (set.Plain key.From) ∷
    entry_key key.Leave (set.Plain key.Until) ∷
    entry_key key.Leave set.Each ∷
    entry_key key.Leave set.Back ∷
    entry_key key.Leave set.Every ∷
    entry_key key.Pause (set.Plain key.Count) ∷
    entry_key key.Pause set.Every ∷
    entry_key key.Pause set.Lasts ∷
    entry_key key.Pause set.LastsMost ∷
    entry_key key.Restart (set.Plain key.Count) ∷
    entry_key key.Restart set.Each ∷
    entry_key key.Block (set.Plain key.Count) ∷
    entry_key key.Block set.Every ∷
    entry_key key.Block set.Lasts ∷
    entry_key key.Block set.LastsMost ∷ []
