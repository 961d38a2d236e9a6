use Rattle.std.proofs.Common.{◌≡◌, false, take}
use Rattle.std.specs.List.{list_any}
use Rattle.written_entries.specs.Bad.{is_bad_spell}
use Rattle.written_entries.proofs.spells.first_bad_spell.Given as goal

abbrev pub invariant-loop-place : goal.invariant-loop-place
invariant-loop-place l = list_any is_bad_spell (take l.place l.entries) ≡ false
