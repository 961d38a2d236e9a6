-- What is known of all rows.
use Rattle.std.proofs.Common.{◌≡◌, true, refl}
use Rattle.std.specs.List.{list_all}
use Rattle.schema.specs.Schema.{key_rules_of, spelling_of}
use Rattle.written_schema.specs.Rows.{rows_of}
use Rattle.written_schema.specs.Values.{is_low}
use Rattle.written_schema.specs.declared.rows.WrittenRow.{WrittenRow}
use Rattle.written_schema.specs.declared.rows.WrittenSection.{WrittenSection}
use Rattle.written_schema.specs.declared.rows.WrittenSection.TheVariants.{Top, Swim, Suspicion, Lifeguard, Link, Group, Path, Cut, Gossip, Stream, Serf}

-- their ranges have small ends
pub rows_are_low : (section : WrittenSection) → list_all (λ (row : WrittenRow). is_low row.kind) (rows_of section) ≡ true
unfolding rows_of key_rules_of spelling_of
rows_are_low Top = refl
rows_are_low Swim = refl
rows_are_low Suspicion = refl
rows_are_low Lifeguard = refl
rows_are_low Link = refl
rows_are_low Group = refl
rows_are_low Path = refl
rows_are_low Cut = refl
rows_are_low Gossip = refl
rows_are_low Stream = refl
rows_are_low Serf = refl
