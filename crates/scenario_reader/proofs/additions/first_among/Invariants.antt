use Rattle.std.proofs.Common.{◌≡◌, false, take, nat_eq}
use Rattle.std.specs.List.{list_any}
use Rattle.toml.specs.View.{view}
use Rattle.schema.specs.declared.schema.FormatKey.TheVariants as key
use Rattle.scenario_reader.specs.Reading.{member_at}
use Rattle.scenario_reader.proofs.additions.first_among.Given as goal

abbrev pub invariant-loop-i : goal.invariant-loop-i
invariant-loop-i l = list_any (λ v. list_any (nat_eq (member_at l.roster key.Member (view v))) l.members.keys) (take l.i l.list) ≡ false
