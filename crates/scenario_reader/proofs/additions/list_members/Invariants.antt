use Rattle.std.proofs.Common.{◌≡◌, ℕ, map, take, nat_eq}
use Rattle.std.specs.List.{list_any}
use Rattle.toml.specs.View.{view}
use Rattle.schema.specs.declared.schema.FormatKey.TheVariants as key
use Rattle.scenario_reader.specs.Reading.{member_at}
use Rattle.scenario_reader.proofs.additions.list_members.Given as goal

abbrev pub invariant-loop-item : goal.invariant-loop-item
invariant-loop-item l = (k : ℕ) → list_any (nat_eq k) l.members.keys ≡ list_any (λ n. nat_eq n k) (map (λ v. member_at l.roster key.Member (view v)) (take l.item-index l.list))
