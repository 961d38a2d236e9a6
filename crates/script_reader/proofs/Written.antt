-- What is known of the six lists as they are written, where they break no rule.
use Rattle.std.proofs.Common.{◌≡◌, ◌≤◌, ℕ, ◌+◌, List, [], ◌∷◌, Bool, true, false, cond, map, nat_eq, nat_lt, refl, ap, ◌∙◌, arith}
use Rattle.std.specs.Prelude.{All}
use Rattle.std.specs.List.{sum_by}
use Rattle.std.proofs.lemmas.List.Sums.{sum_by-cons}
use Rattle.std.proofs.lemmas.Bool.Decides.{nat_tests}
use Rattle.toml.specs.Data.{Data}
use Rattle.scenario.specs.Setup.{Group}
use Rattle.written_names.specs.Roster.{group_of}
use Rattle.written_names.specs.declared.roster.WrittenGroup.{WrittenGroup}
use Rattle.script_reader.specs.declared.item.WrittenItem.{WrittenItem}
use Rattle.script_reader.specs.declared.lists.WrittenScript.{WrittenScript}
use Rattle.script_reader.specs.Entries.{HasNumbers}
use Rattle.script_reader.specs.Lists.{script_rule, HaveNumbers, IsWritten}
use Rattle.script_reader.specs.Rules.{no_rule, IsRead}
use Rattle.script_reader.specs.Script.{text_rule}
use Rattle.script_reader.specs.Who.{member_total}

numbers_of : (tick : ℕ) (items : List WrittenItem) → All (IsRead tick) items → All HasNumbers items
numbers_of tick items read = λ k d within. (read k d within).within

pub have_numbers : (tick : ℕ) (d : Data) (w : WrittenScript) → IsWritten tick d w → HaveNumbers w
have_numbers tick d w is = record {
  crashes = numbers_of tick w.crashes.items.items is.crashes.read;
  leaves = numbers_of tick w.leaves.items.items is.leaves.read;
  restarts = numbers_of tick w.restarts.items.items is.restarts.read;
  slows = numbers_of tick w.slows.items.items is.slows.read;
  pauses = numbers_of tick w.pauses.items.items is.pauses.read;
  blocks = numbers_of tick w.blocks.items.items is.blocks.read;
}

pub total_sum : (groups : List WrittenGroup) → sum_by (λ (g : Group). g.count) (map group_of groups) ≡ member_total groups
total_sum [] = refl
total_sum (g ∷ groups) = sum_by-cons (λ (h : Group). h.count) (group_of g) (map group_of groups) ∙ ap (λ n. g.count + n) (total_sum groups)

few_by : (low total : ℕ) (p q : Bool) → nat_eq low 255 ≡ p → nat_lt 16384 total ≡ q → cond p (cond q 10 255) low ≡ 255 → total ≤ 16384
few_by low total true true a b is = absurd (omega (arith, is))
few_by low total true false a b is = grind (arith, nat_tests)
few_by low total false q a b is = grind (arith, nat_tests)

-- where no rule is broken there aren't too many members
pub few_members : (roster : List Group) (groups : List WrittenGroup) (w : WrittenScript) → text_rule roster groups w ≡ no_rule → member_total groups ≤ 16384
unfolding text_rule
few_members roster groups w fine = few_by (script_rule roster w) (member_total groups) _ _ refl refl fine

pub same_total : (roster : List Group) (groups : List WrittenGroup) → roster ≡ map group_of groups → sum_by (λ (g : Group). g.count) roster ≡ member_total groups
same_total roster groups is = ap (sum_by (λ (g : Group). g.count)) is ∙ total_sum groups
