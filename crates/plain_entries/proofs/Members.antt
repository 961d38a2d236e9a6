-- The members that are chosen are some of those that an entry is about.
use Rattle.std.proofs.Common.{◌≡◌, ◌≤◌, ◌<◌, ℕ, ◌+◌, Bool, true, false, List, length, ap, sym, subst, arith, Option, Some, None}
use Rattle.std.specs.Prelude.{All, not, filter, nat_le, if◌then◌else◌}
use Rattle.std.proofs.lemmas.List.Elements.{All-filter}
use Rattle.std.proofs.lemmas.List.Sums.{length-filter, count_by-le-length}
use Rattle.streams.specs.Draw.{Words}
use Rattle.script_draws.specs.Choice.{chosen_of, left_after, is_among}
use Rattle.plain_entries.specs.declared.who.Who.{Who}
use Rattle.plain_entries.specs.Who.{who_of, turns_of, IsWho}
use Rattle.plain_entries.proofs.InOrder.{all_turns, length_turns}

-- all, or those that are taken out
abbrev either : Bool → List ℕ → List ℕ → Words → Words → List ℕ × Words
either b items left words rest = if b then (items, words) else (filter (λ item. not (is_among left item)) items, rest)

all_either : (P : ℕ → Type 0) (b : Bool) (items left : List ℕ) (words rest : Words) → All P items → All P (either b items left words rest).0
all_either P true items left words rest all = all
all_either P false items left words rest all = All-filter (λ item. not (is_among left item)) P items all

few_either : (b : Bool) (items left : List ℕ) (words rest : Words) → length (either b items left words rest).0 ≤ length items
few_either true items left words rest = omega arith
few_either false items left words rest =
    let few = count_by-le-length (λ item. not (is_among left item)) items in
    let same = length-filter (λ item. not (is_among left item)) items in
    omega (arith, few, same)

all_chosen : (P : ℕ → Type 0) (count : Option ℕ) (items : List ℕ) (words : Words) → All P items → All P (chosen_of count items words).0
all_chosen P None items words all = all
all_chosen P (Some count) items words all =
    let left = left_after count items words in
    all_either P (nat_le (length items) count) items left.0 words left.1 all

few_chosen : (count : Option ℕ) (items : List ℕ) (words : Words) → length (chosen_of count items words).0 ≤ length items
few_chosen None items words = omega arith
few_chosen (Some count) items words =
    let left = left_after count items words in
    few_either (nat_le (length items) count) items left.0 words left.1

-- so many of an entry's members draw in turns, and each is known
pub record AreTurns (count : ℕ) (members : List ℕ) : Type 0 where
  pub few : length members ≤ 16384
  pub known : All (λ member. member < count) members

pub are_turns : (count : ℕ) (who : Who) (members turns : List ℕ) (recurs : Bool) (words rest : Words) → IsWho count who → (members, rest) ≡ who_of who words → turns ≡ turns_of recurs members
    → AreTurns count turns
are_turns count who members turns recurs words rest is chosen made =
    let P : ℕ → Type 0 = λ member. member < count in
    let same : members ≡ (who_of who words).0 = ap (λ (p : List ℕ × Words). p.0) chosen in
    let few = few_chosen who.count who.members.items words in
    let long = length_turns recurs members in
    let whole : length members ≡ length (who_of who words).0 = ap length same in
    let all_of = subst (λ (l : List ℕ). All P l) (sym same) (all_chosen P who.count who.members.items words is.known) in
    let made_long : length turns ≡ length (turns_of recurs members) = ap length made in
    let low = is.few in
    record {
      few = omega (arith, few, long, whole, made_long, low);
      known = subst (λ (l : List ℕ). All P l) (sym made) (all_turns P recurs members all_of);
    }

pub few_turns : (count : ℕ) (who : Who) (recurs : Bool) (words : Words) → IsWho count who → 0 + length (turns_of recurs (who_of who words).0) ≤ 16384
few_turns count who recurs words is =
    let few = few_chosen who.count who.members.items words in
    let long = length_turns recurs (who_of who words).0 in
    let low = is.few in
    omega (arith, few, long, low)
