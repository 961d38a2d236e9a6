-- Members with a lane are members of the cluster.
use Rattle.std.proofs.Common.{ℕ, zero, suc, ◌+◌, ◌<◌, ◌≤◌, Bool, true, false, List, Some, None, All, arith}
use Rattle.std.specs.Prelude.{if◌then◌else◌, filter_map}
use Rattle.std.specs.List.{range_with_len, cons_option}
use Rattle.std.proofs.lemmas.List.Elements.{All-nil, All-cons}
use Rattle.scenario.specs.Setup.{Setup, member_count}
use Rattle.trace.specs.declared.row.Row.{Row}
use Rattle.member_timelines.specs.declared.chosen.Chosen.{Chosen}
use Rattle.member_timelines.specs.Choice.{has_lane, choice_of, choice, choices}

kept : (P : Chosen → Type 0) (b : Bool) (x : Chosen) (rest : List Chosen) → P x → All P rest → All P (cons_option (if b then Some x else None) rest)
kept P true x rest here later = All-cons P x rest here later
kept P false x rest here later = later

named_from : (s : Setup) (rows : List Row) (members first n : ℕ) → first + n ≤ members → All (λ lane. lane.member < members) (filter_map (choice s rows) (range_with_len first n))
named_from s rows members first zero low = All-nil (λ lane. lane.member < members)
named_from s rows members first (suc n) low =
    kept (λ lane. lane.member < members) (has_lane s rows first) (choice_of s rows first) (filter_map (choice s rows) (range_with_len (first + 1) n)) (omega (arith, low))
    (named_from s rows members (first + 1) n (omega (arith, low)))

pub choices_named : (s : Setup) (rows : List Row) → All (λ lane. lane.member < member_count s) (choices s rows)
choices_named s rows = named_from s rows (member_count s) 0 (member_count s) (omega arith)
