use Rattle.std.proofs.Common.{◌≡◌, ℕ, true, take}
use Rattle.std.specs.Option.{option_map}
use Rattle.piggyback.specs.Keyed.{found_of, is_in_order, counted_within}
use Rattle.piggyback.proofs.entries.count_by_subject.Given as goal

-- the updates so far are counted
abbrev pub invariant-loop-update : goal.invariant-loop-update
invariant-loop-update l = record {
  ordered : is_in_order l.entries.items ≡ true;
  counted : (subject : ℕ) → found_of subject l.entries.items ≡ option_map (counted_within (take l.update-index l.updates)) (found_of subject l.fn.entries.items);
}
