-- A part that is filled, member by member, before a run.
use Rattle.std.specs.Prelude.{◌≡◌, ℕ, ◌<◌, true, map, flat_map}
use Rattle.std.specs.List.{range_with_len}
use Rattle.std.specs.FinMap.{FinMap, insert, contains_key, from_entries, empty}
use Rattle.base.specs.declared.key.Key.{Key}
use Rattle.base.specs.Order.{key_cmp}
use Rattle.base.specs.World.{World, with_events}
use Rattle.scenario.specs.Setup.{Setup}
use Rattle.member.specs.declared.event_kind.EventKind.{EventKind}
use Rattle.member.specs.State.{State}
use Rattle.scenario.specs.Profile.{profile_of}
use Rattle.member.specs.Opening.{opening_state, script_by}

-- each of these events is from a member with a number below this one
abbrev pub AreFromBelow : FinMap key_cmp EventKind → ℕ → Type 0
AreFromBelow events m = (q : Key) → contains_key events q ≡ true → q.from < m

-- one more member waits for its start, and what the script has for it pends
abbrev pub with_member : Setup → ℕ → World State EventKind → World State EventKind
with_member s m w = record { members = insert w.members m (opening_state s m); pending = with_events w.pending (script_by (profile_of s) s m) }

-- The members below that number wait, and all events of their script pend.
abbrev pub opened_below : Setup → ℕ → World State EventKind
opened_below s n = record {
  members = from_entries (map (λ m. (m, opening_state s m)) (range_with_len 0 n));
  pending = with_events empty (flat_map (script_by (profile_of s) s) (range_with_len 0 n));
}
