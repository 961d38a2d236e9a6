use Rattle.std.proofs.Common.{◌≡◌, ◌++◌, flat_map, take, string_bytes}
use Rattle.drive_events.specs.Start.{later_name}
use Rattle.drive_events.proofs.names.push_later_names.Given as goal

-- the names so far are added
abbrev pub invariant-loop-member : goal.invariant-loop-member
invariant-loop-member l = string_bytes l.text ≡ string_bytes l.fn.text ++ flat_map (later_name l.scenario) (take l.member-index l.members)
