-- When a scenario is warned of something. `trip` is the greatest round trip of a pair of members.
use Rattle.std.specs.Prelude.{ℕ, ◌+◌, ◌-◌, ◌*◌, Bool, true, false, List, length, not, ◌&&◌, ◌||◌, nat_lt, nat_le, nat_eq, fold, if◌then◌else◌}
use Rattle.std.specs.List.{list_all, list_any, range_with_len}
use Rattle.std.specs.Option.{is_some}
use Rattle.base.specs.declared.profile.Profile.{Profile}
use Rattle.base.specs.declared.profile.Profile.TheVariants.{Papers, Memberlist, Hashicorp}
use Rattle.scenario.specs.Setup.{Setup, member_count, start_of, crash_of, leave_of, script_of}
use Rattle.scenario.specs.declared.script.ScriptEvent.{ScriptEvent}
use Rattle.scenario.specs.declared.script.ScriptKind.{ScriptKind}
use Rattle.scenario.specs.declared.script.ScriptKind.TheVariants.{Crash, Leave, Restart}
use Rattle.scenario.specs.Profile.{profile_of}
use Rattle.scenario.specs.declared.settings.Link.{Link}
use Rattle.scenario.specs.declared.settings.Path.{Path}
use Rattle.scenario.specs.declared.settings.Slow.{Slow}
use Rattle.scenario.specs.declared.settings.Lifeguard.{Lifeguard}
use Rattle.scenario.specs.declared.settings.Pause.{Pause}
use Rattle.suspicion.specs.Times.{most_accusers, min_timeout}
use Rattle.suspicion.specs.Settings.{terms_of}
use Rattle.meaning.specs.Groups.{size_of}
use Rattle.meaning.specs.Pushes.{push_period}

-- there are two members: one alone probes nobody and is suspected by nobody
abbrev pub are_several : Setup → Bool
are_several s = nat_lt 1 (member_count s)

-- the greatest round trip is longer than the timeout
abbrev pub is_answer_late : Setup → ℕ → Bool
is_answer_late s trip = nat_lt s.swim.timeout trip

-- a ping-req, the helper's ping and both answers, sent at the timeout, can come after the period
abbrev pub is_relay_late : Setup → ℕ → Bool
is_relay_late s trip = nat_lt 0 s.swim.helpers && nat_lt s.swim.period (s.swim.timeout + 2 * trip)

-- the least suspicion among all members
abbrev pub least_suspicion : Setup → ℕ
least_suspicion s = min_timeout (terms_of s) (member_count s)

-- the first probe begins at 1 and fails a period later, and its suspicion runs out after the end
abbrev pub is_end_early : Setup → Bool
is_end_early s = are_several s && nat_lt s.end (1 + s.swim.period + least_suspicion s)

-- LHA-Suspicion is on, and K' is below K
abbrev pub are_accusers_few : Setup → Bool
are_accusers_few s = are_several s && s.lifeguard.suspicion && nat_lt (most_accusers (terms_of s) (member_count s)) s.lifeguard.confirmations

-- but for the prober and the target there are fewer members than helpers
abbrev pub are_helpers_many : Setup → Bool
are_helpers_many s = are_several s && nat_lt (member_count s) (s.swim.helpers + 2)

-- every message is lost that may be lost
abbrev pub loses_all : Link → Bool
loses_all l = nat_eq l.loss 1000000

-- every message is lost: no link loses a push
abbrev pub is_lost : Setup → Link → Bool
is_lost s l = loses_all l && nat_eq (push_period s) 0

-- one of the switches is on, and one is off
abbrev pub is_in_part : Lifeguard → Bool
is_in_part l = (l.probe || l.suspicion || l.buddy) && not (l.probe && l.suspicion && l.buddy)

-- some first period may begin after the end
abbrev pub is_spread_long : Setup → Bool
is_spread_long s = nat_lt s.end s.swim.spread

-- a path from a group to itself that has at most one of the members of these groups
abbrev pub is_lonely : List ℕ → Path → Bool
is_lonely groups p = nat_eq p.from p.to && nat_le (size_of groups p.from) 1

-- it begins after the end
abbrev pub is_past : Setup → ℕ → Bool
is_past s at = nat_lt s.end at

-- a member goes by this event of its script, and doesn't start again
abbrev pub goes_by : ScriptKind → Bool
goes_by Crash = true
goes_by Leave = true
goes_by (Restart contact) = false

-- whether a member that was down or not is down after an event of its script, if that has come by a moment
abbrev pub down_after : ℕ → Bool → ScriptEvent → Bool
down_after t down e = if nat_le e.at t then goes_by e.kind else down

-- the member has crashed or left by a moment, and not started again
abbrev pub is_down : Setup → ℕ → ℕ → Bool
is_down s m t = nat_lt m (member_count s) && fold (down_after t) false (script_of s m)

-- with what the slow member adds on the way there and back the greatest round trip is longer than the timeout
abbrev pub is_slow_answer_late : Setup → ℕ → Slow → Bool
is_slow_answer_late s trip e = are_several s && nat_lt s.swim.timeout (trip + 2 * e.extra)

-- a crash at this moment is in time, but no suspicion that begins with it runs out before the end
abbrev pub is_unconfirmed : Setup → ℕ → Bool
is_unconfirmed s at = are_several s && nat_le at s.end && nat_lt s.end (at + least_suspicion s)

-- the rules are memberlist's
abbrev pub goes_by_memberlist : Profile → Bool
goes_by_memberlist Papers = false
goes_by_memberlist Memberlist = true
goes_by_memberlist Hashicorp = true

-- by memberlist's rules, and yet nobody gossips
abbrev pub is_without_gossip : Setup → Bool
is_without_gossip s = are_several s && goes_by_memberlist (profile_of s) && not (is_some s.gossip)

-- memberlist takes K and the shortest suspicion from one setting: K is 2 less than `alpha`, and not below 0
abbrev pub are_confirmations_odd : Setup → Bool
are_confirmations_odd s =
    are_several s && goes_by_memberlist (profile_of s) && s.lifeguard.suspicion && not (nat_eq s.lifeguard.confirmations (s.suspicion.alpha - 2))

-- the member joins later, crashes or leaves
abbrev pub is_moved : Setup → ℕ → Bool
is_moved s m = nat_lt 0 (start_of s m) || is_some (crash_of s m) || is_some (leave_of s m)

abbrev pub is_somebody_moved : Setup → Bool
is_somebody_moved s = list_any (is_moved s) (range_with_len 0 (member_count s))

-- nobody is slow, paused or blocked, or starts again, and nothing is cut
abbrev pub is_script_empty : Setup → Bool
is_script_empty s =
    nat_eq (length s.slows) 0 && nat_eq (length s.cuts) 0 && nat_eq (length s.pauses) 0 && nat_eq (length s.blocks) 0 && nat_eq (length s.restarts) 0

-- no link loses a message
abbrev pub is_loss_free : Setup → Bool
is_loss_free s = nat_eq s.link.loss 0 && list_all (λ p. nat_eq p.link.loss 0) s.paths

-- Nothing happens: nobody joins later, crashes, leaves, starts again, is slow, paused or blocked, nothing is lost or cut, and each answer comes in time.
abbrev pub is_run_quiet : Setup → ℕ → Bool
is_run_quiet s trip = is_script_empty s && is_loss_free s && not (is_answer_late s trip) && not (is_somebody_moved s)

-- the member is paused for longer than the least suspicion, so that others may declare it dead meanwhile
abbrev pub is_pause_long : Setup → Pause → Bool
is_pause_long s p = are_several s && nat_lt (p.from + least_suspicion s) p.until
