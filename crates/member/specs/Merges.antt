-- How a member merges the table of another by memberlist 0.5.0's and Serf's rules (state.go: mergeState; Serf, delegate.go: MergeRemoteState): deaths are suspected alone, but who has
-- left has left by its own word; with Serf one that isn't up here then was about to leave.
use Rattle.std.specs.Prelude.{ℕ, ◌&&◌, Bool, false, not, nat_eq, nat_le, if◌then◌else◌, List, [], ◌∷◌, Option, Some, None}
use Rattle.std.specs.Option.{option_map_or}
use Rattle.std.specs.FinMap.{get}
use Rattle.base.specs.declared.key.Key.{Key}
use Rattle.scenario.specs.Setup.{Setup}
use Rattle.scenario.specs.declared.settings.Serf.{Serf}
use Rattle.incarnation.specs.declared.Claim.TheVariants.{Suspect}
use Rattle.incarnation.specs.declared.Update.{Update}
use Rattle.membership.specs.Table.{is_alive, is_left}
use Rattle.lives.specs.declared.regards.Regard.TheVariants.{Marked}
use Rattle.member.specs.declared.announce.Announce.TheVariants.{Aloud}
use Rattle.member.specs.State.{State, is_probed}
use Rattle.member.specs.Effects.{Effect, on_state}
use Rattle.member.specs.Intents.{with_regard}
use Rattle.member.specs.Apply.{applied}
use Rattle.member.specs.Send.{pull_sent}

-- what an entry of another's table says to a member
abbrev pub entry_claim : ℕ → Update → Update
entry_claim me u =
    if is_left u.claim then record u { accuser = u.subject }
    else if is_alive u.claim then record u { accuser = me }
    else record u { claim = Suspect; accuser = me }

-- whether an entry says of another member that it is alive, who is held alive by its word or a later one
abbrev pub is_known_alive : ℕ → Update → State → Bool
is_known_alive me u t = is_alive u.claim && not (nat_eq u.subject me) && option_map_or (λ held. is_alive held.0 && nat_le u.inc held.1) (get t.table u.subject) false

-- whether an entry says of another member that it has left, which isn't held to be up here, nor suspected
abbrev pub is_left_and_not_up : ℕ → Update → State → Bool
is_left_and_not_up me u t = is_left u.claim && not (nat_eq u.subject me) && not (is_probed (get t.table u.subject))

-- then with Serf it was about to leave
abbrev pub leave_noted : Option Serf → ℕ → Update → State → State
leave_noted None me u t = t
leave_noted (Some serf) me u t = if is_left_and_not_up me u t then with_regard u.subject Marked t else t

-- an entry of another's table
abbrev pub entry_merged : Setup → Key → Update → Effect → Effect
entry_merged s k u o = on_state (leave_noted s.serf k.to u) (applied s Aloud k (entry_claim k.to u) o)

-- All that another knows, in the order of the subjects.
unfoldable pub table_merged : Setup → Key → List Update → Effect → Effect
table_merged s k [] o = o
table_merged s k (u ∷ us) o = table_merged s k us (entry_merged s k u o)

-- A push is answered by all that one knows, and then merged.
unfoldable pub push_merged : Setup → Key → List Update → Effect → Effect
push_merged s k entries o = table_merged s k entries (pull_sent s k k.from o)
