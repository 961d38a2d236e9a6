-- What a member makes of a claim about another that is news, and of one that repeats a suspicion (SWIM, section 4.2; Lifeguard's LHA-Suspicion).
-- A quiet application, of an entry that a welcome brought, tells no row about others and passes no update on.
use Rattle.std.specs.Prelude.{ℕ, ◌+◌, ◌-◌, true, false, if◌then◌else◌, Option, Some, None}
use Rattle.std.specs.Option.{option_map}
use Rattle.std.specs.FinMap.{insert, remove}
use Rattle.base.specs.declared.key.Key.{Key}
use Rattle.scenario.specs.Setup.{Setup}
use Rattle.trace.specs.declared.row.What.{What}
use Rattle.trace.specs.declared.row.What.TheVariants as what
use Rattle.incarnation.specs.declared.Claim.{Claim}
use Rattle.incarnation.specs.declared.Claim.TheVariants.{Alive, Suspect, Confirm, Left, Intent}
use Rattle.incarnation.specs.declared.Update.{Update}
use Rattle.suspicion.specs.Settings.{terms_of}
use Rattle.suspicion.specs.Suspicions.{HeldSuspicion, started_of, accused_of, after_accusation, answer_of}
use Rattle.suspicion.specs.declared.suspicions.Accused.{Accused}
use Rattle.suspicion.specs.Times.{timeout}
use Rattle.member.specs.declared.event_kind.EventKind.TheVariants.{SuspicionTimer, GossipTimer}
use Rattle.member.specs.declared.announce.Announce.{Announce}
use Rattle.member.specs.Announce.{is_aloud}
use Rattle.member.specs.State.{State}
use Rattle.base.specs.declared.profile.Profile.{Profile}
use Rattle.base.specs.declared.profile.Profile.TheVariants.{Papers, Memberlist, Hashicorp}
use Rattle.base.specs.Beats.{next_in_step}
use Rattle.scenario.specs.Profile.{profile_of}
use Rattle.scenario.specs.declared.settings.Gossip as settings
use Rattle.membership.specs.Deaths.{confirmed_at}
use Rattle.membership.specs.Table.{size_by}
use Rattle.member.specs.Effects.{Effect, on_state, with_row, with_event}
use Rattle.member.specs.Riding.{put_up}
use Rattle.member.specs.Intents.{regards_kept}
unfoldable pub use Rattle.member.specs.Claims.{with_claim, with_place, with_rota, with_turn, claim_kept}
unfoldable pub use Rattle.member.specs.Newcomers.{with_newcomer, with_turn_of, newcomer_kept, claim_kept_by}

-- the gossip timer at the next moment of gossip, in step with the first period, unless it is set
abbrev pub gossip_set : Setup → Key → Option settings.Gossip → Effect → Effect
gossip_set s k None o = o
gossip_set s k (Some gossip) o =
    if o.state.gossips then o
    else with_event s k (next_in_step (o.state.beat - 1) gossip.interval k.at) k.to GossipTimer (on_state (λ t. record t { gossips = true }) o)

-- An update that is put is sent with the next messages, as news: it has been sent no times yet. Where members gossip, it is sent by itself too.
unfoldable pub with_put : Setup → Key → Update → Effect → Effect
with_put s k u o = gossip_set s k s.gossip (on_state (put_up s s.queue u) o)

-- a row about another member, unless the application is quiet
abbrev pub with_told : Announce → Key → What → ℕ → ℕ → Effect → Effect
with_told telling k tells subject value o = if is_aloud telling then with_row k tells (Some subject) value false o else o

-- the update is passed on, unless the application is quiet
unfoldable pub passed_on : Setup → Key → Announce → Update → Effect → Effect
passed_on s k telling u o = if is_aloud telling then with_put s k u o else o

-- no suspicion of the subject
abbrev pub without_suspicion : ℕ → State → State
without_suspicion subject t = record t { suspicions = remove t.suspicions subject }

-- Alive ends a suspicion.
unfoldable pub alive_heard : Announce → Key → Update → Effect → Effect
alive_heard telling k u o = with_told telling k what.Alive u.subject u.inc (on_state (without_suspicion u.subject) o)

-- a suspicion that starts now, with this accuser alone, among the cluster's members as the rules count them
abbrev pub suspicion_begun : Setup → Key → Update → State → HeldSuspicion
suspicion_begun s k u t = started_of (terms_of s) u.accuser (size_by (profile_of s) t.table) k.at t.next_number

-- Suspect starts a suspicion anew, and sets its timer. The timer's number distinguishes it from older ones.
unfoldable pub suspect_heard : Setup → Announce → Key → Update → Effect → Effect
suspect_heard s telling k u o =
    let due = k.at + timeout (terms_of s) (size_by (profile_of s) o.state.table) 0 in
    with_event s k due k.to (SuspicionTimer u.subject) (with_told telling k what.Suspect u.subject u.inc
    (on_state (λ t. record t { suspicions = insert t.suspicions u.subject (suspicion_begun s k u t) }) o))

-- since when the subject is confirmed, which memberlist's rules ask for
abbrev pub death_kept : Profile → ℕ → ℕ → State → State
death_kept Papers subject now t = t
death_kept Memberlist subject now t = record t { since = confirmed_at subject now t.since }
death_kept Hashicorp subject now t = record t { since = confirmed_at subject now t.since }

-- Confirm ends a suspicion too.
unfoldable pub confirm_heard : Profile → Announce → Key → Update → Effect → Effect
confirm_heard profile telling k u o =
    with_told telling k what.Confirm u.subject u.inc
    (on_state (λ t. death_kept profile u.subject k.at (without_suspicion u.subject t)) o)

-- Left ends a suspicion, as Confirm does.
unfoldable pub left_heard : Profile → Announce → Key → Update → Effect → Effect
left_heard profile telling k u o =
    with_told telling k what.Left u.subject u.inc
    (on_state (λ t. death_kept profile u.subject k.at (without_suspicion u.subject t)) o)

abbrev pub claim_heard : Setup → Announce → Key → Update → Claim → Effect → Effect
claim_heard s telling k u Alive o = alive_heard telling k u o
claim_heard s telling k u Suspect o = suspect_heard s telling k u o
claim_heard s telling k u Confirm o = confirm_heard (profile_of s) telling k u o
claim_heard s telling k u Left o = left_heard (profile_of s) telling k u o
claim_heard s telling k u Intent o = o

-- A claim that is news: it is kept, acted upon and passed on.
unfoldable pub news_heard : Setup → Announce → Key → Update → Effect → Effect
news_heard s telling k u o =
    passed_on s k telling u (claim_heard s telling k u u.claim (on_state (regards_kept s.serf k.at u) (on_state (claim_kept_by (profile_of s) u) o)))

-- the accusation, where it counts, is passed on, and the suspicion's timer is set again
abbrev pub accusation_counted : Setup → Announce → Key → Update → Option Accused → Effect → Effect
accusation_counted s telling k u None o = o
accusation_counted s telling k u (Some accused) o =
    passed_on s k telling u (with_event s k accused.due k.to (SuspicionTimer u.subject) (with_told telling k what.Accuse u.subject accused.count o))

-- A further accuser of a suspect, where it counts, shortens the suspicion (LHA-Suspicion). The new timer takes
-- the place of the old one. Where it does not count, nothing changes.
unfoldable pub accusation_heard : Setup → Announce → Key → Update → Effect → Effect
accusation_heard s telling k u o =
    let accused = accused_of o.state.suspicions u.subject u.accuser o.state.next_number in
    accusation_counted s telling k u (option_map (answer_of k.at) accused)
    (on_state (λ t. record t { suspicions = after_accusation t.suspicions u.subject u.accuser t.next_number }) o)
