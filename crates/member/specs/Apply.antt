-- What a member makes of an update that it hears, or of one of its own making (SWIM, section 4.2; Lifeguard's LHA-Suspicion).
-- A quiet application, of an entry that a welcome brought, writes no row about others and passes no update on.
use Rattle.std.specs.Prelude.{ℕ, ◌+◌, ◌&&◌, ◌||◌, Bool, true, false, not, nat_eq, nat_le, if◌then◌else◌, List, [], ◌∷◌, Option, Some, None}
use Rattle.std.specs.FinMap.{get}
use Rattle.base.specs.declared.key.Key.{Key}
use Rattle.scenario.specs.Setup.{Setup}
use Rattle.trace.specs.declared.row.What.TheVariants as what
use Rattle.incarnation.specs.declared.Claim.{Claim}
use Rattle.incarnation.specs.declared.Claim.TheVariants.{Alive, Suspect, Confirm, Left, Intent}
use Rattle.incarnation.specs.declared.Update.{Update}
use Rattle.lifeguard.specs.Health.{LocalHealth, raised}
use Rattle.member.specs.declared.announce.Announce.{Announce}
use Rattle.member.specs.Announce.{is_aloud}
use Rattle.base.specs.declared.profile.Profile.{Profile}
use Rattle.base.specs.declared.profile.Profile.TheVariants.{Papers, Memberlist, Hashicorp}
use Rattle.scenario.specs.Profile.{profile_of}
use Rattle.incarnation.specs.Refutations.{does_refute}
use Rattle.membership.specs.Table.{is_alive, is_suspect, is_intent, does_override}
use Rattle.scenario.specs.declared.settings.Serf.{Serf}
use Rattle.lives.specs.Lives.{has_said}
use Rattle.lives.specs.declared.regards.Regard.TheVariants.{Marked}
use Rattle.member.specs.State.{State}
use Rattle.member.specs.Intents.{is_known_intent, with_intent, with_regard}
use Rattle.member.specs.Effects.{Effect, on_state, with_row}
use Rattle.member.specs.LateAccusations.{accusation_by}
unfoldable pub use Rattle.member.specs.News.{gossip_set, with_put, with_told, passed_on, with_claim, with_place, with_rota, with_turn, claim_kept, with_newcomer, with_turn_of, newcomer_kept, claim_kept_by, without_suspicion, alive_heard, suspicion_begun, suspect_heard, death_kept, confirm_heard, left_heard, claim_heard, news_heard, accusation_counted, accusation_heard}

-- The health after an event that counts for it, with a row where its counter changed (LHA-Probe).
unfoldable pub with_health : Key → LocalHealth → Effect → Effect
with_health k h o =
    let after = on_state (λ t. record t { health = h }) o in
    if nat_eq h.counter o.state.health.counter then after else with_row k what.Health None h.counter false after

-- ---- an update about oneself

-- one's own claim to be alive, at the present number
abbrev pub own_claim : ℕ → ℕ → Update
own_claim me number = record { subject = me; claim = Alive; inc = number; accuser = me }

-- A member refutes what is claimed of it by a number of its own (SWIM, section 4.2), and takes it for a sign that it is slow (LHA-Probe).
unfoldable pub refuted : Setup → Key → ℕ → Effect → Effect
refuted s k number o =
    let told = with_row k what.Refute (Some k.to) number false (on_state (λ t. record t { incarnation = number }) o) in
    with_put s k (own_claim k.to number) (with_health k (raised told.state.health 1) told)

-- The first Confirm of itself that a member hears. It goes on.
unfoldable pub heard_dead : Key → ℕ → Effect → Effect
heard_dead k number o = with_row k what.Dead (Some k.to) number false (on_state (λ t. record t { heard_dead = true }) o)

-- whether a claim about itself that a member doesn't refute reports its own death: by the papers' rules the first Confirm
abbrev pub is_own_death : Profile → Claim → Bool → Bool
is_own_death Papers Alive heard = false
is_own_death Papers Suspect heard = false
is_own_death Papers Confirm heard = not heard
is_own_death Papers Left heard = false
is_own_death Papers Intent heard = false
is_own_death Memberlist claim heard = false
is_own_death Hashicorp claim heard = false

-- whether a member refutes a claim about itself: by memberlist 0.5.0's rules not where it says itself that it has left
abbrev pub is_refuted : Profile → State → Claim → ℕ → Bool
is_refuted Papers t claim number = does_refute Papers t.incarnation claim number
is_refuted Memberlist t claim number = does_refute Memberlist t.incarnation claim number
is_refuted Hashicorp t claim number = not (has_said t.life.leaving) && does_refute Hashicorp t.incarnation claim number

-- Of itself a member heeds what it refutes, by the number after the claim's, and the first word of its death.
abbrev pub own_applied : Setup → Key → Claim → ℕ → Effect → Effect
own_applied s k claim number o =
    if is_refuted (profile_of s) o.state claim number then refuted s k (number + 1) o
    else if is_own_death (profile_of s) claim o.state.heard_dead then heard_dead k number o
    else o

-- ---- an update about another member

-- whether the numbers of a suspicion that comes and of the one that is held let it be an accusation: the same one; by memberlist's rules a higher one too
abbrev pub is_of_number : Profile → ℕ → ℕ → Bool
is_of_number Papers number held = nat_eq number held
is_of_number Memberlist number held = nat_le held number
is_of_number Hashicorp number held = nat_le held number

-- whether the update repeats a suspicion that the table holds
abbrev pub is_repeated : Profile → Update → Claim × ℕ → Bool
is_repeated profile u held = is_suspect u.claim && is_suspect held.0 && is_of_number profile u.inc held.1

-- whether a claim about somebody who isn't known is heeded: by memberlist's rules Alive alone, but for what a welcome brings
abbrev pub is_heeded : Profile → Announce → Claim → Bool
is_heeded Papers telling claim = true
is_heeded Memberlist telling claim = not (is_aloud telling) || is_alive claim
is_heeded Hashicorp telling claim = not (is_aloud telling) || is_alive claim

-- A claim about another is news where nothing is known of it or where it overrides what is held. Suspect as it is
-- held may be a further accusation. All else says nothing new.
abbrev pub other_applied : Setup → Announce → Key → Update → Option (Claim × ℕ) → Effect → Effect
other_applied s telling k u None o = if is_heeded (profile_of s) telling u.claim then news_heard s telling k u o else o
other_applied s telling k u (Some held) o =
    if does_override (profile_of s) (u.claim, u.inc) held then news_heard s telling k u o
    else if is_repeated (profile_of s) u held then accusation_by (profile_of s) s telling k u held.1 o
    else o

-- A claim is applied.
unfoldable pub claim_applied : Setup → Announce → Key → Update → Effect → Effect
claim_applied s telling k u o =
    if nat_eq u.subject k.to then own_applied s k u.claim u.inc o
    else other_applied s telling k u (get o.state.table u.subject) o

-- an intent that is news marks its subject, and goes on
abbrev pub intent_heard : Setup → Key → Update → Effect → Effect
intent_heard s k u o =
    if is_known_intent k.to u.subject o.state then o
    else gossip_set s k s.gossip (on_state (λ t. with_intent u (with_regard u.subject Marked t)) o)

-- where there is Serf
abbrev pub intent_applied : Setup → Key → Update → Option Serf → Effect → Effect
intent_applied s k u None o = o
intent_applied s k u (Some serf) o = intent_heard s k u o

-- An update is applied: a claim, or an intent.
unfoldable pub applied : Setup → Announce → Key → Update → Effect → Effect
applied s telling k u o = if is_intent u.claim then intent_applied s k u s.serf o else claim_applied s telling k u o

-- Updates are applied in their order.
unfoldable pub all_applied : Setup → Announce → Key → List Update → Effect → Effect
all_applied s telling k [] o = o
all_applied s telling k (u ∷ us) o = all_applied s telling k us (applied s telling k u o)
