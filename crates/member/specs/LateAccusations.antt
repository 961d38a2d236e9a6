-- A further accuser of a suspect by memberlist 0.5.0's rules (suspicion.go: Confirm): where the suspicion's time is up by now, the suspect is
-- confirmed in the same event, before a refutation that waits behind the accusation is handled. The accusation stands among the updates to send
-- first, and the death takes its place.
use Rattle.std.specs.Prelude.{ℕ, if◌then◌else◌, Option, Some, None}
use Rattle.std.specs.Option.{option_map}
use Rattle.base.specs.declared.key.Key.{Key}
use Rattle.base.specs.declared.profile.Profile.{Profile}
use Rattle.base.specs.declared.profile.Profile.TheVariants.{Papers, Memberlist, Hashicorp}
use Rattle.scenario.specs.Setup.{Setup}
use Rattle.trace.specs.declared.row.What.TheVariants as what
use Rattle.incarnation.specs.declared.Claim.TheVariants.{Confirm}
use Rattle.incarnation.specs.declared.Update.{Update}
use Rattle.suspicion.specs.Suspicions.{accused_of, after_accusation, answer_of, is_over_of}
use Rattle.suspicion.specs.declared.suspicions.Accused.{Accused}
use Rattle.member.specs.declared.announce.Announce.{Announce}
use Rattle.member.specs.Effects.{Effect, on_state}
use Rattle.member.specs.News.{with_told, passed_on, news_heard, accusation_counted, accusation_heard}

-- the death of a member that is held as suspected at a number, by one's own word
abbrev pub death_of : ℕ → ℕ → ℕ → Update
death_of me subject number = record { subject = subject; claim = Confirm; inc = number; accuser = me }

-- the accusation is passed on, and the suspect confirmed: no timer is set, and no number used for one
abbrev pub accused_confirmed : Setup → Announce → Key → Update → ℕ → Accused → Effect → Effect
accused_confirmed s telling k u number accused o =
    news_heard s telling k (death_of k.to u.subject number)
    (passed_on s k telling u (with_told telling k what.Accuse u.subject accused.count o))

-- an accusation that counts: the suspicion's time is up, or its timer is set again
abbrev pub accusation_answered : Setup → Announce → Key → Update → ℕ → Option Accused → Effect → Effect
accusation_answered s telling k u number None o = o
accusation_answered s telling k u number (Some accused) o =
    if is_over_of o.state.suspicions u.subject k.at then accused_confirmed s telling k u number accused o
    else accusation_counted s telling k u (Some accused) o

-- An accusation of a member that is held as suspected at a number.
unfoldable pub prompt_accusation_heard : Setup → Announce → Key → Update → ℕ → Effect → Effect
prompt_accusation_heard s telling k u number o =
    let accused = accused_of o.state.suspicions u.subject u.accuser o.state.next_number in
    accusation_answered s telling k u number (option_map (answer_of k.at) accused)
    (on_state (λ t. record t { suspicions = after_accusation t.suspicions u.subject u.accuser t.next_number }) o)

-- by the rules of a profile
abbrev pub accusation_by : Profile → Setup → Announce → Key → Update → ℕ → Effect → Effect
accusation_by Papers s telling k u number o = accusation_heard s telling k u o
accusation_by Memberlist s telling k u number o = accusation_heard s telling k u o
accusation_by Hashicorp s telling k u number o = prompt_accusation_heard s telling k u number o
