-- A step reads of its scenario's version the profile alone, which is that of the papers in versions 1 and 2. Where the definitions compute,
-- all that they say of the one version is what they say of the other.
use Rattle.std.proofs.Common.{◌≡◌, ap, refl}
use Rattle.base.specs.declared.key.Key.{Key}
use Rattle.base.specs.declared.profile.Profile.TheVariants.{Papers}
use Rattle.schema.specs.declared.schema.Version.TheVariants.{One}
use Rattle.scenario.specs.Setup.{Setup, awake}
use Rattle.links.specs.Arrival.{arrival_of, uncut_arrival_of}
use Rattle.member.specs.declared.member.Phase.{Phase}
use Rattle.member.specs.declared.member.Phase.TheVariants.{Waiting, Joining, Running, Down}
use Rattle.member.specs.declared.event_kind.EventKind.{EventKind}
use Rattle.member.specs.Effects.{Effect, unchanged, with_event, with_timer}
use Rattle.member.specs.Send.{posted, buddy_of, ping_sent, ping_req_sent, ack_sent, nack_sent, join_sent, welcome_sent, bye_sent}
use Rattle.member.specs.Apply.{with_put, passed_on, refuted, suspect_heard, news_heard, accusation_heard, claim_applied, applied, all_applied}
use Rattle.member.specs.Step.{push_begun, first_period_set, first_others, began, join_asked, joining_begun, started, join_handled, joined, probe_failed, probe_ended, probe_begun, next_probed, period_begun, help_asked, timed_out, ping_heard, ping_req_heard, ack_taken, ack_heard, nack_due, suspicion_over, byes_said, departed, plain_handled, handled, handled_by, step}
use Rattle.member.specs.Opening.{opening_state, opening}
use Rattle.version_laws.specs.Versions.{in_version_2}

-- the scenario, by version 1
abbrev pub in_version_1 : Setup → Setup
in_version_1 s = record s { version = One }

pub same_opening : (s : Setup) → opening (in_version_1 s) ≡ opening (in_version_2 s)
unfolding opening_state
same_opening s = refl

same_handled : (s : Setup) → handled (in_version_1 s) ≡ handled (in_version_2 s)
unfolding handled plain_handled started began first_period_set first_others push_begun joining_begun join_asked join_handled joined period_begun next_probed probe_ended probe_failed probe_begun timed_out help_asked ping_heard ping_req_heard ack_heard ack_taken nack_due suspicion_over departed byes_said all_applied applied claim_applied refuted accusation_heard news_heard suspect_heard passed_on with_put ping_sent ping_req_sent ack_sent nack_sent join_sent welcome_sent bye_sent buddy_of posted arrival_of uncut_arrival_of with_event with_timer awake
same_handled s = refl

same_by_papers : (s : Setup) (phase : Phase) (k : Key) (c : EventKind) (o : Effect) → handled_by phase Papers (in_version_1 s) k c o ≡ handled_by phase Papers (in_version_2 s) k c o
same_by_papers s Waiting k c o = ap (λ h. h k c Waiting o) (same_handled s)
same_by_papers s Joining k c o = ap (λ h. h k c Joining o) (same_handled s)
same_by_papers s Running k c o = ap (λ h. h k c Running o) (same_handled s)
same_by_papers s Down k c o = ap (λ h. h k c Down o) (same_handled s)

pub same_step : (s : Setup) → step (in_version_1 s) ≡ step (in_version_2 s)
unfolding step
same_step s = λ i k c t. same_by_papers s t.phase k c (unchanged t) i
