-- Whom a member chooses, what of a table it heeds, and its end.
use Rattle.std.specs.Prelude.{ℕ, not, nat_eq, List, filter}
use Rattle.base.specs.declared.key.Key.{Key}
use Rattle.scenario.specs.Setup.{Setup}
use Rattle.scenario.specs.declared.settings.Gossip as settings
use Rattle.incarnation.specs.declared.Update.{Update}
use Rattle.probing.specs.Samples.{sample_of}
use Rattle.membership.specs.declared.candidates.Candidate.{Candidate}
use Rattle.membership.specs.declared.candidates.Fitting.{Fitting}
use Rattle.membership.specs.declared.candidates.Fitting.TheVariants.{Reachable}
use Rattle.membership.specs.Candidates.{does_fit, candidates_of}
use Rattle.member.specs.declared.member.Phase.TheVariants.{Down}
use Rattle.member.specs.State.{State}
use Rattle.member.specs.Effects.{Effect, on_state}
use Rattle.member.specs.Send.{sent_to_each, gossip_sent}

-- The entries of a welcome about others than oneself.
abbrev pub about_others : ℕ → List Update → List Update
about_others me entries = filter (λ e. not (nat_eq e.subject me)) entries

-- those whom a member may choose for something
abbrev pub candidates_for : Key → Fitting → State → List Candidate
candidates_for k fitting t = candidates_of k.to (does_fit fitting t.since) t.table

-- updates to some who are chosen
unfoldable pub gossip_spread : Setup → Key → settings.Gossip → Effect → Effect
gossip_spread s k gossip o =
    let drawn = sample_of o.state.words gossip.nodes (candidates_for k (Reachable k.at gossip.dead) o.state) in
    sent_to_each (gossip_sent s k) drawn.0 (on_state (λ t. record t { words = drawn.1 }) o)

-- a member that leaves is down, for good
abbrev pub downed : State → State
downed t = record t { phase = Down }
