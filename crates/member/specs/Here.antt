-- The conditions under which an event is handled.
use Rattle.std.specs.Prelude.{◌≡◌, ◌≢◌, ℕ, ◌<◌, ◌≤◌, ◌^◌, true, false, All, Option, Some, IfSome, unwrap_or}
use Rattle.std.proofs.Common.{sym, ap, subst, ◌∙◌}
use Rattle.std.proofs.Props.{props}
use Rattle.std.specs.FinMap.{get, contains_key}
use Rattle.base.specs.declared.key.Key.{Key}
use Rattle.scenario.specs.Setup.{Setup, IsSound, member_count, contact_of, start_of}
use Rattle.links.specs.declared.table.Links.{Links}
use Rattle.links.specs.Arrival.{AreLinksOf}
use Rattle.probing.specs.ProbeOrder.{ProbeOrder, times_in, IsSoundOrder as IsSoundRota}
use Rattle.member.specs.declared.event_kind.EventKind.{EventKind}
use Rattle.member.specs.declared.event_kind.EventKind.TheVariants.{Restart, ConnectedTimer, NackTimer, Welcome, Ping, PingReq, Ack, Gossip, Push, Pull}
use Rattle.membership.specs.Table.{Known}
use Rattle.lifeguard.specs.declared.probe.Probe.{Probe}
use Rattle.member.specs.State.{State, is_probed}

-- the links are the scenario's, the event is one of a run of it, and its receiver and its sender are members
pub record IsSoundSetting (s : Setup) (l : Links) (k : Key) : Type 0 where
  pub sound : IsSound s
  pub links : AreLinksOf l s
  pub early : k.at ≤ 2 ^ 40
  pub receiver : k.to < member_count s
  pub sender : k.from < member_count s

-- a member has one contact at most
pub contact-prop : (s : Setup) (m : ℕ) → IsProp ((c : ℕ) × (contact_of s m ≡ Some c) × (c < member_count s) × (start_of s c ≡ 0))
contact-prop s m a b =
    let same : a.0 ≡ b.0 = ap (λ o. unwrap_or o 0) (sym a.1 ∙ b.1) in
    subst (λ c. (rest : Rest c) → a ≡ (c, rest.0, rest.1, rest.2)) same
    (λ rest. ap (λ (r : Rest a.0). (a.0, r.0, r.1, r.2)) (rest-prop a.0 (a.1, a.2, a.3) rest)) (b.1, b.2, b.3)
  where
    Rest : ℕ → Type 0
    Rest c = (contact_of s m ≡ Some c) × (c < member_count s) × (start_of s c ≡ 0)

    rest-prop : (c : ℕ) → IsProp (Rest c)
    rest-prop c = hlevel props

-- The table is of other members of the scenario, the rota of members in the table that are not confirmed, and the probe of a member, who asks one.
pub record HoldsOthers (s : Setup) (m : ℕ) (table : Known) (rota : ProbeOrder) (probe : Option Probe) (contact : Option ℕ) : Type 0 where
  pub others : (q : ℕ) → contains_key table q ≡ true → (q < member_count s) × (q ≢ m)
  pub listed : (q : ℕ) → is_probed (get table q) ≡ false → times_in rota.members q ≡ 0
  pub sound : IsSoundRota rota
  pub target : IfSome probe (λ p. p.target < member_count s)
  pub asked : IfSome contact (λ c. c < member_count s)

-- what a member of a scenario keeps of its state
abbrev pub HoldsMembers : Setup → ℕ → State → Type 0
HoldsMembers s m t = HoldsOthers s m t.table t.rota t.probe t.life.contact

-- the members that a content names are among the first n
abbrev pub MentionsMembers : ℕ → EventKind → Type 0
MentionsMembers n (Restart contact) = IfSome contact (λ c. c < n)
MentionsMembers n (ConnectedTimer to) = to < n
MentionsMembers n (Welcome entries) = All (λ u. u.subject < n) entries
MentionsMembers n (Ping initiator seq updates) = (initiator < n) × All (λ u. u.subject < n) updates
MentionsMembers n (PingReq target seq updates) = (target < n) × All (λ u. u.subject < n) updates
MentionsMembers n (Ack initiator seq updates) = (initiator < n) × All (λ u. u.subject < n) updates
MentionsMembers n (NackTimer initiator seq) = initiator < n
MentionsMembers n (Gossip updates) = All (λ u. u.subject < n) updates
MentionsMembers n (Push entries) = All (λ u. u.subject < n) entries
MentionsMembers n (Pull entries) = All (λ u. u.subject < n) entries
MentionsMembers n _ = Unit {0}
