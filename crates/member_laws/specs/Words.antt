-- What the laws say of a member, in the words of the protocol.
use Rattle.std.specs.Prelude.{◌≡◌, ◌≢◌, ℕ, ◌<◌, ◌≤◌, Bool, true, false, not, ◌||◌, if◌then◌else◌, Some}
use Rattle.std.specs.Option.{option_map_or, IfSome}
use Rattle.std.specs.List.{AllByRecursion}
use Rattle.lives.specs.Lives.{LifeState}
use Rattle.broadcast_queue.specs.declared.items.Item.{Item}
use Rattle.std.specs.FinMap.{get, contains_key}
use Rattle.std.specs.FinSet as set
use Rattle.base.specs.declared.key.Key.{Key}
use Rattle.base.specs.declared.profile.Profile.{Profile}
use Rattle.base.specs.declared.profile.Profile.TheVariants.{Papers, Memberlist, Hashicorp}
use Rattle.scenario.specs.Setup.{Setup, member_count}
use Rattle.scenario.specs.Profile.{profile_of}
use Rattle.member.specs.Apply.{is_refuted}
use Rattle.streams.specs.Draw.{AreWords}
use Rattle.incarnation.specs.declared.Claim.{Claim}
use Rattle.incarnation.specs.declared.Claim.TheVariants.{Suspect}
use Rattle.incarnation.specs.declared.Update.{Update}
use Rattle.lifeguard.specs.Health.{LocalHealth}
use Rattle.lifeguard.specs.declared.probe.Probe.{Probe}
use Rattle.piggyback.specs.Picked.{Counted}
use Rattle.probing.specs.ProbeOrder.{times_in, IsSoundOrder as IsSoundOrder}
use Rattle.suspicion.specs.Settings.{terms_of}
use Rattle.suspicion.specs.Suspicions.{HeldSuspicion}
use Rattle.member.specs.declared.member.Phase.TheVariants.{Waiting}
use Rattle.member.specs.declared.event_kind.EventKind.{EventKind}
use Rattle.member.specs.declared.event_kind.EventKind.TheVariants.{Restart}
use Rattle.membership.specs.Table.{Known, is_suspect, is_confirm}
use Rattle.member.specs.State.{State}
use Rattle.member.specs.Here.{MentionsMembers}
use Rattle.member.specs.Opening.{opening_state, opening_health}
use Rattle.member.specs.Effects.{unchanged}
use Rattle.member.specs.Leaves.{leave_gone_on}

-- the update says that the member itself is suspected, at its present incarnation number (SWIM, section 4.2)
pub record AccusesOneself (me : ℕ) (t : State) (u : Update) : Type 0 where
  pub own : u.subject ≡ me
  pub claim : u.claim ≡ Suspect
  pub present : u.inc ≡ t.incarnation

-- the update is about the member itself, and it refutes it
pub record IsRefuted (profile : Profile) (me : ℕ) (t : State) (u : Update) : Type 0 where
  pub own : u.subject ≡ me
  pub refutes : is_refuted profile t u.claim u.inc ≡ true

-- a member that waits for its start is as in the opening world
abbrev pub WaitsAsOpened : Setup → ℕ → State → Type 0
WaitsAsOpened s m t = t.phase ≡ Waiting → t ≡ opening_state s m

-- nothing is left to do of the member's leave before its next event
abbrev pub HasSettledLeave : Setup → ℕ → State → Type 0
HasSettledLeave s m t = (k : Key) → k.to ≡ m → leave_gone_on s k (unchanged t) ≡ unchanged t

-- Lifeguard's local health is within its ceiling (LHA-Probe)
abbrev pub IsWithinCeiling : LocalHealth → Type 0
IsWithinCeiling h = h.counter ≤ h.ceiling

-- whether a table holds a claim of the member that passes a test
abbrev pub holds : (Claim → Bool) → Known → ℕ → Bool
holds test table q = option_map_or (λ held. test held.0) (get table q) false

abbrev pub is_live : Claim → Bool
is_live claim = not (is_confirm claim)

-- a member knows other members of the scenario, and not itself
abbrev pub KnowsOthers : Setup → ℕ → State → Type 0
KnowsOthers s m t = (q : ℕ) → contains_key t.table q ≡ true → (q < member_count s) × (q ≢ m)

-- a suspicion stands of just those whom the table holds as suspected
abbrev pub SuspectsByTable : State → Type 0
SuspectsByTable t = (q : ℕ) → contains_key t.suspicions q ≡ holds is_suspect t.table q

-- just those whom the table holds, and not as confirmed, are probed, each once a round
abbrev pub ProbesTheLiving : State → Type 0
ProbesTheLiving t = (q : ℕ) → times_in t.rota.members q ≡ (if holds is_live t.table q then 1 else 0)

-- each suspicion runs under the scenario's settings
abbrev pub HasTerms : Setup → State → Type 0
HasTerms s t = (q : ℕ) (x : HeldSuspicion) → get t.suspicions q ≡ Some x → x.terms ≡ terms_of s

-- whether a helper keeps in mind whom it helps also where it sends no nacks: by memberlist 0.5.0's rules
abbrev pub keeps_relays : Profile → Bool
keeps_relays Papers = false
keeps_relays Memberlist = false
keeps_relays Hashicorp = true

-- whether helpers keep in mind whom they help
abbrev pub has_relays : Setup → Bool
has_relays s = s.lifeguard.probe || keeps_relays (profile_of s)

-- where helpers don't, as without LHA-Probe by the older rules, no answer is owed to another's probe
abbrev pub OwesNoneWithout : Setup → State → Type 0
OwesNoneWithout s t = has_relays s ≡ false → (relay : ℕ × ℕ) → set.contains t.relays relay ≡ false

-- the updates that are still to be sent are about members of the scenario
abbrev pub SendsOfMembers : Setup → State → Type 0
SendsOfMembers s t = (q : ℕ) (it : Counted) → get t.buffer q ≡ Some it → it.0.subject < member_count s

-- the probe of the present period is of a member of the scenario
abbrev pub ProbesAMember : Setup → State → Type 0
ProbesAMember s t = (probe : Probe) → t.probe ≡ Some probe → probe.target < member_count s

-- so are those that stand in memberlist's queue, and the intents; and whom it asks for all that is known is a member
pub record LivesAmongMembers (s : Setup) (life : LifeState) : Type 0 where
  pub asked : IfSome life.contact (λ c. c < member_count s)
  pub intents : (q : ℕ) (it : Counted) → get life.intents q ≡ Some it → it.0.subject < member_count s
  pub queue : AllByRecursion (λ (it : Item). it.update.subject < member_count s) life.queue.items

-- the numbers of a life's timers are used from its birth on: the next life has a later one
abbrev pub IsBorn : State → Type 0
IsBorn t = t.life.birth < t.next_number

-- an event with which a member starts again
abbrev pub is_restart : EventKind → Bool
is_restart (Restart contact) = true
is_restart _ = false

-- each suspicion that stands began at a moment no later than the end, among at least one and at most all members
abbrev pub IsTimely : Setup → State → Type 0
IsTimely s t = (q : ℕ) (x : HeldSuspicion) → get t.suspicions q ≡ Some x → (x.since ≤ s.end) × (1 ≤ x.members) × (x.members ≤ member_count s)

-- What holds of a member's state wherever a run has come.
pub record IsConsistent (s : Setup) (m : ℕ) (t : State) : Type 0 where
  pub waits : WaitsAsOpened s m t
  pub others : KnowsOthers s m t
  pub suspects : SuspectsByTable t
  pub probes : ProbesTheLiving t
  pub order : IsSoundOrder t.rota
  pub terms : HasTerms s t
  pub health : IsWithinCeiling t.health
  pub ceiling : t.health.ceiling ≡ (opening_health s).ceiling
  pub relays : OwesNoneWithout s t
  pub words : AreWords t.words
  pub buffer : SendsOfMembers s t
  pub target : ProbesAMember s t
  pub life : LivesAmongMembers s t.life

-- an event among the members of the scenario
pub record IsAmongMembers (s : Setup) (k : Key) (c : EventKind) : Type 0 where
  pub receiver : k.to < member_count s
  pub sender : k.from < member_count s
  pub names : MentionsMembers (member_count s) c
