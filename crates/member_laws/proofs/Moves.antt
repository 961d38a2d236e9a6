-- The changes of which each step is made: a fact about a member's state that each of them keeps, every step keeps.
use Rattle.std.proofs.Common.{◌≡◌, ℕ, ◌+◌, ◌≤◌, Bool, true, false, cond, [], Option, Some, None}
use Rattle.std.specs.FinMap.{get, insert, remove, empty}
use Rattle.std.specs.FinSet as set
use Rattle.base.specs.declared.key.Key.{Key}
use Rattle.scenario.specs.Setup.{Setup}
use Rattle.streams.specs.Draw.{Words, IsRestOf}
use Rattle.incarnation.specs.declared.Claim.{Claim}
use Rattle.incarnation.specs.declared.Claim.TheVariants.{Alive, Suspect}
use Rattle.incarnation.specs.declared.Update.{Update}
use Rattle.lifeguard.specs.declared.probe.Probe.{Probe}
use Rattle.lifeguard.specs.Health.{LocalHealth, lowered, raised}
use Rattle.probing.specs.Mixed.{mixed_of}
use Rattle.probing.specs.ProbeOrder.{round_over, next_of, remove_of}
use Rattle.suspicion.specs.Settings.{terms_of}
use Rattle.suspicion.specs.Suspicions.{HeldSuspicion, after_accusation}
use Rattle.member.specs.declared.member.Phase.{Phase}
use Rattle.member.specs.declared.member.Phase.TheVariants.{Waiting, Joining, Running, Down}
use Rattle.member.specs.State.{State, is_probed}
use Rattle.base.specs.declared.profile.Profile.{Profile}
use Rattle.base.specs.declared.profile.Profile.TheVariants.{Papers, Memberlist, Hashicorp}
use Rattle.scenario.specs.Profile.{profile_of}
use Rattle.incarnation.specs.Refutations.{does_refute}
use Rattle.membership.specs.Deaths.{confirmed_at}
use Rattle.membership.specs.Table.{Known, is_alive, is_confirm, is_intent, does_override, size_by, all_alive}
use Rattle.scenario.specs.Setup.{contact_of}
use Rattle.scenario.specs.declared.settings.Serf.{Serf}
use Rattle.scenario.specs.declared.settings.Queue.{Queue}
use Rattle.std.specs.Option.{IfSome}
use Rattle.lives.specs.Regards.{Regards, gone_now}
use Rattle.lives.specs.declared.regards.Regard.{Regard}
use Rattle.lives.specs.declared.regards.Regard.TheVariants.{Usual}
use Rattle.lives.specs.declared.leaving.Leaving.{Leaving}
use Rattle.member.specs.Riding.{put_up, without_claims, without_both, room_of}
use Rattle.member.specs.Intents.{with_regard, regards_kept, with_intent}
use Rattle.member.specs.Leaves.{with_leaving}
use Rattle.member.specs.Beginnings.{reborn}
use Rattle.member.specs.Send.{with_picks}
use Rattle.std.proofs.lemmas.Bool.{and_parts}
use Rattle.lives.specs.Lives.{has_said}
use Rattle.std.proofs.Common.{not}
use Rattle.member.specs.Apply.{is_refuted, with_claim, with_place, with_newcomer, with_turn_of, claim_kept, newcomer_kept, claim_kept_by, without_suspicion, death_kept}
use Rattle.member.specs.Forgetting.{without_entry}
use Rattle.member.specs.Step.{first_others}
use Rattle.member_laws.specs.Words.{has_relays}

-- whether a claim says something new, beside what is held
abbrev pub is_news : Profile → Claim × ℕ → Option (Claim × ℕ) → Bool
is_news profile new None = true
is_news profile new (Some held) = does_override profile new held

-- an update about another member that says something new
pub record IsNews (profile : Profile) (me : ℕ) (t : State) (u : Update) : Type 0 where
  pub other : ¬ (u.subject ≡ me)
  -- it is a claim, and no intent
  pub spoken : is_intent u.claim ≡ false
  pub news : is_news profile (u.claim, u.inc) (get t.table u.subject) ≡ true

-- a suspicion that starts at the event, in the state that the claim leaves
pub record Begins (s : Setup) (k : Key) (t : State) (x : HeldSuspicion) : Type 0 where
  pub terms : x.terms ≡ terms_of s
  pub since : x.since ≡ k.at
  pub members : x.members ≡ size_by (profile_of s) t.table

-- A fact that each change keeps which claims about others make, where all whom they are about are named.
pub record NewsMoves (s : Setup) (k : Key) (Named : ℕ → Type 0) (R : State → Type 0) : Type 0 where
  pub counted : (t : State) → R t → R (record t { next_number = t.next_number + 1 })
  pub put : (t : State) (u : Update) → Named u.subject → R t → R (put_up s s.queue u t)
  pub alive : (t : State) (u : Update) → Named u.subject → IsNews (profile_of s) k.to t u → u.claim ≡ Alive → R t
      → R (record (claim_kept_by (profile_of s) u t) { suspicions = remove (claim_kept_by (profile_of s) u t).suspicions u.subject })
  pub suspect : (t : State) (u : Update) (x : HeldSuspicion) → Named u.subject → IsNews (profile_of s) k.to t u → u.claim ≡ Suspect → Begins s k (claim_kept_by (profile_of s) u t) x → R t
      → R (record (claim_kept_by (profile_of s) u t) { suspicions = insert (claim_kept_by (profile_of s) u t).suspicions u.subject x })
  pub confirm : (t : State) (u : Update) → Named u.subject → IsNews (profile_of s) k.to t u → is_confirm u.claim ≡ true → R t
      → R (death_kept (profile_of s) u.subject k.at (without_suspicion u.subject (claim_kept_by (profile_of s) u t)))
  pub accused : (t : State) (u : Update) → R t → R (record t { suspicions = after_accusation t.suspicions u.subject u.accuser t.next_number })
  -- the gossip timer is set, or due
  pub gossiping : (t : State) (set : Bool) → R t → R (record t { gossips = set })
  -- how Serf regards others, and an intent that is still to be sent
  pub regarding : (t : State) (regards : Regards) → R t → R (record t { life = record t.life { regards = regards } })
  pub intended : (t : State) (u : Update) → Named u.subject → R t → R (with_intent u t)

-- a member that starts at moment 0, and one that starts later
abbrev pub at_once : Setup → Key → State → State
at_once s k t = record t { phase = Running; incarnation = 0; table = all_alive (first_others s k.to); rota = round_over (first_others s k.to) }

abbrev pub at_late : State → State
at_late t = record t { phase = Joining; table = empty; rota = round_over [] }

-- one that starts later by memberlist 0.5.0's rules, and one that starts again, whose first timer is set
abbrev pub at_alone : Setup → Key → State → State
at_alone s k t = record t { phase = Running; life = record t.life { contact = contact_of s k.to } }

abbrev pub at_again : Setup → Key → Option ℕ → State → State
at_again s k contact t = record (reborn s k.to contact t) { beat = k.at + s.swim.period; next_number = t.next_number + 1 }

-- And one that all other changes keep.
pub record Moves (s : Setup) (k : Key) (Named : ℕ → Type 0) (R : State → Type 0) : Type 0 where
  pub own : Named k.to
  pub known : (t : State) (q : ℕ) (held : Claim × ℕ) → R t → get t.table q ≡ Some held → Named q
  pub drawn : (t : State) (rest : Words) → IsRestOf t.words rest → R t → R (record t { words = rest })
  pub picked : (t : State) (buddy : Option Update) → R t → R (with_picks s buddy t)
  pub ridden : (t : State) (bearer : _) → R t → R (without_both s k.to bearer t)
  pub aimed : (t : State) (probe : Probe) → R t → t.probe ≡ Some probe → Named probe.target
  pub targets : (t : State) (target : ℕ) → R t → (next_of t.words t.rota).0 ≡ Some target → Named target
  -- the number of the last probe never falls
  pub probing : (t : State) (seq : ℕ) (probe : Option Probe) → t.sequence ≤ seq → ((it : Probe) → probe ≡ Some it → Named it.target) → R t → R (record t { sequence = seq; probe = probe })
  pub turned : (t : State) → R t → R (record t { rota = (next_of t.words t.rota).1; words = (next_of t.words t.rota).2 })
  -- by memberlist 0.5.0's rules alone
  pub forgotten : (t : State) (q : ℕ) (held : Claim × ℕ) → profile_of s ≡ Hashicorp → get t.table q ≡ Some held → is_confirm held.0 ≡ true → R t → R (without_entry q t)
  pub mixed : (t : State) → R t → R (record t { rota = (mixed_of t.words t.rota).0; words = (mixed_of t.words t.rota).1 })
  pub relay_added : (t : State) (relay : ℕ × ℕ) → has_relays s ≡ true → R t → R (record t { relays = set.insert t.relays relay })
  pub relay_removed : (t : State) (relay : ℕ × ℕ) → R t → R (record t { relays = set.remove t.relays relay })
  -- the next probe waits for the present one, or no more
  pub waiting : (t : State) (waits : Bool) → R t → R (record t { waits = waits })
  pub beaten : (t : State) (beat : ℕ) → R t → R (record t { beat = beat })
  -- oneself
  pub heard_dead : (t : State) → R t → R (record t { heard_dead = true })
  pub refuted : (t : State) (claim : Claim) (number : ℕ) → does_refute (profile_of s) t.incarnation claim number ≡ true → R t → R (record t { incarnation = number + 1 })
  pub weakened : (t : State) (failures : ℕ) → R t → R (record t { health = raised t.health failures })
  pub mended : (t : State) → R t → R (record t { health = lowered t.health })
  -- phases
  pub welcomed : (t : State) → R t → R (record t { phase = Running })
  pub downed : (t : State) → R t → R (record t { phase = Down })
  pub began : (t : State) → t.phase ≡ Waiting → R t → R (at_once s k t)
  pub late : (t : State) → t.phase ≡ Waiting → R t → R (at_late t)
  -- lives, by memberlist 0.5.0's rules alone
  pub asked : (t : State) (contact : ℕ) → R t → t.life.contact ≡ Some contact → Named contact
  pub answered : (t : State) → R t → R (record t { life = record t.life { contact = None } })
  pub leaving : (t : State) (leaving : Leaving) → R t → R (with_leaving leaving t)
  pub alone : (t : State) → t.phase ≡ Waiting → profile_of s ≡ Hashicorp → R t → R (at_alone s k t)
  pub again : (t : State) (contact : Option ℕ) → profile_of s ≡ Hashicorp → IfSome contact Named → R t → R (at_again s k contact t)

-- what a member refutes, it would refute whether or not it says that it has left
pub refuted_does : (profile : Profile) (t : State) (claim : Claim) (number : ℕ) → is_refuted profile t claim number ≡ true → does_refute profile t.incarnation claim number ≡ true
refuted_does Papers t claim number h = h
refuted_does Memberlist t claim number h = h
refuted_does Hashicorp t claim number h = (and_parts (not (has_said t.life.leaving)) (does_refute Hashicorp t.incarnation claim number) h).1

either : (P : State → Type 0) (b : Bool) (t v : State) → P t → P v → P (cond b t v)
either P true t v a c = a
either P false t v a c = c

-- What is so of a state with the claim, and with the subject in its rota or out of it too, is so where the claim is kept.
pub kept_either : (P : State → Type 0) (profile : Profile) (u : Update) (t : State) → P (record (with_claim u t) { rota = remove_of u.subject t.rota }) → P (with_claim u t)
    → P (with_place u.subject (with_claim u t)) → P (with_newcomer u.subject (with_claim u t)) → P (claim_kept_by profile u t)
unfolding claim_kept newcomer_kept
kept_either P Papers u t out plain placed new = either P (is_confirm u.claim) _ _ out (either P (is_probed (get t.table u.subject)) _ _ plain placed)
kept_either P Memberlist u t out plain placed new = either P (is_confirm u.claim) _ _ out (either P (is_probed (get t.table u.subject)) _ _ plain placed)
kept_either P Hashicorp u t out plain placed new = either P (is_confirm u.claim) _ _ out (turn (get t.table u.subject))
  where
    turn : (held : Option (Claim × ℕ)) → P (with_turn_of held u.subject (with_claim u t))
    turn None = new
    turn (Some held) = either P (is_confirm held.0) _ _ placed plain

-- what is so whether or not the moment of a death is kept
pub death_either : (P : State → Type 0) (profile : Profile) (subject now : ℕ) (t : State) → P t → P (record t { since = confirmed_at subject now t.since }) → P (death_kept profile subject now t)
death_either P Papers subject now t plain kept = plain
death_either P Memberlist subject now t plain kept = kept
death_either P Hashicorp subject now t plain kept = kept

-- and what is so of any regards, where a claim changes them
pub regards_either : (P : State → Type 0) (serf : Option Serf) (now : ℕ) (u : Update) (t : State) → P t → ((regard : Regard) → P (with_regard u.subject regard t)) → P (regards_kept serf now u t)
regards_either P None now u t plain other = plain
regards_either P (Some serf) now u t plain other =
    either P (is_alive u.claim) _ _ (other Usual) (either P (is_confirm u.claim) _ _ (other (gone_now now (t.life.regards u.subject))) plain)

-- what a put, and a message, leaves
pub put_either : (P : State → Type 0) (s : Setup) (queue : Option Queue) (u : Update) (t : State) → ((buffer : _) → P (record t { buffer = buffer })) → ((queue : _) → P (record t { life = record t.life { queue = queue } })) → P (put_up s queue u t)
put_either P s None u t buffered queued = buffered _
put_either P s (Some q) u t buffered queued = queued _

-- nobody is left out
abbrev pub Anyone : ℕ → Type 0
Anyone q = Unit {0}

-- ---- facts of a phase, an incarnation number, a health and a table alone

abbrev pub FactOf : (Phase → ℕ → LocalHealth → Known → Type 0) → State → Type 0
FactOf P t = P t.phase t.incarnation t.health t.table

-- News keep such a fact where a claim that is taken in does.
pub keeps_news : (s : Setup) (k : Key) (P : Phase → ℕ → LocalHealth → Known → Type 0)
    → ((t : State) (u : Update) → IsNews (profile_of s) k.to t u → FactOf P t → FactOf P (with_claim u t)) → NewsMoves s k Anyone (FactOf P)
keeps_news s k P claimed = record {
  counted = λ t h. h;
  put = λ t u named h. put_either (FactOf P) s s.queue u t (λ buffer. h) (λ queue. h);
  alive = λ t u named says e h. kept t u says h;
  suspect = λ t u x named says e begins h. kept t u says h;
  confirm = λ t u named says e h. death_either (FactOf P) (profile_of s) u.subject k.at (without_suspicion u.subject (claim_kept_by (profile_of s) u t)) (kept t u says h) (kept t u says h);
  accused = λ t u h. h;
  gossiping = λ t set h. h;
  regarding = λ t regards h. h;
  intended = λ t u named h. h;
}
  where
    kept : (t : State) (u : Update) → IsNews (profile_of s) k.to t u → FactOf P t → FactOf P (claim_kept_by (profile_of s) u t)
    kept t u says h = kept_either (FactOf P) (profile_of s) u t (claimed t u says h) (claimed t u says h) (claimed t u says h) (claimed t u says h)

-- The other changes that there are to these four.
pub record OwnMoves (s : Setup) (k : Key) (R : State → Type 0) : Type 0 where
  pub refuted : (t : State) (claim : Claim) (number : ℕ) → does_refute (profile_of s) t.incarnation claim number ≡ true → R t → R (record t { incarnation = number + 1 })
  pub weakened : (t : State) (failures : ℕ) → R t → R (record t { health = raised t.health failures })
  pub mended : (t : State) → R t → R (record t { health = lowered t.health })
  pub welcomed : (t : State) → R t → R (record t { phase = Running })
  pub downed : (t : State) → R t → R (record t { phase = Down })
  pub forgotten : (t : State) (q : ℕ) (held : Claim × ℕ) → profile_of s ≡ Hashicorp → get t.table q ≡ Some held → is_confirm held.0 ≡ true → R t → R (without_entry q t)
  pub began : (t : State) → t.phase ≡ Waiting → R t → R (at_once s k t)
  pub late : (t : State) → t.phase ≡ Waiting → R t → R (at_late t)
  pub alone : (t : State) → t.phase ≡ Waiting → profile_of s ≡ Hashicorp → R t → R (at_alone s k t)
  pub again : (t : State) (contact : Option ℕ) → profile_of s ≡ Hashicorp → R t → R (at_again s k contact t)

claims_kept : (P : Phase → ℕ → LocalHealth → Known → Type 0) (s : Setup) (queue : Option Queue) (room : ℕ) (t : State) → FactOf P t → FactOf P (without_claims s queue room t)
claims_kept P s None room t h = h
claims_kept P s (Some q) room t h = h

ridden_kept : (P : Phase → ℕ → LocalHealth → Known → Type 0) (s : Setup) (k : Key) (t : State) (bearer : _) → FactOf P t → FactOf P (without_both s k.to bearer t)
unfolding without_both
ridden_kept P s k t bearer h = claims_kept P s s.queue (room_of s k.to bearer s.queue) t h

-- And those that there are to a fact of one life: who starts again has another.
pub record LifeMoves (s : Setup) (k : Key) (R : State → Type 0) : Type 0 where
  pub refuted : (t : State) (claim : Claim) (number : ℕ) → does_refute (profile_of s) t.incarnation claim number ≡ true → R t → R (record t { incarnation = number + 1 })
  pub weakened : (t : State) (failures : ℕ) → R t → R (record t { health = raised t.health failures })
  pub mended : (t : State) → R t → R (record t { health = lowered t.health })
  pub welcomed : (t : State) → R t → R (record t { phase = Running })
  pub downed : (t : State) → R t → R (record t { phase = Down })
  pub forgotten : (t : State) (q : ℕ) (held : Claim × ℕ) → profile_of s ≡ Hashicorp → get t.table q ≡ Some held → is_confirm held.0 ≡ true → R t → R (without_entry q t)
  pub began : (t : State) → t.phase ≡ Waiting → R t → R (at_once s k t)
  pub late : (t : State) → t.phase ≡ Waiting → R t → R (at_late t)
  pub alone : (t : State) → t.phase ≡ Waiting → profile_of s ≡ Hashicorp → R t → R (at_alone s k t)

pub keeps_moves : (s : Setup) (k : Key) (P : Phase → ℕ → LocalHealth → Known → Type 0) → OwnMoves s k (FactOf P) → Moves s k Anyone (FactOf P)
keeps_moves s k P own = record {
  own = tt;
  known = λ t q held h here. tt;
  drawn = λ t rest is h. h;
  picked = λ t buddy h. h;
  ridden = λ t bearer h. ridden_kept P s k t bearer h;
  aimed = λ t probe h is. tt;
  targets = λ t target h is. tt;
  probing = λ t seq probe up aim h. h;
  turned = λ t h. h;
  forgotten = own.forgotten;
  mixed = λ t h. h;
  relay_added = λ t relay on h. h;
  relay_removed = λ t relay h. h;
  waiting = λ t waits h. h;
  beaten = λ t beat h. h;
  heard_dead = λ t h. h;
  refuted = own.refuted;
  weakened = own.weakened;
  mended = own.mended;
  welcomed = own.welcomed;
  downed = own.downed;
  began = own.began;
  late = own.late;
  asked = λ t contact h is. tt;
  answered = λ t h. h;
  leaving = λ t leaving h. h;
  alone = own.alone;
  again = λ t contact rules named h. own.again t contact rules h;
}
