-- A suspect that is confirmed in the event of an accusation: the death is news.
use Rattle.std.proofs.Common.{◌≡◌, ℕ, Bool, true, false, cond, ◌&&◌, Option, Some, None, refl, ap, ◌∙◌, arith}
use Rattle.std.specs.Option.{IfSome}
use Rattle.std.specs.FinMap.{get}
use Rattle.std.proofs.lemmas.Bool.{false≢true, le-leb}
use Rattle.base.specs.declared.key.Key.{Key}
use Rattle.base.specs.declared.profile.Profile.{Profile}
use Rattle.base.specs.declared.profile.Profile.TheVariants.{Papers, Memberlist, Hashicorp}
use Rattle.scenario.specs.Setup.{Setup}
use Rattle.scenario.specs.declared.settings.Gossip as settings
use Rattle.trace.specs.declared.row.What.{What}
use Rattle.incarnation.specs.declared.Claim.{Claim}
use Rattle.incarnation.specs.declared.Claim.TheVariants.{Alive, Suspect, Confirm, Left, Intent}
use Rattle.incarnation.specs.declared.Update.{Update}
use Rattle.membership.specs.Table.{Known, is_suspect, does_override}
use Rattle.member.specs.declared.announce.Announce.{Announce}
use Rattle.member.specs.declared.announce.Announce.TheVariants.{Aloud, Quietly}
use Rattle.scenario.specs.declared.settings.Queue.{Queue}
use Rattle.member.specs.State.{State}
use Rattle.member.specs.Riding.{put_up}
use Rattle.member.specs.Effects.{Effect, on_state, with_row, with_event}
use Rattle.member.specs.Apply.{gossip_set, with_put, passed_on, with_told, is_of_number, is_repeated}
use Rattle.member.specs.LoneBuddy.{suspicion_held}
use Rattle.member_laws.proofs.Moves.{is_news}

-- ---- what is passed on changes no table

either_table : (b : Bool) (o p : Effect) (table : Known) → o.state.table ≡ table → p.state.table ≡ table → (cond b o p).state.table ≡ table
either_table true o p table a c = a
either_table false o p table a c = c

gossip_table : (s : Setup) (k : Key) (gossip : Option settings.Gossip) (o : Effect) → (gossip_set s k gossip o).state.table ≡ o.state.table
unfolding with_event
gossip_table s k None o = refl
gossip_table s k (Some gossip) o = either_table o.state.gossips _ _ o.state.table refl refl

put_table : (s : Setup) (queue : Option Queue) (u : Update) (t : State) → (put_up s queue u t).table ≡ t.table
put_table s None u t = refl
put_table s (Some q) u t = refl

passed_table : (s : Setup) (k : Key) (telling : Announce) (u : Update) (o : Effect) → (passed_on s k telling u o).state.table ≡ o.state.table
unfolding passed_on with_put
passed_table s k Aloud u o = gossip_table s k s.gossip (on_state (put_up s s.queue u) o) ∙ put_table s s.queue u o.state
passed_table s k Quietly u o = refl

told_table : (telling : Announce) (k : Key) (tells : What) (subject value : ℕ) (o : Effect) → (with_told telling k tells subject value o).state.table ≡ o.state.table
unfolding with_row
told_table Aloud k tells subject value o = refl
told_table Quietly k tells subject value o = refl

-- ---- the death of a suspect

middle : (a b c : Bool) → (a && b && c) ≡ true → b ≡ true
middle true true c h = refl
middle true false c h = h
middle false b c h = absurd (false≢true h)

-- who is accused again is suspected
pub repeated_suspect : (profile : Profile) (u : Update) (held : Claim × ℕ) → is_repeated profile u held ≡ true → is_suspect held.0 ≡ true
repeated_suspect profile u held h = middle (is_suspect u.claim) (is_suspect held.0) (is_of_number profile u.inc held.1) h

-- whatever the rules, a death overrides a suspicion of the same number
death_overrides : (profile : Profile) (claim : Claim) (number : ℕ) → is_suspect claim ≡ true → does_override profile (Confirm, number) (claim, number) ≡ true
death_overrides profile Alive number h = absurd (false≢true h)
death_overrides Papers Suspect number h = refl
death_overrides Memberlist Suspect number h = le-leb number number (omega arith)
death_overrides Hashicorp Suspect number h = le-leb number number (omega arith)
death_overrides profile Confirm number h = absurd (false≢true h)
death_overrides profile Left number h = absurd (false≢true h)
death_overrides profile Intent number h = absurd (false≢true h)

-- so it is news after the accusation was passed on
pub death_after : (s : Setup) (profile : Profile) (k : Key) (telling : Announce) (tells : What) (u : Update) (held : Claim × ℕ) (value : ℕ) (o : Effect)
    → get o.state.table u.subject ≡ Some held → is_suspect held.0 ≡ true
    → is_news profile (Confirm, held.1) (get (passed_on s k telling u (with_told telling k tells u.subject value o)).state.table u.subject) ≡ true
death_after s profile k telling tells u held value o here suspected =
    ap (λ (table : Known). is_news profile (Confirm, held.1) (get table u.subject)) (passed_table s k telling u (with_told telling k tells u.subject value o) ∙ told_table telling k tells u.subject value o)
    ∙ ap (is_news profile (Confirm, held.1)) here ∙ death_overrides profile held.0 held.1 suspected

-- ---- a buddy

abbrev lone : ℕ → ℕ → ℕ → Update
lone me to number = record { subject = to; claim = Suspect; inc = number; accuser = me }

lone_if : (Named : ℕ → Type 0) (b : Bool) (me to number : ℕ) → Named to → IfSome (cond b (Some (lone me to number)) None) (λ u. Named u.subject)
lone_if Named true me to number there = there
lone_if Named false me to number there = tt

pub lone_about : (Named : ℕ → Type 0) (b : Bool) (me to : ℕ) (held : Option (Claim × ℕ)) → Named to → IfSome (cond b (suspicion_held me to held) None) (λ u. Named u.subject)
lone_about Named false me to held there = tt
lone_about Named true me to None there = tt
lone_about Named true me to (Some held) there = lone_if Named (is_suspect held.0) me to held.1 there
