-- An entry that says of another member that it is alive, who is held alive by its word or a later one, changes nothing.
use Rattle.std.proofs.Common.{◌≡◌, ℕ, Bool, true, false, ◌&&◌, ◌||◌, nat_eq, nat_le, nat_lt, Option, Some, None, refl, sym, ap, ◌∙◌, arith}
use Rattle.std.specs.Prelude.{not, if◌then◌else◌}
use Rattle.std.specs.Option.{option_map_or}
use Rattle.std.specs.FinMap.{get}
use Rattle.std.proofs.lemmas.Bool.{false≢true}
use Rattle.base.specs.declared.key.Key.{Key}
use Rattle.base.specs.declared.profile.Profile.{Profile}
use Rattle.base.specs.declared.profile.Profile.TheVariants.{Papers, Memberlist, Hashicorp}
use Rattle.scenario.specs.Setup.{Setup}
use Rattle.scenario.specs.Profile.{profile_of}
use Rattle.scenario.specs.declared.settings.Serf.{Serf}
use Rattle.incarnation.specs.declared.Claim.{Claim}
use Rattle.incarnation.specs.declared.Claim.TheVariants.{Alive, Suspect, Confirm, Left, Intent}
use Rattle.incarnation.specs.declared.Update.{Update}
use Rattle.membership.specs.Table.{is_alive, does_override}
use Rattle.member.specs.declared.announce.Announce.TheVariants.{Aloud}
use Rattle.member.specs.State.{State}
use Rattle.member.specs.Effects.{Effect, on_state}
use Rattle.member.specs.Apply.{applied, claim_applied, other_applied, own_applied, news_heard}
use Rattle.member.specs.Merges.{entry_merged, is_known_alive, leave_noted}

both_first : (a b : Bool) → (a && b) ≡ true → a ≡ true
both_first true b are = refl
both_first false b are = absurd (false≢true are)

both_second : (a b : Bool) → (a && b) ≡ true → b ≡ true
both_second true b are = are
both_second false b are = absurd (false≢true are)

isnt : (a : Bool) → not a ≡ true → a ≡ false
isnt false is = refl
isnt true is = absurd (false≢true is)

not_later : (i j : ℕ) → nat_le i j ≡ true → nat_lt j i ≡ false
not_later i j le = grind arith

stands : (p : Profile) (i j : ℕ) → nat_le i j ≡ true → does_override p (Alive, i) (Alive, j) ≡ false
stands Papers i j le = ap (λ b. b || false) (not_later i j le)
stands Memberlist i j le = not_later i j le
stands Hashicorp i j le = not_later i j le

module _ (s : Setup) (k : Key) (subject inc : ℕ) (o : Effect) where
  -- what the entry claims
  said : ℕ → Update
  said accuser = record { subject = subject; claim = Alive; inc = inc; accuser = accuser }

  held_alive : (accuser : ℕ) (held : Option (Claim × ℕ)) → option_map_or (λ it. is_alive it.0 && nat_le inc it.1) held false ≡ true → other_applied s Aloud k (said accuser) held o ≡ o
  unfolding said
  held_alive accuser None is = absurd (false≢true is)
  held_alive accuser (Some (Alive, number)) is = ap (λ b. if b then news_heard s Aloud k (said accuser) o else o) (stands (profile_of s) inc number is)
  held_alive accuser (Some (Suspect, number)) is = absurd (false≢true is)
  held_alive accuser (Some (Confirm, number)) is = absurd (false≢true is)
  held_alive accuser (Some (Left, number)) is = absurd (false≢true is)
  held_alive accuser (Some (Intent, number)) is = absurd (false≢true is)

  alive_applied : (accuser : ℕ) → nat_eq subject k.to ≡ false → option_map_or (λ it. is_alive it.0 && nat_le inc it.1) (get o.state.table subject) false ≡ true
      → applied s Aloud k (said accuser) o ≡ o
  unfolding said applied claim_applied
  alive_applied accuser other is =
      ap (λ b. if b then own_applied s k Alive inc o else other_applied s Aloud k (said accuser) (get o.state.table subject) o) other
      ∙ held_alive accuser (get o.state.table subject) is

  no_leave : (serf : Option Serf) (accuser : ℕ) (t : State) → leave_noted serf k.to (said accuser) t ≡ t
  unfolding said
  no_leave None accuser t = refl
  no_leave (Some serf) accuser t = refl

  merged : (claim : Claim) (accuser : ℕ) → is_known_alive k.to (record { subject = subject; claim = claim; inc = inc; accuser = accuser }) o.state ≡ true
      → entry_merged s k (record { subject = subject; claim = claim; inc = inc; accuser = accuser }) o ≡ o
  unfolding said
  merged Alive accuser is =
      ap (on_state (leave_noted s.serf k.to (said accuser))) (alive_applied k.to (isnt _ (both_first _ _ is)) (both_second _ _ is))
      ∙ ap (λ (t : State). record o { state = t }) (no_leave s.serf accuser o.state)
  merged Suspect accuser is = absurd (false≢true is)
  merged Confirm accuser is = absurd (false≢true is)
  merged Left accuser is = absurd (false≢true is)
  merged Intent accuser is = absurd (false≢true is)

pub known_alive_stays : (s : Setup) (k : Key) (u : Update) (o : Effect) → is_known_alive k.to u o.state ≡ true → entry_merged s k u o ≡ o
known_alive_stays s k u o is = merged s k u.subject u.inc o u.claim u.accuser is
