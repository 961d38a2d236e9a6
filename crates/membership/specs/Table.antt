-- What a member holds of others (SWIM, section 4.2), and what is read from it.
use Rattle.std.specs.Prelude.{ℕ, ◌+◌, ◌&&◌, ◌||◌, Bool, true, false, not, nat_lt, nat_le, nat_eq, if◌then◌else◌, List, length, map, filter, count_by}
use Rattle.std.specs.Ordering.{nat_cmp}
use Rattle.std.specs.FinMap.{FinMap, entries, from_entries}
use Rattle.base.specs.declared.profile.Profile.{Profile}
use Rattle.base.specs.declared.profile.Profile.TheVariants.{Papers, Memberlist, Hashicorp}
use Rattle.incarnation.specs.declared.Claim.{Claim}
use Rattle.incarnation.specs.declared.Claim.TheVariants.{Alive, Suspect, Confirm, Left, Intent}
use Rattle.incarnation.specs.declared.Update.{Update}

-- what a member holds of others: for each that it knows, a claim with its incarnation number
abbrev pub Known : Type 0
Known = FinMap nat_cmp (Claim × ℕ)

-- what these entries say
abbrev pub known_of : List (ℕ × (Claim × ℕ)) → Known
known_of es = from_entries es

abbrev pub is_alive : Claim → Bool
is_alive Alive = true
is_alive Suspect = false
is_alive Confirm = false
is_alive Left = false
is_alive Intent = false

abbrev pub is_suspect : Claim → Bool
is_suspect Alive = false
is_suspect Suspect = true
is_suspect Confirm = false
is_suspect Left = false
is_suspect Intent = false

-- whether a member is held to be down: confirmed, or gone by its own word
abbrev pub is_confirm : Claim → Bool
is_confirm Alive = false
is_confirm Suspect = false
is_confirm Confirm = true
is_confirm Left = true
is_confirm Intent = false

-- whether a member is held to have left
abbrev pub is_left : Claim → Bool
is_left Alive = false
is_left Suspect = false
is_left Confirm = false
is_left Left = true
is_left Intent = false

-- whether it is no claim, but says that a member is about to leave
abbrev pub is_intent : Claim → Bool
is_intent Alive = false
is_intent Suspect = false
is_intent Confirm = false
is_intent Left = false
is_intent Intent = true

-- whether both are claims
abbrev pub are_claims : Claim → Claim → Bool
are_claims a b = not (is_intent a) && not (is_intent b)

-- by memberlist's rules, whether the first claim overrides the second, where both are claims
abbrev pub overrides_until_refuted : Claim × ℕ → Claim × ℕ → Bool
overrides_until_refuted new old =
    if is_alive new.0 then nat_lt old.1 new.1 else (is_alive old.0 || (is_confirm new.0 && is_suspect old.0)) && nat_le old.1 new.1

-- whether the first claim overrides the second: the relation `Overrides` as a test
abbrev pub does_override : Profile → Claim × ℕ → Claim × ℕ → Bool
does_override Papers new old =
    are_claims new.0 old.0 && not (is_confirm old.0) && (is_confirm new.0 || nat_lt old.1 new.1 || (is_suspect new.0 && is_alive old.0 && nat_eq new.1 old.1))
does_override Memberlist new old =
    are_claims new.0 old.0 && overrides_until_refuted new old
does_override Hashicorp new old =
    are_claims new.0 old.0 && overrides_until_refuted new old

-- n, the members that are not confirmed, oneself included
unfoldable pub live_count : Known → ℕ
live_count table = 1 + count_by (λ e. not (is_confirm e.1.0)) (entries table)

-- n by memberlist 0.5.0's rules: all that are known, whatever is held of them, and oneself
unfoldable pub known_count : Known → ℕ
known_count table = 1 + length (entries table)

-- n, as the rules of a profile count the cluster's members
abbrev pub size_by : Profile → Known → ℕ
size_by Papers table = live_count table
size_by Memberlist table = live_count table
size_by Hashicorp table = known_count table

-- the members that are held to be alive, but one, in the order of their numbers
unfoldable pub alive_but : ℕ → Known → List ℕ
alive_but member table = map (λ e. e.0) (filter (λ e. is_alive e.1.0 && not (nat_eq e.0 member)) (entries table))

-- an entry as an update of which a member is the accuser
abbrev pub update_by : ℕ → ℕ × (Claim × ℕ) → Update
update_by accuser e = record { subject = e.0; claim = e.1.0; inc = e.1.1; accuser = accuser }

-- all entries so, in the order of the members' numbers
unfoldable pub updates_by : ℕ → Known → List Update
updates_by accuser table = map (update_by accuser) (entries table)

-- these members, each held to be alive at number 0
unfoldable pub all_alive : List ℕ → Known
all_alive members = from_entries (map (λ m. (m, (Alive, 0))) members)
