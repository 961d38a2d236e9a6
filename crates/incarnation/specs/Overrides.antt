-- Which claim takes the place of which (SWIM, section 4.2).
use Rattle.std.specs.Prelude.{ℕ, ◌<◌, ◌≤◌, Bool, true, false}
use Rattle.base.specs.declared.profile.Profile.{Profile}
use Rattle.base.specs.declared.profile.Profile.TheVariants.{Papers, Memberlist, Hashicorp}
use Rattle.incarnation.specs.declared.Claim.{Claim}
use Rattle.incarnation.specs.declared.Claim.TheVariants.{Alive, Suspect, Confirm, Left, Intent}

-- whether a claim says that a member is up, or that it may be
abbrev pub is_up : Claim → Bool
is_up Alive = true
is_up Suspect = true
is_up Confirm = false
is_up Left = false
is_up Intent = false

-- By the papers' rules a claim with its incarnation number, first the new one, overrides the old one about the same member. Confirm is for good, and Left
-- too; an intent overrides nothing, and nobody holds one.
abbrev pub OverridesForGood : Claim × ℕ → Claim × ℕ → Type 0
OverridesForGood (Alive, i) (Alive, j) = j < i
OverridesForGood (Alive, i) (Suspect, j) = j < i
OverridesForGood (Suspect, i) (Suspect, j) = j < i
OverridesForGood (Suspect, i) (Alive, j) = j ≤ i
OverridesForGood (Confirm, i) (Alive, j) = Unit {0}
OverridesForGood (Confirm, i) (Suspect, j) = Unit {0}
OverridesForGood (Alive, i) (Confirm, j) = ⊥
OverridesForGood (Suspect, i) (Confirm, j) = ⊥
OverridesForGood (Confirm, i) (Confirm, j) = ⊥
OverridesForGood (Left, i) (Alive, j) = Unit {0}
OverridesForGood (Left, i) (Suspect, j) = Unit {0}
OverridesForGood (Left, i) (Confirm, j) = ⊥
OverridesForGood (Left, i) (Left, j) = ⊥
OverridesForGood (Alive, i) (Left, j) = ⊥
OverridesForGood (Suspect, i) (Left, j) = ⊥
OverridesForGood (Confirm, i) (Left, j) = ⊥
OverridesForGood (Intent, i) _ = ⊥
OverridesForGood _ (Intent, j) = ⊥

-- By memberlist's rules: a death can be refuted, and so can it that a member has left, and a suspicion that stands is not begun anew.
abbrev pub OverridesUntilRefuted : Claim × ℕ → Claim × ℕ → Type 0
OverridesUntilRefuted (Alive, i) (Alive, j) = j < i
OverridesUntilRefuted (Alive, i) (Suspect, j) = j < i
OverridesUntilRefuted (Alive, i) (Confirm, j) = j < i
OverridesUntilRefuted (Suspect, i) (Alive, j) = j ≤ i
OverridesUntilRefuted (Confirm, i) (Alive, j) = j ≤ i
OverridesUntilRefuted (Confirm, i) (Suspect, j) = j ≤ i
OverridesUntilRefuted (Suspect, i) (Suspect, j) = ⊥
OverridesUntilRefuted (Suspect, i) (Confirm, j) = ⊥
OverridesUntilRefuted (Confirm, i) (Confirm, j) = ⊥
OverridesUntilRefuted (Left, i) (Alive, j) = j ≤ i
OverridesUntilRefuted (Left, i) (Suspect, j) = j ≤ i
OverridesUntilRefuted (Left, i) (Confirm, j) = ⊥
OverridesUntilRefuted (Left, i) (Left, j) = ⊥
OverridesUntilRefuted (Alive, i) (Left, j) = j < i
OverridesUntilRefuted (Suspect, i) (Left, j) = ⊥
OverridesUntilRefuted (Confirm, i) (Left, j) = ⊥
OverridesUntilRefuted (Intent, i) _ = ⊥
OverridesUntilRefuted _ (Intent, j) = ⊥

abbrev pub Overrides : Profile → Claim × ℕ → Claim × ℕ → Type 0
Overrides Papers new old = OverridesForGood new old
Overrides Memberlist new old = OverridesUntilRefuted new old
Overrides Hashicorp new old = OverridesUntilRefuted new old
