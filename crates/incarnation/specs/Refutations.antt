-- Which claims about itself a member refutes, by the incarnation number after the claim's (SWIM, section 4.2).
use Rattle.std.specs.Prelude.{ℕ, Bool, false, nat_eq, nat_le, nat_lt}
use Rattle.base.specs.declared.profile.Profile.{Profile}
use Rattle.base.specs.declared.profile.Profile.TheVariants.{Papers, Memberlist, Hashicorp}
use Rattle.incarnation.specs.declared.Claim.{Claim}
use Rattle.incarnation.specs.declared.Claim.TheVariants.{Alive, Suspect, Confirm, Left, Intent}

-- a member with its own number, and a claim about it with a number: by the papers' rules it refutes a suspicion at its own number, by memberlist's
-- whatever holds it not to be up, at its own number or over it, and by memberlist 0.5.0's also what holds it to be up over its own number
abbrev pub does_refute : Profile → ℕ → Claim → ℕ → Bool
does_refute Papers own Alive number = false
does_refute Papers own Suspect number = nat_eq number own
does_refute Papers own Confirm number = false
does_refute Papers own Left number = false
does_refute Papers own Intent number = false
does_refute Memberlist own Alive number = false
does_refute Memberlist own Suspect number = nat_le own number
does_refute Memberlist own Confirm number = nat_le own number
does_refute Memberlist own Left number = nat_le own number
does_refute Memberlist own Intent number = false
does_refute Hashicorp own Alive number = nat_lt own number
does_refute Hashicorp own Suspect number = nat_le own number
does_refute Hashicorp own Confirm number = nat_le own number
does_refute Hashicorp own Left number = nat_le own number
does_refute Hashicorp own Intent number = false
