-- Which suspicion a ping carries.
use Rattle.std.proofs.Common.{◌≡◌, ℕ, Option, Some, None, refl, inl, inr}
use Rattle.std.proofs.lemmas.Bool.{cases_Bool}
use Rattle.incarnation.specs.declared.Claim.{Claim}
use Rattle.suspicion.specs.Suspicions.{first_accuser_of}
use Rattle.membership.specs.Table.{is_suspect}
use Rattle.member.specs.State.{State}
use Rattle.member.specs.Send.{suspicion_told}

-- of none, where no suspicion stands, whatever the table holds
pub none_told : (t : State) (to : ℕ) (held : Option (Claim × ℕ)) → first_accuser_of t.suspicions to ≡ None → suspicion_told t to held ≡ None
none_told t to None none = refl
none_told t to (Some held) none =
    elim (cases_Bool (is_suspect held.0)) [
      | inl suspected ↦ rw (suspected, none) refl
      | inr other ↦ rw other refl
    ]
