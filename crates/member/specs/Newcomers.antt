-- How a claim is taken in by memberlist 0.5.0's rules (state.go: aliveNode): a member that isn't known takes the place of one that is probed, who goes to
-- the end. One that is up again comes to a drawn place, as by the older rules.
use Rattle.std.specs.Prelude.{ℕ, if◌then◌else◌, Option, Some, None}
use Rattle.std.specs.FinMap.{get}
use Rattle.base.specs.declared.profile.Profile.{Profile}
use Rattle.base.specs.declared.profile.Profile.TheVariants.{Papers, Memberlist, Hashicorp}
use Rattle.incarnation.specs.declared.Claim.{Claim}
use Rattle.incarnation.specs.declared.Update.{Update}
use Rattle.probing.specs.ProbeOrder.{remove_of}
use Rattle.probing.specs.Displaced.{displaced_of}
use Rattle.membership.specs.Table.{is_confirm}
use Rattle.member.specs.State.{State}
use Rattle.member.specs.Claims.{with_claim, with_place, with_rota, claim_kept}

-- the subject in another one's place of the rota
abbrev pub with_newcomer : ℕ → State → State
with_newcomer subject t =
    let placed = displaced_of t.words subject t.rota in
    record t { rota = placed.0; words = placed.1 }

-- who isn't confirmed now is probed from now on, by what was held of it
abbrev pub with_turn_of : Option (Claim × ℕ) → ℕ → State → State
with_turn_of None subject t = with_newcomer subject t
with_turn_of (Some held) subject t = if is_confirm held.0 then with_place subject t else t

-- The table has the claim, and the subject its turn among those who are probed, or none.
unfoldable pub newcomer_kept : Update → State → State
newcomer_kept u t =
    if is_confirm u.claim then with_rota (remove_of u.subject t.rota) (with_claim u t)
    else with_turn_of (get t.table u.subject) u.subject (with_claim u t)

-- by the rules of a profile
abbrev pub claim_kept_by : Profile → Update → State → State
claim_kept_by Papers u t = claim_kept u t
claim_kept_by Memberlist u t = claim_kept u t
claim_kept_by Hashicorp u t = newcomer_kept u t
