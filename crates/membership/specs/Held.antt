-- What a table holds of each member, in one byte, as claims.
use Rattle.std.specs.Prelude.{List, Option, Some, None, map}
use Rattle.incarnation.specs.declared.Claim.{Claim}
use Rattle.incarnation.specs.declared.Claim.TheVariants as claim
use Rattle.membership.specs.declared.held.Held.{Held}
use Rattle.membership.specs.declared.held.Held.TheVariants.{Alive, Suspect, Confirm, Left, Intent, Nothing}

-- the claim that is held, if there is one
abbrev pub claim_of : Held → Option Claim
claim_of Alive = Some claim.Alive
claim_of Suspect = Some claim.Suspect
claim_of Confirm = Some claim.Confirm
claim_of Left = Some claim.Left
claim_of Intent = Some claim.Intent
claim_of Nothing = None

-- the claims of a column
abbrev pub claims_in : List Held → List (Option Claim)
claims_in held = map claim_of held
