-- What a table holds of each member, in one byte, as claims.
use Rattle.std.proofs.Common.{◌≡◌, ℕ, ◌+◌, ◌<◌, List, length, set, get_or, Option, None, sum_by, sym, ap, ◌∙◌, arith}
use Rattle.std.proofs.lemmas.List.{map-set, length-map, get_or-map, get_or_read}
use Rattle.std.proofs.lemmas.List.Sums.{sum_by-set}
use Rattle.incarnation.specs.declared.Claim.{Claim}
use Rattle.membership.specs.declared.held.Held.{Held}
use Rattle.membership.specs.declared.held.Held.TheVariants.{Nothing}
use Rattle.membership.specs.Columns.{claim_at}
use Rattle.membership.specs.Held.{claim_of, claims_in}

pub claims_long : (held : List Held) → length (claims_in held) ≡ length held
claims_long held = length-map held claim_of

-- what was read at a place
pub claim_read : (held : List Held) (place : ℕ) (h : Held) → place < length held → h ≡ get_or held place h → claim_of h ≡ claim_at (claims_in held) place
claim_read held place h within is = ap claim_of (get_or_read held place h within is Nothing) ∙ sym (get_or-map claim_of held place Nothing None within)

-- what was written there
pub claims_set : (held : List Held) (place : ℕ) (h : Held) (claim : Option Claim) → claim_of h ≡ claim → claims_in (set held place h) ≡ set (claims_in held) place claim
claims_set held place h claim is = map-set claim_of held place h ∙ ap (set (claims_in held) place) is

-- and what it adds to a sum
pub sum_set : (f : Option Claim → ℕ) (held : List Held) (place : ℕ) (h old : Held) (claim : Option Claim) → place < length held → old ≡ get_or held place old → claim_of h ≡ claim
    → sum_by f (claims_in (set held place h)) + f (claim_of old) ≡ sum_by f (claims_in held) + f claim
sum_set f held place h old claim within was is =
    (λ i. sum_by f (claims_set held place h claim is i) + f (claim_read held place old within was i))
    ∙ sum_by-set f (claims_in held) place claim None (omega (arith, within, claims_long held))
