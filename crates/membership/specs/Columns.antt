-- Claims and incarnation numbers in columns, by the numbers of the members they are about.
use Rattle.std.specs.Prelude.{◌≡◌, ℕ, ◌+◌, ◌≤◌, ◌^◌, not, if◌then◌else◌, List, [], ◌∷◌, Option, Some, None, length, slice_index, slice_index_or, sum_by}
use Rattle.std.specs.Option.{option_map}
use Rattle.incarnation.specs.declared.Claim.{Claim}
use Rattle.membership.specs.Table.{is_confirm}

-- what the columns hold from a number on
abbrev pub entries_from : ℕ → List (Option Claim) → List ℕ → List (ℕ × (Claim × ℕ))
entries_from number [] incs = []
entries_from number (None ∷ claims) incs = entries_from (number + 1) claims incs
entries_from number (Some claim ∷ claims) incs = (number, (claim, slice_index incs number)) ∷ entries_from (number + 1) claims incs

-- the claim about a member
abbrev pub claim_at : List (Option Claim) → ℕ → Option Claim
claim_at claims number = slice_index_or claims number None

-- what they hold of a member
abbrev pub held_at : List (Option Claim) → List ℕ → ℕ → Option (Claim × ℕ)
held_at claims incs number = option_map (λ claim. (claim, slice_index incs number)) (claim_at claims number)

-- 1 for a member that is known and not confirmed
abbrev pub claim_weight : Option Claim → ℕ
claim_weight None = 0
claim_weight (Some claim) = if not (is_confirm claim) then 1 else 0

-- 1 for a member that is known
abbrev pub known_weight : Option Claim → ℕ
known_weight None = 0
known_weight (Some claim) = 1

-- the claims are of members with numbers of 16 bits, and the counts are of those not confirmed and of all, and of oneself
pub record IsCounted (claims : List (Option Claim)) (live known : ℕ) : Type 0 where
  pub few : length claims ≤ 2 ^ 16
  pub counted : live ≡ sum_by claim_weight claims + 1
  pub all : known ≡ sum_by known_weight claims + 1
