-- What was dealt, what was taken and what lies on a board.
use Rattle.std.specs.Prelude.{◌≡◌, ℕ, List, [], ◌++◌, map}
use Rattle.std.specs.List.{sum_by, flat_map, All}
use mathlib.Core.Option.{some}
use lib.ListN.{get_elem?}
use Rattle.board.specs.declared.rule.Hand.{Hand}

-- two lists hold each value as often: however values are weighed, both weigh the same
abbrev pub SameBag : {V : Type 0} → List V → List V → Type 0
SameBag {V} xs ys = (weight : V → ℕ) → sum_by weight xs ≡ sum_by weight ys

-- each item was dealt as often as it was taken or lies on the board
abbrev pub DealBalance : {V : Type 0} → List V → List V → List V → Type 0
DealBalance dealt taken lying = SameBag dealt (taken ++ lying)

-- how many parts the right to see the whole of a board has: as many as a board has seats at most
abbrev pub whole : ℕ
whole = 65

abbrev pub hand : {V : Type 0} → ℕ → List V → List V → Hand V
hand share dealt taken = record { share = share; dealt = dealt; taken = taken }

module _ {T V : Type 0} (stands_for : T → V) (belongs : T → Type 0) where
  -- the rule of a board, of what lies there and of what all seats know
  pub record IsBalanced (items : List T) (hands : List (Hand V)) : Type 0 where
    pub shares : sum_by (λ v. v.share) hands ≡ whole
    pub balance : DealBalance (flat_map (λ v. v.dealt) hands) (flat_map (λ v. v.taken) hands) (map stands_for items)
    -- a seat with no share has dealt and taken nothing
    pub spent : (port : ℕ) (v : Hand V) → get_elem? hands port ≡ some v → v.share ≡ 0 → (v.dealt ≡ []) × (v.taken ≡ [])
    pub belong : All belongs items

  -- what a seat learns of what lies on the board at one moment: that it belongs there, and the balance, where its share is the whole
  abbrev pub Sees : Hand V → List T → Type 0
  Sees v items = (v.share ≡ whole → DealBalance v.dealt v.taken (map stands_for items)) × All belongs items
