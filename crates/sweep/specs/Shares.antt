-- How runs are dealt out to workers.
use Rattle.std.specs.Prelude.{◌≡◌, ◌≤◌, ◌-◌, ℕ, List, All}
use Rattle.std.specs.List.{flat_map, range_with_len}
use Rattle.sweep.specs.declared.shares.Share.{Share}

-- the numbers of the runs of a share
abbrev pub numbers_of : Share → List ℕ
numbers_of share = range_with_len share.from (share.till - share.from)

-- one share after the other, they have the runs from one number to before another, each once and in order
pub record AreShares (from till : ℕ) (shares : List Share) : Type 0 where
  pub whole : flat_map numbers_of shares ≡ range_with_len from (till - from)
  pub within : All (λ share. share.till ≤ till) shares
