-- What files count of refused writes, once what was made is closed.
use Rattle.std.proofs.Common.{◌≡◌, ◌+◌, ℕ, arith}

-- one file was made and closed
pub one_closed : (before made after counted : ℕ) → made ≡ before → after ≡ made + counted → after ≡ before + counted
one_closed before made after counted same more = omega (arith, same, more)

-- two were
pub both_closed : (before made between after first second : ℕ) → made ≡ before → between ≡ made + first → after ≡ between + second → after ≡ before + (first + second)
both_closed before made between after first second same more too = omega (arith, same, more, too)
