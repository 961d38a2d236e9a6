-- What comes before the least key of a moment.
use Rattle.std.proofs.Common.{◌≡◌, ℕ, ◌<◌, ◌⊎◌, inl, inr, arith}
use Rattle.std.specs.Ordering.{nat_cmp, ordering_then, MatchOrdering}
use Rattle.std.specs.declared.cmp.Ordering.{Ordering}
use Rattle.std.specs.declared.cmp.Ordering.TheVariants.{Less, Equal, Greater}
use Rattle.std.specs.Cmp.{ranks}
use Rattle.std.proofs.lemmas.Bool.{cases_order}
use Rattle.base.specs.declared.key.Key.{Key}
use Rattle.base.specs.Order.{key_cmp, IsBefore, moments-from_before}

nothing_below : (m : ℕ) (r o : Ordering) → MatchOrdering o (m < 0) (m ≡ 0) (0 < m) → ordering_then o r ≡ Less → r ≡ Less
nothing_below m r Less h e = absurd (omega arith)
nothing_below m r Equal h e = e
nothing_below m r Greater h e = cc

less : (m : ℕ) (o : Ordering) → MatchOrdering o (m < 0) (m ≡ 0) (0 < m) → o ≡ Less → m < 0
less m Less h e = h
less m Equal h e = cc
less m Greater h e = cc

at_same : (m n : ℕ) (r : Ordering) → m ≡ n → ordering_then (nat_cmp m n) r ≡ Less → r ≡ Less
at_same m n r same e = by_order (nat_cmp m n) (ranks m n) e
  where
    by_order : (o : Ordering) → MatchOrdering o (m < n) (m ≡ n) (n < m) → ordering_then o r ≡ Less → r ≡ Less
    by_order Less h is = absurd (omega arith)
    by_order Equal h is = is
    by_order Greater h is = cc

-- what comes before the least key of a moment has an earlier moment
pub earlier-from_before_first : (q : Key) (at : ℕ) → IsBefore q (record { at = at; to = 0; from = 0; number = 0 }) → q.at < at
unfolding key_cmp
earlier-from_before_first q at before = by_moment (cases_order q.at at)
  where
    by_moment : (q.at ≡ at) ⊎ ((q.at < at) ⊎ (at < q.at)) → q.at < at
    by_moment (inr (inl h)) = h
    by_moment (inr (inr h)) = absurd (let late = moments-from_before q (record { at = at; to = 0; from = 0; number = 0 }) before in omega arith)
    by_moment (inl same) =
        let a = at_same q.at at (ordering_then (nat_cmp q.to 0) (ordering_then (nat_cmp q.from 0) (nat_cmp q.number 0))) same before in
        let b = nothing_below q.to (ordering_then (nat_cmp q.from 0) (nat_cmp q.number 0)) (nat_cmp q.to 0) (ranks q.to 0) a in
        let c = nothing_below q.from (nat_cmp q.number 0) (nat_cmp q.from 0) (ranks q.from 0) b in
        absurd (let h : q.number < 0 = less q.number (nat_cmp q.number 0) (ranks q.number 0) c in omega arith)
