-- Rows are in the order of their places first.
use Rattle.std.proofs.Common.{◌≡◌, ℕ, ap, sym, refl, inl, inr}
use Rattle.std.specs.Ordering.{nat_cmp, ordering_then}
use Rattle.std.specs.Cmp.{nat_cmp_is}
use Rattle.std.specs.declared.cmp.Ordering.{Ordering}
use Rattle.std.specs.declared.cmp.Ordering.TheVariants.{Less, Equal, Greater}
use Rattle.base.specs.declared.key.Key.{Key}
use Rattle.base.specs.Order.{key_cmp}
use Rattle.base.specs.Rising.{IsPlaceBefore}
use Rattle.trace.specs.declared.row.Row.{Row}
use Rattle.member.specs.Places.{place_of}

-- an order that compares further where all else ties
by_parts : (a b c d rest : Ordering) → ordering_then a (ordering_then b (ordering_then c d)) ≡ Less → ordering_then a (ordering_then b (ordering_then c (ordering_then d rest))) ≡ Less
by_parts Less b c d rest less = refl
by_parts Greater b c d rest less = less
by_parts Equal Less c d rest less = refl
by_parts Equal Greater c d rest less = less
by_parts Equal Equal Less d rest less = refl
by_parts Equal Equal Greater d rest less = less
by_parts Equal Equal Equal Less rest less = refl
by_parts Equal Equal Equal Greater rest less = less
by_parts Equal Equal Equal Equal rest less = cc

after_ties : (a b c d e rest : Ordering) → a ≡ Equal → b ≡ Equal → c ≡ Equal → d ≡ Equal → e ≡ Less
    → ordering_then a (ordering_then b (ordering_then c (ordering_then d (ordering_then e rest)))) ≡ Less
after_ties a b c d e rest a_ties b_ties c_ties d_ties less =
    λ i. ordering_then (a_ties i) (ordering_then (b_ties i) (ordering_then (c_ties i) (ordering_then (d_ties i) (ordering_then (less i) rest))))

ties : (x y : ℕ) → x ≡ y → nat_cmp x y ≡ Equal
ties x y same = sym (nat_cmp_is x y Equal same)

-- rows of places that are one before the other, whatever is compared after their places
pub by_place : (a b : Row) (rest : Ordering) → IsPlaceBefore (place_of a) (place_of b)
    → ordering_then (nat_cmp a.at b.at) (ordering_then (nat_cmp a.member b.member) (ordering_then (nat_cmp a.from b.from) (ordering_then (nat_cmp a.number b.number) (ordering_then (nat_cmp a.index b.index) rest))))
    ≡ Less
unfolding key_cmp
by_place a b rest (inl before) = by_parts (nat_cmp a.at b.at) (nat_cmp a.member b.member) (nat_cmp a.from b.from) (nat_cmp a.number b.number) (ordering_then (nat_cmp a.index b.index) rest) before
by_place a b rest (inr same) =
    after_ties _ _ _ _ _ rest
    (ties a.at b.at (ap (λ (k : Key). k.at) same.0)) (ties a.member b.member (ap (λ (k : Key). k.to) same.0)) (ties a.from b.from (ap (λ (k : Key). k.from) same.0))
    (ties a.number b.number (ap (λ (k : Key). k.number) same.0)) (sym (nat_cmp_is a.index b.index Less same.1))
