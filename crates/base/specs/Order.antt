-- The order in which events are handled.
use Rattle.std.proofs.Common.{◌≡◌, ℕ, ◌<◌, ◌≤◌, ap, ◌∙◌, sym, refl, arith}
use Rattle.std.specs.Ordering.{nat_cmp, ordering_then, MatchOrdering, ordering_reverse}
use Rattle.std.specs.Cmp.{IsTotalOrder, nat_cmp_total, on_total, then_total, ranks, nat_cmp_is}
use Rattle.std.specs.FinMap.{IsAntisymmetric}
use Rattle.std.proofs.lemmas.Map.Lookups.{exact_pairs, exact_unsigned}
use Rattle.std.specs.declared.cmp.Ordering.{Ordering}
use Rattle.std.specs.declared.cmp.Ordering.TheVariants.{Less, Equal, Greater}
use Rattle.base.specs.declared.key.Key.{Key}

-- Keys are compared item by item: the moment, the receiver, the sender, the sender's number.
unfoldable pub key_cmp : Key → Key → Ordering
key_cmp a b = ordering_then (nat_cmp a.at b.at) (ordering_then (nat_cmp a.to b.to) (ordering_then (nat_cmp a.from b.from) (nat_cmp a.number b.number)))

-- the event of the first key is handled before that of the second
abbrev pub IsBefore : Key → Key → Type 0
IsBefore a b = key_cmp a b ≡ Less

pub key_total : IsTotalOrder key_cmp
unfolding key_cmp
key_total =
    then_total (on_total (λ (k : Key). k.at) nat_cmp_total)
    (then_total (on_total (λ (k : Key). k.to) nat_cmp_total) (then_total (on_total (λ (k : Key). k.from) nat_cmp_total) (on_total (λ (k : Key). k.number) nat_cmp_total)))

-- keys that compare alike are one key
pub key_exact : IsAntisymmetric key_cmp
unfolding key_cmp
key_exact a b e =
    ap (λ (p : ℕ × (ℕ × (ℕ × ℕ))). record { at = p.0; to = p.1.0; from = p.1.1.0; number = p.1.1.1 })
    (exact_pairs nat_cmp _ exact_unsigned (exact_pairs nat_cmp _ exact_unsigned (exact_pairs nat_cmp nat_cmp exact_unsigned exact_unsigned))
    (a.at, (a.to, (a.from, a.number))) (b.at, (b.to, (b.from, b.number))) e)

-- a later moment is a later key
pub before-from_moments : (a b : Key) → a.at < b.at → IsBefore a b
unfolding key_cmp
before-from_moments a b h =
    ap (λ o. ordering_then o (ordering_then (nat_cmp a.to b.to) (ordering_then (nat_cmp a.from b.from) (nat_cmp a.number b.number)))) (sym (nat_cmp_is a.at b.at Less h))

moments_of : (m n : ℕ) (o r : Ordering) → MatchOrdering o (m < n) (m ≡ n) (n < m) → ordering_then o r ≡ Less → m ≤ n
moments_of m n Less r h e = omega arith
moments_of m n Equal r h e = omega arith
moments_of m n Greater r h e = cc

-- a key before another is no later
pub moments-from_before : (a b : Key) → IsBefore a b → a.at ≤ b.at
unfolding key_cmp
moments-from_before a b e = moments_of a.at b.at (nat_cmp a.at b.at) _ (ranks a.at b.at) e

turned : (m n : ℕ) (o r : Ordering) → MatchOrdering o (m < n) (m ≡ n) (n < m) → ¬ (ordering_then o r ≡ Less) → n ≤ m
turned m n Less r h none = absurd (none refl)
turned m n Equal r h none = omega arith
turned m n Greater r h none = omega arith

-- a key that is not before another is no earlier
pub moments-from_not_before : (a b : Key) → ¬ (IsBefore a b) → b.at ≤ a.at
unfolding key_cmp
moments-from_not_before a b none = turned a.at b.at (nat_cmp a.at b.at) _ (ranks a.at b.at) none

either : (a b : Key) (o : Ordering) → key_cmp a b ≡ o → ¬ (IsBefore a b) → ¬ (IsBefore b a) → a ≡ b
either a b Less e first second = absurd (first e)
either a b Equal e first second = key_exact a b e
either a b Greater e first second = absurd (second (key_total.antisymm b a ∙ ap ordering_reverse e))

-- of two keys that are not one, one is before the other
pub same_key : (a b : Key) → ¬ (IsBefore a b) → ¬ (IsBefore b a) → a ≡ b
same_key a b = either a b (key_cmp a b) refl
