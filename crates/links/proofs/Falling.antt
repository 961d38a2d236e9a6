-- Entries that are sorted by what they say, the most first.
use Rattle.std.proofs.Common.{◌≡◌, ◌<◌, ◌≤◌, ℕ, List, Bool, true, false, cond, nat_lt, nat_eq, length, get_or, refl, sym, ◌∙◌}
use Rattle.std.specs.Cmp.{IsStrictWeakOrder, nat_cmp_total}
use Rattle.std.specs.declared.cmp.Ordering.TheVariants.{Less, Equal, Greater}
use Rattle.std.specs.Ordering.{is_lt, nat_cmp}
use Rattle.std.specs.List.Sorted.{IsSortedBy}
use Rattle.std.proofs.lemmas.Bool.{ltb-false}
use Rattle.std.proofs.lemmas.List.Sorted.{IsStrictWeakOrder-flip, ranks_by, sorted_far}
use Rattle.scenario.specs.declared.settings.Slow.{Slow}

lt_by : (p q : Bool) → is_lt (cond p Less (cond q Equal Greater)) ≡ p
lt_by true q = refl
lt_by false true = refl
lt_by false false = refl

lt_is : (a b : ℕ) → is_lt (nat_cmp a b) ≡ nat_lt a b
lt_is a b = lt_by (nat_lt a b) (nat_eq a b)

pub falls : IsStrictWeakOrder (λ (a b : Slow). is_lt (nat_cmp b.extra a.extra))
falls = IsStrictWeakOrder-flip (λ (a b : Slow). is_lt (nat_cmp a.extra b.extra)) (ranks_by nat_cmp_total (λ (e : Slow). e.extra))

pub falling : (xs : List Slow) → IsSortedBy (λ (a b : Slow). is_lt (nat_cmp b.extra a.extra)) xs → (i j : ℕ) (d : Slow) → i ≤ j → j < length xs → (get_or xs j d).extra ≤ (get_or xs i d).extra
falling xs sorted i j d order within =
    let far = sorted_far (λ (a b : Slow). is_lt (nat_cmp b.extra a.extra)) falls xs sorted i j d order within in
    ltb-false (get_or xs i d).extra (get_or xs j d).extra (sym (lt_is (get_or xs i d).extra (get_or xs j d).extra) ∙ far)
