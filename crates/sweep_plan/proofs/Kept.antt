-- How a name is kept in a key.
use Rattle.std.proofs.Common.{◌≡◌, ◌≤◌, ◌-◌, ℕ, zero, suc, ◌==◌, ◌&&◌, true, List, [], ◌∷◌, ◌++◌, length, drop, replicate, nat_lt, ap, ◌∙◌, arith}
use Rattle.std.specs.List.{list_all}
use Rattle.std.proofs.lemmas.Bool.{and_parts, false≢true}
use Rattle.std.proofs.lemmas.Bool.Decides.{nat_tests}
use Rattle.sweep_plan.specs.Items.{is_letter, is_item_name}

drop_same : (m n x : ℕ) → drop n (replicate m x) ≡ replicate (m - n) x
drop_same m zero x = let same : m ≡ m - zero = omega arith in ap (λ k. replicate k x) same
drop_same zero (suc n) x = let same : zero ≡ zero - suc n = omega arith in ap (λ k. replicate k x) same
drop_same (suc m) (suc n) x = let same : m - n ≡ suc m - suc n = omega arith in drop_same m n x ∙ ap (λ k. replicate k x) same

-- a name at the front of zeros
pub filled : (name : List ℕ) → length name ≤ 76 → name ++ drop (length name) (replicate 76 0) ≡ name ++ replicate (76 - length name) 0
filled name few = ap (λ l. name ++ l) (drop_same 76 (length name) 0)

pub few_bytes : (name : List ℕ) → is_item_name name ≡ true → length name ≤ 76
few_bytes [] sound = absurd (false≢true sound)
few_bytes (first ∷ rest) sound =
    let parts = and_parts ((first == 46) && nat_lt (length rest) 76) (list_all is_letter rest) sound in
    let front = and_parts (first == 46) (nat_lt (length rest) 76) parts.0 in
    let short : nat_lt (length rest) 76 ≡ true = front.1 in
    grind (arith, nat_tests)
