-- Of the sizes 32, 64, .. and 8,192 as many are below a number of members as 32 has to be doubled until it isn't.
use Rattle.std.proofs.Common.{◌≡◌, ℕ, zero, suc, ◌+◌, ◌*◌, ◌^◌, ◌≤◌, Bool, false, cond, nat_lt, [], ◌∷◌, refl, sym, ap, subst, ◌∙◌, arith}
use Rattle.std.specs.List.{count_by, range_with_len}
use Rattle.std.proofs.lemmas.Bool.{le-ltb}
use Rattle.std.proofs.Math.Pow.{pow_mono}
use Rattle.std.proofs.lemmas.Nat.{pow_pos}
use Rattle.std.proofs.lemmas.Grind.{pow_more}
use Rattle.piggyback.proofs.Tally.{count_by-cons}
use Rattle.member.specs.Step.{doublings_to}

-- none of numbers in a row passes a test
none : (p : ℕ → Bool) (a len : ℕ) → ((m : ℕ) → a ≤ m → p m ≡ false) → count_by p (range_with_len a len) ≡ 0
none p a zero others = refl
none p a (suc len) others =
    let rest : count_by p (range_with_len (a + 1) len) ≡ 0 = none p (a + 1) len (λ m from. others m (omega (arith, from))) in
    let here : ◌≡◌ {A = ℕ} (cond (p a) 1 0) 0 = ap (λ (b : Bool). cond {A = ℕ} b 1 0) (others a (omega arith)) in
    omega (arith, count_by-cons p a (range_with_len (a + 1) len), rest, here)

-- numbers behind these of which none passes the test don't count
longer : (p : ℕ → Bool) (a len more : ℕ) → ((m : ℕ) → a + len ≤ m → p m ≡ false) → count_by p (range_with_len a (len + more)) ≡ count_by p (range_with_len a len)
longer p a zero more others =
    let same : more ≡ zero + more = omega arith in
    subst (λ k. count_by p (range_with_len a k) ≡ 0) same (none p a more (λ m from. others m (omega (arith, from))))
longer p a (suc len) more others =
    let rest : count_by p (range_with_len (a + 1) (len + more)) ≡ count_by p (range_with_len (a + 1) len) = longer p (a + 1) len more (λ m from. others m (omega (arith, from))) in
    let same : suc (len + more) ≡ suc len + more = omega arith in
    subst (λ k. count_by p (range_with_len a k) ≡ count_by p (range_with_len a (suc len))) same
    (omega (arith, count_by-cons p a (range_with_len (a + 1) (len + more)), count_by-cons p a (range_with_len (a + 1) len), rest))

-- a number is below its power of 2
below_power : (m : ℕ) → m ≤ 32 * 2 ^ m
below_power zero = omega arith
below_power (suc m) =
    let same : m + 1 ≡ suc m = omega arith in
    subst (λ k. k ≤ 32 * 2 ^ k) same (omega (arith, below_power m, pow_pos m, pow_more 2 m))

pub sizes_below : (n : ℕ) → n ≤ 16384 → count_by (λ size. nat_lt size n) (32 ∷ 64 ∷ 128 ∷ 256 ∷ 512 ∷ 1024 ∷ 2048 ∷ 4096 ∷ 8192 ∷ []) ≡ doublings_to n
sizes_below n few =
    let first : count_by p (range_with_len 0 (9 + n)) ≡ count_by p (range_with_len 0 9) = longer p 0 9 n at_nine in
    let second : count_by p (range_with_len 0 (n + 9)) ≡ count_by p (range_with_len 0 n) = longer p 0 n 9 at_n in
    let same : 9 + n ≡ n + 9 = omega arith in
    sym first ∙ ap (λ len. count_by p (range_with_len 0 len)) same ∙ second
  where
    p : ℕ → Bool
    p m = nat_lt (32 * 2 ^ m) n

    at_nine : (m : ℕ) → 0 + 9 ≤ m → p m ≡ false
    at_nine m from = let up : 9 ≤ m = omega (arith, from) in let powers : 2 ^ 9 ≤ 2 ^ m = pow_mono up in le-ltb (32 * 2 ^ m) n (omega (arith, few, powers))

    at_n : (m : ℕ) → 0 + n ≤ m → p m ≡ false
    at_n m from = le-ltb (32 * 2 ^ m) n (omega (arith, from, below_power m))
