-- How many doublings bring 32 to a number of members.
use Rattle.std.proofs.Common.{◌≡◌, ℕ, zero, suc, ◌+◌, ◌-◌, ◌*◌, ◌^◌, ◌<◌, ◌≤◌, Bool, true, false, cond, nat_lt, refl, ap, arith}
use Rattle.std.specs.List.{count_by, range_with_len}
use Rattle.std.proofs.lemmas.Bool.{lt-ltb, le-ltb, ltb-true, ltb-false}
use Rattle.std.proofs.Math.Pow.{pow_mono}
use Rattle.std.proofs.lemmas.Nat.{pow_pos}
use Rattle.std.proofs.lemmas.Grind.{pow_more}
use Rattle.piggyback.proofs.Tally.{count_by-cons}
use Rattle.member.specs.Step.{doublings_to}

at_most_one : (b : Bool) → cond {A = ℕ} b 1 0 ≤ 1
at_most_one true = omega arith
at_most_one false = omega arith

-- of numbers in a row, so many first ones pass a test and no other does
counted : (p : ℕ → Bool) (c a len : ℕ) → ((m : ℕ) → a ≤ m → m < a + c → p m ≡ true) → ((m : ℕ) → a + c ≤ m → p m ≡ false) → c ≤ len → count_by p (range_with_len a len) ≡ c
counted p zero a zero passed others few = refl
counted p (suc c) a zero passed others few = absurd (omega (arith, few))
counted p zero a (suc len) passed others few =
    let rest : count_by p (range_with_len (a + 1) len) ≡ 0 = counted p zero (a + 1) len (λ m from below. absurd (omega (arith, from, below))) (λ m from. others m (omega (arith, from))) (omega arith) in
    let here : ◌≡◌ {A = ℕ} (cond (p a) 1 0) 0 = ap (λ (b : Bool). cond {A = ℕ} b 1 0) (others a (omega arith)) in
    omega (arith, count_by-cons p a (range_with_len (a + 1) len), rest, here)
counted p (suc c) a (suc len) passed others few =
    let rest : count_by p (range_with_len (a + 1) len) ≡ c = counted p c (a + 1) len (λ m from below. passed m (omega (arith, from)) (omega (arith, below))) (λ m from. others m (omega (arith, from))) (omega (arith, few)) in
    let here : ◌≡◌ {A = ℕ} (cond (p a) 1 0) 1 = ap (λ (b : Bool). cond {A = ℕ} b 1 0) (passed a (omega arith) (omega arith)) in
    omega (arith, count_by-cons p a (range_with_len (a + 1) len), rest, here)

pub doublings_are : (n d : ℕ) → d ≤ 9 → n ≤ 32 * 2 ^ d → (0 < d → 32 * 2 ^ (d - 1) < n) → doublings_to n ≡ d
doublings_are n d small reached before = counted (λ m. nat_lt (32 * 2 ^ m) n) d 0 n passed others few
  where
    few : d ≤ n
    few = by_size d before small
      where
        by_size : (d : ℕ) → (0 < d → 32 * 2 ^ (d - 1) < n) → d ≤ 9 → d ≤ n
        by_size zero before small = omega arith
        by_size (suc d) before small = let some : 0 < suc d = omega arith in let more = before some in let one = pow_pos (suc d - 1) in omega (arith, more, one, small)

    passed : (m : ℕ) → 0 ≤ m → m < 0 + d → nat_lt (32 * 2 ^ m) n ≡ true
    passed m from below =
        let some : 0 < d = omega (arith, below) in
        let up : m ≤ d - 1 = omega (arith, below) in
        lt-ltb (32 * 2 ^ m) n (omega (arith, before some, pow_mono up))

    others : (m : ℕ) → 0 + d ≤ m → nat_lt (32 * 2 ^ m) n ≡ false
    others m from =
        let up : d ≤ m = omega (arith, from) in
        le-ltb (32 * 2 ^ m) n (omega (arith, reached, pow_mono up))

-- of numbers in a row, at most so many first ones pass a test that no other passes
count_few : (p : ℕ → Bool) (c a len : ℕ) → ((m : ℕ) → a + c ≤ m → p m ≡ false) → count_by p (range_with_len a len) ≤ c
count_few p c a zero others = let none : ◌≡◌ {A = ℕ} (count_by p (range_with_len a zero)) 0 = refl in omega (arith, none)
count_few p zero a (suc len) others =
    let none : count_by p (range_with_len a (suc len)) ≡ 0 = counted p zero a (suc len) (λ m from below. absurd (omega (arith, from, below))) others (omega arith) in
    omega (arith, none)
count_few p (suc c) a (suc len) others =
    let rest = count_few p c (a + 1) len (λ m from. others m (omega (arith, from))) in
    omega (arith, count_by-cons p a (range_with_len (a + 1) len), rest, at_most_one (p a))

-- nine doublings reach 16,384 members
pub few_doublings : (n : ℕ) → n ≤ 16384 → doublings_to n ≤ 9
few_doublings n few = count_few (λ m. nat_lt (32 * 2 ^ m) n) 9 0 n (λ m from. le-ltb (32 * 2 ^ m) n (omega (arith, few, pow_mono from)))

-- one doubling more
pub doubled : (reached d : ℕ) → reached ≡ 32 * 2 ^ d → reached * 2 ≡ 32 * 2 ^ (d + 1)
doubled reached d is = omega (arith, is, pow_more 2 d)

-- who isn't at 16,384 yet has room for one more
pub room : (reached d n : ℕ) → reached ≡ 32 * 2 ^ d → reached < n → n ≤ 16384 → d < 9
room reached d n is below few = by_size d is
  where
    by_size : (d : ℕ) → reached ≡ 32 * 2 ^ d → d < 9
    by_size d is = at (nat_lt d 9) refl
      where
        at : (b : Bool) → nat_lt d 9 ≡ b → d < 9
        at true e = ltb-true d 9 e
        at false e = let up : 9 ≤ d = ltb-false d 9 e in absurd (omega (arith, is, below, few, pow_mono up))
