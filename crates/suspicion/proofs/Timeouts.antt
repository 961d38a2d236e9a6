-- How long a suspicion lasts: bounds, and that an accuser more never makes it longer.
use Rattle.std.proofs.Common.{◌≡◌, ℕ, ◌+◌, ◌-◌, ◌*◌, ◌/◌, ◌<◌, ◌≤◌, ◌^◌, Bool, true, false, not, cond, ◌||◌, leb, max, ap, ◌∙◌, sym, refl, arith}
use Rattle.std.proofs.Math.Nat.{div-mul-le_self, div-le_of_le-mul, mul-le-mul_left, mul-le-mul_right, zero-div}
use Rattle.std.proofs.lemmas.Nat.{le-div, mul-le}
use Rattle.std.proofs.Math.Bool.{or-true}
use Rattle.std.proofs.lemmas.Bool.{leb-true, leb-false, le-leb, lt-leb}
use Rattle.base.specs.declared.profile.Profile.{Profile}
use Rattle.base.specs.declared.profile.Profile.TheVariants.{Papers, Memberlist, Hashicorp}
use Rattle.suspicion.specs.declared.terms.Terms.{Terms}
use Rattle.suspicion.specs.Ranges.{AreSound}
use Rattle.suspicion.proofs.Tables.{log-rises, log-positive, log-one}
use Rattle.suspicion.specs.Times.{counted_of, accuser_log, min_timeout, max_timeout, most_accusers, timeout}

either_most : (b : Bool) (wanted : ℕ) → cond b wanted 0 ≤ wanted
either_most true wanted = omega arith
either_most false wanted = omega arith

counted-le : (p : Profile) (wanted others : ℕ) → counted_of p wanted others ≤ wanted
counted-le Papers wanted others = omega arith
counted-le Memberlist wanted others = either_most (leb wanted others) wanted
counted-le Hashicorp wanted others = either_most (leb wanted others) wanted

-- no more accusers count than are wanted
pub most-le : (terms : Terms) (n : ℕ) → most_accusers terms n ≤ terms.accusers_wanted
most-le terms n = counted-le terms.profile terms.accusers_wanted (n - 2)

div_rises : (a b k : ℕ) → 0 < k → a ≤ b → a / k ≤ b / k
div_rises a b k some h = let down = div-mul-le_self a k in le-div (a / k) b k some (omega (arith, down))

-- the shortest timeout is a moment of any run
pub min_timeout-lt : (alpha log period : ℕ) → alpha ≤ 100 → log ≤ 5000 → period ≤ 2 ^ 24 → max 1 (alpha * max 1000 log * period / 1000) < 2 ^ 33
min_timeout-lt alpha log period a l p =
    let larger : max 1000 log ≤ 5000 = omega arith in
    let product : alpha * max 1000 log * period ≤ 100 * 5000 * 2 ^ 24 = mul-le (alpha * max 1000 log) period (100 * 5000) (2 ^ 24) (mul-le alpha (max 1000 log) 100 5000 a larger) p in
    let quotient : alpha * max 1000 log * period / 1000 ≤ 500 * 2 ^ 24 = omega (arith, product) in
    omega arith

-- the longest one is
pub max_timeout-le : (beta shortest : ℕ) → beta ≤ 100 → shortest < 2 ^ 33 → beta * shortest ≤ 2 ^ 40
max_timeout-le beta shortest b s =
    let product : beta * shortest ≤ 100 * 2 ^ 33 = mul-le beta shortest 100 (2 ^ 33) b (omega (arith, s)) in
    omega (arith, product)

-- and is no shorter than the shortest
pub le-max_timeout : (beta shortest : ℕ) → 0 < beta → shortest ≤ beta * shortest
le-max_timeout beta shortest some = let times = mul-le-mul_right shortest (let one : 1 ≤ beta = some in one) in omega (arith, times)

-- no product on the way is too large
pub way_fits : (span reached : ℕ) → span ≤ 2 ^ 40 → reached ≤ 1000 → span * reached < 2 ^ 64
way_fits span reached s r = let product = mul-le span reached (2 ^ 40) 1000 s r in omega (arith, product)

-- the way that is gone is at most the whole
pub way-le : (span reached whole : ℕ) → reached ≤ whole → span * reached / whole ≤ span
way-le span reached whole h = div-le_of_le-mul whole (let times = mul-le-mul_left span h in omega (arith, times))

-- and grows with what is reached
pub way-rises : (span r s whole : ℕ) → 0 < whole → r ≤ s → span * r / whole ≤ span * s / whole
way-rises span r s whole some h = div_rises (span * r) (span * s) whole some (mul-le-mul_left span h)

-- the longest timeout without the part that C accusers take off
abbrev pub shortened : Terms → ℕ → ℕ → ℕ
shortened terms n c =
    max_timeout terms n - (max_timeout terms n - min_timeout terms n) * accuser_log terms.profile (c + 1) / accuser_log terms.profile (most_accusers terms n + 1)

-- the timeout while accusers are missing
pub timeout-missing : (terms : Terms) (n c : ℕ) → not terms.shortens ≡ false → c < most_accusers terms n → timeout terms n c ≡ shortened terms n c
timeout-missing terms n c on h =
    ap (λ b. cond (b || leb (most_accusers terms n) c) (min_timeout terms n) (shortened terms n c)) on
    ∙ ap (λ b. cond b (min_timeout terms n) (shortened terms n c)) (lt-leb (most_accusers terms n) c h)

-- once there are enough of them
pub timeout-enough : (terms : Terms) (n c : ℕ) → most_accusers terms n ≤ c → timeout terms n c ≡ min_timeout terms n
timeout-enough terms n c h =
    ap (λ b. cond b (min_timeout terms n) (shortened terms n c)) (ap (λ b. not terms.shortens || b) (le-leb (most_accusers terms n) c h) ∙ or-true (not terms.shortens))

-- and where they do not count
pub timeout-off : (terms : Terms) (n c : ℕ) → not terms.shortens ≡ true → timeout terms n c ≡ min_timeout terms n
timeout-off terms n c off = ap (λ b. cond (b || leb (most_accusers terms n) c) (min_timeout terms n) (shortened terms n c)) off

-- from its parts
pub timeout_from_parts : (terms : Terms) (n c shortest reached whole : ℕ) → shortest ≡ min_timeout terms n → reached ≡ accuser_log terms.profile (c + 1) → whole ≡ accuser_log terms.profile (most_accusers terms n + 1)
    → not terms.shortens ≡ false → c < most_accusers terms n → terms.beta * shortest - (terms.beta * shortest - shortest) * reached / whole ≡ timeout terms n c
timeout_from_parts terms n c shortest reached whole s r w on h =
    (λ i. terms.beta * s i - (terms.beta * s i - s i) * r i / w i) ∙ sym (timeout-missing terms n c on h)

-- what is left of the longest timeout is at least the shortest
pub left-le : (beta shortest reached whole : ℕ) → 0 < beta → reached ≤ whole
    → (shortest ≤ beta * shortest - (beta * shortest - shortest) * reached / whole) × ((beta * shortest - shortest) * reached / whole ≤ beta * shortest)
left-le beta shortest reached whole some h =
    let most = le-max_timeout beta shortest some in
    let gone = way-le (beta * shortest - shortest) reached whole h in
    (omega (arith, most, gone), omega (arith, most, gone))

-- ---- laws of the timeout

shortest-le_shortened : (terms : Terms) (n c : ℕ) → AreSound terms → c < most_accusers terms n → min_timeout terms n ≤ shortened terms n c
shortest-le_shortened terms n c sound missing =
    let few = most-le terms n in
    let rise = log-rises terms.profile (c + 1) (most_accusers terms n + 1) (omega arith) (omega arith) (omega (arith, few, sound.accusers_wanted)) in
    (left-le terms.beta (min_timeout terms n) (accuser_log terms.profile (c + 1)) (accuser_log terms.profile (most_accusers terms n + 1)) sound.beta.0 rise).0

min_by_cases : (terms : Terms) (n c : ℕ) (off enough : Bool) → AreSound terms → not terms.shortens ≡ off → leb (most_accusers terms n) c ≡ enough → min_timeout terms n ≤ timeout terms n c
min_by_cases terms n c true enough sound q d = let e = timeout-off terms n c q in omega (arith, e)
min_by_cases terms n c false true sound q d = let e = timeout-enough terms n c (leb-true (most_accusers terms n) c d) in omega (arith, e)
min_by_cases terms n c false false sound q d =
    let missing = leb-false (most_accusers terms n) c d in
    let e = timeout-missing terms n c q missing in
    let h = shortest-le_shortened terms n c sound missing in
    omega (arith, e, h)

pub min-le-timeout : (terms : Terms) (n c : ℕ) → AreSound terms → min_timeout terms n ≤ timeout terms n c
min-le-timeout terms n c sound = min_by_cases terms n c (not terms.shortens) (leb (most_accusers terms n) c) sound refl refl

max_by_cases : (terms : Terms) (n c : ℕ) (off enough : Bool) → AreSound terms → not terms.shortens ≡ off → leb (most_accusers terms n) c ≡ enough → timeout terms n c ≤ max_timeout terms n
max_by_cases terms n c true enough sound q d =
    let e = timeout-off terms n c q in let h = le-max_timeout terms.beta (min_timeout terms n) sound.beta.0 in omega (arith, e, h)
max_by_cases terms n c false true sound q d =
    let e = timeout-enough terms n c (leb-true (most_accusers terms n) c d) in let h = le-max_timeout terms.beta (min_timeout terms n) sound.beta.0 in omega (arith, e, h)
max_by_cases terms n c false false sound q d = let e = timeout-missing terms n c q (leb-false (most_accusers terms n) c d) in omega (arith, e)

pub timeout-le-max : (terms : Terms) (n c : ℕ) → AreSound terms → timeout terms n c ≤ max_timeout terms n
timeout-le-max terms n c sound = max_by_cases terms n c (not terms.shortens) (leb (most_accusers terms n) c) sound refl refl

falls_by_cases : (terms : Terms) (n c d : ℕ) (off enough : Bool) → AreSound terms → not terms.shortens ≡ off → leb (most_accusers terms n) d ≡ enough → c ≤ d → timeout terms n d ≤ timeout terms n c
falls_by_cases terms n c d true enough sound q e h = let here = timeout-off terms n c q in let there = timeout-off terms n d q in omega (arith, here, there)
falls_by_cases terms n c d false true sound q e h =
    let there = timeout-enough terms n d (leb-true (most_accusers terms n) d e) in let least = min-le-timeout terms n c sound in omega (arith, there, least)
falls_by_cases terms n c d false false sound q e h =
    let missing : d < most_accusers terms n = leb-false (most_accusers terms n) d e in
    let few = most-le terms n in
    let here = timeout-missing terms n c q (omega (arith, missing)) in
    let there = timeout-missing terms n d q missing in
    let rise = log-rises terms.profile (c + 1) (d + 1) (omega arith) (omega arith) (omega (arith, missing, few, sound.accusers_wanted)) in
    let positive = log-positive terms.profile (most_accusers terms n + 1) (omega (arith, missing)) (omega (arith, few, sound.accusers_wanted)) in
    let more = way-rises (max_timeout terms n - min_timeout terms n) (accuser_log terms.profile (c + 1)) (accuser_log terms.profile (d + 1)) (accuser_log terms.profile (most_accusers terms n + 1)) (omega (arith, positive)) rise in
    omega (arith, here, there, more)

pub timeout-falls : (terms : Terms) (n c d : ℕ) → AreSound terms → c ≤ d → timeout terms n d ≤ timeout terms n c
timeout-falls terms n c d sound h = falls_by_cases terms n c d (not terms.shortens) (leb (most_accusers terms n) d) sound refl refl h

times_zero : (p : Profile) (n : ℕ) → n * accuser_log p (0 + 1) ≡ 0
times_zero p n = let none : n * 0 ≡ 0 = omega arith in ap (λ k. n * k) (log-one p) ∙ none

-- while nobody else has accused the whole time is left
pub timeout-alone : (terms : Terms) (n : ℕ) → terms.shortens ≡ true → 0 < most_accusers terms n → timeout terms n 0 ≡ max_timeout terms n
timeout-alone terms n on h =
    let e = timeout-missing terms n 0 (ap not on) h in
    let none : (max_timeout terms n - min_timeout terms n) * accuser_log terms.profile (0 + 1) / accuser_log terms.profile (most_accusers terms n + 1) ≡ 0 =
    ap (λ k. k / accuser_log terms.profile (most_accusers terms n + 1)) (times_zero terms.profile (max_timeout terms n - min_timeout terms n)) ∙ zero-div (accuser_log terms.profile (most_accusers terms n + 1)) in
    omega (arith, e, none)
