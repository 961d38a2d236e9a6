-- The tables of logarithms, and a number's logarithm by them, by both profiles.
use Rattle.std.proofs.Common.{◌≡◌, ℕ, zero, suc, ◌+◌, ◌-◌, ◌*◌, ◌/◌, ◌%◌, ◌<◌, ◌≤◌, ◌^◌, Bool, true, false, ◌&&◌, leb, ◌⊎◌, inl, inr, List, [], ◌∷◌, length, get_or, ap, ◌∙◌, sym, refl, arith, lit≤}
use Rattle.std.specs.Fmt.{decimal, digits}
use Rattle.std.proofs.Math.Nat.{div-one, mod-lt}
use Rattle.std.proofs.lemmas.Bool.{leb-true, false≢true}
use Rattle.std.proofs.lemmas.Fmt.{decimal_digit, length-decimal-le}
use Rattle.base.specs.declared.profile.Profile.{Profile}
use Rattle.base.specs.declared.profile.Profile.TheVariants.{Papers, Memberlist, Hashicorp}
use Rattle.base.specs.Logarithm.{thousandths_table, thousandths_of, digit_count, leading_digit, log_of, leading_digits, tenth_log_of, fine_log_of, three_leading_digits}
use Rattle.base.proofs.FineLogs.{tenths, tenth_is, tenth-le, further-le_thousand, close_is_fine}
use Rattle.suspicion.specs.Times.{size_log, accuser_log}

-- ---- tables that rise

abbrev rises : List ℕ → Bool
rises [] = true
rises (x ∷ []) = true
rises (x ∷ y ∷ ys) = leb x y && rises (y ∷ ys)

first : (a b : Bool) → (a && b) ≡ true → a ≡ true
first true b h = refl
first false b h = h

second : (a b : Bool) → (a && b) ≡ true → b ≡ true
second true b h = h
second false b h = absurd (false≢true h)

-- each entry is at most the next one
next_rises : (t : List ℕ) (i : ℕ) → rises t ≡ true → suc i < length t → get_or t i 0 ≤ get_or t (suc i) 0
next_rises [] i r h = absurd (omega (arith, h))
next_rises (x ∷ []) i r h = absurd (omega (arith, h))
next_rises (x ∷ y ∷ ys) zero r h = leb-true x y (first (leb x y) (rises (y ∷ ys)) r)
next_rises (x ∷ y ∷ ys) (suc i) r h = next_rises (y ∷ ys) i (second (leb x y) (rises (y ∷ ys)) r) (omega (arith, h))

entries_rise : (t : List ℕ) (d i : ℕ) → rises t ≡ true → i + d < length t → get_or t i 0 ≤ get_or t (i + d) 0
entries_rise t zero i r h = let same : get_or t i 0 ≡ get_or t (i + 0) 0 = ap (λ k. get_or t k 0) (let e : i ≡ i + 0 = omega arith in e) in omega (arith, same)
entries_rise t (suc d) i r h =
    let rest = entries_rise t d i r (omega (arith, h)) in
    let step = next_rises t (i + d) r (omega (arith, h)) in
    let same : get_or t (suc (i + d)) 0 ≡ get_or t (i + suc d) 0 = ap (λ k. get_or t k 0) (let e : suc (i + d) ≡ i + suc d = omega arith in e) in
    omega (arith, rest, step, same)

of_ten-rise : (t : List ℕ) (a b : ℕ) → rises t ≡ true → length t ≡ 10 → 1 ≤ a → a ≤ b → b ≤ 10 → get_or t (a - 1) 0 ≤ get_or t (b - 1) 0
of_ten-rise t a b r long some h few =
    let rise = entries_rise t (b - a) (a - 1) r (omega (arith, long)) in
    let same : get_or t (a - 1 + (b - a)) 0 ≡ get_or t (b - 1) 0 = ap (λ k. get_or t k 0) (let e : a - 1 + (b - a) ≡ b - 1 = omega arith in e) in
    omega (arith, rise, same)

-- ---- by the leading digit

-- none is over 1000
entry-le : (i : ℕ) → get_or thousandths_table i 0 ≤ 1000
entry-le zero = lit≤ tt
entry-le (suc zero) = lit≤ tt
entry-le (suc (suc zero)) = lit≤ tt
entry-le (suc (suc (suc zero))) = lit≤ tt
entry-le (suc (suc (suc (suc zero)))) = lit≤ tt
entry-le (suc (suc (suc (suc (suc zero))))) = lit≤ tt
entry-le (suc (suc (suc (suc (suc (suc zero)))))) = lit≤ tt
entry-le (suc (suc (suc (suc (suc (suc (suc zero))))))) = lit≤ tt
entry-le (suc (suc (suc (suc (suc (suc (suc (suc zero)))))))) = lit≤ tt
entry-le (suc (suc (suc (suc (suc (suc (suc (suc (suc zero))))))))) = lit≤ tt
entry-le (suc (suc (suc (suc (suc (suc (suc (suc (suc (suc i)))))))))) = lit≤ tt

thousandths-le : (d : ℕ) → thousandths_of d ≤ 1000
thousandths-le d = entry-le (d - 1)

below_ten : (m : ℕ) → m < 10 → log_of m ≡ thousandths_of m
below_ten m h =
    let one : digit_count m ≡ 1 = ap length (decimal_digit m h) in
    let first : get_or (decimal m) 0 0 ≡ 48 + m = ap (λ text. get_or text 0 0) (decimal_digit m h) in
    let same : leading_digit m ≡ m = omega arith in
    let entry : thousandths_of (leading_digit m) ≡ thousandths_of m = ap thousandths_of same in
    omega arith

ten : log_of 10 ≡ 1000
unfolding digits
ten = refl

of_table : (m : ℕ) → (m < 10) ⊎ (m ≡ 10) → log_of m ≡ thousandths_of m
of_table m (inl h) = below_ten m h
of_table m (inr e) = ap log_of e ∙ ten ∙ sym (ap thousandths_of e)

up_to_ten : (m : ℕ) → m ≤ 10 → (m < 10) ⊎ (m ≡ 10)
up_to_ten m h = grind arith

-- ---- by the two leading digits

-- the finer logarithms of 1 to 10
abbrev fine_table : List ℕ
fine_table = 0 ∷ 301 ∷ 477 ∷ 602 ∷ 698 ∷ 778 ∷ 845 ∷ 903 ∷ 954 ∷ 1000 ∷ []

every_tenth : (i : ℕ) → i < 9 → get_or tenths (i * 10) 0 ≡ get_or fine_table i 0
every_tenth zero h = refl
every_tenth (suc zero) h = refl
every_tenth (suc (suc zero)) h = refl
every_tenth (suc (suc (suc zero))) h = refl
every_tenth (suc (suc (suc (suc zero)))) h = refl
every_tenth (suc (suc (suc (suc (suc zero))))) h = refl
every_tenth (suc (suc (suc (suc (suc (suc zero)))))) h = refl
every_tenth (suc (suc (suc (suc (suc (suc (suc zero))))))) h = refl
every_tenth (suc (suc (suc (suc (suc (suc (suc (suc zero)))))))) h = refl
every_tenth (suc (suc (suc (suc (suc (suc (suc (suc (suc i))))))))) h = absurd (omega arith)

fine_below_ten : (m : ℕ) → 1 ≤ m → m < 10 → fine_log_of m ≡ get_or fine_table (m - 1) 0
fine_below_ten m some h =
    let one : digit_count m ≡ 1 = ap length (decimal_digit m h) in
    let none : digit_count m - 1 ≡ 0 = omega (arith, one) in
    let lead : leading_digits m ≡ m * 10 = ap (λ k. m * 10 / 10 ^ k) none ∙ div-one (m * 10) in
    let log : tenth_log_of (leading_digits m) ≡ get_or tenths (m * 10 - 10) 0 = ap tenth_log_of lead ∙ tenth_is (m * 10) (omega arith) (omega arith) in
    let place : get_or tenths (m * 10 - 10) 0 ≡ get_or tenths ((m - 1) * 10) 0 = ap (λ k. get_or tenths k 0) (let e : m * 10 - 10 ≡ (m - 1) * 10 = omega arith in e) in
    omega (arith, none, log, place, every_tenth (m - 1) (omega arith))

ten_digits : digit_count 10 ≡ 2
unfolding digits
ten_digits = refl

fine_ten : fine_log_of 10 ≡ 1000
fine_ten =
    let two : digit_count 10 ≡ 2 = ten_digits in
    let one : digit_count 10 - 1 ≡ 1 = omega (arith, two) in
    let lead : leading_digits 10 ≡ 10 = ap (λ k. 10 * 10 / 10 ^ k) one in
    let log : tenth_log_of (leading_digits 10) ≡ 0 = ap tenth_log_of lead ∙ tenth_is 10 (lit≤ tt) (lit≤ tt) in
    omega (arith, one, log)

fine_of_table : (m : ℕ) → 1 ≤ m → (m < 10) ⊎ (m ≡ 10) → fine_log_of m ≡ get_or fine_table (m - 1) 0
fine_of_table m some (inl h) = fine_below_ten m some h
fine_of_table m some (inr e) = ap fine_log_of e ∙ fine_ten ∙ sym (ap (λ k. get_or fine_table (k - 1) 0) e)

fine_is : (m : ℕ) → 1 ≤ m → m ≤ 10 → fine_log_of m ≡ get_or fine_table (m - 1) 0
fine_is m some few = fine_of_table m some (up_to_ten m few)

-- ---- by both profiles

fine-rises : (a b : ℕ) → 1 ≤ a → a ≤ b → b ≤ 10 → fine_log_of a ≤ fine_log_of b
fine-rises a b some h few =
    let rise = of_ten-rise fine_table a b refl refl some h few in
    omega (arith, rise, fine_is a some (omega arith), fine_is b (omega arith) few)

-- the logarithms of accusers rise
pub log-rises : (p : Profile) (a b : ℕ) → 1 ≤ a → a ≤ b → b ≤ 10 → accuser_log p a ≤ accuser_log p b
log-rises Papers a b some h few = of_ten-rise thousandths_table a b refl refl some h few
log-rises Memberlist a b some h few = fine-rises a b some h few
log-rises Hashicorp a b some h few = fine-rises a b some h few

-- none is over 1000
pub log-le_thousand : (p : Profile) (d : ℕ) → 1 ≤ d → d ≤ 10 → accuser_log p d ≤ 1000
log-le_thousand Papers d some few = thousandths-le d
log-le_thousand Memberlist d some few = let rise = fine-rises d 10 some few (lit≤ tt) in omega (arith, rise, fine_ten)
log-le_thousand Hashicorp d some few = let rise = fine-rises d 10 some few (lit≤ tt) in omega (arith, rise, fine_ten)

-- that of 1 is 0, and of more it is not
pub log-one : (p : Profile) → accuser_log p 1 ≡ 0
log-one Papers = refl
log-one Memberlist = fine_is 1 (lit≤ tt) (lit≤ tt)
log-one Hashicorp = fine_is 1 (lit≤ tt) (lit≤ tt)

pub log-positive : (p : Profile) (b : ℕ) → 2 ≤ b → b ≤ 10 → 301 ≤ accuser_log p b
log-positive Papers b some few = log-rises Papers 2 b (lit≤ tt) some few
log-positive Memberlist b some few = let rise = fine-rises 2 b (lit≤ tt) some few in omega (arith, rise, fine_is 2 (lit≤ tt) (lit≤ tt))
log-positive Hashicorp b some few = let rise = fine-rises 2 b (lit≤ tt) some few in omega (arith, rise, fine_is 2 (lit≤ tt) (lit≤ tt))

-- up to ten the logarithm of a size is that of as many accusers
pub size_log-small : (p : Profile) (m : ℕ) → m ≤ 10 → size_log p m ≡ accuser_log p m
size_log-small Papers m h = of_table m (up_to_ten m h)
size_log-small Memberlist m h = refl
size_log-small Hashicorp m h = close_is_fine m (length-decimal-le 2 m (lit≤ tt) (omega arith) (omega arith))

-- the logarithm of a cluster's size
pub size_log-le : (p : Profile) (n : ℕ) → n ≤ 16384 → size_log p n ≤ 5000
size_log-le Papers n h =
    let few : digit_count n ≤ 5 = length-decimal-le 5 n (lit≤ tt) (omega arith) (omega arith) in
    let entry = thousandths-le (leading_digit n) in
    omega (arith, few, entry)
size_log-le Memberlist n h =
    let few : digit_count n ≤ 5 = length-decimal-le 5 n (lit≤ tt) (omega arith) (omega arith) in
    let entry = tenth-le (leading_digits n) in
    omega (arith, few, entry)
size_log-le Hashicorp n h =
    let few : digit_count n ≤ 5 = length-decimal-le 5 n (lit≤ tt) (omega arith) (omega arith) in
    let third : three_leading_digits n % 10 ≤ 10 = let below : three_leading_digits n % 10 < 10 = mod-lt (three_leading_digits n) (lit≤ tt) in omega (arith, below) in
    let rest = further-le_thousand (three_leading_digits n / 10) (three_leading_digits n % 10) third in
    omega (arith, few, rest)
