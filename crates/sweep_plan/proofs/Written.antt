-- Swept keys and the words that they are written as.
use Rattle.std.proofs.Common.{◌≡◌, ◌<◌, ◌^◌, ℕ, suc, Bool, true, false, List, [], ◌∷◌, Some, All, Contains, cond, map, find, length, get_or, decimal, codes, bytes_eq, sym, ap, subst, refl, ◌∙◌, lit<, inl, inr, arith}
use Rattle.std.proofs.lemmas.Bool.{cases_Bool, false≢true}
use Rattle.std.proofs.lemmas.List.Elements.{All-head, All-tail, All-map, All-weaker}
use Rattle.std.proofs.lemmas.Fmt.{decimal_injective, decimal_is_IsNumeral}
use Rattle.std.proofs.lemmas.Str.Parse.{digit_at}
use Rattle.sweep_plan.specs.Keys.{key_name}
use Rattle.sweep_plan.proofs.Letters.{name_lacks}
use Rattle.sweep_plan.specs.Values.{value_text, FitsToml}
use Rattle.sweep_plan.specs.declared.keys.SweptKey.{SweptKey}
use Rattle.sweep_plan.specs.declared.values.SweptValue.{SweptValue}
use Rattle.sweep_plan.specs.declared.values.SweptValue.TheVariants.{Whole, Switch}
use Rattle.sweep_plan.proofs.Names.{bytes_eq_same}
use Rattle.sweep_plan.proofs.Words.{Lacks, decimal_lacks, lacks_from_test}

-- ---- keys

-- no name has an equals sign
unsigned : (k : SweptKey) → Lacks 61 (key_name k)
unsigned k = name_lacks 61 refl refl k

-- what is found is there, and passes the test
pub found : {A : Type 0} (p : A → Bool) (xs : List A) (x : A) → find p xs ≡ Some x → Contains xs x × (p x ≡ true)
found p [] x is = cc
found p (y ∷ ys) x is =
    elim (cases_Bool (p y)) [
      | inl passes ↦
          let one : Some y ≡ Some x = sym (ap (λ b. cond b (Some y) (find p ys)) passes) ∙ is in
          let same : y ≡ x = cc in
          ((0, omega arith, same), subst (λ z. p z ≡ true) same passes)
      | inr fails ↦
          let rest : find p ys ≡ Some x = sym (ap (λ b. cond b (Some y) (find p ys)) fails) ∙ is in
          let later = found p ys x rest in
          let there = later.0 in
          ((suc there.0, omega (arith, there.1), there.2), later.1)
    ]

-- ---- values

pub value_lacks : (v : SweptValue) → FitsToml v → Lacks 44 (value_text v)
value_lacks (Whole n) low = decimal_lacks n 44 (omega arith) (lit< tt)
value_lacks (Switch true) low = lacks_from_test 44 (codes "true") refl
value_lacks (Switch false) low = lacks_from_test 44 (codes "false") refl

values_lack : (vs : List SweptValue) → All FitsToml vs → All (Lacks 44) (map value_text vs)
values_lack vs fit = All-map (Lacks 44) value_text vs (All-weaker FitsToml (λ v. Lacks 44 (value_text v)) value_lacks vs fit)

-- a number doesn't begin with a letter
digit_first : (n c : ℕ) (rest : List ℕ) → n < 2 ^ 63 → 57 < c → decimal n ≡ c ∷ rest → ⊥
digit_first n c rest low letter same =
    let digits = decimal_is_IsNumeral n (omega arith) in
    let digit = digit_at (decimal n) 0 digits.0.1 digits.0.0 in
    let first : get_or (decimal n) 0 0 ≡ c = ap (λ bytes. get_or bytes 0 0) same in
    omega (arith, digit.1, first)

unlike_switches : codes "true" ≡ codes "false" → ⊥
unlike_switches same = let other : bytes_eq (codes "true") (codes "false") ≡ false = refl in false≢true (sym other ∙ bytes_eq_same (codes "true") (codes "false") same)

same_value : (v w : SweptValue) → FitsToml v → FitsToml w → value_text v ≡ value_text w → v ≡ w
same_value (Whole m) (Whole n) low high same = ap Whole (decimal_injective m n (omega arith) (omega arith) same)
same_value (Whole m) (Switch true) low high same = absurd (digit_first m 116 _ low (lit< tt) same)
same_value (Whole m) (Switch false) low high same = absurd (digit_first m 102 _ low (lit< tt) same)
same_value (Switch true) (Whole n) low high same = absurd (digit_first n 116 _ high (lit< tt) (sym same))
same_value (Switch false) (Whole n) low high same = absurd (digit_first n 102 _ high (lit< tt) (sym same))
same_value (Switch true) (Switch true) low high same = refl
same_value (Switch true) (Switch false) low high same = absurd (unlike_switches same)
same_value (Switch false) (Switch true) low high same = absurd (unlike_switches (sym same))
same_value (Switch false) (Switch false) low high same = refl

pub same_values : (vs ws : List SweptValue) → All FitsToml vs → All FitsToml ws → map value_text vs ≡ map value_text ws → vs ≡ ws
same_values [] [] a b same = refl
same_values [] (w ∷ ws) a b same = let none : 0 ≡ suc (length (map value_text ws)) = ap length same in absurd (omega arith)
same_values (v ∷ vs) [] a b same = let none : suc (length (map value_text vs)) ≡ 0 = ap length same in absurd (omega arith)
same_values (v ∷ vs) (w ∷ ws) a b same =
    let first : value_text v ≡ value_text w = cc in
    let rest : map value_text vs ≡ map value_text ws = cc in
    let one = same_value v w (All-head FitsToml v vs a) (All-head FitsToml w ws b) first in
    let more = same_values vs ws (All-tail FitsToml v vs a) (All-tail FitsToml w ws b) rest in
    ap (λ x. x ∷ vs) one ∙ ap (λ xs. w ∷ xs) more
