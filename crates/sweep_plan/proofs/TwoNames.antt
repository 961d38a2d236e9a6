-- Names that mean one item each.
use Rattle.std.proofs.Common.{◌≡◌, ◌≢◌, ◌<◌, ◌≤◌, ◌+◌, ◌||◌, ℕ, zero, suc, Bool, true, false, List, [], ◌∷◌, ◌++◌, codes, bytes_eq, cond, decimal, drop, get_or, length, take, sym, ap, refl, ◌∙◌, inl, inr, lit<, arith}
use Rattle.std.specs.List.{count_by}
use Rattle.std.proofs.lemmas.Bool.{cases_lt, false_from_ne_true, or_cases}
use Rattle.std.proofs.lemmas.Fmt.{decimal_digit}
use Rattle.std.proofs.lemmas.List.{append-nil, append_assoc, drop_more, get_or_past, take-append-drop}
use Rattle.std.proofs.lemmas.List.Sums.{sum_by-append}
use Rattle.sweep_plan.specs.Meant.{is_meant, marks, number_behind}
use Rattle.sweep_plan.proofs.Marks.{length-marks}
use Rattle.sweep_plan.proofs.Names.{bytes_eq_same, bytes_eq_true}

-- whether the item at a place is meant
pub marks_at : (text : List ℕ) (before names : List (List ℕ)) (place : ℕ) (d : List ℕ) → place < length names
    → get_or (marks text before names) place false ≡ is_meant text (before ++ take place names) (get_or names place d)
marks_at text before [] place d inside = absurd (omega arith)
marks_at text before (own ∷ more) zero d inside = ap (λ l. is_meant text l own) (sym (append-nil before))
marks_at text before (own ∷ more) (suc place) d inside =
    marks_at text (before ++ own ∷ []) more place d (omega arith) ∙ ap (λ l. is_meant text l (get_or more place d)) (append_assoc before (own ∷ []) (take place more))

count_both : {A : Type 0} (p : A → Bool) (xs ys : List A) → count_by p (xs ++ ys) ≡ count_by p xs + count_by p ys
count_both p xs ys = sum_by-append (λ x. cond (p x) 1 0) xs ys

count_first : {A : Type 0} (p : A → Bool) (x : A) (xs : List A) → count_by p (x ∷ xs) ≡ cond (p x) 1 0 + count_by p xs
count_first p x xs =
    let one : count_by p (x ∷ []) ≡ cond (p x) 1 0 = omega arith in
    let both : count_by p (x ∷ xs) ≡ count_by p (x ∷ []) + count_by p xs = count_both p (x ∷ []) xs in
    both ∙ ap (λ n. n + count_by p xs) one

-- whoever has the name is meant
named_are_meant : (text : List ℕ) (before names : List (List ℕ)) → count_by (λ own. bytes_eq own text) names ≤ count_by (λ meant. meant) (marks text before names)
named_are_meant text before [] = omega arith
named_are_meant text before (own ∷ more) =
    let rest = named_are_meant text (before ++ own ∷ []) more in
    let left = count_first (λ one. bytes_eq one text) own more in
    let right = count_first (λ meant. meant) (is_meant text before own) (marks text (before ++ own ∷ []) more) in
    let first = one_more (bytes_eq own text) (bytes_eq (own ++ 46 ∷ decimal (number_behind before own)) text) in
    omega (arith, rest, left, right, first)
  where
    one_more : (x y : Bool) → cond x 1 0 ≤ cond (x || y) 1 0
    one_more true y = omega arith
    one_more false true = omega arith
    one_more false false = omega arith

module _ (names : List (List ℕ)) (place : ℕ) (inside : place < length names) where
  -- the item whose name means it alone is the first of its name
  first : count_by (λ meant. meant) (marks (get_or names place []) [] names) ≡ 1 → number_behind (take place names) (get_or names place []) ≡ 1
  first alone =
      let text = get_or names place [] in
      let few = named_are_meant text [] names in
      let whole : names ≡ take place names ++ (text ∷ drop (place + 1) names) = sym (take-append-drop place names) ∙ ap (λ l. take place names ++ l) (drop_more names place [] inside) in
      let split : count_by (λ own. bytes_eq own text) names ≡ count_by (λ own. bytes_eq own text) (take place names) + count_by (λ own. bytes_eq own text) (text ∷ drop (place + 1) names) =
      ap (count_by (λ own. bytes_eq own text)) whole ∙ count_both (λ own. bytes_eq own text) (take place names) (text ∷ drop (place + 1) names) in
      let here = count_first (λ own. bytes_eq own text) text (drop (place + 1) names) in
      let one = ap (λ b. cond {A = ℕ} b 1 0) (bytes_eq_same text text refl) in
      omega (arith, few, split, here, one, alone)

  numbered_first : (a b : List ℕ) → bytes_eq (get_or names place []) a ≡ true → bytes_eq (get_or names place [] ++ 46 ∷ decimal (number_behind (take place names) (get_or names place []))) b ≡ true
      → count_by (λ meant. meant) (marks a [] names) ≡ 1 → b ≡ a ++ codes ".1"
  numbered_first a b is_a is_b alone =
      let same : get_or names place [] ≡ a = bytes_eq_true (get_or names place []) a is_a in
      let one : number_behind (take place names) (get_or names place []) ≡ 1 = first (ap (λ l. count_by (λ meant. meant) (marks l [] names)) same ∙ alone) in
      sym (bytes_eq_true (get_or names place [] ++ 46 ∷ decimal (number_behind (take place names) (get_or names place []))) b is_b)
      ∙ (λ k. same k ++ 46 ∷ decimal (one k)) ∙ ap (λ l. a ++ 46 ∷ l) (decimal_digit 1 (lit< tt))

  module _ (a b : List ℕ) (one_a : count_by (λ meant. meant) (marks a [] names) ≡ 1) (one_b : count_by (λ meant. meant) (marks b [] names) ≡ 1)
      (apart : a ≢ b) (not_first : a ≢ b ++ codes ".1") (nor_first : b ≢ a ++ codes ".1") where
    not_both : is_meant a (take place names) (get_or names place []) ≡ true → is_meant b (take place names) (get_or names place []) ≡ true → ⊥
    not_both meant_a meant_b =
        let text = get_or names place [] in
        let full = text ++ 46 ∷ decimal (number_behind (take place names) text) in
        elim (or_cases (bytes_eq text a) (bytes_eq full a) meant_a) [
          | inl is_a ↦ elim (or_cases (bytes_eq text b) (bytes_eq full b) meant_b) [
            | inl is_b ↦ apart (sym (bytes_eq_true text a is_a) ∙ bytes_eq_true text b is_b)
            | inr is_b ↦ nor_first (numbered_first a b is_a is_b one_a)
          ]
          | inr is_a ↦ elim (or_cases (bytes_eq text b) (bytes_eq full b) meant_b) [
            | inl is_b ↦ not_first (numbered_first b a is_b is_a one_b)
            | inr is_b ↦ apart (sym (bytes_eq_true full a is_a) ∙ bytes_eq_true full b is_b)
          ]
        ]

pub two_items : (names : List (List ℕ)) (a b : List ℕ) (place : ℕ) → count_by (λ meant. meant) (marks a [] names) ≡ 1 → count_by (λ meant. meant) (marks b [] names) ≡ 1
    → a ≢ b → a ≢ b ++ codes ".1" → b ≢ a ++ codes ".1" → get_or (marks a [] names) place false ≡ true → get_or (marks b [] names) place false ≡ false
two_items names a b place one_a one_b apart not_first nor_first meant_a =
    elim (cases_lt place (length names)) [
      | inl inside ↦
          false_from_ne_true (get_or (marks b [] names) place false) (λ meant_b.
          not_both names place inside a b one_a one_b apart not_first nor_first (sym (marks_at a [] names place [] inside) ∙ meant_a) (sym (marks_at b [] names place [] inside) ∙ meant_b))
      | inr past ↦ let long = length-marks b [] names in get_or_past (marks b [] names) place false (omega (arith, long, past))
    ]
