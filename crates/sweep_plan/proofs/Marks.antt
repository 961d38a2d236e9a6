-- Which items a name means, one after the other, and names that end with a number.
use Rattle.std.proofs.Common.{◌≡◌, ◌<◌, ◌+◌, ◌^◌, ◌==◌, ◌&&◌, ◌||◌, ℕ, suc, Bool, true, false, List, [], ◌∷◌, ◌++◌, Option, Some, None, bytes_eq, cond, decimal, drop, get_or, length, map, zip, sym, ap, subst, refl, ◌∙◌, lit<, arith}
use Rattle.std.specs.List.{count_by}
use Rattle.std.specs.Str.Pattern.{RFindsChar, SplitsAroundMatch}
use Rattle.std.specs.Str.{NoCharPasses}
use Rattle.std.proofs.lemmas.Bool.{and_parts}
use Rattle.std.proofs.lemmas.Bool.Decides.{nat_tests}
use Rattle.std.proofs.lemmas.Fmt.{decimal_injective}
use Rattle.std.proofs.lemmas.List.{append-nil, append_assoc, get_or_at, length-append, map-append, take-append-drop}
use Rattle.std.proofs.lemmas.List.Sums.{count_by-le-length, sum_by-append}
use Rattle.std.proofs.lemmas.Str.Pattern.{NoCharPasses-char, drop_at_char}
use Rattle.toml.specs.Data.{Data}
use Rattle.sweep_plan.specs.Document.{with_item, with_marked}
use Rattle.sweep_plan.specs.Meant.{is_meant, marks, number_behind}
use Rattle.sweep_plan.specs.Numbered.{IsCut, IsNumbered, is_numbered, is_stem}
use Rattle.sweep_plan.specs.declared.meant.Numbered.{Numbered}
use Rattle.sweep_plan.specs.declared.set_keys.SetKey.{SetKey}
use Rattle.sweep_plan.proofs.Apart.{cut_last}
use Rattle.sweep_plan.proofs.Names.{bytes_eq_false, bytes_eq_same, bytes_eq_true}
use Rattle.sweep_plan.proofs.Words.{Lacks, decimal_lacks, lacks_each}

-- ---- a list, item by item

pub length-marks : (text : List ℕ) (before names : List (List ℕ)) → length (marks text before names) ≡ length names
length-marks text before [] = refl
length-marks text before (own ∷ more) = ap suc (length-marks text (before ++ own ∷ []) more)

pub marks_push : (text : List ℕ) (before names : List (List ℕ)) (own : List ℕ) → marks text before (names ++ own ∷ []) ≡ marks text before names ++ is_meant text (before ++ names) own ∷ []
marks_push text before [] own = ap (λ l. is_meant text l own ∷ []) (sym (append-nil before))
marks_push text before (one ∷ names) own =
    ap (λ l. is_meant text before one ∷ l)
    (marks_push text (before ++ one ∷ []) names own ∙ ap (λ l. marks text (before ++ one ∷ []) names ++ is_meant text l own ∷ []) (append_assoc before (one ∷ []) names))

pub zip_push : {A B : Type 0} (xs : List A) (ys : List B) (x : A) (y : B) → length xs ≡ length ys → zip (xs ++ x ∷ []) (ys ++ y ∷ []) ≡ zip xs ys ++ (x, y) ∷ []
zip_push [] [] x y same = refl
zip_push [] (b ∷ ys) x y same = absurd (omega arith)
zip_push (a ∷ xs) [] x y same = absurd (omega arith)
zip_push (a ∷ xs) (b ∷ ys) x y same = ap (λ l. (a, b) ∷ l) (zip_push xs ys x y (omega arith))

pub count_push : {A : Type 0} (p : A → Bool) (xs : List A) (x : A) → count_by p (xs ++ x ∷ []) ≡ count_by p xs + cond (p x) 1 0
count_push p xs x =
    let whole : count_by p (xs ++ x ∷ []) ≡ count_by p xs + count_by p (x ∷ []) = sum_by-append (λ y. cond (p y) 1 0) xs (x ∷ []) in
    let one : count_by p (x ∷ []) ≡ cond (p x) 1 0 = omega arith in
    whole ∙ ap (λ n. count_by p xs + n) one

-- ---- names that end with a number

dot_there : (stem rest : List ℕ) → get_or (stem ++ 46 ∷ rest) (length stem) 0 ≡ 46
dot_there stem rest = get_or_at stem 46 rest 0 (length stem) refl

-- a name without a dot is none
pub uncut : (name : List ℕ) → NoCharPasses (λ d. d == 46) name → (stem : List ℕ) (number : ℕ) → IsNumbered name stem number → ⊥
uncut name none stem number is =
    let long = length-append stem (46 ∷ decimal number) in
    let same = ap length is.written in
    NoCharPasses-char 46 name (length stem) none (lit< tt) (omega (arith, long, same)) (ap (λ l. get_or l (length stem) 0) (sym is.written) ∙ dot_there stem (decimal number))

abbrev pub AtLastDot : List ℕ → List ℕ → List ℕ → Type 0
AtLastDot name stem digits = SplitsAroundMatch (RFindsChar 46) name stem digits

pub parts_of : (name stem digits : List ℕ) → AtLastDot name stem digits → (name ≡ stem ++ 46 ∷ digits) × Lacks 46 digits
parts_of name stem digits (i, j, found, front, back, _, _, _) =
    let at : drop i name ≡ 46 ∷ drop j name = drop_at_char 46 name i j found.1 (lit< tt) in (
      sym (take-append-drop i name) ∙ (λ k. sym front k ++ at k) ∙ ap (λ l. stem ++ 46 ∷ l) (sym back),
      lacks_each 46 digits (λ k inside. NoCharPasses-char 46 digits k (subst (NoCharPasses (λ d. d == 46)) (sym back) found.0) (lit< tt) inside),
    )

same_cut : (a b digits : List ℕ) (n : ℕ) → n < 2 ^ 63 → Lacks 46 digits → a ++ 46 ∷ digits ≡ b ++ 46 ∷ decimal n → (a ≡ b) × (digits ≡ decimal n)
same_cut a b digits n low lacks same = cut_last 46 a b digits (decimal n) lacks (decimal_lacks n 46 (omega arith) (lit< tt)) same

pub digits_are : (name stem digits : List ℕ) → AtLastDot name stem digits → (other : List ℕ) (number : ℕ) → IsNumbered name other number → decimal number ≡ digits
digits_are name stem digits at other number is =
    let parts = parts_of name stem digits at in
    sym (same_cut stem other digits number is.low parts.1 (sym parts.0 ∙ sym is.written)).1

pub cut_there : (name stem digits : List ℕ) (number : ℕ) → AtLastDot name stem digits → decimal number ≡ digits → number < 2 ^ 63 → IsNumbered name stem number
cut_there name stem digits number at written low =
    record { written = ap (λ l. stem ++ 46 ∷ l) written ∙ sym (parts_of name stem digits at).0; low = low }

-- ---- the item of a number

iff : (a b : Bool) → (a ≡ true → b ≡ true) → (b ≡ true → a ≡ true) → a ≡ b
iff true b there back = sym (there refl)
iff false true there back = back refl
iff false false there back = refl

is_eq_number : (m n : ℕ) → (m == n) ≡ true → m ≡ n
is_eq_number m n same = grind (arith, nat_tests)

eq_number : (m n : ℕ) → m ≡ n → (m == n) ≡ true
eq_number m n same = grind (arith, nat_tests)

both : (a b : Bool) → a ≡ true → b ≡ true → (a && b) ≡ true
both a b one two = ap (λ x. x && b) one ∙ two

-- those that have numbers, counted with one more of their name
with_own : (before : List (List ℕ)) (own stem : List ℕ) → own ≡ stem → count_by (λ one. bytes_eq one stem) (before ++ own ∷ []) ≡ number_behind before own
with_own before own stem same =
    count_push (λ one. bytes_eq one stem) before own
    ∙ ap (λ b. count_by (λ one. bytes_eq one stem) before + cond b 1 0) (bytes_eq_same own stem same)
    ∙ ap (λ l. count_by (λ one. bytes_eq one l) before + 1) (sym same)

pub number_is : (cut : Option Numbered) (name own : List ℕ) (before : List (List ℕ)) → IsCut name cut → number_behind before own < 2 ^ 63
    → bytes_eq (own ++ 46 ∷ decimal (number_behind before own)) name ≡ is_numbered cut (count_by (is_stem cut) (before ++ own ∷ [])) own
number_is None name own before none low =
    bytes_eq_false (own ++ 46 ∷ decimal (number_behind before own)) name (λ same. none own (number_behind before own) (record { written = same; low = low }))
number_is (Some cut) name own before is low = iff (bytes_eq (own ++ 46 ∷ decimal n) name) (bytes_eq own cut.stem.now && (m == cut.number)) there back
  where
    n : ℕ
    n = number_behind before own

    m : ℕ
    m = count_by (λ one. bytes_eq one cut.stem.now) (before ++ own ∷ [])

    there : bytes_eq (own ++ 46 ∷ decimal (number_behind before own)) name ≡ true
        → (bytes_eq own cut.stem.now && (count_by (λ one. bytes_eq one cut.stem.now) (before ++ own ∷ []) == cut.number)) ≡ true
    there alike =
        let whole : own ++ 46 ∷ decimal (number_behind before own) ≡ cut.stem.now ++ 46 ∷ decimal cut.number = bytes_eq_true (own ++ 46 ∷ decimal (number_behind before own)) name alike ∙ sym is.written in
        let is_low = is.low in
        let parts = same_cut own cut.stem.now (decimal (number_behind before own)) cut.number is.low (decimal_lacks (number_behind before own) 46 (omega arith) (lit< tt)) whole in
        let number : number_behind before own ≡ cut.number = decimal_injective (number_behind before own) cut.number (omega arith) (omega arith) parts.1 in
        both (bytes_eq own cut.stem.now) (count_by (λ one. bytes_eq one cut.stem.now) (before ++ own ∷ []) == cut.number) (bytes_eq_same own cut.stem.now parts.0)
        (eq_number (count_by (λ one. bytes_eq one cut.stem.now) (before ++ own ∷ [])) cut.number (with_own before own cut.stem.now parts.0 ∙ number))

    back : (bytes_eq own cut.stem.now && (count_by (λ one. bytes_eq one cut.stem.now) (before ++ own ∷ []) == cut.number)) ≡ true
        → bytes_eq (own ++ 46 ∷ decimal (number_behind before own)) name ≡ true
    back alike =
        let parts = and_parts (bytes_eq own cut.stem.now) (count_by (λ one. bytes_eq one cut.stem.now) (before ++ own ∷ []) == cut.number) alike in
        let own_is : own ≡ cut.stem.now = bytes_eq_true own cut.stem.now parts.0 in
        let number : number_behind before own ≡ cut.number =
        sym (with_own before own cut.stem.now own_is) ∙ is_eq_number (count_by (λ one. bytes_eq one cut.stem.now) (before ++ own ∷ [])) cut.number parts.1 in
        bytes_eq_same (own ++ 46 ∷ decimal (number_behind before own)) name ((λ k. own_is k ++ 46 ∷ decimal (number k)) ∙ is.written)

-- one item more
pub mark_more : (cut : Option Numbered) (text own same : List ℕ) (names : List (List ℕ)) (found : ℕ) (mark : Bool) (so_far new : List Bool) → IsCut text cut → length new < 2 ^ 63 → same ≡ own
    → found ≡ count_by (is_stem cut) (names ++ own ∷ []) → mark ≡ (bytes_eq same text || is_numbered cut found same) → so_far ≡ marks text [] names → new ≡ so_far ++ mark ∷ []
    → new ≡ marks text [] (names ++ own ∷ [])
mark_more cut text own same names found mark so_far new is short own_is found_is mark_is before after =
    after ∙ (λ k. before k ++ meant k ∷ []) ∙ sym (marks_push text [] names own)
  where
    low : number_behind names own < 2 ^ 63
    low =
        let few = count_by-le-length (λ one. bytes_eq one own) names in
        let long = length-marks text [] names in
        let so_long = ap length before in
        let one_more = ap length after ∙ length-append so_far (mark ∷ []) in
        omega (arith, few, long, so_long, one_more, short)

    meant : mark ≡ is_meant text names own
    meant = mark_is ∙ (λ k. bytes_eq (own_is k) text || is_numbered cut (found_is k) (own_is k)) ∙ ap (λ b. bytes_eq own text || b) (sym (number_is cut text own names is low))

pub marked_more : (k : SetKey) (d : Data) (meant : List Bool) (xs : List Data) (m : Bool) (x : Data) → length meant ≡ length xs
    → with_marked k d (meant ++ m ∷ []) (xs ++ x ∷ []) ≡ with_marked k d meant xs ++ with_item k d m x ∷ []
marked_more k d meant xs m x same =
    ap (map (λ (it : Bool × Data). with_item k d it.0 it.1)) (zip_push meant xs m x same) ∙ map-append (λ (it : Bool × Data). with_item k d it.0 it.1) (zip meant xs) ((m, x) ∷ [])
