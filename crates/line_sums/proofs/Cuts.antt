-- Where texts are cut, and which bytes a checksum doesn't have.
use Rattle.std.proofs.Common.{◌≡◌, ◌≢◌, ◌∙◌, ◌==◌, ◌+◌, ◌/◌, ◌%◌, ℕ, zero, suc, false, List, [], ◌∷◌, ◌++◌, length, take, refl, sym, ap, subst, arith, append_assoc, length-append}
use Rattle.std.specs.Prelude.{All, slice_index}
use Rattle.std.specs.List.{AllByRecursion}
use Rattle.std.proofs.lemmas.Bool.Decides.{nat_tests}
use Rattle.std.proofs.lemmas.List.{take_at}
use Rattle.std.proofs.lemmas.List.Elements.{All-cons, All-head, All-nil, All-tail}
use Rattle.hex.specs.Hex.{encode_with, lower_digits}
use Rattle.sha2.specs.Sha256.{sha256}
use Rattle.line_sums.specs.Sums.{IsCut, IsFirstLine, checksum, summed}

abbrev pub Lacks : ℕ → List ℕ → Type 0
Lacks c xs = All (λ x. (x == c) ≡ false) xs

self_lacks : (c : ℕ) → (c == c) ≡ false → ⊥
self_lacks c other = grind (arith, nat_tests, other)

-- a byte of a table that lacks one, or that there isn't
index_lacks : (c : ℕ) → (0 == c) ≡ false → (t : List ℕ) → AllByRecursion (λ x. (x == c) ≡ false) t → (k : ℕ) → (slice_index t k == c) ≡ false
index_lacks c some [] all k = some
index_lacks c some (x ∷ t) all zero = all.0
index_lacks c some (x ∷ t) all (suc k) = index_lacks c some t all.1 k

hex_lacks : (c : ℕ) → ((k : ℕ) → (slice_index lower_digits k == c) ≡ false) → (xs : List ℕ) → Lacks c (encode_with lower_digits xs)
unfolding encode_with
hex_lacks c digit [] = All-nil (λ x. (x == c) ≡ false)
hex_lacks c digit (b ∷ xs) =
    let high : ℕ = slice_index lower_digits (b / 16) in
    let low : ℕ = slice_index lower_digits (b % 16) in
    All-cons (λ x. (x == c) ≡ false) high (low ∷ encode_with lower_digits xs) (digit (b / 16))
    (All-cons (λ x. (x == c) ≡ false) low (encode_with lower_digits xs) (digit (b % 16)) (hex_lacks c digit xs))

-- no digit is a space, and none is a line feed
pub sum_no_space : (key line : List ℕ) → Lacks 32 (checksum key line)
unfolding checksum
sum_no_space key line = hex_lacks 32 (index_lacks 32 refl lower_digits (refl, (refl, (refl, (refl, (refl, (refl, (refl, (refl, (refl, (refl, (refl, (refl, (refl, (refl, (refl, (refl, tt))))))))))))))))) (take 4 (sha256 (key ++ line)))

pub sum_no_feed : (key line : List ℕ) → Lacks 10 (checksum key line)
unfolding checksum
sum_no_feed key line = hex_lacks 10 (index_lacks 10 refl lower_digits (refl, (refl, (refl, (refl, (refl, (refl, (refl, (refl, (refl, (refl, (refl, (refl, (refl, (refl, (refl, (refl, tt))))))))))))))))) (take 4 (sha256 (key ++ line)))

-- what stands before the first byte of a kind, and what comes behind it, are one
pub cut_one : (c : ℕ) (a b x y : List ℕ) → Lacks c a → Lacks c b → a ++ c ∷ x ≡ b ++ c ∷ y → (a ≡ b) × (x ≡ y)
cut_one c [] [] x y in_a in_b same = (refl, cc)
cut_one c [] (e ∷ b) x y in_a in_b same = absurd (self_lacks c (subst (λ z. (z == c) ≡ false) (sym head) (All-head (λ z. (z == c) ≡ false) e b in_b)))
  where
    head : c ≡ e
    head = cc
cut_one c (d ∷ a) [] x y in_a in_b same = absurd (self_lacks c (subst (λ z. (z == c) ≡ false) head (All-head (λ z. (z == c) ≡ false) d a in_a)))
  where
    head : d ≡ c
    head = cc
cut_one c (d ∷ a) (e ∷ b) x y in_a in_b same =
    let head : d ≡ e = cc in
    let rest : a ++ c ∷ x ≡ b ++ c ∷ y = cc in
    let more = cut_one c a b x y (All-tail (λ z. (z == c) ≡ false) d a in_a) (All-tail (λ z. (z == c) ≡ false) e b in_b) rest in
    ((λ i. head i ∷ more.0 i), more.1)

-- a text that lacks a byte isn't cut there
pub not_cut : (c : ℕ) (text a x : List ℕ) → Lacks c text → text ≢ a ++ c ∷ x
not_cut c [] [] x lacks same = absurd (nil_cons c x same)
  where
    nil_cons : (c : ℕ) (x : List ℕ) → [] ≡ c ∷ x → ⊥
    nil_cons c x e = cc
not_cut c [] (d ∷ a) x lacks same = absurd (nil_cons d (a ++ c ∷ x) same)
  where
    nil_cons : (c : ℕ) (x : List ℕ) → [] ≡ c ∷ x → ⊥
    nil_cons c x e = cc
not_cut c (e ∷ text) [] x lacks same = absurd (self_lacks c (subst (λ z. (z == c) ≡ false) head (All-head (λ z. (z == c) ≡ false) e text lacks)))
  where
    head : e ≡ c
    head = cc
not_cut c (e ∷ text) (d ∷ a) x lacks same =
    let rest : text ≡ a ++ c ∷ x = cc in
    not_cut c text a x (All-tail (λ z. (z == c) ≡ false) e text lacks) rest

-- the first line of a text, behind which comes what is left
pub line_first : (text body left : List ℕ) → IsCut 10 text body left → IsFirstLine text (take (length body + 1) text) left
line_first text body left cut =
    let whole : text ≡ (body ++ 10 ∷ []) ++ left = cut.written ∙ sym (append_assoc body (10 ∷ []) left) in
    let long : length (body ++ 10 ∷ []) ≡ length body + 1 = length-append body (10 ∷ []) in
    let line : take (length body + 1) text ≡ body ++ 10 ∷ [] = ap (take (length body + 1)) whole ∙ take_at (body ++ 10 ∷ []) left (length body + 1) long in
    record { body = body; one = cut.lacks; fed = line; written = whole ∙ ap (λ l. l ++ left) (sym line) }

-- it is one
pub same_first : (text line left other rest : List ℕ) → IsFirstLine text line left → IsFirstLine text other rest → (line ≡ other) × (left ≡ rest)
same_first text line left other rest a b =
    let cut_a : text ≡ a.body ++ 10 ∷ left = a.written ∙ ap (λ l. l ++ left) a.fed ∙ append_assoc a.body (10 ∷ []) left in
    let cut_b : text ≡ b.body ++ 10 ∷ rest = b.written ∙ ap (λ l. l ++ rest) b.fed ∙ append_assoc b.body (10 ∷ []) rest in
    let same = cut_one 10 a.body b.body left rest a.one b.one (sym cut_a ∙ cut_b) in
    (a.fed ∙ ap (λ l. l ++ 10 ∷ []) same.0 ∙ sym b.fed, same.1)

-- a checksum that is right is that of what stands behind it
pub sum_one : (key whole word line other : List ℕ) → IsCut 32 whole word line → whole ≡ summed key other → (word ≡ checksum key line) × (line ≡ other)
sum_one key whole word line other cut is =
    let same = cut_one 32 word (checksum key other) line other cut.lacks (sum_no_space key other) (sym cut.written ∙ is) in
    (same.0 ∙ ap (checksum key) (sym same.1), same.1)

-- a text with a first line has a line feed
pub first_is_cut : (text line left : List ℕ) → IsFirstLine text line left → ¬ (Lacks 10 text)
first_is_cut text line left first lacks =
    not_cut 10 text first.body left lacks (first.written ∙ ap (λ l. l ++ left) first.fed ∙ append_assoc first.body (10 ∷ []) left)

-- a text has one line with a checksum
pub one_summed : (key line other : List ℕ) → summed key line ≡ summed key other → line ≡ other
one_summed key line other same =
    (sum_one key (summed key line) (checksum key line) line other (record { lacks = sum_no_space key line; written = refl }) same).1
