-- Which bytes words, notes and lines don't have.
use Rattle.std.proofs.Common.{◌≡◌, ◌==◌, ℕ, Bool, true, false, List, [], ◌∷◌, ◌++◌, refl}
use Rattle.std.specs.Prelude.{All, if◌then◌else◌}
use Rattle.std.specs.List.{join_with_byte}
use Rattle.std.proofs.lemmas.List.Elements.{All-append, All-cons, All-head, All-nil, All-tail}
use Rattle.csv.specs.Writing.{default_writer, escaped, field_text, quoted}
use Rattle.sweep_plan.proofs.Words.{Lacks}

pub lacks_cons : (c x : ℕ) (xs : List ℕ) → (x == c) ≡ false → Lacks c xs → Lacks c (x ∷ xs)
lacks_cons c x xs = All-cons (λ y. (y == c) ≡ false) x xs

pub lacks_both : (c : ℕ) (xs ys : List ℕ) → Lacks c xs → Lacks c ys → Lacks c (xs ++ ys)
lacks_both c xs ys = All-append (λ y. (y == c) ≡ false) xs ys

-- parts that are joined by another byte
pub lacks_joined : (c d : ℕ) (parts : List (List ℕ)) → (d == c) ≡ false → All (Lacks c) parts → Lacks c (join_with_byte d parts)
lacks_joined c d [] other lack = All-nil (λ y. (y == c) ≡ false)
lacks_joined c d (part ∷ []) other lack = All-head (Lacks c) part [] lack
lacks_joined c d (part ∷ next ∷ parts) other lack =
    lacks_both c part (d ∷ join_with_byte d (next ∷ parts)) (All-head (Lacks c) part (next ∷ parts) lack)
    (lacks_cons c d (join_with_byte d (next ∷ parts)) other (lacks_joined c d (next ∷ parts) other (All-tail (Lacks c) part (next ∷ parts) lack)))

-- ---- fields

escaped_lacks : (xs : List ℕ) → Lacks 10 xs → Lacks 10 (escaped default_writer xs)
unfolding escaped
escaped_lacks [] lack = lack
escaped_lacks (x ∷ xs) lack =
    let rest = escaped_lacks xs (All-tail (λ y. (y == 10) ≡ false) x xs lack) in
    let here : (x == 10) ≡ false = All-head (λ y. (y == 10) ≡ false) x xs lack in
    elim (x == 34) as (λ b. Lacks 10 (if b then 34 ∷ x ∷ escaped default_writer xs else x ∷ escaped default_writer xs)) [
      | true ↦ lacks_cons 10 34 (x ∷ escaped default_writer xs) refl (lacks_cons 10 x (escaped default_writer xs) here rest)
      | false ↦ lacks_cons 10 x (escaped default_writer xs) here rest
    ]

quoted_lacks : (xs : List ℕ) → Lacks 10 xs → Lacks 10 (quoted default_writer xs)
quoted_lacks xs lack =
    lacks_cons 10 34 (escaped default_writer xs ++ 34 ∷ []) refl
    (lacks_both 10 (escaped default_writer xs) (34 ∷ []) (escaped_lacks xs lack) (lacks_cons 10 34 [] refl (All-nil (λ y. (y == 10) ≡ false))))

pub field_lacks : (xs : List ℕ) → Lacks 10 xs → Lacks 10 (field_text default_writer xs)
field_lacks xs lack = by _
  where
    by : (b : Bool) → Lacks 10 (if b then quoted default_writer xs else xs)
    by true = quoted_lacks xs lack
    by false = lack
