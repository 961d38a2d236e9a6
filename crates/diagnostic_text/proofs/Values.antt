-- The document of a text's diagnostics reads back.
use Rattle.std.proofs.Common.{◌≡◌, ◌∙◌, ◌≤◌, ◌&&◌, ◌∷◌, ℕ, Some, codes, Bool, true, false, max, List, [], nat_le, subst, refl, arith}
use Rattle.std.proofs.lemmas.Bool.{false≢true}
use Rattle.std.proofs.lemmas.Bool.Decides.{nat_tests}
use Rattle.serde_json.specs.Data.{Data, depth, items_depth, number, unsigned}
use Rattle.serde_json.specs.Find.{get}
use Rattle.serde_json.specs.View.{items_of}
use Rattle.diagnostic_text.specs.Told.{are_shallow, document_of, diagnostic_data}

-- no deeper than each of the values
items_shallow : (ds : List Data) → are_shallow ds ≡ true → items_depth (items_of ds) ≤ 1
items_shallow [] all = omega arith
items_shallow (d ∷ ds) all = go (nat_le (depth d) 1) refl all (items_shallow ds)
  where
    go : (low : Bool) → nat_le (depth d) 1 ≡ low → are_shallow (d ∷ ds) ≡ true → (are_shallow ds ≡ true → items_depth (items_of ds) ≤ 1)
        → items_depth (items_of (d ∷ ds)) ≤ 1
    go true e h rest =
        let few = rest (subst (λ b. (b && are_shallow ds) ≡ true) e h) in
        let flat : depth d ≤ 1 = grind (arith, nat_tests) in
        omega (arith, few, flat)
    go false e h rest = absurd (false≢true (subst (λ b. (b && are_shallow ds) ≡ true) e h))

pub document_reads : (file : List ℕ) (ds : List Data) (more : ℕ) → are_shallow ds ≡ true → depth (document_of file ds more) ≤ 127
document_reads file ds more all =
    let few = items_shallow ds all in
    omega (arith, few)

-- what a diagnostic's object says first, and that it has no other one
pub tells_rule : {d : Data} (rule : ℕ) (message remedy : List ℕ) (line column length : ℕ) → d ≡ diagnostic_data rule message remedy line column length
    → get (codes "rule") d ≡ Some (number (unsigned rule))
unfolding diagnostic_data
tells_rule rule message remedy line column length is = rw is refl

pub tells_shallow : {d : Data} (rule : ℕ) (message remedy : List ℕ) (line column length : ℕ) → d ≡ diagnostic_data rule message remedy line column length
    → depth d ≡ 1
unfolding diagnostic_data
tells_shallow rule message remedy line column length is = rw is refl
