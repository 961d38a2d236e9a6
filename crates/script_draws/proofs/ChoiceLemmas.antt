-- The choice of some members, step by step.
use Rattle.std.proofs.Common.{◌≡◌, ◌<◌, ◌≤◌, ℕ, zero, suc, ◌-◌, Bool, true, false, not, List, [], ◌∷◌, ◌++◌, ◌+◌, length, filter, take, get_or, if◌then◌else◌, nat_le, Some, Result, Ok, Err, IfOk, sym, refl, ap, ◌∙◌, arith}
use Rattle.std.specs.List.{remove}
use Rattle.std.proofs.lemmas.Bool.Decides.{nat_tests}
use Rattle.std.proofs.lemmas.List.Elements.{filter_more}
use Rattle.streams.specs.Draw.{Words, below_of}
use Rattle.script_draws.specs.Choice.{left_after, is_among, chosen_of}

-- one more is taken out
pub one_taken : (remaining : ℕ) (items left : List ℕ) (words rest : Words) (place : ℕ) → 0 < remaining → (place, rest) ≡ below_of words (length items) → left ≡ remove items place
    → left_after (remaining - 1) left rest ≡ left_after remaining items words
one_taken zero items left words rest place some drawn is = absurd (omega arith)
one_taken (suc before) items left words rest place some drawn is =
    let less : suc before - 1 ≡ before = omega arith in
    ap (λ (n : ℕ). left_after n left rest) less
    ∙ ap (λ (items : List ℕ). left_after before items rest) is
    ∙ ap (λ (p : ℕ × Words). left_after before (remove items p.0) p.1) drawn

-- those that are taken out are chosen
pub some_chosen : (count : ℕ) (members left made : List ℕ) (words rest : Words) → count < length members → (left, rest) ≡ left_after count members words
    → made ≡ filter (λ item. not (is_among left item)) members → (made, rest) ≡ chosen_of (Some count) members words
some_chosen count members left made words rest more drawn is =
    let test : nat_le (length members) count ≡ false = grind (arith, nat_tests) in
    rw test
    (ap (λ (chosen : List ℕ). (chosen, rest)) is
    ∙ ap (λ (p : List ℕ × Words). (filter (λ item. not (is_among p.0 item)) members, p.1)) drawn)

-- as many as there are: all
pub all_chosen : (count : ℕ) (members : List ℕ) (words : Words) → length members ≤ count → (members, words) ≡ chosen_of (Some count) members words
all_chosen count members words enough =
    let test : nat_le (length members) count ≡ true = grind (arith, nat_tests) in
    rw test refl

-- one more is kept, where it isn't left
pub one_kept : (left members made new : List ℕ) (i member : ℕ) → i < length members → member ≡ get_or members i member → made ≡ filter (λ item. not (is_among left item)) (take i members)
    → new ≡ made ++ (if not (is_among left member) then member ∷ [] else []) → new ≡ filter (λ item. not (is_among left item)) (take (i + 1) members)
one_kept left members made new i member low at before is =
    let p : ℕ → Bool = λ item. not (is_among left item) in
    is
    ∙ ap (λ (front : List ℕ). front ++ (if p member then member ∷ [] else [])) before
    ∙ ap (λ (m : ℕ). filter p (take i members) ++ (if p m then m ∷ [] else [])) at
    ∙ sym (filter_more p members i member low)

pub ok_then : {T E : Type 0} (P Q : T → Type 0) (r : Result T E) → IfOk r P → ((x : T) → P x → Q x) → IfOk r Q
ok_then P Q (Ok x) is f = f x is
ok_then P Q (Err e) is f = tt
