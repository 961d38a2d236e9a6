-- Lists of the members' parts: those that are divisions, and those that the items of a list name.
use Rattle.std.proofs.Common.{◌≡◌, ◌%◌, ◌<◌, ◌≤◌, ℕ, zero, suc, true, false, List, [], ◌∷◌, Result, Ok, All, map, fold, max, length, get_or, nat_le, nat_eq, decimal, refl, sym, ap, subst, ◌∙◌, arith}
use Rattle.std.proofs.lemmas.Bool.Decides.{nat_tests}
use Rattle.std.proofs.lemmas.List.Elements.{All-head, All-tail}
use Rattle.std.proofs.lemmas.List.{length-map}
use Rattle.scenario.specs.Division.{divided, has_part_past}
use Rattle.scenario.specs.Division.{Deal}
use Rattle.scenario.specs.declared.division.DivisionFault.{DivisionFault}
use Rattle.command_line.specs.Failures.{IsFaultOf}
use Rattle.command_line.specs.declared.failure.Failure.{Failure}
use Rattle.command_line.specs.declared.failure.Failure.TheVariants as failure
use Rattle.command_line.specs.Division.{AreParts, past_greatest}
use Rattle.arguments.specs.Numbers.{IsNumber}

-- a division of as many members as there are numbers, which are all below the number of parts
fits : (members parts : ℕ) (xs : List ℕ) → 1 ≤ parts → parts ≤ 64 → length xs ≡ members → has_part_past parts xs ≡ false
    → divided members parts xs ≡ Ok (record { parts = parts; part_of = xs })
fits members parts xs some few each below =
    let low : nat_le 1 parts ≡ true = grind (arith, nat_tests) in
    let high : nat_le parts 64 ≡ true = grind (arith, nat_tests) in
    let same : nat_eq (length xs) members ≡ true = grind (arith, nat_tests) in
    rw (low, high, same, below) refl

-- the greatest is over the first, and over each other
over_first : (xs : List ℕ) (a : ℕ) → a ≤ fold max a xs
over_first [] a = omega arith
over_first (x ∷ xs) a = let rest = over_first xs (max a x) in omega arith

over_all : (xs : List ℕ) (a bound : ℕ) → fold max a xs < bound → has_part_past bound xs ≡ false
over_all [] a bound under = refl
over_all (x ∷ xs) a bound under =
    let rest = over_first xs (max a x) in
    let lt : x < bound = omega arith in
    let test : nat_le bound x ≡ false = grind (arith, nat_tests) in
    rw test (over_all xs (max a x) bound under)

under_most : (xs : List ℕ) (a most : ℕ) → a ≤ most → All (λ n. n ≤ most) xs → fold max a xs ≤ most
under_most [] a most low all = low
under_most (x ∷ xs) a most low all =
    let head = All-head (λ n. n ≤ most) x xs all in
    under_most xs (max a x) most (omega (arith, head)) (All-tail (λ n. n ≤ most) x xs all)

-- the numbers of a list's items are a division
pub items_divide : (members : ℕ) (items : List (List ℕ)) (numbers : List ℕ) → length items ≡ members → AreParts items numbers
    → divided members (past_greatest numbers) numbers ≡ Ok (record { parts = past_greatest numbers; part_of = numbers })
items_divide members items numbers each parts =
    let most = under_most numbers 0 63 (omega arith) parts.low in
    let size : length numbers ≡ members = sym (length-map numbers decimal) ∙ ap length parts.written ∙ each in
    fits members (past_greatest numbers) numbers (omega arith) (omega (arith, most)) size (over_all numbers 0 (past_greatest numbers) (omega arith))

-- each item names a number
named : (numbers : List ℕ) (k : ℕ) (word : List ℕ) → k < length (map decimal numbers) → word ≡ get_or (map decimal numbers) k word
    → All (λ n. n ≤ 63) numbers → (n : ℕ) × IsNumber 0 63 word n
named [] k word inside at low = absurd (omega arith)
named (n ∷ numbers) zero word inside at low = (n, record { written = sym at; low = omega arith; high = All-head (λ m. m ≤ 63) n numbers low })
named (n ∷ numbers) (suc k) word inside at low = named numbers k word (omega arith) at (All-tail (λ m. m ≤ 63) n numbers low)

-- an item that names none
pub no_parts : (items : List (List ℕ)) (k : ℕ) (word : List ℕ) → k < length items → word ≡ get_or items k word
    → ((n : ℕ) → IsNumber 0 63 word n → ⊥) → (numbers : List ℕ) → AreParts items numbers → ⊥
no_parts items k word inside at none numbers parts =
    let same = sym parts.written in
    let there : k < length (map decimal numbers) = subst (λ (l : List (List ℕ)). k < length l) same inside in
    let here : word ≡ get_or (map decimal numbers) k word = subst (λ (l : List (List ℕ)). word ≡ get_or l k word) same at in
    let number = named numbers k word there here parts.low in
    none number.0 number.1

-- what is a division has no fault
pub faultless : (answer : Result Deal DivisionFault) (deal : Deal) → answer ≡ Ok deal → (failure : Failure) → IsFaultOf answer failure → ⊥
faultless answer deal is (failure.Division cause) h = cc
faultless answer deal is (failure.File name) h = h
faultless answer deal is failure.Usage h = h
faultless answer deal is failure.Preset h = h
faultless answer deal is (failure.NoItem key) h = h
faultless answer deal is (failure.Rule rule) h = h
faultless answer deal is (failure.Mistaken rule) h = h
faultless answer deal is (failure.Setting rule swept_keys) h = h
faultless answer deal is (failure.Shards cause) h = h
faultless answer deal is failure.Workers h = h
faultless answer deal is (failure.Run cause) h = h
faultless answer deal is failure.Memory h = h
faultless answer deal is failure.Output h = h
faultless answer deal is (failure.Drive cause) h = h

-- the same with the number of parts as it was counted
pub listed : (members parts : ℕ) (items : List (List ℕ)) (numbers : List ℕ) → parts ≡ past_greatest numbers → length items ≡ members → AreParts items numbers
    → divided members parts numbers ≡ Ok (record { parts = past_greatest numbers; part_of = numbers })
listed members parts items numbers is each named =
    ap (λ n. divided members n numbers) is ∙ items_divide members items numbers each named
