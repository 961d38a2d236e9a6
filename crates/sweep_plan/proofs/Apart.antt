-- Keys of one name are one.
use Rattle.std.proofs.Common.{◌≡◌, ◌≤◌, ◌+◌, ◌-◌, ℕ, zero, suc, ◌==◌, ◌&&◌, true, false, List, [], ◌∷◌, ◌++◌, Option, Some, Contains, filter, find, length, nat_lt, replicate, sym, ap, subst, ◌∙◌, refl, inl, inr, arith}
use Rattle.std.specs.List.{list_all, AllByRecursion}
use Rattle.std.proofs.lemmas.Bool.{and_parts, false≢true}
use Rattle.std.proofs.lemmas.Bool.Decides.{nat_tests}
use Rattle.std.proofs.lemmas.List.{append-nil, length-append}
use Rattle.std.proofs.lemmas.List.Elements.{All-contains, All-from_recursion, All-head, All-tail, filter-append}
use Rattle.schema.specs.Schema.{spelling_of, key_rules_of}
use Rattle.schema.specs.declared.schema.FormatKey.{FormatKey}
use Rattle.schema.specs.declared.schema.FormatKey.TheVariants as key
use Rattle.sweep_plan.specs.Items.{is_letter, is_item_name, kept_name, item_text}
use Rattle.sweep_plan.specs.Keys.{in_table, of_item, key_name, key_named, is_named, settable, listed, IsItemKey, MaySet}
use Rattle.sweep_plan.specs.SetKeys.{entry_keys, key_spelling}
use Rattle.sweep_plan.specs.declared.keys.SweptKey.{SweptKey}
use Rattle.sweep_plan.specs.declared.set_keys.SetKey.{SetKey}
use Rattle.sweep_plan.specs.declared.set_keys.SetKey.TheVariants as set
use Rattle.sweep_plan.proofs.Letters.{key_lacks, same_byte, spelling_lacks}
use Rattle.sweep_plan.proofs.Words.{Lacks, cut_once}

-- ---- keys outside lists

-- each key that may be set is the one of its name
named_each : AllByRecursion (λ k. key_named (key_name k) ≡ Some k) settable
unfolding settable key_named key_rules_of spelling_of
named_each = (refl, (refl, (refl, (refl, (refl, (refl, (refl, (refl, (refl, (refl, (refl, (refl, (refl, (refl, (refl, (refl, (refl, (refl, (refl, (refl, (refl, (refl, (refl, (refl, (refl, (refl, (refl, (refl, (refl, (refl, (refl, (refl, (refl, (refl, tt))))))))))))))))))))))))))))))))))

pub named_itself : (k : SweptKey) → Contains settable k → key_named (key_name k) ≡ Some k
named_itself k known = All-contains (λ j. key_named (key_name j) ≡ Some j) settable k (All-from_recursion (λ j. key_named (key_name j) ≡ Some j) settable named_each) known

same_outside : (j k : SweptKey) → Contains settable j → Contains settable k → key_name j ≡ key_name k → j ≡ k
same_outside j k known known_too same =
    let one : Some j ≡ Some k = sym (named_itself j known) ∙ ap key_named same ∙ named_itself k known_too in
    cc

-- ---- names that are kept

passing : (xs : List ℕ) → list_all is_letter xs ≡ true → filter is_letter xs ≡ xs
passing [] all = refl
passing (x ∷ xs) all =
    let parts = and_parts (is_letter x) (list_all is_letter xs) all in
    rw parts.0 (ap (λ more. x ∷ more) (passing xs parts.1))

no_zeros : (n : ℕ) → filter is_letter (replicate n 0) ≡ []
no_zeros zero = refl
no_zeros (suc n) = no_zeros n

letters_of : (name : List ℕ) → is_item_name name ≡ true → list_all is_letter name ≡ true
letters_of [] sound = absurd (false≢true sound)
letters_of (first ∷ rest) sound =
    let parts = and_parts ((first == 46) && nat_lt (length rest) 76) (list_all is_letter rest) sound in
    let front = and_parts (first == 46) (nat_lt (length rest) 76) parts.0 in
    let dot : is_letter first ≡ true = ap is_letter (same_byte first 46 front.0) in
    ap (λ b. b && list_all is_letter rest) dot ∙ parts.1

pub kept_is : (name : List ℕ) → is_item_name name ≡ true → item_text (kept_name name) ≡ name
kept_is name sound =
    filter-append is_letter name (replicate (76 - length name) 0)
    ∙ ap (λ l. l ++ filter is_letter (replicate (76 - length name) 0)) (passing name (letters_of name sound))
    ∙ ap (λ l. name ++ l) (no_zeros (76 - length name))
    ∙ append-nil name

dotted_name : (name : List ℕ) → is_item_name name ≡ true → (rest : List ℕ) × (name ≡ 46 ∷ rest)
dotted_name [] sound = absurd (false≢true sound)
dotted_name (first ∷ rest) sound =
    let parts = and_parts ((first == 46) && nat_lt (length rest) 76) (list_all is_letter rest) sound in
    let front = and_parts (first == 46) (nat_lt (length rest) 76) parts.0 in
    (rest, ap (λ x. x ∷ rest) (same_byte first 46 front.0))

-- ---- keys of items

abbrev InTable : SweptKey → Type 0
InTable j = (t : FormatKey) × (x : SetKey) × (j ≡ in_table t x)

in_each : AllByRecursion InTable listed
unfolding listed key_rules_of entry_keys
in_each = ((key.Group, set.Plain key.Count, refl), ((key.Group, set.Plain key.Start, refl), ((key.Path, set.Plain key.Delay, refl), ((key.Path, set.Plain key.Jitter, refl), ((key.Path, set.Plain key.Loss, refl), ((key.Slow, set.Plain key.From, refl), ((key.Slow, set.Plain key.Until, refl), ((key.Slow, set.Plain key.Extra, refl), ((key.Crash, set.Plain key.At, refl), ((key.Cut, set.Plain key.At, refl), ((key.Cut, set.Plain key.Until, refl), ((key.Leave, set.Plain key.At, refl), ((key.Pause, set.Plain key.From, refl), ((key.Pause, set.Plain key.Until, refl), ((key.Restart, set.Plain key.At, refl), ((key.Block, set.Plain key.From, refl), ((key.Block, set.Plain key.Until, refl), ((key.Path, set.Both, refl), ((key.Slow, set.Plain key.Count, refl), ((key.Slow, set.Every, refl), ((key.Slow, set.Lasts, refl), ((key.Slow, set.LastsMost, refl), ((key.Crash, set.Plain key.Count, refl), ((key.Crash, set.Plain key.From, refl), ((key.Crash, set.Plain key.Until, refl), ((key.Crash, set.Each, refl), ((key.Crash, set.Back, refl), ((key.Crash, set.Every, refl), ((key.Cut, set.Both, refl), ((key.Leave, set.Plain key.Count, refl), ((key.Leave, set.Plain key.From, refl), ((key.Leave, set.Plain key.Until, refl), ((key.Leave, set.Each, refl), ((key.Leave, set.Back, refl), ((key.Leave, set.Every, refl), ((key.Pause, set.Plain key.Count, refl), ((key.Pause, set.Every, refl), ((key.Pause, set.Lasts, refl), ((key.Pause, set.LastsMost, refl), ((key.Restart, set.Plain key.Count, refl), ((key.Restart, set.Each, refl), ((key.Block, set.Plain key.Count, refl), ((key.Block, set.Every, refl), ((key.Block, set.Lasts, refl), ((key.Block, set.LastsMost, refl), tt)))))))))))))))))))))))))))))))))))))))))))))

in_list : (j : SweptKey) → Contains listed j → InTable j
in_list j known = All-contains InTable listed j (All-from_recursion InTable listed in_each) known

abbrev listed_named : List ℕ → Option SweptKey
listed_named word = find (is_named word) listed

listed_each : AllByRecursion (λ k. listed_named (key_name k) ≡ Some k) listed
unfolding listed key_rules_of spelling_of entry_keys
listed_each = (refl, (refl, (refl, (refl, (refl, (refl, (refl, (refl, (refl, (refl, (refl, (refl, (refl, (refl, (refl, (refl, (refl, (refl, (refl, (refl, (refl, (refl, (refl, (refl, (refl, (refl, (refl, (refl, (refl, (refl, (refl, (refl, (refl, (refl, (refl, (refl, (refl, (refl, (refl, (refl, (refl, (refl, (refl, (refl, (refl, tt)))))))))))))))))))))))))))))))))))))))))))))

listed_itself : (k : SweptKey) → Contains listed k → listed_named (key_name k) ≡ Some k
listed_itself k known = All-contains (λ j. listed_named (key_name j) ≡ Some j) listed k (All-from_recursion (λ j. listed_named (key_name j) ≡ Some j) listed listed_each) known

same_listed : (j k : SweptKey) → Contains listed j → Contains listed k → key_name j ≡ key_name k → j ≡ k
same_listed j k known known_too same =
    let one : Some j ≡ Some k = sym (listed_itself j known) ∙ ap listed_named same ∙ listed_itself k known_too in
    cc

-- ---- dots

pub not_within : (c : ℕ) (xs ys : List ℕ) → Lacks c (xs ++ c ∷ ys) → ⊥
not_within c [] ys lacks = let here : (c == c) ≡ false = All-head (λ x. (x == c) ≡ false) c ys lacks in grind (arith, nat_tests)
not_within c (x ∷ xs) ys lacks = not_within c xs ys (All-tail (λ y. (y == c) ≡ false) x (xs ++ c ∷ ys) lacks)

-- what stands before the last such byte, and after it
pub cut_last : (c : ℕ) (a b x y : List ℕ) → Lacks c x → Lacks c y → a ++ c ∷ x ≡ b ++ c ∷ y → (a ≡ b) × (x ≡ y)
cut_last c [] [] x y in_x in_y same = let rest : x ≡ y = cc in (refl, rest)
cut_last c [] (d ∷ b) x y in_x in_y same = let rest : x ≡ b ++ c ∷ y = cc in absurd (not_within c b y (subst (Lacks c) rest in_x))
cut_last c (d ∷ a) [] x y in_x in_y same = let rest : y ≡ a ++ c ∷ x = cc in absurd (not_within c a x (subst (Lacks c) rest in_y))
cut_last c (d ∷ a) (e ∷ b) x y in_x in_y same =
    let first : d ≡ e = cc in
    let rest : a ++ c ∷ x ≡ b ++ c ∷ y = cc in
    let parts = cut_last c a b x y in_x in_y rest in
    ((λ i. first i ∷ parts.0 i), parts.1)

dots : List ℕ → ℕ
dots xs = length (filter (λ b. b == 46) xs)

dots_both : (xs ys : List ℕ) → dots (xs ++ ys) ≡ dots xs + dots ys
unfolding dots
dots_both xs ys = ap length (filter-append (λ b. b == 46) xs ys) ∙ length-append (filter (λ b. b == 46) xs) (filter (λ b. b == 46) ys)

dots_here : (xs : List ℕ) → dots (46 ∷ xs) ≡ suc (dots xs)
unfolding dots
dots_here xs = refl

-- a name of a key outside lists has one dot at the most, that of an item's key two at the least
few_each : AllByRecursion (λ k. nat_lt (dots (key_name k)) 2 ≡ true) settable
unfolding settable key_rules_of spelling_of dots
few_each = (refl, (refl, (refl, (refl, (refl, (refl, (refl, (refl, (refl, (refl, (refl, (refl, (refl, (refl, (refl, (refl, (refl, (refl, (refl, (refl, (refl, (refl, (refl, (refl, (refl, (refl, (refl, (refl, (refl, (refl, (refl, (refl, (refl, (refl, tt))))))))))))))))))))))))))))))))))

few : (k : SweptKey) → Contains settable k → nat_lt (dots (key_name k)) 2 ≡ true
few k known = All-contains (λ j. nat_lt (dots (key_name j)) 2 ≡ true) settable k (All-from_recursion (λ j. nat_lt (dots (key_name j)) 2 ≡ true) settable few_each) known

many : (t : FormatKey) (x : SetKey) (name : List ℕ) → is_item_name name ≡ true → 2 ≤ dots (key_name (of_item (kept_name name) (in_table t x)))
many t x name sound =
    let kept = kept_is name sound in
    let dot = dotted_name name sound in
    let is : item_text (kept_name name) ≡ 46 ∷ dot.0 = kept ∙ dot.1 in
    let whole : dots (key_name (of_item (kept_name name) (in_table t x))) ≡ dots (spelling_of t ++ ((46 ∷ dot.0) ++ 46 ∷ key_spelling x)) = ap (λ l. dots (spelling_of t ++ (l ++ 46 ∷ key_spelling x))) is in
    let one = dots_both (spelling_of t) ((46 ∷ dot.0) ++ 46 ∷ key_spelling x) in
    let two = dots_both (46 ∷ dot.0) (46 ∷ key_spelling x) in
    let three = dots_here dot.0 in
    let four = dots_here (key_spelling x) in
    omega (arith, whole, one, two, three, four)

-- ---- one name, one key

parts_same : (t u : FormatKey) (x y : SetKey) (m n : List ℕ) → is_item_name m ≡ true → is_item_name n ≡ true
    → key_name (of_item (kept_name m) (in_table t x)) ≡ key_name (of_item (kept_name n) (in_table u y)) → (spelling_of t ≡ spelling_of u) × (m ≡ n) × (key_spelling x ≡ key_spelling y)
parts_same t u x y m n sound also same =
    let one = dotted_name m sound in
    let two = dotted_name n also in
    let left : item_text (kept_name m) ≡ 46 ∷ one.0 = kept_is m sound ∙ one.1 in
    let right : item_text (kept_name n) ≡ 46 ∷ two.0 = kept_is n also ∙ two.1 in
    let whole : spelling_of t ++ 46 ∷ (one.0 ++ 46 ∷ key_spelling x) ≡ spelling_of u ++ 46 ∷ (two.0 ++ 46 ∷ key_spelling y) =
    sym (ap (λ l. spelling_of t ++ (l ++ 46 ∷ key_spelling x)) left) ∙ same ∙ ap (λ l. spelling_of u ++ (l ++ 46 ∷ key_spelling y)) right in
    let first = cut_once 46 (spelling_of t) (spelling_of u) (one.0 ++ 46 ∷ key_spelling x) (two.0 ++ 46 ∷ key_spelling y) (spelling_lacks 46 t refl) (spelling_lacks 46 u refl) whole in
    let last = cut_last 46 one.0 two.0 (key_spelling x) (key_spelling y) (key_lacks 46 x refl) (key_lacks 46 y refl) first.1 in
    (first.0, one.1 ∙ ap (λ l. 46 ∷ l) last.0 ∙ sym two.1, last.1)

-- an item's key, by its list's name, its own and that of its item
abbrev InParts : SweptKey → Type 0
InParts k = (t : FormatKey) × (x : SetKey) × (name : List ℕ) × (is_item_name name ≡ true) × Contains listed (in_table t x) × (k ≡ of_item (kept_name name) (in_table t x))

in_parts : (k : SweptKey) → IsItemKey k → InParts k
in_parts k is =
    let at = in_list is.key is.known in
    (at.0, at.1, is.name, is.sound, subst (Contains listed) at.2 is.known, is.is ∙ ap (of_item (kept_name is.name)) at.2)

same_items : (j k : SweptKey) → InParts j → InParts k → key_name j ≡ key_name k → j ≡ k
same_items j k a b same =
    let parts = parts_same a.0 b.0 a.1 b.1 a.2 b.2 a.3 b.3 (sym (ap key_name a.5) ∙ same ∙ ap key_name b.5) in
    let keys : in_table a.0 a.1 ≡ in_table b.0 b.1 = same_listed (in_table a.0 a.1) (in_table b.0 b.1) a.4 b.4 (λ i. parts.0 i ++ 46 ∷ parts.2 i) in
    a.5 ∙ (λ i. of_item (kept_name (parts.1 i)) (keys i)) ∙ sym b.5

unlike : (j k : SweptKey) → Contains settable j → InParts k → key_name j ≡ key_name k → ⊥
unlike j k known a same =
    let less = few j known in
    let more = many a.0 a.1 a.2 a.3 in
    let dots_same : dots (key_name j) ≡ dots (key_name (of_item (kept_name a.2) (in_table a.0 a.1))) = ap dots (same ∙ ap key_name a.5) in
    grind (arith, nat_tests)

-- keys of one name are one
pub same_key : (j k : SweptKey) → MaySet j → MaySet k → key_name j ≡ key_name k → j ≡ k
same_key j k (inl a) (inl b) same = same_outside j k a b same
same_key j k (inl a) (inr b) same = absurd (unlike j k a (in_parts k b) same)
same_key j k (inr a) (inl b) same = absurd (unlike k j b (in_parts j a) (sym same))
same_key j k (inr a) (inr b) same = same_items j k (in_parts j a) (in_parts k b) same
