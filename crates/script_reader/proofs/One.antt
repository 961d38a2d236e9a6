-- The rule that a text breaks is one: what its keys say is one.
use Rattle.std.proofs.Common.{◌≡◌, ◌≤◌, ℕ, ◌*◌, ◌^◌, List, [], ◌∷◌, map, Option, Some, None, Result, Ok, Err, pos, negsuc, min, refl, ap, sym, subst, ◌∙◌, codes, cond, nat_eq, nat_lt}
use Rattle.std.specs.List.{fold}
use Rattle.std.proofs.lemmas.List.Folds.{fold-map}
use Rattle.std.specs.List.{AllByRecursion}
use Rattle.std.proofs.lemmas.List.Elements.{recursion_from_All}
use Rattle.toml.specs.Data.{Data, array, boolean, datetime, float, get, integer, string, table}
use Rattle.scenario.specs.Setup.{Group}
use Rattle.written_entries.specs.declared.keys.ScriptList.{ScriptList}
use Rattle.written_entries.specs.declared.keys.ScriptList.TheVariants.{Crash, Leave, Restart, Slow, Pause, Block}
use Rattle.written_names.specs.declared.roster.WrittenGroup.{WrittenGroup}
use Rattle.written_values.proofs.Unique.{same_ticks}
use Rattle.written_values.specs.Values.{AreTicksIn, CountsTicks, SaysTicksIn}
use Rattle.written_values.specs.declared.fault.ValueFault.{ValueFault}
use Rattle.written_values.specs.declared.fault.ValueFault.TheVariants.{WrongKind, OutOfRange}
use Rattle.script_reader.specs.declared.item.WrittenItem.{WrittenItem}
use Rattle.script_reader.specs.declared.lists.WrittenList.{WrittenList}
use Rattle.script_reader.specs.declared.lists.WrittenScript.{WrittenScript}
use Rattle.script_reader.specs.declared.numbers.EntryNumbers.{EntryNumbers}
use Rattle.script_reader.specs.Keys.{list_name}
use Rattle.script_reader.specs.Lists.{kind_rule, list_rule, script_rule, twice_rule, IsList, IsWritten}
use Rattle.script_reader.specs.Numbers.{AreNumbersOf, SaysReading}
use Rattle.script_reader.specs.Rules.{item_of, item_rule, items_rule, no_rule, IsRead}
use Rattle.script_reader.specs.Script.{text_rule}
use Rattle.script_reader.specs.Who.{member_total}

-- ---- a key

one_count : (tick : ℕ) (d : Data) (a b : ℕ) → 1 ≤ tick → AreTicksIn tick d a → AreTicksIn tick d b → a ≡ b
one_count tick (integer (pos number)) a b some first second = sym first ∙ second
one_count tick (integer (negsuc number)) a b some first second = absurd first
one_count tick (string word) a b some first second = same_ticks tick word a b some first second
one_count tick (float x) a b some first second = absurd first
one_count tick (boolean on) a b some first second = absurd first
one_count tick (datetime dt) a b some first second = absurd first
one_count tick (array ds) a b some first second = absurd first
one_count tick (table ms) a b some first second = absurd first

counts : (tick : ℕ) (d : Data) (number : ℕ) → AreTicksIn tick d number → CountsTicks d
counts tick (integer z) number is = tt
counts tick (string word) number is = (number * (tick * 1000000), is)
counts tick (float x) number is = absurd is
counts tick (boolean b) number is = absurd is
counts tick (datetime dt) number is = absurd is
counts tick (array ds) number is = absurd is
counts tick (table ms) number is = absurd is

one_said : (tick least most : ℕ) (d : Data) (a b : Result ℕ ValueFault) → 1 ≤ tick → SaysTicksIn tick least most d a → SaysTicksIn tick least most d b → a ≡ b
one_said tick least most d (Ok a) (Ok b) some first second = ap Ok (one_count tick d a b some first.0 second.0)
one_said tick least most d (Ok a) (Err WrongKind) some first second = absurd (second (counts tick d a first.0))
one_said tick least most d (Ok a) (Err OutOfRange) some first second = absurd (second.1 a first.0 first.1.0 first.1.1)
one_said tick least most d (Err WrongKind) (Ok b) some first second = absurd (first (counts tick d b second.0))
one_said tick least most d (Err OutOfRange) (Ok b) some first second = absurd (first.1 b second.0 second.1.0 second.1.1)
one_said tick least most d (Err WrongKind) (Err WrongKind) some first second = refl
one_said tick least most d (Err WrongKind) (Err OutOfRange) some first second = absurd (first second.0)
one_said tick least most d (Err OutOfRange) (Err WrongKind) some first second = absurd (second first.0)
one_said tick least most d (Err OutOfRange) (Err OutOfRange) some first second = refl

one_reading : (tick least most : ℕ) (d : Option Data) (a b : Option (Result ℕ ValueFault)) → 1 ≤ tick → SaysReading tick least most d a → SaysReading tick least most d b → a ≡ b
one_reading tick least most None a b some first second = first ∙ sym second
one_reading tick least most (Some d) None b some first second = absurd first
one_reading tick least most (Some d) (Some a) None some first second = absurd second
one_reading tick least most (Some d) (Some a) (Some b) some first second = ap Some (one_said tick least most d a b some first second)

-- ---- lists of one length

same_head : {A : Type 0} (x y : A) (xs ys : List A) → x ∷ xs ≡ y ∷ ys → x ≡ y
same_head x y xs ys same = cc

same_tail : {A : Type 0} (x y : A) (xs ys : List A) → x ∷ xs ≡ y ∷ ys → xs ≡ ys
same_tail x y xs ys same = cc

-- ---- items

abbrev rule_in : ScriptList → List Group → WrittenItem → ℕ
rule_in list groups it = item_rule list groups (item_of it) it.numbers

module _ (tick : ℕ) (some : 1 ≤ tick) where
  same_numbers : (d : Data) (a b : EntryNumbers) → AreNumbersOf tick d a → AreNumbersOf tick d b → a ≡ b
  same_numbers d a b first second = λ i. record {
    at = one_reading tick 0 (2 ^ 40) (get (codes "at") d) a.at b.at some first.at second.at i;
    each = one_reading tick 0 (2 ^ 40) (get (codes "each") d) a.each b.each some first.each second.each i;
    back = one_reading tick 1 (2 ^ 40) (get (codes "back") d) a.back b.back some first.back second.back i;
    from = one_reading tick 0 (2 ^ 40) (get (codes "from") d) a.from b.from some first.from second.from i;
    until = one_reading tick 0 (2 ^ 40) (get (codes "until") d) a.until b.until some first.until second.until i;
    every = one_reading tick 1 (2 ^ 31) (get (codes "every") d) a.every b.every some first.every second.every i;
    lasts = one_reading tick 1 (2 ^ 31) (get (codes "lasts") d) a.lasts b.lasts some first.lasts second.lasts i;
    lasts_most = one_reading tick 1 (2 ^ 31) (get (codes "lasts_most") d) a.lasts_most b.lasts_most some first.lasts_most second.lasts_most i;
    extra = one_reading tick 1 (2 ^ 24) (get (codes "extra") d) a.extra b.extra some first.extra second.extra i;
  }

  -- what is made of items by what they and their keys say
  same_made : {T : Type 0} (make : Data → EntryNumbers → T) (a b : List WrittenItem) → map item_of a ≡ map item_of b → AllByRecursion (IsRead tick) a
      → AllByRecursion (IsRead tick) b → map (λ (it : WrittenItem). make (item_of it) it.numbers) a ≡ map (λ (it : WrittenItem). make (item_of it) it.numbers) b
  same_made make [] [] same first second = refl
  same_made make [] (y ∷ b) same first second = cc
  same_made make (x ∷ a) [] same first second = cc
  same_made make (x ∷ a) (y ∷ b) same first second =
      let head : item_of x ≡ item_of y = same_head (item_of x) (item_of y) (map item_of a) (map item_of b) same in
      let numbers : x.numbers ≡ y.numbers =
      same_numbers (item_of y) x.numbers y.numbers (subst (λ (d : Data). AreNumbersOf tick d x.numbers) head first.0.numbers) second.0.numbers in
      let more = same_made make a b (same_tail (item_of x) (item_of y) (map item_of a) (map item_of b) same) first.1 second.1 in
      λ i. make (head i) (numbers i) ∷ more i

  module _ (groups : List Group) where
    same_items : (list : ScriptList) (a b : List WrittenItem) → map item_of a ≡ map item_of b → AllByRecursion (IsRead tick) a → AllByRecursion (IsRead tick) b
        → items_rule list groups a ≡ items_rule list groups b
    same_items list a b same first second =
        sym (fold-map (λ (low rule : ℕ). min low rule) (rule_in list groups) no_rule a)
        ∙ ap (fold (λ (low rule : ℕ). min low rule) no_rule) (same_made (item_rule list groups) a b same first second)
        ∙ fold-map (λ (low rule : ℕ). min low rule) (rule_in list groups) no_rule b

    same_list : (of : ScriptList) (value : Option Data) (a b : WrittenList) → IsList tick of value a → IsList tick of value b → list_rule groups a ≡ list_rule groups b
    unfolding list_rule
    same_list of value a b first second =
        let other : a.is_other ≡ b.is_other = first.other ∙ sym second.other in
        let twice : a.is_twice ≡ b.is_twice = first.twice ∙ sym second.twice in
        let items : map item_of a.items.items ≡ map item_of b.items.items = first.items ∙ sym second.items in
        let list : a.list ≡ b.list = first.list ∙ sym second.list in
        let rest : items_rule a.list groups a.items.items ≡ items_rule b.list groups b.items.items =
        ap (λ (l : ScriptList). items_rule l groups a.items.items) list
        ∙ same_items b.list a.items.items b.items.items items (recursion_from_All (IsRead tick) a.items.items first.read) (recursion_from_All (IsRead tick) b.items.items second.read) in
        λ i. min (min (kind_rule (other i)) (twice_rule (twice i))) (rest i)

    same_script : (d : Data) (a b : WrittenScript) → IsWritten tick d a → IsWritten tick d b → script_rule groups a ≡ script_rule groups b
    unfolding script_rule
    same_script d a b first second =
        let crashes = same_list Crash (get (list_name Crash) d) a.crashes b.crashes first.crashes second.crashes in
        let leaves = same_list Leave (get (list_name Leave) d) a.leaves b.leaves first.leaves second.leaves in
        let restarts = same_list Restart (get (list_name Restart) d) a.restarts b.restarts first.restarts second.restarts in
        let slows = same_list Slow (get (list_name Slow) d) a.slows b.slows first.slows second.slows in
        let pauses = same_list Pause (get (list_name Pause) d) a.pauses b.pauses first.pauses second.pauses in
        let blocks = same_list Block (get (list_name Block) d) a.blocks b.blocks first.blocks second.blocks in
        λ i. min (min (min (min (min (crashes i) (leaves i)) (restarts i)) (slows i)) (pauses i)) (blocks i)

  pub same_rule : (d : Data) (roster : List Group) (groups : List WrittenGroup) (a b : WrittenScript) → IsWritten tick d a → IsWritten tick d b
      → text_rule roster groups a ≡ text_rule roster groups b
  unfolding text_rule
  same_rule d roster groups a b first second =
      let rule = same_script roster d a b first second in
      λ i. cond (nat_eq (rule i) no_rule) (cond (nat_lt 16384 (member_total groups)) 10 no_rule) (rule i)
