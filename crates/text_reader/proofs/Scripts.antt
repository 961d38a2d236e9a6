-- The script of a document is one, up to where its members are kept, and so is what it stands for.
use Rattle.std.proofs.Common.{◌≡◌, ◌≤◌, ℕ, suc, ◌+◌, ◌^◌, Bool, false, ◌||◌, List, [], ◌∷◌, ◌++◌, map, length, Option, Some, None, Result, refl, ap, sym, subst, ◌∙◌, codes, cond, nat_lt}
use Rattle.std.specs.List.{list_any, sum_by, AllByRecursion}
use Rattle.std.specs.Option.{option_map_or, option_or}
use Rattle.std.proofs.lemmas.List.Elements.{recursion_from_All}
use Rattle.std.proofs.lemmas.List.Sums.{sum_by-cons}
use Rattle.toml.specs.Data.{Data, get}
use Rattle.schema.proofs.Trees.{any-map}
use Rattle.scenario.specs.Setup.{Group}
use Rattle.streams.specs.Draw.{Words}
use Rattle.script_draws.specs.Choice.{chosen_of}
use Rattle.script_draws.specs.Turns.{in_turn, text_words}
use Rattle.plain_entries.specs.declared.departures.DepartureTime.{DepartureTime}
use Rattle.plain_entries.specs.declared.entry.Entry.{Entry}
use Rattle.plain_entries.specs.declared.plain.Plain.{Plain}
use Rattle.plain_entries.specs.declared.restarts.RestartTime.{RestartTime}
use Rattle.plain_entries.specs.declared.script.Script.{Script}
use Rattle.plain_entries.specs.declared.spells.SpellTime.{SpellTime}
use Rattle.plain_entries.specs.Departures.{departure_timing, returns_of}
use Rattle.plain_entries.specs.Entries.{list_of, members_of, Timing}
use Rattle.plain_entries.specs.Restarts.{restart_timing}
use Rattle.plain_entries.specs.Script.{plain_of}
use Rattle.plain_entries.specs.Spells.{spell_timing}
use Rattle.plain_entries.specs.Who.{turns_of}
use Rattle.written_entries.specs.Bad.{asks_itself, breaks_entries, is_bad_departure_time, is_bad_spell_time, is_early, stands_twice}
use Rattle.written_entries.specs.declared.keys.ScriptList.{ScriptList}
use Rattle.written_names.specs.Roster.{group_of}
use Rattle.written_names.specs.declared.roster.WrittenGroup.{WrittenGroup}
use Rattle.written_values.specs.declared.fault.ValueFault.{ValueFault}
use Rattle.expansion.specs.Turns.{comes_too_often, most_turns, turns_before}
use Rattle.expansion.specs.Verdict.{plain_rule, script_rule}
use Rattle.script_reader.specs.Entries.{count_of, said, Said}
use Rattle.script_reader.specs.Lists.{IsList}
use Rattle.script_reader.specs.Numbers.{AreNumbersOf, SaysReading}
use Rattle.script_reader.specs.Rules.{item_of, IsRead}
use Rattle.script_reader.specs.Script.{IsScriptIn}
use Rattle.script_reader.specs.Times.{departure_of, restart_of, spell_of}
use Rattle.script_reader.specs.Who.{members_in}
use Rattle.script_reader.specs.declared.item.WrittenItem.{WrittenItem}
use Rattle.script_reader.specs.declared.lists.WrittenList.{WrittenList}
use Rattle.script_reader.specs.declared.numbers.EntryNumbers.{EntryNumbers}
use Rattle.text_reader.proofs.Groups.{same_members}
use Rattle.text_reader.proofs.Numbers.{one_said}

-- two scripts say the same
pub record SayTheSame (a b : Script) : Type 0 where
  pub crashes : map said a.crashes.items ≡ map said b.crashes.items
  pub leaves : map said a.leaves.items ≡ map said b.leaves.items
  pub restarts : map said a.restarts.items ≡ map said b.restarts.items
  pub slows : map said a.slows.items ≡ map said b.slows.items
  pub pauses : map said a.pauses.items ≡ map said b.pauses.items
  pub blocks : map said a.blocks.items ≡ map said b.blocks.items

-- ---- items

one_reading : (tick least most : ℕ) (d : Option Data) (a b : Option (Result ℕ ValueFault)) → 1 ≤ tick → SaysReading tick least most d a → SaysReading tick least most d b → a ≡ b
one_reading tick least most None a b some first second = first ∙ sym second
one_reading tick least most (Some d) None b some first second = absurd first
one_reading tick least most (Some d) (Some a) None some first second = absurd second
one_reading tick least most (Some d) (Some a) (Some b) some first second = ap Some (one_said tick least most d a b some first second)

same_head : {A : Type 0} (x y : A) (xs ys : List A) → x ∷ xs ≡ y ∷ ys → x ≡ y
same_head x y xs ys same = cc

same_tail : {A : Type 0} (x y : A) (xs ys : List A) → x ∷ xs ≡ y ∷ ys → xs ≡ ys
same_tail x y xs ys same = cc

module _ (tick : ℕ) (some : 1 ≤ tick) where
  same_numbers : (d : Data) (a b : EntryNumbers) → AreNumbersOf tick d a → AreNumbersOf tick d b → a ≡ b
  same_numbers d a b first second = λ i. record {
    at = one_reading tick 0 (2 ^ 40) (get (codes "at") d) a.at b.at some first.at second.at i;
    each = one_reading tick 0 (2 ^ 40) (get (codes "each") d) a.each b.each some first.each second.each i;
    back = one_reading tick 1 (2 ^ 40) (get (codes "back") d) a.back b.back some first.back second.back i;
    from = one_reading tick 0 (2 ^ 40) (get (codes "from") d) a.from b.from some first.from second.from i;
    until = one_reading tick 0 (2 ^ 40) (get (codes "until") d) a.until b.until some first.until second.until i;
    every = one_reading tick 1 (2 ^ 31) (get (codes "every") d) a.every b.every some first.every second.every i;
    lasts = one_reading tick 1 (2 ^ 31) (get (codes "lasts") d) a.lasts b.lasts some first.lasts second.lasts i;
    lasts_most = one_reading tick 1 (2 ^ 31) (get (codes "lasts_most") d) a.lasts_most b.lasts_most some first.lasts_most second.lasts_most i;
    extra = one_reading tick 1 (2 ^ 24) (get (codes "extra") d) a.extra b.extra some first.extra second.extra i;
  }

  -- what is made of items in the same way by what they and their keys say
  same_made : {T : Type 0} (make other : Data → EntryNumbers → T) → ((d : Data) (numbers : EntryNumbers) → make d numbers ≡ other d numbers) → (a b : List WrittenItem)
      → map item_of a ≡ map item_of b → AllByRecursion (IsRead tick) a → AllByRecursion (IsRead tick) b
      → map (λ (it : WrittenItem). make (item_of it) it.numbers) a ≡ map (λ (it : WrittenItem). other (item_of it) it.numbers) b
  same_made make other alike [] [] same first second = refl
  same_made make other alike [] (y ∷ b) same first second = cc
  same_made make other alike (x ∷ a) [] same first second = cc
  same_made make other alike (x ∷ a) (y ∷ b) same first second =
      let head : item_of x ≡ item_of y = same_head (item_of x) (item_of y) (map item_of a) (map item_of b) same in
      let numbers : x.numbers ≡ y.numbers =
      same_numbers (item_of y) x.numbers y.numbers (subst (λ (d : Data). AreNumbersOf tick d x.numbers) head first.0.numbers) second.0.numbers in
      let made : make (item_of x) x.numbers ≡ other (item_of y) y.numbers = (λ i. make (head i) (numbers i)) ∙ alike (item_of y) y.numbers in
      let more = same_made make other alike a b (same_tail (item_of x) (item_of y) (map item_of a) (map item_of b) same) first.1 second.1 in
      λ i. made i ∷ more i

  same_listed : {T : Type 0} (make other : Data → EntryNumbers → T) → ((d : Data) (numbers : EntryNumbers) → make d numbers ≡ other d numbers)
      → (of : ScriptList) (value : Option Data) (a b : WrittenList) → IsList tick of value a → IsList tick of value b
      → map (λ (it : WrittenItem). make (item_of it) it.numbers) a.items.items ≡ map (λ (it : WrittenItem). other (item_of it) it.numbers) b.items.items
  same_listed make other alike of value a b first second =
      same_made make other alike a.items.items b.items.items (first.items ∙ sym second.items) (recursion_from_All (IsRead tick) a.items.items first.read)
      (recursion_from_All (IsRead tick) b.items.items second.read)

  module _ (a b : List WrittenGroup) (same : map group_of a ≡ map group_of b) where
    abbrev departures : List Group → List WrittenGroup → Data → EntryNumbers → Said DepartureTime
    departures roster groups d numbers = record { members = members_in roster groups d; count = count_of d; when = departure_of roster d numbers }

    abbrev restarts : List Group → List WrittenGroup → Data → EntryNumbers → Said RestartTime
    restarts roster groups d numbers = record { members = members_in roster groups d; count = count_of d; when = restart_of roster d numbers }

    abbrev spells : List Group → List WrittenGroup → Data → EntryNumbers → Said SpellTime
    spells roster groups d numbers = record { members = members_in roster groups d; count = count_of d; when = spell_of numbers }

    same_departures : (d : Data) (numbers : EntryNumbers) → departures (map group_of a) a d numbers ≡ departures (map group_of b) b d numbers
    same_departures d numbers = λ i. record { members = same_members a b same d i; count = count_of d; when = departure_of (same i) d numbers }

    same_restarts : (d : Data) (numbers : EntryNumbers) → restarts (map group_of a) a d numbers ≡ restarts (map group_of b) b d numbers
    same_restarts d numbers = λ i. record { members = same_members a b same d i; count = count_of d; when = restart_of (same i) d numbers }

    same_spells : (d : Data) (numbers : EntryNumbers) → spells (map group_of a) a d numbers ≡ spells (map group_of b) b d numbers
    same_spells d numbers = λ i. record { members = same_members a b same d i; count = count_of d; when = spell_of numbers }

    module _ (d : Data) (s t : Script) (first : IsScriptIn tick d (map group_of a) a s) (second : IsScriptIn tick d (map group_of b) b t) where
      pub same_script : SayTheSame s t
      same_script = record {
        crashes =
            first.says.crashes ∙ same_listed (departures (map group_of a) a) (departures (map group_of b) b) same_departures _ _ _ _ first.reads.crashes second.reads.crashes
            ∙ sym second.says.crashes;
        leaves =
            first.says.leaves ∙ same_listed (departures (map group_of a) a) (departures (map group_of b) b) same_departures _ _ _ _ first.reads.leaves second.reads.leaves
            ∙ sym second.says.leaves;
        restarts =
            first.says.restarts ∙ same_listed (restarts (map group_of a) a) (restarts (map group_of b) b) same_restarts _ _ _ _ first.reads.restarts second.reads.restarts
            ∙ sym second.says.restarts;
        slows =
            first.says.slows ∙ same_listed (spells (map group_of a) a) (spells (map group_of b) b) same_spells _ _ _ _ first.reads.slows second.reads.slows
            ∙ sym second.says.slows;
        pauses =
            first.says.pauses ∙ same_listed (spells (map group_of a) a) (spells (map group_of b) b) same_spells _ _ _ _ first.reads.pauses second.reads.pauses
            ∙ sym second.says.pauses;
        blocks =
            first.says.blocks ∙ same_listed (spells (map group_of a) a) (spells (map group_of b) b) same_spells _ _ _ _ first.reads.blocks second.reads.blocks
            ∙ sym second.says.blocks;
      }

-- ---- what entries stand for

turns-map : {A B C : Type 0} (make : ℕ → C → Words → List B × Words) (f : A → C) (k : ℕ) (xs : List A) (words : Words)
    → in_turn (λ n x. make n (f x)) k xs words ≡ in_turn make k (map f xs) words
turns-map make f k [] words = refl
turns-map make f k (x ∷ xs) words =
    let more = turns-map make f (suc k) xs ((make k (f x) words).1) in
    λ i. ((make k (f x) words).0 ++ (more i).0, (more i).1)

module _ {W T : Type 0} (timing : Timing W T) (start : ℕ → ℕ) where
  abbrev said_entry : ℕ → Said W → Words → List (Plain T) × Words
  said_entry place it words =
      let who = chosen_of it.count it.members words in
      members_of timing start place it.when (turns_of (timing.recurs it.when) who.0) who.1

  same_plain_list : (a b : List (Entry W)) → map said a ≡ map said b → (words : Words) → list_of timing start a words ≡ list_of timing start b words
  same_plain_list a b same words =
      turns-map said_entry said 0 a words ∙ ap (λ (all : List (Said W)). in_turn said_entry 0 all words) same ∙ sym (turns-map said_entry said 0 b words)

module _ (start : ℕ → ℕ) (a b : Script) (same : SayTheSame a b) where
  pub same_plain : (words : Words) → plain_of start a words ≡ plain_of start b words
  unfolding plain_of
  same_plain words = λ i.
      let crashes = same_plain_list departure_timing start a.crashes.items b.crashes.items same.crashes words i in
      let leaves = same_plain_list departure_timing start a.leaves.items b.leaves.items same.leaves crashes.1 i in
      let restarts = same_plain_list restart_timing start a.restarts.items b.restarts.items same.restarts leaves.1 i in
      let slows = same_plain_list spell_timing start a.slows.items b.slows.items same.slows restarts.1 i in
      let pauses = same_plain_list spell_timing start a.pauses.items b.pauses.items same.pauses slows.1 i in
      let blocks = same_plain_list spell_timing start a.blocks.items b.blocks.items same.blocks pauses.1 i in
      record {
        crashes = crashes.0;
        leaves = leaves.0;
        restarts = restarts.0 ++ returns_of crashes.0 ++ returns_of leaves.0;
        slows = slows.0;
        pauses = pauses.0;
        blocks = blocks.0;
      }

-- ---- the rule that they break

same_any : {A B : Type 0} (test : B → Bool) (f : A → B) (xs ys : List A) → map f xs ≡ map f ys → list_any (λ x. test (f x)) xs ≡ list_any (λ x. test (f x)) ys
same_any test f xs ys same = sym (any-map test f xs) ∙ ap (list_any test) same ∙ any-map test f ys

sum-map : {A B : Type 0} (g : B → ℕ) (f : A → B) (xs : List A) → sum_by g (map f xs) ≡ sum_by (λ x. g (f x)) xs
sum-map g f [] = refl
sum-map g f (x ∷ xs) = sum_by-cons g (f x) (map f xs) ∙ ap (λ (n : ℕ). g (f x) + n) (sum-map g f xs) ∙ sym (sum_by-cons (λ y. g (f y)) x xs)

same_sum : {A B : Type 0} (g : B → ℕ) (f : A → B) (xs ys : List A) → map f xs ≡ map f ys → sum_by (λ x. g (f x)) xs ≡ sum_by (λ x. g (f x)) ys
same_sum g f xs ys same = sym (sum-map g f xs) ∙ ap (sum_by g) same ∙ sum-map g f ys

abbrev bad_who : {W : Type 0} → Said W → Bool
bad_who it = option_map_or (nat_lt (length it.members)) it.count false || stands_twice it.members

abbrev bad_departure : (start : ℕ → ℕ) → (count : ℕ) → Said DepartureTime → Bool
bad_departure start count it = bad_who it || is_bad_departure_time start count it.members it.when

abbrev bad_restart : (start : ℕ → ℕ) → Said RestartTime → Bool
bad_restart start it = bad_who it || (is_early start it.when.at it.when.each it.members || asks_itself it.when.contact it.members)

abbrev bad_spell : Said SpellTime → Bool
bad_spell it = bad_who it || is_bad_spell_time it.when

abbrev said_turns : (start : ℕ → ℕ) → Said DepartureTime → ℕ
said_turns start it = sum_by (λ member. turns_before it.when (start member)) it.members

module _ (start : ℕ → ℕ) (a b : Script) (same : SayTheSame a b) where
  same_bad : (count : ℕ) → breaks_entries start count a ≡ breaks_entries start count b
  unfolding breaks_entries
  same_bad count =
      let crashes = same_any (bad_departure start count) said a.crashes.items b.crashes.items same.crashes in
      let leaves = same_any (bad_departure start count) said a.leaves.items b.leaves.items same.leaves in
      let restarts = same_any (bad_restart start) said a.restarts.items b.restarts.items same.restarts in
      let slows = same_any bad_spell said a.slows.items b.slows.items same.slows in
      let pauses = same_any bad_spell said a.pauses.items b.pauses.items same.pauses in
      let blocks = same_any bad_spell said a.blocks.items b.blocks.items same.blocks in
      λ i. crashes i || (leaves i || (restarts i || (slows i || (pauses i || blocks i))))

  same_often : comes_too_often start a ≡ comes_too_often start b
  unfolding comes_too_often
  same_often =
      let crashes = same_sum (said_turns start) said a.crashes.items b.crashes.items same.crashes in
      let leaves = same_sum (said_turns start) said a.leaves.items b.leaves.items same.leaves in
      λ i. nat_lt most_turns (crashes i + leaves i)

  pub same_script_rule : (count seed : ℕ) → script_rule start count a seed ≡ script_rule start count b seed
  same_script_rule count seed =
      let bad = same_bad count in
      let often = same_often in
      let plain = same_plain start a b same (text_words seed) in
      λ i. option_or (cond (bad i) (Some 9) (cond (often i) (Some 10) None)) (plain_rule (plain i))
