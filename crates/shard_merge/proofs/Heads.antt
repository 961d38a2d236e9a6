-- What the name of a shard says is that shard, of that sweep.
use Rattle.std.proofs.Common.{◌≡◌, ◌<◌, ◌≤◌, ◌==◌, ◌^◌, ℕ, true, false, suc, List, [], ◌∷◌, ◌++◌, map, length, length-drop, get_or, take, drop, ◌-◌, codes, decimal, lit<, arith, refl, sym, ap, subst, ◌∙◌}
use Rattle.std.specs.Prelude.{Option, Some, None, Result, Ok, Err, IfOk, IfErr, bytes_eq, if◌then◌else◌}
use Rattle.std.specs.Borrow.{Bor}
use Rattle.std.specs.Option.{ForSome, MatchOption}
use Rattle.std.proofs.lemmas.Str.Pattern.{IsSplitOnceResult, split_after, split_parts}
use Rattle.std.specs.List.{slice_split}
use Rattle.std.proofs.lemmas.Fmt.{decimal_injective}
use Rattle.std.proofs.lemmas.List.{append_cancel_left, length-map, take_all}
use Rattle.decimals.specs.Numbers.{IsDecimal}
use Rattle.sweep_plan.specs.Sweep.{Sweep}
use Rattle.sweep_plan.specs.Asked.{AsksForSeeds, IsSweepOf, IsWidth, RefusesSweep, seeds_text, swept_words}
use Rattle.sweep_plan.specs.Axes.{axes_of}
use Rattle.sweep_plan.proofs.Gathered.{axes_in}
use Rattle.sweep_plan.specs.declared.fault.PlanFault.{PlanFault}
use Rattle.sweep_plan.specs.declared.fault.PlanFault.TheVariants as unread
use Rattle.sweep_plan.specs.declared.seeds.Seeds.{Seeds}
use Rattle.sweep_plan.proofs.Names.{bytes_eq_false}
use Rattle.sweep_plan.proofs.Words.{cut_once, decimal_lacks, joined_split, unlike, lacks_from_test}
use Rattle.shards.specs.declared.shard.Shard.{Shard}
use Rattle.shards.specs.Shards.{IsShard, IsShardWord, shard_text}
use Rattle.shards.specs.Names.{plan_text, seeds_word}
use Rattle.sweep.specs.Runs.{IsAskedFor}
use Rattle.sweep.specs.Shards.{shard_header}
use Rattle.shard_merge.specs.Joined.{IsMark}
use Rattle.shard_merge.specs.Reasons.{BeginsAs, BeginsAsNone, RefusesName, SaysWidth}
use Rattle.shard_merge.proofs.SameSweep.{asked_axes, joined_is, no_dash, no_swept_says, same_rest, same_seeds, same_swept_keys, until_words, words_lack, words_of}
use Rattle.figures.specs.declared.column_set.ColumnSet.{ColumnSet}
use Rattle.figures.specs.declared.column_set.ColumnSet.TheVariants.{First, WithRevived, WithIncidents}

-- the shard of a word is one
pub same_shard : (word : List ℕ) (q p : Shard) → IsShardWord word q → word ≡ shard_text p → IsShard p → q ≡ p
same_shard word q p is same sound =
    let one = is.sound.most in
    let two = is.sound.few in
    let three = sound.most in
    let four = sound.few in
    let parts = cut_once 47 (decimal q.number) (decimal p.number) (decimal q.of) (decimal p.of)
    (decimal_lacks q.number 47 (omega arith) (lit< tt)) (decimal_lacks p.number 47 (omega arith) (lit< tt)) (is.written ∙ same) in
    let number = decimal_injective q.number p.number (omega arith) (omega arith) parts.0 in
    let of = decimal_injective q.of p.of (omega arith) (omega arith) parts.1 in
    (λ i. record { number = number i; of = of i })

-- a name of nothing, unless memory was refused
pub name_refused : (text : List ℕ) (e : PlanFault) → (e ≡ unread.Words → BeginsAsNone text) → RefusesName text e
name_refused text unread.Words none = none refl
name_refused text unread.Memory none = tt

-- a text that begins with the first line that its name stands for, and one that doesn't
pub begun : (text mark : List ℕ) (columns : ColumnSet) (sweep : Sweep) (p : Shard) → IsAskedFor sweep → IsMark mark → IsShard p
    → (rest : List ℕ) × (text ≡ shard_header columns mark sweep p ++ rest) → BeginsAs text mark columns sweep p
begun text mark columns sweep p asked marked sound front = record { asked = asked; marked = marked; sound = sound; rest = front.0; written = front.1 }

pub not_begun : (text m : List ℕ) (r columns : ColumnSet) (s : Sweep) (q : Shard) → r ≡ columns
    → ((mark : List ℕ) (with_it : ColumnSet) (sweep : Sweep) (p : Shard) → BeginsAs text mark with_it sweep p → (m ≡ mark) × (s ≡ sweep) × (q ≡ p))
    → ((rest : List ℕ) → ¬ (text ≡ shard_header r m s q ++ rest)) → (mark : List ℕ) (sweep : Sweep) (p : Shard) → ¬ (BeginsAs text mark columns sweep p)
not_begun text m r columns s q same only none mark sweep p begins =
    let its = only mark columns sweep p begins in
    none begins.rest (begins.written ∙ (λ i. shard_header (sym same i) (sym its.0 i) (sym its.1 i) (sym its.2 i) ++ begins.rest))

-- one that begins so with no kind of table begins as none
abbrev pub BeginsNotAs : List ℕ → ColumnSet → Type 0
BeginsNotAs text columns = (mark : List ℕ) (sweep : Sweep) (p : Shard) → ¬ (BeginsAs text mark columns sweep p)

pub neither : (text : List ℕ) → BeginsNotAs text First → BeginsNotAs text WithRevived → BeginsNotAs text WithIncidents → BeginsAsNone text
neither text first revived incidents mark First sweep p = first mark sweep p
neither text first revived incidents mark WithRevived sweep p = revived mark sweep p
neither text first revived incidents mark WithIncidents sweep p = incidents mark sweep p

-- ---- the words of a sweep, cut at their spaces

pub words_are : (words : List ℕ) (sweep : Sweep) → IsAskedFor sweep → words ≡ plan_text sweep → slice_split (λ byte. byte == 32) words ≡ words_of sweep
words_are words sweep asked is =
    ap (slice_split (λ byte. byte == 32)) (is ∙ sym (joined_is sweep)) ∙ joined_split 32 (words_of sweep) (omega arith) (words_lack sweep asked)

-- the word of seeds, where it is no dash
abbrev pub seeds_given : List ℕ → Option (List ℕ)
seeds_given word = if bytes_eq word (codes "-") then None else Some word

-- that word asks for the seeds again
pub seeds_again : (word : Option (List ℕ)) (seeds : Option Seeds) → AsksForSeeds word seeds → AsksForSeeds (seeds_given (seeds_word seeds)) seeds
seeds_again None None asks = tt
seeds_again None (Some r) asks = absurd asks
seeds_again (Some word) None asks = absurd asks
seeds_again (Some word) (Some r) asks =
    let other : bytes_eq (seeds_text r) (codes "-") ≡ false = bytes_eq_false (seeds_text r) (codes "-") (no_dash r word asks) in
    let given : seeds_given (seeds_text r) ≡ Some (seeds_text r) = ap (λ b. if b then None else Some (seeds_text r)) other in
    subst (λ o. AsksForSeeds o (Some r)) (sym given) (record { written = refl; ordered = asks.ordered; low = asks.low })

-- seeds of one word are one
one_seeds : (word : Option (List ℕ)) (r s : Option Seeds) → AsksForSeeds word r → AsksForSeeds word s → r ≡ s
one_seeds None None None asks also = refl
one_seeds None None (Some s) asks also = absurd also
one_seeds None (Some r) s asks also = absurd asks
one_seeds (Some word) None s asks also = absurd asks
one_seeds (Some word) (Some r) None asks also = absurd also
one_seeds (Some word) (Some r) (Some s) asks also = same_seeds (Some word) (Some word) (Some r) (Some s) asks also (asks.written ∙ sym also.written)

-- the words behind the first are those of a width, or none, and of swept keys, none of which says a width where none is read
pub record AreParted (rest : List (List ℕ)) (until : Option ℕ) (swept_keys : List (List ℕ)) : Type 0 where
  pub words : rest ≡ until_words until ++ swept_keys
  pub low : ForSome until (λ w. w < 2 ^ 64)
  pub apart : until ≡ None → (value : List ℕ) (more : List (List ℕ)) → ¬ (swept_keys ≡ (codes "until=" ++ value) ∷ more)

-- the plan that was read of the words of a sweep is that sweep
module _ (words : List ℕ) (sweep : Sweep) (asked : IsAskedFor sweep) (is : words ≡ plan_text sweep) (first : List ℕ) (rest : List (List ℕ)) (seeds : Option (List ℕ))
    (cut : slice_split (λ byte. byte == 32) words ≡ first ∷ rest) (given : seeds ≡ seeds_given first) where
  parts : first ∷ rest ≡ seeds_word sweep.seeds ∷ (until_words sweep.until ++ swept_words sweep.swept_keys)
  parts = sym cut ∙ words_are words sweep asked is

  seeds_asked : AsksForSeeds seeds sweep.seeds
  seeds_asked =
      let same : first ≡ seeds_word sweep.seeds = (let all = parts in cc) in
      subst (λ o. AsksForSeeds o sweep.seeds) (sym (given ∙ ap seeds_given same)) (seeds_again asked.seeds sweep.seeds asked.asked.seeded)

  rest_is : until_words sweep.until ++ swept_words sweep.swept_keys ≡ rest
  rest_is = let all = parts in cc

  module _ (until : Option ℕ) (swept_keys : List (List ℕ)) (parted : AreParted rest until swept_keys) where
    both_are : (sweep.until ≡ until) × (swept_words sweep.swept_keys ≡ swept_keys)
    both_are = same_rest sweep.until until (axes_of sweep.swept_keys) swept_keys asked.asked.width parted.low (asked_axes sweep asked) parted.apart (rest_is ∙ parted.words)

    pub plan_is : (plan : Sweep) → IsSweepOf swept_keys seeds until plan → plan ≡ sweep
    plan_is plan read =
        let sets = same_swept_keys plan.swept_keys sweep.swept_keys (axes_in swept_keys plan.swept_keys read.swept_keys.axes) (asked_axes sweep asked) (read.swept_keys.axes.written ∙ sym both_are.1) in
        let one = one_seeds seeds plan.seeds sweep.seeds read.seeded seeds_asked in
        let wide : plan.until ≡ sweep.until = read.wanted ∙ sym both_are.0 in
        (λ i. record { swept_keys = sets i; seeds = one i; until = wide i })

    pub plan_there : (e : PlanFault) → RefusesSweep swept_keys seeds until e → e ≡ unread.Words → ⊥
    plan_there unread.Memory refused same = cc
    plan_there unread.Words refused same =
        refused sweep (record {
          swept_keys = record {
            axes = record { written = both_are.1; begins = asked.asked.swept_keys.axes.begins; level = asked.asked.swept_keys.axes.level; sound = asked.asked.swept_keys.axes.sound };
            once = asked.asked.swept_keys.once;
          };
          seeded = seeds_asked;
          few = asked.asked.few;
          wanted = both_are.0;
          width = asked.asked.width;
        })

  -- a width that is said is written as a number
  pub width_said : (value : List ℕ) (more : List (List ℕ)) → rest ≡ (codes "until=" ++ value) ∷ more → ((n : ℕ) → ¬ (IsDecimal value n)) → ⊥
  width_said value more says none = by sweep.until asked.asked.width (rest_is ∙ says)
    where
      by : (until : Option ℕ) → ForSome until IsWidth → until_words until ++ swept_words sweep.swept_keys ≡ (codes "until=" ++ value) ∷ more → ⊥
      by None sound same = no_swept_says (axes_of sweep.swept_keys) value more (asked_axes sweep asked) same
      by (Some w) sound same =
          let most = (sound w refl).most in
          let head : codes "until=" ++ decimal w ≡ codes "until=" ++ value = cc in
          none w (record { written = append_cancel_left (codes "until=") (decimal w) value head; low = omega (arith, most) })

-- the same of what reading the words gave, where these are the first and the rest of them
abbrev pub AreCut : List ℕ → List ℕ → List (List ℕ) → Type 0
AreCut words first rest = (sweep : Sweep) → IsAskedFor sweep → words ≡ plan_text sweep → slice_split (λ byte. byte == 32) words ≡ first ∷ rest

pub plans_are : {E : Type 0} (words first : List ℕ) (rest : List (List ℕ)) (seeds : Option (List ℕ)) (until : Option ℕ) (swept_keys : List (List ℕ)) (r : Result Sweep E)
    → seeds ≡ seeds_given first → AreCut words first rest → AreParted rest until swept_keys → IfOk r (IsSweepOf swept_keys seeds until)
    → IfOk r (λ plan. (sweep : Sweep) → IsAskedFor sweep → words ≡ plan_text sweep → plan ≡ sweep)
plans_are words first rest seeds until swept_keys (Ok plan) given cut parted read = λ sweep asked is. plan_is words sweep asked is first rest seeds (cut sweep asked is) given until swept_keys parted plan read
plans_are words first rest seeds until swept_keys (Err e) given cut parted read = tt

pub no_plans_are : {T : Type 0} (words first : List ℕ) (rest : List (List ℕ)) (seeds : Option (List ℕ)) (until : Option ℕ) (swept_keys : List (List ℕ)) (r : Result T PlanFault)
    → seeds ≡ seeds_given first → AreCut words first rest → AreParted rest until swept_keys → IfErr r (RefusesSweep swept_keys seeds until)
    → IfErr r (λ fault. fault ≡ unread.Words → (sweep : Sweep) → IsAskedFor sweep → ¬ (words ≡ plan_text sweep))
no_plans_are words first rest seeds until swept_keys (Ok x) given cut parted refused = tt
no_plans_are words first rest seeds until swept_keys (Err e) given cut parted refused =
    λ word sweep asked is. plan_there words sweep asked is first rest seeds (cut sweep asked is) given until swept_keys parted e refused word

-- the first of the words, and those behind it
pub split_first : (items : List (Bor (List ℕ))) (d : Bor (List ℕ)) (words : List ℕ) → 0 < length items
    → map (λ (word : Bor (List ℕ)). word.now) items ≡ slice_split (λ byte. byte == 32) words
    → slice_split (λ byte. byte == 32) words ≡ (get_or items 0 d).now ∷ map (λ (word : Bor (List ℕ)). word.now) (drop 1 items)
split_first [] d words some same = absurd (omega (arith, some))
split_first (x ∷ xs) d words some same = sym same

-- all that is behind the first
pub behind_first : (items : List (Bor (List ℕ))) → take (length items - 1) (drop 1 items) ≡ drop 1 items
behind_first items = take_all (length items - 1) (drop 1 items) (omega (arith, length-drop 1 items))

-- words that ask for a sweep
pub asked_by : (words : List (List ℕ)) (seeds : Option (List ℕ)) (until : Option ℕ) (plan : Sweep) → IsSweepOf words seeds until plan → IsAskedFor plan
asked_by words seeds until plan is = record { swept_keys = words; seeds = seeds; until = until; asked = is }

-- no words at all are those of no sweep
pub none_split : (items : List (Bor (List ℕ))) (words : List ℕ) (sweep : Sweep) → IsAskedFor sweep → words ≡ plan_text sweep → length items ≡ 0
    → map (λ (word : Bor (List ℕ)). word.now) items ≡ slice_split (λ byte. byte == 32) words → ⊥
none_split items words sweep asked is none same =
    let all = same ∙ words_are words sweep asked is in
    let long : length (map (λ (word : Bor (List ℕ)). word.now) items) ≡ suc (length (until_words sweep.until ++ swept_words sweep.swept_keys)) = ap length all in
    omega (arith, long, length-map items (λ (word : Bor (List ℕ)). word.now), none)

pub some_split : (items : List (Bor (List ℕ))) (words : List ℕ) (sweep : Sweep) → IsAskedFor sweep → words ≡ plan_text sweep
    → map (λ (word : Bor (List ℕ)). word.now) items ≡ slice_split (λ byte. byte == 32) words → 0 < length items
some_split [] words sweep asked is same = absurd (none_split [] words sweep asked is refl same)
some_split (x ∷ xs) words sweep asked is same = omega arith

-- the words of a plan, cut at the first
pub words_cut : (items listed : List (Bor (List ℕ))) (first d : Bor (List ℕ)) (words : List ℕ) → listed ≡ items → first ≡ get_or listed 0 d
    → map (λ (word : Bor (List ℕ)). word.now) items ≡ slice_split (λ byte. byte == 32) words
    → (sweep : Sweep) → IsAskedFor sweep → words ≡ plan_text sweep
    → slice_split (λ byte. byte == 32) words ≡ first.now ∷ map (λ (word : Bor (List ℕ)). word.now) (take (length listed - 1) (drop 1 listed))
words_cut items listed first d words same is all sweep asked text =
    let head : first.now ≡ (get_or items 0 d).now = ap (λ (w : Bor (List ℕ)). w.now) (is ∙ ap (λ (l : List (Bor (List ℕ))). get_or l 0 d) same) in
    let behind : map (λ (word : Bor (List ℕ)). word.now) (take (length listed - 1) (drop 1 listed)) ≡ map (λ (word : Bor (List ℕ)). word.now) (drop 1 items) =
    ap (map (λ (word : Bor (List ℕ)). word.now)) (behind_first listed ∙ ap (drop 1) same) in
    split_first items d words (some_split items words sweep asked text all) all ∙ (λ i. sym head i ∷ sym behind i)

-- ---- the words behind the first

-- none says a width: all are swept keys
pub none_parted : (items : List (Bor (List ℕ))) → ((value : List ℕ) → ¬ (SaysWidth (map (λ (word : Bor (List ℕ)). word.now) items) value))
    → AreParted (map (λ (word : Bor (List ℕ)). word.now) (take (length items - 1) (drop 1 items))) None (map (λ (word : Bor (List ℕ)). word.now) (take (length items - 1) (drop 1 items)))
none_parted items none = record { words = refl; low = (λ w is. cc); apart = (λ same value more says. by items none value more says) }
  where
    by : (all : List (Bor (List ℕ))) → ((value : List ℕ) → ¬ (SaysWidth (map (λ (word : Bor (List ℕ)). word.now) all) value)) → (value : List ℕ) (more : List (List ℕ))
        → ¬ (map (λ (word : Bor (List ℕ)). word.now) (take (length all - 1) (drop 1 all)) ≡ (codes "until=" ++ value) ∷ more)
    by [] none value more says = cc
    by (x ∷ xs) none value more says =
        none value (x.now, more, ap (λ l. x.now ∷ l) (sym (ap (map (λ (word : Bor (List ℕ)). word.now)) (behind_first (x ∷ xs))) ∙ says))

-- the second says this width: those behind it are swept keys
pub one_parted : (items : List (Bor (List ℕ))) (value : List ℕ) (width : ℕ) → SaysWidth (map (λ (word : Bor (List ℕ)). word.now) items) value → IsDecimal value width
    → AreParted (map (λ (word : Bor (List ℕ)). word.now) (take (length items - 1) (drop 1 items))) (Some width) (map (λ (word : Bor (List ℕ)). word.now) (take (length items - 2) (drop 2 items)))
one_parted [] value width says is = let none : 0 ≡ suc (suc (length says.1)) = ap length says.2 in absurd (omega arith)
one_parted (x ∷ []) value width says is =
    let none : 1 ≡ suc (suc (length says.1)) = ap length says.2 in
    absurd (omega arith)
one_parted (x ∷ y ∷ items) value width says is =
    let low = is.low in
    let whole : x.now ∷ y.now ∷ map (λ (word : Bor (List ℕ)). word.now) items ≡ says.0 ∷ (codes "until=" ++ value) ∷ says.1 = says.2 in
    let second : y.now ≡ codes "until=" ++ value = cc in
    let left = length (x ∷ y ∷ items) - 2 in
    let third : map (λ (word : Bor (List ℕ)). word.now) (take left (drop 2 (x ∷ y ∷ items))) ≡ map (λ (word : Bor (List ℕ)). word.now) items =
    ap (map (λ (word : Bor (List ℕ)). word.now)) (take_all left items (omega arith)) in
    record {
      words = ap (map (λ (word : Bor (List ℕ)). word.now)) (behind_first (x ∷ y ∷ items))
          ∙ (λ i. (second ∙ ap (λ l. codes "until=" ++ l) (sym is.written)) i ∷ sym third i);
      low = (λ w same. (let one : width ≡ w = cc in omega (arith, low, one)));
      apart = (λ none. cc);
    }

-- what it says is a number
pub number_said : (items : List (Bor (List ℕ))) (first value words : List ℕ) (sweep : Sweep) → IsAskedFor sweep → words ≡ plan_text sweep
    → SaysWidth (map (λ (word : Bor (List ℕ)). word.now) items) value → slice_split (λ byte. byte == 32) words ≡ first ∷ map (λ (word : Bor (List ℕ)). word.now) (take (length items - 1) (drop 1 items))
    → ((n : ℕ) → ¬ (IsDecimal value n)) → ⊥
number_said [] first value words sweep asked is says cut none = let empty : 0 ≡ suc (suc (length says.1)) = ap length says.2 in absurd (omega arith)
number_said (x ∷ items) first value words sweep asked is says cut none =
    let whole : x.now ∷ map (λ (word : Bor (List ℕ)). word.now) items ≡ says.0 ∷ (codes "until=" ++ value) ∷ says.1 = says.2 in
    let rest : map (λ (word : Bor (List ℕ)). word.now) items ≡ (codes "until=" ++ value) ∷ says.1 = cc in
    width_said words sweep asked is first (map (λ (word : Bor (List ℕ)). word.now) (take (length (x ∷ items) - 1) (drop 1 (x ∷ items)))) (seeds_given first) cut refl value says.1
    (ap (map (λ (word : Bor (List ℕ)). word.now)) (behind_first (x ∷ items)) ∙ rest) none

-- ---- what a word says of a width

abbrev Parted : Type 0
Parted = Option (Bor (List ℕ) × Bor (List ℕ))

pub width_parts : (word value : List ℕ) (parted : Parted) → word ≡ codes "until=" ++ value → IsSplitOnceResult 61 word parted
    → MatchOption parted ⊥ (λ x. (x.0.now ≡ codes "until") × (x.1.now ≡ value))
width_parts word value parted is cut = split_after 61 word (codes "until") value parted cut (lit< tt) is (unlike 61 (codes "until") (lacks_from_test 61 (codes "until") refl))

-- a name and a value behind an equals sign
pub width_read : (word : List ℕ) (parted : Parted) (name value : Bor (List ℕ)) → parted ≡ Some (name, value) → IsSplitOnceResult 61 word parted → name.now ≡ codes "until"
    → word ≡ codes "until=" ++ value.now
width_read word parted name value some cut is =
    let parts = rw some at (split_parts 61 word parted cut (lit< tt)) in
    parts.0 ∙ ap (λ l. l ++ 61 ∷ value.now) is

pub width_long : (items : List (Bor (List ℕ))) (value : List ℕ) → SaysWidth (map (λ (word : Bor (List ℕ)). word.now) items) value → 2 ≤ length items
width_long items value says =
    let long : length (map (λ (word : Bor (List ℕ)). word.now) items) ≡ suc (suc (length says.1)) = ap length says.2 in
    omega (arith, long, length-map items (λ (word : Bor (List ℕ)). word.now))

pub width_second : (items : List (Bor (List ℕ))) (d : Bor (List ℕ)) (value : List ℕ) → SaysWidth (map (λ (word : Bor (List ℕ)). word.now) items) value
    → (get_or items 1 d).now ≡ codes "until=" ++ value
width_second [] d value says = let none : 0 ≡ suc (suc (length says.1)) = ap length says.2 in absurd (omega arith)
width_second (x ∷ []) d value says = let none : 1 ≡ suc (suc (length says.1)) = ap length says.2 in absurd (omega arith)
width_second (x ∷ y ∷ items) d value says =
    let whole : x.now ∷ y.now ∷ map (λ (word : Bor (List ℕ)). word.now) items ≡ says.0 ∷ (codes "until=" ++ value) ∷ says.1 = says.2 in
    cc

pub second_width : (items : List (Bor (List ℕ))) (d : Bor (List ℕ)) (value : List ℕ) → 2 ≤ length items → (get_or items 1 d).now ≡ codes "until=" ++ value
    → SaysWidth (map (λ (word : Bor (List ℕ)). word.now) items) value
second_width [] d value long is = absurd (omega (arith, long))
second_width (x ∷ []) d value long is = absurd (omega (arith, long))
second_width (x ∷ y ∷ items) d value long is = (x.now, map (λ (word : Bor (List ℕ)). word.now) items, ap (λ l. x.now ∷ l ∷ map (λ (word : Bor (List ℕ)). word.now) items) is)
