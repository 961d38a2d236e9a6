-- First lines of shards that are one text name the same shard of the same sweep.
use Rattle.std.proofs.Common.{◌≡◌, ◌<◌, ◌^◌, ◌==◌, ℕ, suc, true, false, List, [], ◌∷◌, ◌++◌, map, length, get_or, codes, decimal, inl, inr, is_some, lit<, arith, refl, sym, ap, subst, ◌∙◌, append_assoc, append-nil}
use Rattle.std.specs.Prelude.{Option, Some, None, All}
use Rattle.std.specs.List.{AllByRecursion, flat_map, join_with_byte, list_any, slice_split}
use Rattle.std.specs.Option.{ForSome}
use Rattle.std.proofs.lemmas.Bool.{false≢true}
use Rattle.std.proofs.lemmas.List.{append_cancel_left}
use Rattle.std.proofs.lemmas.Fmt.{decimal_injective, decimal_is_IsNumeral}
use Rattle.std.proofs.lemmas.Str.Parse.{digit_at}
use Rattle.std.proofs.lemmas.List.Elements.{All-append, All-cons, All-contains, All-from_recursion, All-head, All-map, All-nil, All-weaker}
use Rattle.schema.specs.Schema.{key_rules_of, spelling_of}
use Rattle.schema.specs.declared.schema.FormatKey.{FormatKey}
use Rattle.sweep_plan.specs.Items.{is_letter, kept_name}
use Rattle.sweep_plan.specs.Keys.{MaySet, item_part, key_name, key_named, listed, settable}
use Rattle.sweep_plan.specs.Sweep.{KeyValues, Sweep}
use Rattle.sweep_plan.specs.Asked.{AsksForSeeds, IsRange, IsWidth, axis_text, names_text, seeds_text, swept_words}
use Rattle.sweep_plan.specs.Axes.{axes_of}
use Rattle.sweep_plan.specs.declared.items.ItemName.{ItemName}
use Rattle.sweep_plan.specs.SetKeys.{entry_keys, key_spelling}
use Rattle.sweep_plan.specs.declared.keys.SweptKey.{SweptKey}
use Rattle.sweep_plan.specs.declared.set_keys.SetKey.{SetKey}
use Rattle.sweep_plan.specs.declared.seeds.Seeds.{Seeds}
use Rattle.sweep_plan.proofs.Apart.{named_itself, not_within}
use Rattle.sweep_plan.proofs.Letters.{is_key_byte, name_lacks}
use Rattle.sweep_plan.proofs.Words.{Lacks, cut_once, decimal_lacks, joined_split, lacks_from_test}
use Rattle.sweep_plan.proofs.Columns.{axis_lacks, names_lack, one_name, rows_of}
use Rattle.sweep_plan.proofs.Gathered.{axes_in, same_axes}
use Rattle.sweep_plan.proofs.Grouped.{axes_flat, together, IsAxis}
use Rattle.shards.specs.declared.shard.Shard.{Shard}
use Rattle.shards.specs.Shards.{IsShard, shard_text}
use Rattle.shards.specs.Names.{head_cell, shard_name, plan_text, seeds_word, until_text}
use Rattle.sweep.specs.Runs.{IsAskedFor}
use Rattle.shard_merge.specs.Joined.{IsMark}
use Rattle.table_rows.proofs.Bytes.{lacks_both, lacks_cons, lacks_joined}
use Rattle.sweep.proofs.Cells.{value_lacks}

-- ---- which bytes the words of a sweep don't have

swept_lacks : (c : ℕ) → is_key_byte c ≡ false → is_letter c ≡ false → (61 == c) ≡ false → (44 == c) ≡ false → (43 == c) ≡ false → c < 48
    → (axis : List KeyValues) → IsAxis axis → Lacks c (axis_text axis)
swept_lacks c out also equals comma plus small axis is = axis_lacks c plus comma equals (name_lacks c out also) (λ v fits. value_lacks c v fits small) axis is

seeds_lack : (c : ℕ) → (45 == c) ≡ false → (46 == c) ≡ false → c < 48 → (word : Option (List ℕ)) (seeds : Option Seeds) → AsksForSeeds word seeds → Lacks c (seeds_word seeds)
seeds_lack c dash dot small None None asks = lacks_cons c 45 [] dash (All-nil (λ y. (y == c) ≡ false))
seeds_lack c dash dot small None (Some r) asks = absurd asks
seeds_lack c dash dot small (Some word) None asks = absurd asks
seeds_lack c dash dot small (Some word) (Some r) asks =
    let ordered = asks.ordered in
    let low = asks.low in
    lacks_both c (decimal r.first) (46 ∷ 46 ∷ decimal r.last) (decimal_lacks r.first c (omega (arith, ordered, low)) small)
    (lacks_cons c 46 (46 ∷ decimal r.last) dot (lacks_cons c 46 (decimal r.last) dot (decimal_lacks r.last c (omega (arith, low)) small)))

-- ---- the words of a sweep, with spaces between them

swept_keys_joined : (first : List ℕ) (axes : List (List KeyValues)) → join_with_byte 32 (first ∷ map axis_text axes) ≡ first ++ flat_map (λ axis. 32 ∷ axis_text axis) axes
swept_keys_joined first [] = sym (append-nil first)
swept_keys_joined first (axis ∷ axes) = ap (λ l. first ++ 32 ∷ l) (swept_keys_joined (axis_text axis) axes)

-- the word of a width, and the words that there are of it
abbrev pub until_word : ℕ → List ℕ
until_word width = codes "until=" ++ decimal width

abbrev pub until_words : Option ℕ → List (List ℕ)
until_words None = []
until_words (Some width) = until_word width ∷ []

all_joined : (first : List ℕ) (until : Option ℕ) (axes : List (List KeyValues))
    → join_with_byte 32 (first ∷ (until_words until ++ map axis_text axes)) ≡ first ++ until_text until ++ flat_map (λ axis. 32 ∷ axis_text axis) axes
all_joined first None axes = swept_keys_joined first axes ∙ ap (λ l. l ++ flat_map (λ axis. 32 ∷ axis_text axis) axes) (sym (append-nil first))
all_joined first (Some width) axes =
    ap (λ l. first ++ 32 ∷ l) (swept_keys_joined (until_word width) axes) ∙ sym (append_assoc first (32 ∷ until_word width) (flat_map (λ axis. 32 ∷ axis_text axis) axes))

abbrev pub words_of : Sweep → List (List ℕ)
words_of sweep = seeds_word sweep.seeds ∷ (until_words sweep.until ++ swept_words sweep.swept_keys)

pub joined_is : (sweep : Sweep) → join_with_byte 32 (words_of sweep) ≡ plan_text sweep
joined_is sweep = all_joined (seeds_word sweep.seeds) sweep.until (axes_of sweep.swept_keys)

-- the axes of a sweep that is asked for
pub asked_axes : (sweep : Sweep) → IsAskedFor sweep → All IsAxis (axes_of sweep.swept_keys)
asked_axes sweep asked = axes_in asked.swept_keys sweep.swept_keys asked.asked.swept_keys.axes

until_lack : (c : ℕ) → c < 48 → list_any (λ byte. byte == c) (codes "until=") ≡ false → (until : Option ℕ) → ForSome until IsWidth → All (Lacks c) (until_words until)
until_lack c small none None sound = All-nil (Lacks c)
until_lack c small none (Some width) sound =
    let most = (sound width refl).most in
    All-cons (Lacks c) (until_word width) [] (lacks_both c (codes "until=") (decimal width) (lacks_from_test c (codes "until=") none) (decimal_lacks width c (omega (arith, most)) small)) (All-nil (Lacks c))

all_lack : (c : ℕ) → is_key_byte c ≡ false → is_letter c ≡ false → (61 == c) ≡ false → (44 == c) ≡ false → (43 == c) ≡ false → (45 == c) ≡ false → (46 == c) ≡ false → c < 48
    → list_any (λ byte. byte == c) (codes "until=") ≡ false → (sweep : Sweep) → IsAskedFor sweep → All (Lacks c) (words_of sweep)
all_lack c out also equals comma plus dash dot small none sweep asked =
    All-cons (Lacks c) (seeds_word sweep.seeds) (until_words sweep.until ++ swept_words sweep.swept_keys) (seeds_lack c dash dot small asked.seeds sweep.seeds asked.asked.seeded)
    (All-append (Lacks c) (until_words sweep.until) (swept_words sweep.swept_keys) (until_lack c small none sweep.until asked.asked.width)
    (All-map (Lacks c) axis_text (axes_of sweep.swept_keys)
    (All-weaker IsAxis (λ axis. Lacks c (axis_text axis)) (swept_lacks c out also equals comma plus small) (axes_of sweep.swept_keys) (asked_axes sweep asked))))

pub words_lack : (sweep : Sweep) → IsAskedFor sweep → All (Lacks 32) (words_of sweep)
words_lack = all_lack 32 refl refl refl refl refl refl refl (lit< tt) refl

pub plan_lacks : (sweep : Sweep) → IsAskedFor sweep → Lacks 34 (plan_text sweep)
plan_lacks sweep asked =
    subst (Lacks 34) (joined_is sweep) (lacks_joined 34 32 (words_of sweep) refl (all_lack 34 refl refl refl refl refl refl refl (lit< tt) refl sweep asked))

pub no_dash : (r : Seeds) (word : List ℕ) → IsRange word r → seeds_text r ≡ 45 ∷ [] → ⊥
no_dash r word range same =
    let ordered = range.ordered in
    let low = range.low in
    let digits = decimal_is_IsNumeral r.first (omega (arith, ordered, low)) in
    let digit = digit_at (decimal r.first) 0 digits.0.1 digits.0.0 in
    let first : get_or (seeds_text r) 0 0 ≡ 45 = ap (λ bytes. get_or bytes 0 0) same in
    let same_first : get_or (seeds_text r) 0 0 ≡ get_or (decimal r.first) 0 0 = front (decimal r.first) (46 ∷ 46 ∷ decimal r.last) digits.0.0 in
    omega (arith, digit.0, first, same_first)
  where
    front : (xs ys : List ℕ) → 0 < length xs → get_or (xs ++ ys) 0 0 ≡ get_or xs 0 0
    front [] ys some = absurd (omega (arith, some))
    front (x ∷ xs) ys some = refl

pub same_seeds : (a b : Option (List ℕ)) (r s : Option Seeds) → AsksForSeeds a r → AsksForSeeds b s → seeds_word r ≡ seeds_word s → r ≡ s
same_seeds None None None None asks also same = refl
same_seeds None b (Some r) s asks also same = absurd asks
same_seeds (Some a) b None s asks also same = absurd asks
same_seeds None None None (Some s) asks also same = absurd also
same_seeds None (Some b) None None asks also same = absurd also
same_seeds (Some a) None (Some r) (Some s) asks also same = absurd also
same_seeds (Some a) (Some b) (Some r) None asks also same = absurd also
same_seeds None (Some b) None (Some s) asks also same = absurd (no_dash s b also (sym same))
same_seeds (Some a) None (Some r) None asks also same = absurd (no_dash r a asks same)
same_seeds (Some a) (Some b) (Some r) (Some s) asks also same =
    let one = asks.ordered in
    let two = asks.low in
    let three = also.ordered in
    let four = also.low in
    let parts = cut_once 46 (decimal r.first) (decimal s.first) (46 ∷ decimal r.last) (46 ∷ decimal s.last)
    (decimal_lacks r.first 46 (omega arith) (lit< tt)) (decimal_lacks s.first 46 (omega arith) (lit< tt)) same in
    let lasts : decimal r.last ≡ decimal s.last = cc in
    let first = decimal_injective r.first s.first (omega arith) (omega arith) parts.0 in
    let last = decimal_injective r.last s.last (omega arith) (omega arith) lasts in
    ap Some (λ i. record { first = first i; last = last i })

-- ---- no word of a swept key says a width

unnamed : key_named (codes "until") ≡ None
unfolding settable key_named key_rules_of spelling_of
unnamed = refl

tabled_each : AllByRecursion (λ j. is_some j.table ≡ true) listed
unfolding listed key_rules_of spelling_of entry_keys
tabled_each = (refl, (refl, (refl, (refl, (refl, (refl, (refl, (refl, (refl, (refl, (refl, (refl, (refl, (refl, (refl, (refl, (refl, (refl, (refl, (refl, (refl, (refl, (refl, (refl, (refl, (refl, (refl, (refl, (refl, (refl, (refl, (refl, (refl, (refl, (refl, (refl, (refl, (refl, (refl, (refl, (refl, (refl, (refl, (refl, (refl, tt)))))))))))))))))))))))))))))))))))))))))))))

-- a key of a table has a dot in its name
not_of_table : (table : Option FormatKey) (item : Option ItemName) (k : SetKey) → is_some table ≡ true → key_name (record { table = table; item = item; key = k }) ≡ codes "until" → ⊥
not_of_table None item k some same = absurd (false≢true some)
not_of_table (Some t) item k some same =
    not_within 46 (spelling_of t ++ item_part item) (key_spelling k)
    (subst (Lacks 46) (sym same ∙ sym (append_assoc (spelling_of t) (item_part item) (46 ∷ key_spelling k))) (lacks_from_test 46 (codes "until") refl))

not_until : (k : SweptKey) → MaySet k → key_name k ≡ codes "until" → ⊥
not_until k (inl known) same =
    let one : None ≡ Some k = sym unnamed ∙ ap key_named (sym same) ∙ named_itself k known in
    cc
not_until k (inr is) same =
    not_of_table is.key.table (Some (kept_name is.name)) is.key.key
    (All-contains (λ (j : SweptKey). is_some j.table ≡ true) listed is.key (All-from_recursion (λ (j : SweptKey). is_some j.table ≡ true) listed tabled_each) is.known)
    (sym (ap key_name is.is) ∙ same)

pub swept_says_none : (axis : List KeyValues) (value : List ℕ) → IsAxis axis → axis_text axis ≡ codes "until=" ++ value → ⊥
swept_says_none axis value is same =
    let parts = cut_once 61 (names_text axis) (codes "until") (join_with_byte 44 (rows_of axis)) value (names_lack axis) (lacks_from_test 61 (codes "until") refl) same in
    let one = one_name axis is (codes "until") (lacks_from_test 43 (codes "until") refl) parts.0 in
    not_until one.0 one.1 one.2

pub no_swept_says : (axes : List (List KeyValues)) (value : List ℕ) (more : List (List ℕ)) → All IsAxis axes → map axis_text axes ≡ (codes "until=" ++ value) ∷ more → ⊥
no_swept_says [] value more sound same = let none : 0 ≡ suc (length more) = ap length same in absurd (omega arith)
no_swept_says (axis ∷ axes) value more sound same =
    let first : axis_text axis ≡ codes "until=" ++ value = cc in
    swept_says_none axis value (All-head IsAxis axis axes sound) first

-- so the words behind that of the seeds are those of one width, or none, and of swept keys
pub same_rest : (v u : Option ℕ) (axes : List (List KeyValues)) (swept_keys : List (List ℕ)) → ForSome v IsWidth → ForSome u (λ w. w < 2 ^ 64) → All IsAxis axes
    → (u ≡ None → (value : List ℕ) (more : List (List ℕ)) → ¬ (swept_keys ≡ (codes "until=" ++ value) ∷ more)) → until_words v ++ map axis_text axes ≡ until_words u ++ swept_keys
    → (v ≡ u) × (map axis_text axes ≡ swept_keys)
same_rest None None axes swept_keys sound low all none same = (refl, same)
same_rest (Some a) None axes swept_keys sound low all none same = absurd (none refl (decimal a) (map axis_text axes) (sym same))
same_rest None (Some w) axes swept_keys sound low all none same = absurd (no_swept_says axes (decimal w) swept_keys all same)
same_rest (Some a) (Some w) axes swept_keys sound low all none same =
    let most = (sound a refl).most in
    let first : until_word a ≡ until_word w = cc in
    let rest : map axis_text axes ≡ swept_keys = cc in
    let digits : decimal a ≡ decimal w = append_cancel_left (codes "until=") (decimal a) (decimal w) first in
    (ap Some (decimal_injective a w (omega (arith, most)) (low w refl) digits), rest)

-- swept keys of one list of words are one
pub same_swept_keys : (s t : List KeyValues) → All IsAxis (axes_of s) → All IsAxis (axes_of t) → swept_words s ≡ swept_words t → s ≡ t
same_swept_keys s t sound also same = sym (axes_flat s) ∙ ap together (same_axes (axes_of s) (axes_of t) sound also same) ∙ axes_flat t

-- sweeps of the same words are one
pub same_sweep : (s t : Sweep) → IsAskedFor s → IsAskedFor t → plan_text s ≡ plan_text t → s ≡ t
same_sweep s t asked also same =
    let words : words_of s ≡ words_of t =
    sym (joined_split 32 (words_of s) (omega arith) (words_lack s asked))
    ∙ ap (slice_split (λ byte. byte == 32)) (joined_is s ∙ same ∙ sym (joined_is t))
    ∙ joined_split 32 (words_of t) (omega arith) (words_lack t also) in
    let first : seeds_word s.seeds ≡ seeds_word t.seeds = cc in
    let rest : until_words s.until ++ swept_words s.swept_keys ≡ until_words t.until ++ swept_words t.swept_keys = cc in
    let parts = same_rest s.until t.until (axes_of s.swept_keys) (swept_words t.swept_keys) asked.asked.width (λ w is. omega (arith, (also.asked.width w is).most)) (asked_axes s asked)
    (λ none value more is. no_swept_says (axes_of t.swept_keys) value more (asked_axes t also) is) rest in
    let seeds = same_seeds asked.seeds also.seeds s.seeds t.seeds asked.asked.seeded also.asked.seeded first in
    let swept_keys = same_swept_keys s.swept_keys t.swept_keys (asked_axes s asked) (asked_axes t also) parts.1 in
    (λ i. record { swept_keys = swept_keys i; seeds = seeds i; until = parts.0 i })

-- what two texts name that begin with the first lines of shards
pub record AreSameHeads (mark other : List ℕ) (s t : Sweep) (p q : Shard) (x y : List ℕ) : Type 0 where
  pub marks : mark ≡ other
  pub sweep : s ≡ t
  pub shard : p ≡ q
  pub rest : x ≡ y

pub same_heads : (mark other : List ℕ) (s t : Sweep) (p q : Shard) (x y : List ℕ) → IsMark mark → IsMark other → IsAskedFor s → IsAskedFor t → IsShard p → IsShard q
    → head_cell mark s p ++ x ≡ head_cell other t q ++ y → AreSameHeads mark other s t p q x y
same_heads mark other s t p q x y marks marks_too asked also sound sound_too same =
    let one = sound.most in
    let two = sound.few in
    let three = sound_too.most in
    let four = sound_too.few in
    let whole : laid mark s p x ≡ laid other t q y = sym (laid_is mark s p x) ∙ same ∙ laid_is other t q y in
    let inside : decimal p.number ++ 47 ∷ behind_number mark s p x ≡ decimal q.number ++ 47 ∷ behind_number other t q y = cc in
    let slash = cut_once 47 (decimal p.number) (decimal q.number) (behind_number mark s p x) (behind_number other t q y)
    (decimal_lacks p.number 47 (omega arith) (lit< tt)) (decimal_lacks q.number 47 (omega arith) (lit< tt)) inside in
    let space = cut_once 32 (decimal p.of) (decimal q.of) (mark ++ 32 ∷ behind_mark s x) (other ++ 32 ∷ behind_mark t y)
    (decimal_lacks p.of 32 (omega arith) (lit< tt)) (decimal_lacks q.of 32 (omega arith) (lit< tt)) slash.1 in
    let after = cut_once 32 mark other (behind_mark s x) (behind_mark t y) marks.spaceless marks_too.spaceless space.1 in
    let quote = cut_once 34 (plan_text s) (plan_text t) (44 ∷ x) (44 ∷ y) (plan_lacks s asked) (plan_lacks t also) after.1 in
    let number = decimal_injective p.number q.number (omega arith) (omega arith) slash.0 in
    let of = decimal_injective p.of q.of (omega arith) (omega arith) space.0 in
    let rest : x ≡ y = cc in
    record { marks = after.0; sweep = same_sweep s t asked also quote.0; shard = (λ i. record { number = number i; of = of i }); rest = rest }
  where
    behind_mark : Sweep → List ℕ → List ℕ
    behind_mark s x = plan_text s ++ 34 ∷ 44 ∷ x

    behind_number : List ℕ → Sweep → Shard → List ℕ → List ℕ
    behind_number mark s p x = decimal p.of ++ 32 ∷ (mark ++ 32 ∷ behind_mark s x)

    laid : List ℕ → Sweep → Shard → List ℕ → List ℕ
    laid mark s p x = 34 ∷ (decimal p.number ++ 47 ∷ behind_number mark s p x)

    laid_is : (mark : List ℕ) (s : Sweep) (p : Shard) (x : List ℕ) → head_cell mark s p ++ x ≡ laid mark s p x
    laid_is mark s p x =
        ap (λ l. 34 ∷ l)
        (append_assoc (shard_name mark s p) (34 ∷ 44 ∷ []) x
        ∙ append_assoc (shard_text p ++ 32 ∷ mark) (32 ∷ plan_text s) (34 ∷ 44 ∷ x)
        ∙ append_assoc (shard_text p) (32 ∷ mark) (32 ∷ behind_mark s x)
        ∙ append_assoc (decimal p.number) (47 ∷ decimal p.of) (32 ∷ (mark ++ 32 ∷ behind_mark s x)))
