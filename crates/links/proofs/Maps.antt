-- The maps of the table, entry by entry: routes by the paths so far, times by the slow entries and by the cuts so far.
use Rattle.std.proofs.Common.{◌≡◌, ◌≢◌, ◌-◌, slice_get, ℕ, zero, suc, ◌+◌, ◌<◌, ◌≤◌, ◌⊎◌, inl, inr, subst, nat_le, nat_lt, Bool, true, false, cond, ◌&&◌, ◌||◌, nat_eq, if◌then◌else◌, List, [], ◌∷◌, ◌++◌, map, length, take, get_or, set, Option, Some, Result, Ok, Err, OnOk, refl, sym, ap, ◌∙◌, append-nil, arith, Vec, Global}
use Rattle.std.specs.Option.{unwrap_or, option_map_or}
use Rattle.std.specs.List.{filter, find, list_any}
use Rattle.std.specs.Map.{lookup}
use Rattle.std.specs.Ordering.{nat_cmp, ordering_then, is_eq, MatchOrdering}
use Rattle.std.specs.Cmp.{ranks}
use Rattle.std.proofs.lemmas.Bool.Decides.{nat_tests}
use Rattle.std.proofs.lemmas.Bool.{eqb-true, eq-eqb, ne_eqb, cases_eq, cases_lt, false≢true}
use Rattle.std.proofs.lemmas.List.{get_or_read, get_or_append_left, get_or_push, get_or_past, get_or-set_same, get_or-set_other, length-append}
use Rattle.std.proofs.lemmas.List.Folds.{list_any_more}
use Rattle.std.proofs.lemmas.Option.{slice_get-get_or}
use Rattle.std.specs.declared.cmp.Ordering.{Ordering}
use Rattle.std.specs.declared.cmp.Ordering.TheVariants.{Less, Equal, Greater}
use Rattle.std.specs.BTreeMap.{is_at}
use Rattle.scenario.specs.Setup.{leads, last_link, is_slow, cuts_off}
use Rattle.scenario.specs.declared.settings.Link.{Link}
use Rattle.scenario.specs.declared.settings.Path.{Path}
use Rattle.scenario.specs.declared.settings.Slow.{Slow}
use Rattle.scenario.specs.declared.settings.Cut.{Cut}
use Rattle.scenario.proofs.Between.{last_more}
use Rattle.links.specs.Entries.{pair_cmp, numbered, KeepsNumbers, number_in, slow_spans, spans_in, span_of, covers, extra_in, outages_in}
use Rattle.scenario.specs.Spells.{is_in_any, HaveBegun}
use Rattle.scenario.specs.declared.spells.Spell.{Spell}
use Rattle.links.specs.declared.spans.times.SlowSpan.{SlowSpan}

both_eq : (o r : Ordering) → is_eq (ordering_then o r) ≡ (is_eq o && is_eq r)
both_eq Less r = refl
both_eq Equal r = refl
both_eq Greater r = refl

ranked : (a b : ℕ) (o : Ordering) → MatchOrdering o (a < b) (a ≡ b) (b < a) → is_eq o ≡ nat_eq a b
ranked a b Less h = grind (arith, nat_tests)
ranked a b Equal h = grind (arith, nat_tests)
ranked a b Greater h = grind (arith, nat_tests)

same_number : (a b : ℕ) → is_eq (nat_cmp a b) ≡ nat_eq a b
same_number a b = ranked a b (nat_cmp a b) (ranks a b)

-- two pairs of groups are one where both groups are
same_pair : (a b c d : ℕ) → is_at (pair_cmp (a, b)) (c, d) ≡ (nat_eq a c && nat_eq b d)
same_pair a b c d = both_eq (nat_cmp a c) (nat_cmp b d) ∙ ap (λ v. v && is_eq (nat_cmp b d)) (same_number a c) ∙ ap (λ v. nat_eq a c && v) (same_number b d)

put : (b : Bool) (new : Link) (old : Option Link) (link : Link) → unwrap_or (cond b (Some new) old) link ≡ (if b then new else unwrap_or old link)
put true new old link = refl
put false new old link = refl

-- a link more has the next number; the others keep theirs
numbered_before : (links : List Link) (x : Link) (number : ℕ) → number ≤ length links → numbered (links ++ x ∷ []) number ≡ numbered links number
unfolding numbered
numbered_before links x zero few = refl
numbered_before links x (suc k) few =
    let within : k < length links = omega (arith, few) in
    slice_get-get_or (links ++ x ∷ []) k x (omega (arith, within, length-append links (x ∷ [])))
    ∙ ap Some (get_or_append_left links (x ∷ []) x k within)
    ∙ sym (slice_get-get_or links k x within)

pub numbered_last : (links : List Link) (x : Link) (number : ℕ) → number ≡ length (links ++ x ∷ []) → numbered (links ++ x ∷ []) number ≡ Some x
unfolding numbered
numbered_last links x zero is = absurd (omega (arith, is, length-append links (x ∷ [])))
numbered_last links x (suc k) is =
    let last : length links ≡ k = omega (arith, is, length-append links (x ∷ [])) in
    slice_get-get_or (links ++ x ∷ []) k x (omega (arith, is))
    ∙ ap Some (get_or_push links x x k last)

pub keeps_behind : (old new : List Link) (x : Link) → new ≡ old ++ x ∷ [] → KeepsNumbers old new
keeps_behind old new x pushed = record {
  more = let long : length new ≡ length old + 1 = ap length pushed ∙ length-append old (x ∷ []) in omega (arith, long);
  same = λ number few. ap (λ ls. numbered ls number) pushed ∙ numbered_before old x number few;
}

pub keeps_all : (links : List Link) → KeepsNumbers links links
keeps_all links = record { more = omega arith; same = λ number few. refl }

pub numbered_there : (links : List Link) (x : Link) (place : ℕ) → slice_get links place ≡ Some x → numbered links (place + 1) ≡ Some x
unfolding numbered
numbered_there links x place there = ap (numbered links) (let next : place + 1 ≡ suc place = omega arith in next) ∙ there

put_numbered : (old new : List Link) (x : Link) (b : Bool) (number before : ℕ) → KeepsNumbers old new → numbered new number ≡ Some x → before ≤ length old
    → numbered new (cond b number before) ≡ cond b (Some x) (numbered old before)
put_numbered old new x true number before kept is few = is
put_numbered old new x false number before kept is few = kept.same before few

-- a table without rows has no path
pub no_number : (rows : List (Vec ℕ Global)) (from to : ℕ) → rows ≡ [] → number_in rows from to ≡ 0
no_number rows from to empty = ap (λ rs. number_in rs from to) empty

pub no_path : (rows : List (Vec ℕ Global)) (links : List Link) (link : Link) (from to : ℕ) → rows ≡ [] → unwrap_or (numbered links (number_in rows from to)) link ≡ link
unfolding numbered
no_path rows links link from to empty = ap (λ n. unwrap_or (numbered links n) link) (no_number rows from to empty)

-- numbers count from 1
pub counted_from_one : (links : List Link) (number : ℕ) → number ≢ 0 → numbered links number ≡ slice_get links (number - 1)
unfolding numbered
counted_from_one links zero some = absurd (some refl)
counted_from_one links (suc k) some = ap (slice_get links) (omega arith)

-- the number of a path is at most the count of links, and stays so
pub number_small : (old_rows new_rows : List (Vec ℕ Global)) (old new : List Link) (named : Bool) (number from to : ℕ) → KeepsNumbers old new → number ≤ length new
    → number_in new_rows from to ≡ cond named number (number_in old_rows from to)
    → number_in old_rows from to ≤ length old → number_in new_rows from to ≤ length new
number_small old_rows new_rows old new true number from to kept small put_in few = omega (arith, small, put_in)
number_small old_rows new_rows old new false number from to kept small put_in few = let more = kept.more in omega (arith, more, put_in, few)

-- a path that is put over the paths so far: its groups have the number of its link
pub routes_more : (old_rows new_rows : List (Vec ℕ Global)) (old new : List Link) (ps : List Path) (i : ℕ) (d : Path) (number : ℕ) (link : Link) (from to : ℕ) → i < length ps
    → KeepsNumbers old new → numbered new number ≡ Some (get_or ps i d).link
    → number_in new_rows from to ≡ cond (leads from to (get_or ps i d)) number (number_in old_rows from to)
    → number_in old_rows from to ≤ length old
    → unwrap_or (numbered old (number_in old_rows from to)) link ≡ last_link link (map (λ p. p.link) (filter (leads from to) (take i ps)))
    → unwrap_or (numbered new (number_in new_rows from to)) link ≡ last_link link (map (λ p. p.link) (filter (leads from to) (take (i + 1) ps)))
routes_more old_rows new_rows old new ps i d number link from to within kept is put_in few before =
    let p = get_or ps i d in
    ap (λ n. unwrap_or (numbered new n) link) put_in
    ∙ ap (λ o. unwrap_or o link) (put_numbered old new p.link (leads from to p) number (number_in old_rows from to) kept is few)
    ∙ put (leads from to p) p.link (numbered old (number_in old_rows from to)) link
    ∙ ap (λ l. if leads from to p then p.link else l) before
    ∙ sym (last_more link (leads from to) ps i d (leads from to p) within refl)

-- a place without times is as good as none
pub place_more : (spans : List (List SlowSpan)) (m : ℕ) → spans_in (spans ++ [] ∷ []) m ≡ spans_in spans m
place_more spans m = elim (cases_lt m (length spans)) as (λ _. spans_in (spans ++ [] ∷ []) m ≡ spans_in spans m) [
  | inl a ↦ get_or_append_left spans ([] ∷ []) [] m a
  | inr b ↦ elim (cases_eq (length spans) m) as (λ _. spans_in (spans ++ [] ∷ []) m ≡ spans_in spans m) [
    | inl same ↦ get_or_push spans [] [] m same ∙ sym (get_or_past spans m [] b)
    | inr other ↦ get_or_past (spans ++ [] ∷ []) m [] (let all = length-append spans ([] ∷ []) in omega (arith, all, b, other)) ∙ sym (get_or_past spans m [] b)
  ]
]

-- a time more at a place
pub span_more : (old new : List (List SlowSpan)) (k : ℕ) (v : List SlowSpan) (span : SlowSpan) → k < length old → new ≡ set old k v → v ≡ spans_in old k ++ span ∷ []
    → (m : ℕ) → spans_in new m ≡ spans_in old m ++ cond (nat_eq k m) (span ∷ []) []
span_more old new k v span within is more m = elim (cases_eq m k) as (λ _. spans_in new m ≡ spans_in old m ++ cond (nat_eq k m) (span ∷ []) []) [
  | inl a ↦
      ap (λ t. spans_in t m) is ∙ ap (spans_in (set old k v)) a ∙ get_or-set_same old k v [] within ∙ more ∙ ap (λ n. spans_in old n ++ span ∷ []) (sym a)
      ∙ ap (λ b. spans_in old m ++ cond b (span ∷ []) []) (sym (eq-eqb k m (sym a)))
  | inr b ↦
      ap (λ t. spans_in t m) is ∙ get_or-set_other old k m v [] b ∙ sym (append-nil (spans_in old m))
      ∙ ap (λ c. spans_in old m ++ cond c (span ∷ []) []) (sym (ne_eqb k m (λ same. b (sym same))))
]

-- where these spells were put
put_in_place : (b : Bool) (old new : Option (List Spell)) (v : List Spell) → b ≡ true → new ≡ cond b (Some v) old → unwrap_or new [] ≡ v
put_in_place true old new v here is = ap (λ o. unwrap_or o []) is
put_in_place false old new v here is = absurd (false≢true here)

left_in_place : (b : Bool) (old new : Option (List Spell)) (v : List Spell) → b ≡ false → new ≡ cond b (Some v) old → unwrap_or new [] ≡ unwrap_or old []
left_in_place true old new v here is = absurd (false≢true (sym here))
left_in_place false old new v here is = ap (λ o. unwrap_or o []) is

apart_by : (a b c d : ℕ) (x y : Bool) → ¬ ((a ≡ c) × (b ≡ d)) → nat_eq c a ≡ x → nat_eq d b ≡ y → (x && y) ≡ false
apart_by a b c d true true apart one two = absurd (apart (sym (eqb-true c a one), sym (eqb-true d b two)))
apart_by a b c d true false apart one two = refl
apart_by a b c d false y apart one two = refl

-- the times of two groups are written
module _ (old new : List ((ℕ × ℕ) × List Spell)) (k : ℕ × ℕ) (v : List Spell) (put : (q : ℕ × ℕ) → lookup (is_at (pair_cmp q)) new ≡ cond (is_at (pair_cmp k) q) (Some v) (lookup (is_at (pair_cmp q)) old)) where
  pub written_here : outages_in new k.0 k.1 ≡ v
  written_here =
      put_in_place (is_at (pair_cmp k) (k.0, k.1)) (lookup (is_at (pair_cmp (k.0, k.1))) old) (lookup (is_at (pair_cmp (k.0, k.1))) new) v
      (same_pair k.0 k.1 k.0 k.1 ∙ ap (λ b. b && nat_eq k.1 k.1) (eq-eqb k.0 k.0 refl) ∙ eq-eqb k.1 k.1 refl) (put (k.0, k.1))

  pub others_kept : (a b : ℕ) → ¬ ((a ≡ k.0) × (b ≡ k.1)) → outages_in new a b ≡ outages_in old a b
  others_kept a b apart =
      left_in_place (is_at (pair_cmp k) (a, b)) (lookup (is_at (pair_cmp (a, b))) old) (lookup (is_at (pair_cmp (a, b))) new) v
      (same_pair k.0 k.1 a b ∙ apart_by a b k.0 k.1 (nat_eq k.0 a) (nat_eq k.1 b) apart refl refl) (put (a, b))

-- the first time of two groups
pub others_first : (old same new : List ((ℕ × ℕ) × List Spell)) (k : ℕ × ℕ) (v : List Spell) → same ≡ old
    → ((q : ℕ × ℕ) → lookup (is_at (pair_cmp q)) new ≡ cond (is_at (pair_cmp k) q) (Some v) (lookup (is_at (pair_cmp q)) same))
    → (a b : ℕ) → ¬ ((a ≡ k.0) × (b ≡ k.1)) → outages_in new a b ≡ outages_in old a b
others_first old same new k v kept put = others_kept old new k v (λ q. put q ∙ ap (λ es. cond (is_at (pair_cmp k) q) (Some v) (lookup (is_at (pair_cmp q)) es)) kept)

pub always : {X Y : Type 0} (r : Result X Y) (P : Type 0) → P → OnOk r P
always (Ok x) P is = is
always (Err y) P is = tt

extra_now : (a b : Bool) (t : ℕ) (e : Slow) (rest : List SlowSpan) (o : Option Slow) → covers t (span_of e) ≡ b → extra_in rest t ≡ option_map_or (λ (f : Slow). f.extra) o 0
    → extra_in (cond a (span_of e ∷ rest) rest) t ≡ option_map_or (λ (f : Slow). f.extra) (cond (a && b) (Some e) o) 0
extra_now false b t e rest o is same = same
extra_now true true t e rest o is same = ap (λ v. option_map_or (λ (f : SlowSpan). f.extra) (cond v (Some (span_of e)) (find (covers t) rest)) 0) is
extra_now true false t e rest o is same = ap (λ v. option_map_or (λ (f : SlowSpan). f.extra) (cond v (Some (span_of e)) (find (covers t) rest)) 0) is ∙ same

map-cond : (b : Bool) (e : Slow) (es : List Slow) → map span_of (cond b (e ∷ es) es) ≡ cond b (span_of e ∷ map span_of es) (map span_of es)
map-cond true e es = refl
map-cond false e es = refl

-- a member is slow by the first of its times that covers the moment
pub extra_is : (m t : ℕ) (es : List Slow) → extra_in (slow_spans m es) t ≡ option_map_or (λ e. e.extra) (find (is_slow m t) es) 0
extra_is m t [] = refl
extra_is m t (e ∷ es) =
    ap (λ spans. extra_in spans t) (map-cond (nat_eq e.member m) e (filter (λ (f : Slow). nat_eq f.member m) es))
    ∙ extra_now (nat_eq e.member m) (covers t (span_of e)) t e (slow_spans m es) (find (is_slow m t) es) refl (extra_is m t es)

or_false : (b : Bool) → (b || false) ≡ b
or_false true = refl
or_false false = refl

module _ (old new : List ((ℕ × ℕ) × List Spell)) (cs : List Cut) (i from until : ℕ) (k : ℕ × ℕ) (c : Cut) (within : i < length cs) (here : c ≡ get_or cs i c) (sender : k.0 ≡ c.from) (receiver : k.1 ≡ c.to)
    (begins : from ≡ c.at) (ends : until ≡ c.until)
    (added : (t : ℕ) → is_in_any (outages_in new k.0 k.1) t ≡ (is_in_any (outages_in old k.0 k.1) t || (nat_le from t && nat_lt t until)))
    (others : (a b : ℕ) → ¬ ((a ≡ k.0) × (b ≡ k.1)) → outages_in new a b ≡ outages_in old a b) (begun : HaveBegun (outages_in new k.0 k.1) from) where
  -- this cut's groups, or others
  abbrev Case : ℕ → ℕ → Type 0
  Case a b = ((a ≡ k.0) × (b ≡ k.1)) ⊎ (¬ ((a ≡ k.0) × (b ≡ k.1)))

  which : (a b : ℕ) → Case a b
  which a b = elim (cases_eq a k.0) as (λ _. Case a b) [
    | inl x ↦ elim (cases_eq b k.1) as (λ _. Case a b) [
      | inl y ↦ inl (x, y)
      | inr y ↦ inr (λ both. y both.1)
    ]
    | inr x ↦ inr (λ both. x both.0)
  ]

  one : (a b t : ℕ) → is_in_any (outages_in new a b) t ≡ (is_in_any (outages_in old a b) t || cuts_off a b t c)
  one a b t = elim (which a b) as (λ _. is_in_any (outages_in new a b) t ≡ (is_in_any (outages_in old a b) t || cuts_off a b t c)) [
    | inl x ↦
        (λ i. is_in_any (outages_in new (x.0 i) (x.1 i)) t) ∙ added t ∙ (λ i. is_in_any (outages_in old (sym x.0 i) (sym x.1 i)) t || (nat_le (begins i) t && nat_lt t (ends i)))
        ∙ ap (λ v. is_in_any (outages_in old a b) t || (v && (nat_le c.at t && nat_lt t c.until)))
        (sym (ap (λ v. v && nat_eq c.to b) (eq-eqb c.from a (sym (x.0 ∙ sender))) ∙ eq-eqb c.to b (sym (x.1 ∙ receiver))))
    | inr x ↦
        ap (λ xs. is_in_any xs t) (others a b x) ∙ sym (or_false (is_in_any (outages_in old a b) t))
        ∙ ap (λ v. is_in_any (outages_in old a b) t || (v && (nat_le c.at t && nat_lt t c.until)))
        (sym (apart_by a b c.from c.to (nat_eq c.from a) (nat_eq c.to b) (λ both. x (both.0 ∙ sym sender, both.1 ∙ sym receiver)) refl refl))
  ]

  -- one cut more
  pub cut_more : ((a b t : ℕ) → is_in_any (outages_in old a b) t ≡ list_any (cuts_off a b t) (take i cs)) → (a b t : ℕ) → is_in_any (outages_in new a b) t ≡ list_any (cuts_off a b t) (take (i + 1) cs)
  cut_more before a b t =
      one a b t ∙ ap (λ v. v || cuts_off a b t c) (before a b t) ∙ ap (λ e. list_any (cuts_off a b t) (take i cs) || cuts_off a b t e) here
      ∙ sym (list_any_more (cuts_off a b t) cs i c within)

  pub begun_more : ((x y : ℕ) (d : Cut) → x ≤ y → y < length cs → (get_or cs x d).at ≤ (get_or cs y d).at)
      → ((a b j : ℕ) (d : Cut) → i ≤ j → j < length cs → HaveBegun (outages_in old a b) (get_or cs j d).at)
      → (a b j : ℕ) (d : Cut) → i + 1 ≤ j → j < length cs → HaveBegun (outages_in new a b) (get_or cs j d).at
  begun_more rising before a b j d later below = elim (which a b) as (λ _. HaveBegun (outages_in new a b) (get_or cs j d).at) [
    | inl x ↦ subst (λ m. HaveBegun (outages_in new m b) (get_or cs j d).at) (sym x.0) (subst (λ m. HaveBegun (outages_in new k.0 m) (get_or cs j d).at) (sym x.1) (λ n e inside.
        let first = begun n e inside in
        let next : from ≤ (get_or cs j d).at = subst (λ y. y ≤ (get_or cs j d).at) (ap (λ (q : Cut). q.at) (sym (get_or_read cs i c within here d)) ∙ sym begins) (rising i j d (omega (arith, later)) below) in
        omega (arith, first, next)))
    | inr x ↦ subst (λ xs. HaveBegun xs (get_or cs j d).at) (sym (others a b x)) (before a b j d (omega (arith, later)) below)
  ]
