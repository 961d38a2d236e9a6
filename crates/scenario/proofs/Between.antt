-- The number of a member's group, found group by group, and the last path of two groups, path by path.
use Rattle.std.proofs.Common.{◌≡◌, zero-add, sym, ℕ, ◌+◌, ◌-◌, ◌<◌, List, [], ◌∷◌, ◌++◌, cond, length, take, refl, Bool, true, false, map, drop, get_or, nat_lt, if◌then◌else◌, ap, ◌∙◌}
use Rattle.std.specs.List.{filter, range_with_len}
use Rattle.std.proofs.lemmas.List.{drop_more, take_more, map-append}
use Rattle.std.proofs.lemmas.List.Elements.{filter-append}
use Rattle.std.proofs.lemmas.List.FromFn.{length-map-range_with_len, get_or-map-range_with_len, map-range_with_len_more}
use Rattle.scenario.specs.Setup.{Group, group_at, last_link}
use Rattle.scenario.specs.declared.settings.Link.{Link}
use Rattle.scenario.specs.declared.settings.Path.{Path}
use Rattle.scenario.specs.SetupOf.{group_of}
use Rattle.scenario.specs.declared.settings.Group.{Group as Stored}

module _ (gs : List Stored) (i before : ℕ) (g : Stored) (within : i < length gs) (here : get_or gs i g ≡ g) where
  group_step : group_at (map group_of (drop i gs)) before ≡ group_at (group_of g ∷ map group_of (drop (i + 1) gs)) before
  group_step =
      ap (λ rest. group_at (map group_of rest) before) (drop_more gs i g within)
      ∙ ap (λ f. group_at (group_of f ∷ map group_of (drop (i + 1) gs)) before) here

  -- the member is in the group at the index, or in one after it
  pub group_found : nat_lt before g.count ≡ true → group_at (map group_of (drop i gs)) before ≡ 0
  group_found inside = group_step ∙ ap (λ b. if b then 0 else 1 + group_at (map group_of (drop (i + 1) gs)) (before - g.count)) inside

  pub group_passed : nat_lt before g.count ≡ false → group_at (map group_of (drop i gs)) before ≡ 1 + group_at (map group_of (drop (i + 1) gs)) (before - g.count)
  group_passed past = group_step ∙ ap (λ b. if b then 0 else 1 + group_at (map group_of (drop (i + 1) gs)) (before - g.count)) past

-- the numbers of the groups of the first members
abbrev pub numbers_below : List Group → ℕ → List ℕ
numbers_below gs n = map (group_at gs) (range_with_len 0 n)

-- one member more
pub numbers_more : (gs : List Group) (old new : List ℕ) (m x : ℕ) → old ≡ numbers_below gs m → x ≡ group_at gs m → new ≡ old ++ x ∷ [] → new ≡ numbers_below gs (m + 1)
numbers_more gs old new m x before is more =
    more ∙ ap (λ xs. xs ++ x ∷ []) before ∙ ap (λ y. numbers_below gs m ++ y ∷ []) is ∙ sym (map-range_with_len_more (group_at gs) 0 m m (zero-add m))

pub length-numbers : (gs : List Group) (n : ℕ) (numbers : List ℕ) → numbers ≡ numbers_below gs n → length numbers ≡ n
length-numbers gs n numbers are = ap length are ∙ length-map-range_with_len (group_at gs) 0 n

-- what stands at a member's place
pub number_at : (gs : List Group) (n m x : ℕ) (numbers : List ℕ) → numbers ≡ numbers_below gs n → m < n → x ≡ get_or numbers m x → x ≡ group_at gs m
number_at gs n m x numbers are within here = here ∙ ap (λ xs. get_or xs m x) are ∙ get_or-map-range_with_len (group_at gs) 0 n m m x within (zero-add m)

last_link-append : (link : Link) (xs ys : List Link) → last_link link (xs ++ ys) ≡ last_link (last_link link xs) ys
last_link-append link [] ys = refl
last_link-append link (x ∷ xs) ys = last_link-append x xs ys

abbrev links : List Path → List Link
links ps = map (λ p. p.link) ps

one_more : (b : Bool) (link : Link) (p : Path) → last_link link (links (cond b (p ∷ []) [])) ≡ (if b then p.link else link)
one_more true link p = refl
one_more false link p = refl

-- the last link after one more path
pub last_more : (link : Link) (test : Path → Bool) (ps : List Path) (i : ℕ) (d : Path) (b : Bool) → i < length ps → test (get_or ps i d) ≡ b
    → last_link link (links (filter test (take (i + 1) ps))) ≡ (if b then (get_or ps i d).link else last_link link (links (filter test (take i ps))))
last_more link test ps i d b within passes =
    let p = get_or ps i d in
    ap (λ qs. last_link link (links (filter test qs))) (take_more ps i d within)
    ∙ ap (λ qs. last_link link (links qs)) (filter-append test (take i ps) (p ∷ []))
    ∙ ap (last_link link) (map-append (λ (q : Path). q.link) (filter test (take i ps)) (filter test (p ∷ [])))
    ∙ last_link-append link (links (filter test (take i ps))) (links (filter test (p ∷ [])))
    ∙ one_more (test p) (last_link link (links (filter test (take i ps)))) p
    ∙ ap (λ b. if b then p.link else last_link link (links (filter test (take i ps)))) passes
