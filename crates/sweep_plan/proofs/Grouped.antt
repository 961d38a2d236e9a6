-- Swept keys as axes, and axes as swept keys.
use Rattle.std.proofs.Common.{◌≡◌, ◌<◌, ◌≤◌, ◌+◌, ◌-◌, ℕ, suc, Bool, true, false, cond, List, [], ◌∷◌, ◌++◌, All, drop, get_or, length, take, sym, ap, subst, refl, ◌∙◌, arith}
use Rattle.std.specs.List.{flat_map}
use Rattle.std.proofs.lemmas.List.{drop-drop, drop_all, drop_more, get_or-append-add, get_or_append_left, length-append, take-append-drop}
use Rattle.std.proofs.lemmas.List.Elements.{All-cons, All-head, All-nil, All-tail}
use Rattle.sweep_plan.specs.Sweep.{KeyValues}
use Rattle.sweep_plan.specs.Axes.{ahead, axes_of, goes_on}
use Rattle.sweep_plan.specs.Asked.{IsLevel, IsSwept}

-- all swept keys of axes, one after the other
abbrev pub together : List (List KeyValues) → List KeyValues
together axes = flat_map (λ (axis : List KeyValues). axis) axes

ahead_flat : (s : KeyValues) (axes : List (List KeyValues)) → together (ahead s axes) ≡ s ∷ together axes
ahead_flat s [] = refl
ahead_flat s (axis ∷ axes) = by (goes_on axis)
  where
    by : (b : Bool) → together (cond b ((s ∷ axis) ∷ axes) ((s ∷ []) ∷ axis ∷ axes)) ≡ s ∷ together (axis ∷ axes)
    by true = refl
    by false = refl

pub axes_flat : (swept_keys : List KeyValues) → together (axes_of swept_keys) ≡ swept_keys
axes_flat [] = refl
axes_flat (s ∷ more) = ahead_flat s (axes_of more) ∙ ap (λ l. s ∷ l) (axes_flat more)

-- the first axis goes on where the swept keys do
first_goes : (s : KeyValues) (axes : List (List KeyValues)) → (first : List KeyValues) × (rest : List (List KeyValues)) × (ahead s axes ≡ (s ∷ first) ∷ rest)
first_goes s [] = ([], [], refl)
first_goes s (axis ∷ axes) = by (goes_on axis)
  where
    by : (b : Bool) → (first : List KeyValues) × (rest : List (List KeyValues)) × (cond b ((s ∷ axis) ∷ axes) ((s ∷ []) ∷ axis ∷ axes) ≡ (s ∷ first) ∷ rest)
    by true = (axis, axes, refl)
    by false = ([], axis ∷ axes, refl)

-- a swept key before others that begin an axis is an axis of its own; one before others that go on is the first of theirs
ahead_begun : (s t : KeyValues) (more : List KeyValues) → t.together ≡ false → ahead s (axes_of (t ∷ more)) ≡ (s ∷ []) ∷ axes_of (t ∷ more)
ahead_begun s t more apart =
    let first = first_goes t (axes_of more) in
    ap (ahead s) first.2 ∙ ap (λ b. cond b ((s ∷ t ∷ first.0) ∷ first.1) ((s ∷ []) ∷ (t ∷ first.0) ∷ first.1)) apart ∙ ap (λ axes. (s ∷ []) ∷ axes) (sym first.2)

ahead_gone : (s t : KeyValues) (more : List KeyValues) (axis : List KeyValues) (axes : List (List KeyValues)) → t.together ≡ true → axes_of (t ∷ more) ≡ axis ∷ axes → ahead s (axes_of (t ∷ more)) ≡ (s ∷ axis) ∷ axes
ahead_gone s t more axis axes goes are =
    let first = first_goes t (axes_of more) in
    let same : axis ∷ axes ≡ (t ∷ first.0) ∷ first.1 = sym are ∙ first.2 in
    let head : axis ≡ t ∷ first.0 = cc in
    ap (ahead s) are ∙ ap (λ b. cond b ((s ∷ axis) ∷ axes) ((s ∷ []) ∷ axis ∷ axes)) (ap goes_on head ∙ goes)

-- ---- swept keys behind others

ahead_more : (s : KeyValues) (xs ys : List (List KeyValues)) → 0 < length xs → ahead s (xs ++ ys) ≡ ahead s xs ++ ys
ahead_more s [] ys some = absurd (omega arith)
ahead_more s (axis ∷ xs) ys some = by (goes_on axis)
  where
    by : (b : Bool) → cond b ((s ∷ axis) ∷ xs ++ ys) ((s ∷ []) ∷ axis ∷ xs ++ ys) ≡ cond b ((s ∷ axis) ∷ xs) ((s ∷ []) ∷ axis ∷ xs) ++ ys
    by true = refl
    by false = refl

axes_some : (s : KeyValues) (more : List KeyValues) → 0 < length (axes_of (s ∷ more))
axes_some s more = let first = first_goes s (axes_of more) in subst (λ (l : List (List KeyValues)). 0 < length l) (sym first.2) (omega arith)

pub axes_behind : (front back : List KeyValues) → goes_on back ≡ false → axes_of (front ++ back) ≡ axes_of front ++ axes_of back
axes_behind [] back begins = refl
axes_behind (s ∷ []) [] begins = refl
axes_behind (s ∷ []) (t ∷ more) begins = ahead_begun s t more begins
axes_behind (s ∷ u ∷ front) back begins =
    ap (ahead s) (axes_behind (u ∷ front) back begins) ∙ ahead_more s (axes_of (u ∷ front)) (axes_of back) (axes_some u front)

-- ---- one axis

-- all go together with the one before
abbrev pub Follow : List KeyValues → Type 0
Follow axis = All (λ (s : KeyValues). s.together ≡ true) axis

pub one_axis : (s : KeyValues) (more : List KeyValues) → Follow more → axes_of (s ∷ more) ≡ (s ∷ more) ∷ []
one_axis s [] follow = refl
one_axis s (t ∷ more) follow = ahead_gone s t more (t ∷ more) [] (All-head (λ (s : KeyValues). s.together ≡ true) t more follow) (one_axis t more (All-tail (λ (s : KeyValues). s.together ≡ true) t more follow))

-- the axis that swept keys begin with: those that follow, and then others that begin one
pub first_axis : (s : KeyValues) (more back : List KeyValues) → Follow more → goes_on back ≡ false → axes_of (s ∷ more ++ back) ≡ (s ∷ more) ∷ axes_of back
first_axis s more back follow begins = axes_behind (s ∷ more) back begins ∙ ap (λ axes. axes ++ axes_of back) (one_axis s more follow)

some_swept : (swept_keys : List KeyValues) (i : ℕ) → i < length swept_keys → KeyValues
some_swept [] i inside = absurd (omega arith)
some_swept (s ∷ more) i inside = s

-- whether what is left goes on, at a place and past the end
pub left_goes : (swept_keys : List KeyValues) (i : ℕ) (s : KeyValues) → i < length swept_keys → s ≡ get_or swept_keys i s → goes_on (drop i swept_keys) ≡ s.together
left_goes swept_keys i s inside is = ap goes_on (drop_more swept_keys i s inside) ∙ sym (ap (λ (t : KeyValues). t.together) is)

pub none_goes : (swept_keys : List KeyValues) (i : ℕ) → length swept_keys ≤ i → goes_on (drop i swept_keys) ≡ false
none_goes swept_keys i past = ap goes_on (drop_all i swept_keys past)

-- the axis at a place of swept keys, which ends where none follows any more
pub axis_at : (swept_keys : List KeyValues) (from end : ℕ) → from < length swept_keys → from < end → Follow (take (end - (from + 1)) (drop (from + 1) swept_keys)) → goes_on (drop end swept_keys) ≡ false
    → axes_of (drop from swept_keys) ≡ take (end - from) (drop from swept_keys) ∷ axes_of (drop end swept_keys)
axis_at swept_keys from end inside past follow begins =
    let d = some_swept swept_keys from inside in
    let s = get_or swept_keys from d in
    let rest = drop (from + 1) swept_keys in
    let n = end - (from + 1) in
    let count : end - from ≡ suc n = omega arith in
    let sum : from + 1 + n ≡ end = omega arith in
    let here : drop from swept_keys ≡ s ∷ rest = drop_more swept_keys from d inside in
    let back : drop n rest ≡ drop end swept_keys = drop-drop n (from + 1) swept_keys ∙ ap (λ m. drop m swept_keys) sum in
    let split : s ∷ rest ≡ s ∷ take n rest ++ drop end swept_keys = ap (λ l. s ∷ l) (sym (take-append-drop n rest) ∙ ap (λ l. take n rest ++ l) back) in
    ap axes_of (here ∙ split) ∙ first_axis s (take n rest) (drop end swept_keys) follow begins
    ∙ ap (λ axis. axis ∷ axes_of (drop end swept_keys)) (sym (ap (λ l. take (end - from) l) here ∙ ap (λ m. take m (s ∷ rest)) count))

-- ---- each axis of swept keys that begin one

-- a swept key, and others that go together with it
pub record IsAxis (axis : List KeyValues) : Type 0 where
  pub some : 0 < length axis
  pub begins : goes_on axis ≡ false
  pub follow : Follow (drop 1 axis)
  pub level : IsLevel axis
  pub sound : All IsSwept axis

-- the axes of swept keys, of which the first may go on
abbrev Shaped : List KeyValues → Type 0
Shaped axis = (0 < length axis) × Follow (drop 1 axis)

shaped_ahead : (s : KeyValues) (axes : List (List KeyValues)) → All Shaped axes → All (λ (axis : List KeyValues). goes_on axis ≡ false) (drop 1 axes)
    → All Shaped (ahead s axes) × All (λ (axis : List KeyValues). goes_on axis ≡ false) (drop 1 (ahead s axes))
shaped_ahead s [] shaped begun =
    (All-cons Shaped (s ∷ []) [] (omega arith, All-nil (λ (s : KeyValues). s.together ≡ true)) (All-nil Shaped), All-nil (λ (axis : List KeyValues). goes_on axis ≡ false))
shaped_ahead s (axis ∷ axes) shaped begun = by (goes_on axis) refl
  where
    B : List KeyValues → Type 0
    B a = goes_on a ≡ false

    whole : (axis : List KeyValues) → goes_on axis ≡ true → Follow (drop 1 axis) → Follow axis
    whole [] goes follow = All-nil (λ (s : KeyValues). s.together ≡ true)
    whole (t ∷ more) goes follow = All-cons (λ (s : KeyValues). s.together ≡ true) t more goes follow

    by : (b : Bool) → goes_on axis ≡ b → All Shaped (cond b ((s ∷ axis) ∷ axes) ((s ∷ []) ∷ axis ∷ axes)) × All (λ (axis : List KeyValues). goes_on axis ≡ false) (drop 1 (cond b ((s ∷ axis) ∷ axes) ((s ∷ []) ∷ axis ∷ axes)))
    by true is = (All-cons Shaped (s ∷ axis) axes (omega arith, whole axis is (All-head Shaped axis axes shaped).1) (All-tail Shaped axis axes shaped), begun)
    by false is =
        (All-cons Shaped (s ∷ []) (axis ∷ axes) (omega arith, All-nil (λ (s : KeyValues). s.together ≡ true)) shaped, All-cons (λ (axis : List KeyValues). goes_on axis ≡ false) axis axes is begun)

shaped : (swept_keys : List KeyValues) → All Shaped (axes_of swept_keys) × All (λ (axis : List KeyValues). goes_on axis ≡ false) (drop 1 (axes_of swept_keys))
shaped [] = (All-nil Shaped, All-nil (λ (axis : List KeyValues). goes_on axis ≡ false))
shaped (s ∷ more) = let rest = shaped more in shaped_ahead s (axes_of more) rest.0 rest.1

begun : (swept_keys : List KeyValues) → goes_on swept_keys ≡ false → All (λ (axis : List KeyValues). goes_on axis ≡ false) (axes_of swept_keys)
begun [] begins = All-nil (λ (axis : List KeyValues). goes_on axis ≡ false)
begun (s ∷ more) begins =
    let first = first_goes s (axes_of more) in
    let later = (shaped (s ∷ more)).1 in
    let rest : All (λ (axis : List KeyValues). goes_on axis ≡ false) first.1 = subst (λ (l : List (List KeyValues)). All (λ (axis : List KeyValues). goes_on axis ≡ false) (drop 1 l)) first.2 later in
    subst (All (λ (axis : List KeyValues). goes_on axis ≡ false)) (sym first.2) (All-cons (λ (axis : List KeyValues). goes_on axis ≡ false) (s ∷ first.0) first.1 begins rest)

-- what holds of each of two lists joined holds of each of either
pub All-left : {X : Type 0} (P : X → Type 0) (xs ys : List X) → All P (xs ++ ys) → All P xs
All-left P xs ys all k d inside = subst P (get_or_append_left xs ys d k inside) (all k d (omega (arith, length-append xs ys, inside)))

pub All-right : {X : Type 0} (P : X → Type 0) (xs ys : List X) → All P (xs ++ ys) → All P ys
All-right P xs ys all k d inside = subst P (get_or-append-add xs ys k d) (all (length xs + k) d (omega (arith, length-append xs ys, inside)))

-- what holds of each of lists joined holds of each list
each_list : (P : KeyValues → Type 0) (axes : List (List KeyValues)) → All P (together axes) → All (All P) axes
each_list P [] all = All-nil (All P)
each_list P (axis ∷ axes) all = All-cons (All P) axis axes (λ k d inside. front k d inside) (each_list P axes (λ k d inside. back k d inside))
  where
    front : All P axis
    front = All-left P axis (together axes) all

    back : All P (together axes)
    back = All-right P axis (together axes) all

pub are_axes : (swept_keys : List KeyValues) → goes_on swept_keys ≡ false → All IsLevel (axes_of swept_keys) → All IsSwept swept_keys → All IsAxis (axes_of swept_keys)
are_axes swept_keys begins level sound k d inside =
    let shape = (shaped swept_keys).0 k d inside in
    record {
      some = shape.0;
      begins = begun swept_keys begins k d inside;
      follow = shape.1;
      level = level k d inside;
      sound = each_list IsSwept (axes_of swept_keys) (subst (All IsSwept) (sym (axes_flat swept_keys)) sound) k d inside;
    }
