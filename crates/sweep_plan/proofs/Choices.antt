-- The setting at a place of all settings, swept key by swept key.
use Rattle.std.proofs.Common.{◌≡◌, ◌<◌, ◌+◌, ◌*◌, ◌/◌, ◌%◌, ℕ, zero, suc, Bool, true, false, cond, lit<, List, [], ◌∷◌, ◌++◌, Option, Some, None, All, option_map, map, length, get_or, sym, ap, subst, refl, ◌∙◌, arith}
use Rattle.std.specs.List.{slice_get, flat_map, range_with_len}
use Rattle.std.proofs.lemmas.Nat.{mul-le}
use Rattle.std.proofs.Math.Nat.{suc-mul, zero-mul, mul-zero, mul-div_cancel_left, div-lt_iff_lt-mul, mod-lt}
use Rattle.std.proofs.lemmas.Option.{slice_get-map, slice_get_within, get_or_from_slice_get}
use Rattle.std.proofs.lemmas.List.Elements.{All-nil, All-cons, All-head, All-tail, All-append, All-map, All-weaker}
use Rattle.std.proofs.lemmas.List.{length-map, length-append, append_assoc, append-nil}
use Rattle.std.proofs.lemmas.List.FromFn.{length-range_with_len, get_or-range_with_len}
use Rattle.sweep_plan.specs.Axes.{value_at}
use Rattle.sweep_plan.specs.Sweep.{KeyValues, setting_count, choice_count}
use Rattle.sweep_plan.specs.Settings.{choice_of, settings_from, settings_of, places_of}
use Rattle.sweep_plan.specs.Values.{FitsToml}
use Rattle.sweep_plan.specs.Asked.{IsSwept}
use Rattle.sweep_plan.specs.declared.keys.SweptKey.{SweptKey}
use Rattle.sweep_plan.specs.declared.values.SweptValue.{SweptValue}
use Rattle.sweep_plan.specs.declared.values.SweptValue.TheVariants.{Whole}
use Rattle.sweep_plan.specs.declared.choice.Choice.{Choice}

-- lists joined in order, at a place in the first and at one past it
get_first : {A : Type 0} (xs ys : List A) (n : ℕ) → n < length xs → slice_get (xs ++ ys) n ≡ slice_get xs n
get_first [] ys n inside = absurd (omega arith)
get_first (x ∷ xs) ys zero inside = refl
get_first (x ∷ xs) ys (suc n) inside = get_first xs ys n (omega arith)

get_past : {A : Type 0} (xs ys : List A) (n : ℕ) → slice_get (xs ++ ys) (length xs + n) ≡ slice_get ys n
get_past [] ys n = ap (slice_get ys) (omega arith)
get_past (x ∷ xs) ys n = ap (slice_get (x ∷ xs ++ ys)) (sum (length xs)) ∙ get_past xs ys n
  where
    sum : (m : ℕ) → suc m + n ≡ suc (m + n)
    sum m = omega arith

-- shards of one length: the place is a shard's number and a place in it
get_shard : {A B : Type 0} (f : A → List B) (size : ℕ) → ((x : A) → length (f x) ≡ size) → (xs : List A) (q r : ℕ) (d : A) → q < length xs → r < size
    → slice_get (flat_map f xs) (q * size + r) ≡ slice_get (f (get_or xs q d)) r
get_shard f size each [] q r d inside low = absurd (omega arith)
get_shard f size each (x ∷ xs) zero r d inside low =
    let same = each x in
    let front : zero * size + r ≡ r = ap (λ n. n + r) (zero-mul size) ∙ omega arith in
    ap (slice_get (f x ++ flat_map f xs)) front ∙ get_first (f x) (flat_map f xs) r (omega arith)
get_shard f size each (x ∷ xs) (suc q) r d inside low =
    let same = each x in
    let place : suc q * size + r ≡ length (f x) + (q * size + r) = ap (λ n. n + r) (suc-mul q size) ∙ omega arith in
    ap (slice_get (f x ++ flat_map f xs)) place ∙ get_past (f x) (flat_map f xs) (q * size + r) ∙ get_shard f size each xs q r d (omega arith) low

length_shards : {A B : Type 0} (f : A → List B) (size : ℕ) → ((x : A) → length (f x) ≡ size) → (xs : List A) → length (flat_map f xs) ≡ length xs * size
length_shards f size each [] = sym (zero-mul size)
length_shards f size each (x ∷ xs) =
    let here = each x in
    let rest = length_shards f size each xs in
    length-append (f x) (flat_map f xs) ∙ omega (arith, here, rest, suc-mul (length xs) size)

-- a key has as many places as it leaves choices
place_many : (place : ℕ) (s : KeyValues) → length (places_of place s) ≡ choice_count s
place_many place s = by s.together
  where
    by : (b : Bool) → length (cond b (place ∷ []) (range_with_len 0 (length s.values))) ≡ cond b 1 (length s.values)
    by true = refl
    by false = length-range_with_len 0 (length s.values)

-- the settings in which a key has its value at a place
abbrev with_value : KeyValues → List KeyValues → ℕ → List (List Choice)
with_value s more at = map (λ setting. choice_of s.key (value_at s at) ∷ setting) (settings_from at more)

-- there are as many settings as are counted
length-settings_from : (place : ℕ) (swept_keys : List KeyValues) → length (settings_from place swept_keys) ≡ setting_count swept_keys
length-settings_from place [] = refl
length-settings_from place (s ∷ more) =
    length_shards (with_value s more) (setting_count more) (λ at. length-map (settings_from at more) (λ setting. choice_of s.key (value_at s at) ∷ setting) ∙ length-settings_from at more) (places_of place s)
    ∙ ap (λ n. n * setting_count more) (place_many place s)

pub length-settings_of : (swept_keys : List KeyValues) → length (settings_of swept_keys) ≡ setting_count swept_keys
length-settings_of swept_keys = length-settings_from 0 swept_keys

maps_twice : {A B C : Type 0} (g : B → C) (f : A → B) (o : Option A) → option_map g (option_map f o) ≡ option_map (λ x. g (f x)) o
maps_twice g f None = refl
maps_twice g f (Some x) = refl

-- a setting of the first swept key and those after it
first_choice : (place : ℕ) (s : KeyValues) (more : List KeyValues) (q r : ℕ) → q < length (places_of place s) → r < setting_count more
    → slice_get (settings_from place (s ∷ more)) (q * setting_count more + r)
    ≡ option_map (λ setting. choice_of s.key (value_at s (get_or (places_of place s) q 0)) ∷ setting) (slice_get (settings_from (get_or (places_of place s) q 0) more) r)
first_choice place s more q r inside low =
    let at = get_or (places_of place s) q 0 in
    get_shard (with_value s more) (setting_count more) (λ at. length-map (settings_from at more) (λ setting. choice_of s.key (value_at s at) ∷ setting) ∙ length-settings_from at more) (places_of place s) q r 0 inside low
    ∙ slice_get-map (λ setting. choice_of s.key (value_at s at) ∷ setting) (settings_from at more) r

-- what was chosen so far, the place of the last key's value, and the place among the settings of the swept keys that are left
pub record AtPlace (swept_keys : List KeyValues) (n : ℕ) (chosen : List Choice) (left : List KeyValues) (at below place : ℕ) : Type 0 where
  pub counted : below ≡ setting_count left
  pub low : place < below
  pub here : slice_get (settings_of swept_keys) n ≡ option_map (λ rest. chosen ++ rest) (slice_get (settings_from at left) place)

pub at_first : (swept_keys : List KeyValues) (n settings : ℕ) → settings ≡ setting_count swept_keys → n < settings → AtPlace swept_keys n [] swept_keys 0 settings n
at_first swept_keys n settings counted low = record { counted = counted; low = low; here = sym (same (slice_get (settings_of swept_keys) n)) }
  where
    same : (o : Option (List Choice)) → option_map (λ rest. [] ++ rest) o ≡ o
    same None = refl
    same (Some setting) = refl

pub at_last : (swept_keys : List KeyValues) (n : ℕ) (chosen : List Choice) (at below place : ℕ) → AtPlace swept_keys n chosen [] at below place → slice_get (settings_of swept_keys) n ≡ Some chosen
at_last swept_keys n chosen at below place is =
    let counted : below ≡ 1 = is.counted in
    let low = is.low in
    let first : place ≡ 0 = omega arith in
    is.here ∙ ap (λ p. option_map (λ rest. chosen ++ rest) (slice_get (settings_from at []) p)) first ∙ ap Some (append-nil chosen)

-- the next swept key has its value at the place that is a quotient among its places, and the remainder is the place among the rest
next_at : (swept_keys : List KeyValues) (n : ℕ) (chosen : List Choice) (s : KeyValues) (more : List KeyValues) (at below place next new q r : ℕ) → AtPlace swept_keys n chosen (s ∷ more) at below place
    → next ≡ setting_count more → q * next + r ≡ place → q < length (places_of at s) → get_or (places_of at s) q 0 ≡ new → r < next
    → AtPlace swept_keys n (chosen ++ choice_of s.key (value_at s new) ∷ []) more new next r
next_at swept_keys n chosen s more at below place next new q r is counted split inside here low =
    let less : r < setting_count more = subst (λ m. r < m) counted low in
    let place_is : place ≡ q * setting_count more + r = sym split ∙ ap (λ m. q * m + r) counted in
    record {
      counted = counted;
      low = low;
      here = is.here
          ∙ ap (λ p. option_map (λ rest. chosen ++ rest) (slice_get (settings_from at (s ∷ more)) p)) place_is
          ∙ ap (option_map (λ rest. chosen ++ rest)) (first_choice at s more q r inside less)
          ∙ ap (λ a. option_map (λ rest. chosen ++ rest) (option_map (λ setting. choice_of s.key (value_at s a) ∷ setting) (slice_get (settings_from a more) r))) here
          ∙ maps_twice (λ rest. chosen ++ rest) (λ setting. choice_of s.key (value_at s new) ∷ setting) (slice_get (settings_from new more) r)
          ∙ joined (slice_get (settings_from new more) r);
    }
  where
    joined : (o : Option (List Choice)) → option_map (λ setting. chosen ++ choice_of s.key (value_at s new) ∷ setting) o ≡ option_map (λ rest. (chosen ++ choice_of s.key (value_at s new) ∷ []) ++ rest) o
    joined None = refl
    joined (Some setting) = ap Some (sym (append_assoc chosen (choice_of s.key (value_at s new) ∷ []) setting))

-- a key that goes together with the one before has its value at the same place
pub at_together : (swept_keys : List KeyValues) (n : ℕ) (chosen : List Choice) (s : KeyValues) (more : List KeyValues) (at below place : ℕ) → AtPlace swept_keys n chosen (s ∷ more) at below place
    → s.together ≡ true → AtPlace swept_keys n (chosen ++ choice_of s.key (value_at s at) ∷ []) more at below place
at_together swept_keys n chosen s more at below place is together =
    let places : places_of at s ≡ at ∷ [] = ap (λ b. cond b (at ∷ []) (range_with_len 0 (length s.values))) together in
    let one : choice_count s ≡ 1 = ap (λ b. cond b 1 (length s.values)) together in
    let counted : below ≡ setting_count more = is.counted ∙ ap (λ n. n * setting_count more) one ∙ omega arith in
    next_at swept_keys n chosen s more at below place below at 0 place is counted (omega (arith, zero-mul below)) (subst (λ (l : List ℕ). 0 < length l) (sym places) (lit< tt)) (ap (λ (l : List ℕ). get_or l 0 0) places) is.low

-- any other: its number of values divides what is below, and quotient and remainder by what is then below are its value's place and the place among the rest
pub at_apart : (swept_keys : List KeyValues) (n : ℕ) (chosen : List Choice) (s : KeyValues) (more : List KeyValues) (at below place next q r : ℕ) → AtPlace swept_keys n chosen (s ∷ more) at below place
    → s.together ≡ false → next ≡ setting_count more → q * next + r ≡ place → q < length s.values → r < next → AtPlace swept_keys n (chosen ++ choice_of s.key (value_at s q) ∷ []) more q next r
at_apart swept_keys n chosen s more at below place next q r is apart counted split inside low =
    let places : places_of at s ≡ range_with_len 0 (length s.values) = ap (λ b. cond b (at ∷ []) (range_with_len 0 (length s.values))) apart in
    let many : length (places_of at s) ≡ length s.values = ap length places ∙ length-range_with_len 0 (length s.values) in
    next_at swept_keys n chosen s more at below place next q q r is counted split (omega (arith, many, inside))
    (ap (λ (l : List ℕ). get_or l q 0) places ∙ get_or-range_with_len 0 (length s.values) q 0 inside ∙ omega arith) low

-- the place of the next value, and that among the rest, are below their bounds
pub place_low : (size more below left : ℕ) → below ≡ size * more → left < below
    → (below / size ≡ more) × (left / (below / size) < size) × (left % (below / size) < below / size)
place_low zero more below left is low = let none : below ≡ 0 = is ∙ zero-mul more in absurd (omega arith)
place_low (suc size) zero below left is low = let none : below ≡ 0 = is ∙ mul-zero (suc size) in absurd (omega arith)
place_low (suc size) (suc more) below left is low =
    let divided : below / suc size ≡ suc more = ap (λ n. n / suc size) is ∙ mul-div_cancel_left (suc more) (omega arith) in
    let within : left < suc size * suc more = subst (λ n. left < n) is low in
    let inside : left / suc more < suc size = (div-lt_iff_lt-mul (omega arith)).1 within in
    let rest : left % suc more < suc more = mod-lt left (omega arith) in
    (divided, subst (λ n. left / n < suc size) (sym divided) inside, subst (λ n. left % n < n) (sym divided) rest)

-- ---- each value of a setting fits

abbrev AllFit : List Choice → Type 0
AllFit setting = All (λ (c : Choice). FitsToml c.value) setting

-- a value at any place fits
value_fits : (s : KeyValues) (at : ℕ) → All FitsToml s.values → FitsToml (value_at s at)
value_fits s at fit = by s.values at fit
  where
    by : (vs : List SweptValue) (k : ℕ) → All FitsToml vs → FitsToml (get_or vs k (Whole 0))
    by [] k fit = lit< tt
    by (v ∷ vs) zero fit = All-head FitsToml v vs fit
    by (v ∷ vs) (suc k) fit = by vs k (All-tail FitsToml v vs fit)

with_first : (k : SweptKey) (v : SweptValue) (settings : List (List Choice)) → FitsToml v → All AllFit settings → All AllFit (map (λ setting. choice_of k v ∷ setting) settings)
with_first k v settings fits rest =
    All-map AllFit (λ setting. choice_of k v ∷ setting) settings
    (All-weaker AllFit (λ setting. AllFit (choice_of k v ∷ setting)) (λ setting more. All-cons (λ (c : Choice). FitsToml c.value) (choice_of k v) setting fits more) settings rest)

with_each : (s : KeyValues) (more : List KeyValues) (places : List ℕ) → All FitsToml s.values → ((at : ℕ) → All AllFit (settings_from at more)) → All AllFit (flat_map (with_value s more) places)
with_each s more [] fit rest = All-nil AllFit
with_each s more (at ∷ places) fit rest =
    All-append AllFit (with_value s more at) (flat_map (with_value s more) places)
    (with_first s.key (value_at s at) (settings_from at more) (value_fits s at fit) (rest at)) (with_each s more places fit rest)

all_fit : (place : ℕ) (swept_keys : List KeyValues) → All IsSwept swept_keys → All AllFit (settings_from place swept_keys)
all_fit place [] sound = All-cons AllFit [] [] (All-nil (λ (c : Choice). FitsToml c.value)) (All-nil AllFit)
all_fit place (s ∷ more) sound = with_each s more (places_of place s) (All-head IsSwept s more sound).fit (λ at. all_fit at more (All-tail IsSwept s more sound))

pub setting_fits : (swept_keys : List KeyValues) (place : ℕ) (setting : List Choice) → slice_get (settings_of swept_keys) place ≡ Some setting → All IsSwept swept_keys → All (λ (c : Choice). FitsToml c.value) setting
setting_fits swept_keys place setting at sound =
    let inside : place < length (settings_of swept_keys) = slice_get_within (settings_of swept_keys) place setting at in
    let here : get_or (settings_of swept_keys) place [] ≡ setting = get_or_from_slice_get (settings_of swept_keys) place setting [] at in
    subst AllFit here (all_fit 0 swept_keys sound place [] inside)

-- ---- each setting has a value for each key

long_each : (s : KeyValues) (more : List KeyValues) (n : ℕ) (places : List ℕ) → ((at : ℕ) → All (λ (chosen : List Choice). length chosen ≡ n) (settings_from at more))
    → All (λ (chosen : List Choice). length chosen ≡ suc n) (flat_map (with_value s more) places)
long_each s more n [] rest = All-nil (λ (chosen : List Choice). length chosen ≡ suc n)
long_each s more n (at ∷ places) rest =
    All-append (λ (chosen : List Choice). length chosen ≡ suc n) (with_value s more at) (flat_map (with_value s more) places)
    (All-map (λ (chosen : List Choice). length chosen ≡ suc n) (λ setting. choice_of s.key (value_at s at) ∷ setting) (settings_from at more)
    (All-weaker (λ (chosen : List Choice). length chosen ≡ n) (λ (chosen : List Choice). suc (length chosen) ≡ suc n) (λ chosen is. ap suc is) (settings_from at more) (rest at)))
    (long_each s more n places rest)

pub settings_long : (place : ℕ) (swept_keys : List KeyValues) → All (λ (chosen : List Choice). length chosen ≡ length swept_keys) (settings_from place swept_keys)
settings_long place [] = All-cons (λ (chosen : List Choice). length chosen ≡ 0) [] [] refl (All-nil (λ (chosen : List Choice). length chosen ≡ 0))
settings_long place (s ∷ more) = long_each s more (length more) (places_of place s) (λ at. settings_long at more)

-- ---- there is a setting

pub settings_some : (swept_keys : List KeyValues) → All IsSwept swept_keys → 0 < setting_count swept_keys
settings_some [] sound = lit< tt
settings_some (s ∷ more) sound = omega (arith, mul-le 1 1 (choice_count s) (setting_count more) (by s.together (All-head IsSwept s more sound).some) (settings_some more (All-tail IsSwept s more sound)))
  where
    by : (b : Bool) → 0 < length s.values → 0 < cond b 1 (length s.values)
    by true some = lit< tt
    by false some = some
