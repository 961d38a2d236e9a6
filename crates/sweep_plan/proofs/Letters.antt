-- Which bytes the names of keys have.
use Rattle.std.proofs.Common.{◌≡◌, ℕ, ◌==◌, ◌||◌, Bool, true, false, List, [], ◌∷◌, ◌++◌, Option, Some, None, sym, ap, ◌∙◌, refl, arith}
use Rattle.std.specs.Char.{is_ascii_lowercase}
use Rattle.std.specs.List.{list_all}
use Rattle.std.proofs.lemmas.Bool.{and_parts, false≢true, false_from_ne_true}
use Rattle.std.proofs.lemmas.Bool.Decides.{nat_tests}
use Rattle.std.proofs.lemmas.List.Elements.{All-append, All-cons, All-head, All-nil, All-weaker, filter_passes}
use Rattle.schema.specs.Schema.{spelling_of}
use Rattle.schema.specs.declared.schema.FormatKey.{FormatKey}
use Rattle.schema.specs.declared.schema.FormatKey.TheVariants as key
use Rattle.sweep_plan.specs.Items.{is_letter, item_text}
use Rattle.sweep_plan.specs.Keys.{item_part, key_name}
use Rattle.sweep_plan.specs.SetKeys.{key_spelling}
use Rattle.sweep_plan.specs.declared.items.ItemName.{ItemName}
use Rattle.sweep_plan.specs.declared.keys.SweptKey.{SweptKey}
use Rattle.sweep_plan.specs.declared.set_keys.SetKey.{SetKey}
use Rattle.sweep_plan.specs.declared.set_keys.SetKey.TheVariants as set
use Rattle.sweep_plan.proofs.Words.{Lacks}

-- keys are spelt with small letters and underscores
abbrev pub is_key_byte : ℕ → Bool
is_key_byte b = is_ascii_lowercase b || (b == 95)

spelt : (k : FormatKey) → list_all is_key_byte (spelling_of k) ≡ true
unfolding spelling_of
spelt key.Version = refl
spelt key.Seed = refl
spelt key.End = refl
spelt key.Swim = refl
spelt key.Suspicion = refl
spelt key.Lifeguard = refl
spelt key.Link = refl
spelt key.Group = refl
spelt key.Path = refl
spelt key.Slow = refl
spelt key.Crash = refl
spelt key.Cut = refl
spelt key.Leave = refl
spelt key.Pause = refl
spelt key.Gossip = refl
spelt key.Stream = refl
spelt key.Period = refl
spelt key.Timeout = refl
spelt key.Helpers = refl
spelt key.Carry = refl
spelt key.Lambda = refl
spelt key.Spread = refl
spelt key.Fallback = refl
spelt key.Alpha = refl
spelt key.Beta = refl
spelt key.Probe = refl
spelt key.Buddy = refl
spelt key.Ceiling = refl
spelt key.Confirmations = refl
spelt key.NackPercent = refl
spelt key.Delay = refl
spelt key.Jitter = refl
spelt key.Loss = refl
spelt key.Name = refl
spelt key.Count = refl
spelt key.Start = refl
spelt key.Contact = refl
spelt key.From = refl
spelt key.To = refl
spelt key.Member = refl
spelt key.Until = refl
spelt key.Extra = refl
spelt key.At = refl
spelt key.Interval = refl
spelt key.Nodes = refl
spelt key.Dead = refl
spelt key.Push = refl
spelt key.Connect = refl
spelt key.Again = refl
spelt key.Restart = refl
spelt key.Block = refl
spelt key.Serf = refl
spelt key.Queue = refl
spelt key.Packet = refl
spelt key.Meta = refl
spelt key.Limit = refl
spelt key.Retry = refl
spelt key.Reconnect = refl
spelt key.Reap = refl
spelt key.Linger = refl

pub same_byte : (x c : ℕ) → (x == c) ≡ true → x ≡ c
same_byte x c same = grind (arith, nat_tests)

-- a byte that doesn't pass is none of those that do
lacks_one : (p : ℕ → Bool) (c x : ℕ) → p c ≡ false → p x ≡ true → (x == c) ≡ false
lacks_one p c x out passes = false_from_ne_true (x == c) (λ same. false≢true (sym out ∙ ap p (sym (same_byte x c same)) ∙ passes))

pub lacks_other : (p : ℕ → Bool) (c : ℕ) (xs : List ℕ) → p c ≡ false → list_all p xs ≡ true → Lacks c xs
lacks_other p c [] out all = All-nil (λ x. (x == c) ≡ false)
lacks_other p c (x ∷ xs) out all =
    let parts = and_parts (p x) (list_all p xs) all in
    All-cons (λ y. (y == c) ≡ false) x xs (lacks_one p c x out parts.0) (lacks_other p c xs out parts.1)

pub spelling_lacks : (c : ℕ) (k : FormatKey) → is_key_byte c ≡ false → Lacks c (spelling_of k)
spelling_lacks c k out = lacks_other is_key_byte c (spelling_of k) out (spelt k)

set_spelt : (k : SetKey) → list_all is_key_byte (key_spelling k) ≡ true
set_spelt (set.Plain k) = spelt k
set_spelt set.Each = refl
set_spelt set.Back = refl
set_spelt set.Every = refl
set_spelt set.Lasts = refl
set_spelt set.LastsMost = refl
set_spelt set.Both = refl

pub key_lacks : (c : ℕ) (k : SetKey) → is_key_byte c ≡ false → Lacks c (key_spelling k)
key_lacks c k out = lacks_other is_key_byte c (key_spelling k) out (set_spelt k)

item_lacks : (c : ℕ) (item : Option ItemName) → is_letter c ≡ false → Lacks c (item_part item)
item_lacks c None out = All-nil (λ x. (x == c) ≡ false)
item_lacks c (Some item) out = All-weaker (λ x. is_letter x ≡ true) (λ x. (x == c) ≡ false) (λ x passes. lacks_one is_letter c x out passes) (item_text item) (filter_passes is_letter item.bytes)

-- the name of a key has no byte but those of spellings and of names of items
pub name_lacks : (c : ℕ) → is_key_byte c ≡ false → is_letter c ≡ false → (k : SweptKey) → Lacks c (key_name k)
name_lacks c out also k = by k.table k.item k.key
  where
    by : (t : Option FormatKey) (item : Option ItemName) (x : SetKey) → Lacks c (key_name (record { table = t; item = item; key = x }))
    by None item x = key_lacks c x out
    by (Some t) item x =
        let dot : Lacks c (46 ∷ []) = lacks_other is_letter c (46 ∷ []) also refl in
        let last : Lacks c (46 ∷ key_spelling x) = All-cons (λ y. (y == c) ≡ false) 46 (key_spelling x) (All-head (λ y. (y == c) ≡ false) 46 [] dot) (key_lacks c x out) in
        All-append (λ y. (y == c) ≡ false) (spelling_of t) (item_part item ++ 46 ∷ key_spelling x) (spelling_lacks c t out)
        (All-append (λ y. (y == c) ≡ false) (item_part item) (46 ∷ key_spelling x) (item_lacks c item also) last)
