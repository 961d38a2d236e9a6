use Rattle.std.proofs.Common.{◌≡◌, ℕ, ◌+◌, ◌*◌, ◌/◌, ◌%◌, ◌<◌, ◌++◌, ◌∷◌, [], List, true, false, cond, drop, length, get_or, sym, ap, subst, ◌∙◌, inl, inr, arith}
use Rattle.std.proofs.lemmas.Bool.{cases_Bool}
use Rattle.std.proofs.Math.Nat.{div-add-mod'}
use Rattle.std.proofs.lemmas.List.{drop_more, drop_all}
use Rattle.sweep_plan.specs.Axes.{value_at}
use Rattle.sweep_plan.specs.Sweep.{KeyValues, setting_count, choice_count}
use Rattle.sweep_plan.specs.Settings.{choice_of}
use Rattle.sweep_plan.specs.declared.choice.Choice.{Choice}
use Rattle.sweep_plan.specs.declared.plan.Turn.{Turn}
use Rattle.sweep_plan.proofs.Choices.{AtPlace, at_first, at_together, at_apart, at_last, place_low}
use Rattle.sweep_plan.proofs.plan.choices.Goals as goal

-- the swept keys that are left begin with the one at the place
left_at : (swept_keys : List KeyValues) (i : ℕ) (s : KeyValues) → i < length swept_keys → s ≡ get_or swept_keys i s → drop i swept_keys ≡ s ∷ drop (i + 1) swept_keys
left_at swept_keys i s inside is = drop_more swept_keys i s inside ∙ ap (λ x. x ∷ drop (i + 1) swept_keys) (sym is)

-- the bounds of the next place, from the invariant
bounds : (swept_keys : List KeyValues) (n i at below left : ℕ) (chosen : List Choice) (s : KeyValues) → i < length swept_keys → s ≡ get_or swept_keys i s → AtPlace swept_keys n chosen (drop i swept_keys) at below left
    → s.together ≡ false
    → (below / length s.values ≡ setting_count (drop (i + 1) swept_keys)) × (left / (below / length s.values) < length s.values) × (left % (below / length s.values) < below / length s.values)
bounds swept_keys n i at below left chosen s inside is here apart =
    let more = drop (i + 1) swept_keys in
    let count : choice_count s ≡ length s.values = ap (λ b. cond b 1 (length s.values)) apart in
    let counted : below ≡ length s.values * setting_count more = here.counted ∙ ap setting_count (left_at swept_keys i s inside is) ∙ ap (λ n. n * setting_count more) count in
    place_low (length s.values) (setting_count more) below left counted here.low

pub loop-swept-init : goal.loop-swept-init
loop-swept-init c =
    subst (λ chosen. AtPlace c.args.swept_keys.now c.args.place chosen c.args.swept_keys.now 0 c.args.settings c.args.place) (sym c.new-setting.ensures.items)
    (at_first c.args.swept_keys.now c.args.place c.args.settings c.requires.counted c.requires.inside)

pub next-turn-requires-clause-some : goal.next-turn-requires-clause-some
next-turn-requires-clause-some c apart =
    let t = c.loop-swept.turn in
    let told = bounds c.args.swept_keys.now c.args.place c.loop-swept.swept-index t.at t.below t.left c.loop-swept.setting.items c.swept-item.result c.loop-swept-test.true c.swept-item.is c.loop-swept.invariant apart in
    omega (arith, told.1)

pub next-turn-requires-clause-more : goal.next-turn-requires-clause-more
next-turn-requires-clause-more c apart =
    let t = c.loop-swept.turn in
    let told = bounds c.args.swept_keys.now c.args.place c.loop-swept.swept-index t.at t.below t.left c.loop-swept.setting.items c.swept-item.result c.loop-swept-test.true c.swept-item.is c.loop-swept.invariant apart in
    omega (arith, told.2)

-- one swept key more, by whether it goes together with the one before
step : (swept_keys : List KeyValues) (n i at below left at' below' left' : ℕ) (chosen : List Choice) (s : KeyValues) → i < length swept_keys → s ≡ get_or swept_keys i s
    → AtPlace swept_keys n chosen (drop i swept_keys) at below left
    → (s.together ≡ true → (at' ≡ at) × (below' ≡ below) × (left' ≡ left))
    → (s.together ≡ false → (below' ≡ below / length s.values) × (at' ≡ left / (below / length s.values)) × (left' ≡ left % (below / length s.values)))
    → AtPlace swept_keys n (chosen ++ choice_of s.key (value_at s at') ∷ []) (drop (i + 1) swept_keys) at' below' left'
step swept_keys n i at below left at' below' left' chosen s inside is here goes parts =
    let more = drop (i + 1) swept_keys in
    let now = subst (λ l. AtPlace swept_keys n chosen l at below left) (left_at swept_keys i s inside is) here in
    elim (cases_Bool s.together) [
      | inl together ↦
          let told = goes together in
          let one = at_together swept_keys n chosen s more at below left now together in
          subst (λ a. AtPlace swept_keys n (chosen ++ choice_of s.key (value_at s a) ∷ []) more a below' left') (sym told.0)
          (subst (λ b. AtPlace swept_keys n (chosen ++ choice_of s.key (value_at s at) ∷ []) more at b left') (sym told.1)
          (subst (λ p. AtPlace swept_keys n (chosen ++ choice_of s.key (value_at s at) ∷ []) more at below p) (sym told.2) one))
      | inr apart ↦
          let told = parts apart in
          let low = bounds swept_keys n i at below left chosen s inside is here apart in
          let next = below / length s.values in
          let one = at_apart swept_keys n chosen s more at below left next (left / next) (left % next) now apart low.0 (div-add-mod' left next) low.1 low.2 in
          subst (λ a. AtPlace swept_keys n (chosen ++ choice_of s.key (value_at s a) ∷ []) more a below' left') (sym told.1)
          (subst (λ b. AtPlace swept_keys n (chosen ++ choice_of s.key (value_at s (left / next)) ∷ []) more (left / next) b left') (sym told.0)
          (subst (λ p. AtPlace swept_keys n (chosen ++ choice_of s.key (value_at s (left / next)) ∷ []) more (left / next) next p) (sym told.2) one))
    ]

pub loop-swept-preserved : goal.loop-swept-preserved
loop-swept-preserved c =
    let swept_keys = c.args.swept_keys.now in
    let i = c.loop-swept.swept-index in
    let s = c.swept-item.result in
    let old = c.loop-swept.turn in
    let new = c.next-turn.result in
    let chosen = c.loop-swept.setting.items in
    let one = step swept_keys c.args.place i old.at old.below old.left new.at new.below new.left chosen s c.loop-swept-test.true c.swept-item.is c.loop-swept.invariant
    (λ together. let same = c.next-turn.ensures.together together in (ap (λ (t : Turn). t.at) same, ap (λ (t : Turn). t.below) same, ap (λ (t : Turn). t.left) same))
    (λ apart. c.next-turn.ensures.apart apart) in
    let pushed : c.push.new.self.items ≡ chosen ++ choice_of s.key (value_at s new.at) ∷ [] =
    c.in_ok-push.ensures.items
    ∙ ap (λ k. chosen ++ choice_of k c.value_at.result ∷ []) c.key.ensures
    ∙ ap (λ v. chosen ++ choice_of s.key v ∷ []) c.value_at.ensures in
    subst (λ l. AtPlace swept_keys c.args.place l (drop (i + 1) swept_keys) new.at new.below new.left) (sym pushed) one

pub returns : goal.returns
returns c =
    let swept_keys = c.args.swept_keys.now in
    let ended = drop_all c.loop-swept.swept-index swept_keys c.loop-swept-test.false in
    let t = c.loop-swept.turn in
    at_last swept_keys c.args.place c.loop-swept.setting.items t.at t.below t.left
    (subst (λ l. AtPlace swept_keys c.args.place c.loop-swept.setting.items l t.at t.below t.left) ended c.loop-swept.invariant)
