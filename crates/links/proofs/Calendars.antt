-- What the calendars of slow times and cuts deny isn't so.
use Rattle.std.proofs.Common.{◌≡◌, ℕ, Bool, true, false, ◌&&◌, ◌||◌, nat_eq, nat_le, nat_lt, ◌≤◌, ◌<◌, subst, arith, List, [], ◌∷◌, cond, max, Option, Some, None, refl, sym, ap, ◌∙◌}
use Rattle.std.specs.Option.{option_map_or, unwrap_or, option_and_then}
use Rattle.std.specs.List.{find, list_any, slice_get}
use Rattle.std.specs.Map.{lookup}
use Rattle.std.specs.BTreeMap.{is_at}
use Rattle.std.proofs.lemmas.Bool.{false≢true, and_parts, eqb-true, leb-true, ltb-true}
use Rattle.schema.specs.declared.schema.Version.{Version}
use Rattle.schema.specs.declared.schema.Version.TheVariants.{One, Two, Three, Four}
use Rattle.scenario.specs.Setup.{is_slow, first_extra, greatest_extra, extra_by, cuts_off}
use Rattle.scenario.specs.Spells.{is_in_any}
use Rattle.scenario.specs.Calendar.{Stretches, may_be_in}
use Rattle.scenario.specs.declared.settings.Slow.{Slow}
use Rattle.scenario.specs.declared.settings.Cut.{Cut}
use Rattle.scenario.specs.declared.spells.Spell.{Spell}
use Rattle.links.specs.Entries.{pair_cmp, outages_in, outages_of_pair, pair_number, pair_of}

not_any : (a b : Bool) → (a ≡ true → b ≡ true) → b ≡ false → a ≡ false
not_any true b so is = absurd (false≢true (sym is ∙ so refl))
not_any false b so is = refl

neither : (a b : Bool) → (a || b) ≡ false → (a ≡ false) × (b ≡ false)
neither true b is = absurd (false≢true (sym is))
neither false b is = (refl, is)

none_found : {E : Type 0} (p : E → Bool) (es : List E) → list_any p es ≡ false → find p es ≡ None
none_found p [] is = refl
none_found p (e ∷ es) is = let both = neither (p e) (list_any p es) is in ap (λ b. cond b (Some e) (find p es)) both.0 ∙ none_found p es both.1

-- where no entry is of the moment, the greatest extra is none
none_greatest : (es : List Slow) (m t : ℕ) → list_any (is_slow m t) es ≡ false → greatest_extra es m t ≡ 0
none_greatest [] m t is = refl
none_greatest (e ∷ es) m t is =
    let both = neither (is_slow m t e) (list_any (is_slow m t) es) is in
    ap (λ b. cond b (max e.extra (greatest_extra es m t)) (greatest_extra es m t)) both.0 ∙ none_greatest es m t both.1

none_first : (es : List Slow) (m t : ℕ) → list_any (is_slow m t) es ≡ false → first_extra es m t ≡ 0
none_first es m t is = ap (λ o. option_map_or (λ (e : Slow). e.extra) o 0) (none_found (is_slow m t) es is)

-- so it is by either rule
none_by : (v : Version) (es : List Slow) (m t : ℕ) → list_any (is_slow m t) es ≡ false → extra_by v es m t ≡ 0
none_by One es m t is = none_first es m t is
none_by Two es m t is = none_first es m t is
none_by Three es m t is = none_first es m t is
none_by Four es m t is = none_greatest es m t is

-- no slow time is denied, by the first entry's extra or by the greatest
pub not_slow : (calendar : Stretches) (v : Version) (es : List Slow) (m t extra : ℕ) → ((m t : ℕ) → list_any (is_slow m t) es ≡ true → may_be_in calendar m t ≡ true)
    → extra ≡ extra_by v es m t → may_be_in calendar m t ≡ false → extra ≡ 0
not_slow calendar v es m t extra noted is denied = is ∙ none_by v es m t (not_any (list_any (is_slow m t) es) (may_be_in calendar m t) (noted m t) denied)

-- nor any cut
pub not_cut : (calendar : Stretches) (cs : List Cut) (table : List ((ℕ × ℕ) × List Spell)) (from to t : ℕ)
    → ((from to t : ℕ) → list_any (cuts_off from to t) cs ≡ true → may_be_in calendar (pair_number from to) t ≡ true)
    → is_in_any (outages_in table from to) t ≡ list_any (cuts_off from to t) cs → may_be_in calendar (pair_number from to) t ≡ false → is_in_any (outages_in table from to) t ≡ false
not_cut calendar cs table from to t noted is denied = is ∙ not_any (list_any (cuts_off from to t) cs) (may_be_in calendar (pair_number from to) t) (noted from to t) denied

-- a cut is noted
pub its_cut : (new : Stretches) (k at until : ℕ) (c : Cut) (from to t : ℕ) → k ≡ pair_number c.from c.to → at ≡ c.at → until ≡ c.until → ((t : ℕ) → at ≤ t → t < until → may_be_in new k t ≡ true)
    → cuts_off from to t c ≡ true → may_be_in new (pair_number from to) t ≡ true
its_cut new k at until c from to t same begins ends noted is =
    let both = and_parts (nat_eq c.from from && nat_eq c.to to) (nat_le c.at t && nat_lt t c.until) is in
    let groups = and_parts (nat_eq c.from from) (nat_eq c.to to) both.0 in
    let times = and_parts (nat_le c.at t) (nat_lt t c.until) both.1 in
    let low = leb-true c.at t times.0 in
    let high = ltb-true t c.until times.1 in
    subst (λ o. may_be_in new o t ≡ true)
    (same ∙ ap (λ n. pair_number n c.to) (eqb-true c.from from groups.0) ∙ ap (pair_number from) (eqb-true c.to to groups.1))
    (noted t (omega (arith, begins, low)) (omega (arith, ends, high)))

-- the times by the groups of two members, where they have one
abbrev by_groups : List ((ℕ × ℕ) × List Spell) → Option ℕ → Option ℕ → List Spell
by_groups table from to = unwrap_or (option_and_then (λ f. option_and_then (λ g. lookup (is_at (pair_cmp (f, g))) table) to) from) []

abbrev number_by : Option ℕ → Option ℕ → Option ℕ
number_by from to = option_and_then (λ f. option_and_then (λ g. Some (pair_number f g)) to) from

-- the calendar denies the pair, or there is none
abbrev Denies : Stretches → ℕ → Option ℕ → Type 0
Denies calendar t None = Unit {0}
Denies calendar t (Some pair) = may_be_in calendar pair t ≡ false

uncut_by : (calendar : Stretches) (table : List ((ℕ × ℕ) × List Spell)) (t : ℕ) → ((from to : ℕ) → may_be_in calendar (pair_number from to) t ≡ false → is_in_any (outages_in table from to) t ≡ false)
    → (from to : Option ℕ) → Denies calendar t (number_by from to) → is_in_any (by_groups table from to) t ≡ false
uncut_by calendar table t none None to denied = refl
uncut_by calendar table t none (Some f) None denied = refl
uncut_by calendar table t none (Some f) (Some g) denied = none f g denied

-- a link whose pair of groups is denied isn't cut
pub uncut : (calendar : Stretches) (groups : List ℕ) (table : List ((ℕ × ℕ) × List Spell)) (i j t : ℕ) (pair : Option ℕ)
    → ((from to t : ℕ) → may_be_in calendar (pair_number from to) t ≡ false → is_in_any (outages_in table from to) t ≡ false)
    → pair ≡ pair_of groups i j → Denies calendar t pair → is_in_any (outages_of_pair groups table i j) t ≡ false
uncut calendar groups table i j t pair none is denied = uncut_by calendar table t (λ from to. none from to t) (slice_get groups i) (slice_get groups j) (subst (Denies calendar t) is denied)
