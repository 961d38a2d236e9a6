-- What a member of a scenario keeps of its state, through the changes of its table and its rota.
use Rattle.std.proofs.Common.{◌≡◌, ◌≢◌, ℕ, ◌+◌, ◌<◌, ◌≤◌, ◌==◌, Bool, true, false, cond, not, eqb, nat_eq, length, Option, Some, None, Result, Ok, Err, OnOk, inl, inr, refl, sym, ap, subst, ◌∙◌, arith}
use Rattle.std.specs.Option.{is_some, IfSome}
use Rattle.std.specs.Ordering.{nat_cmp, eq_by_cmp}
use Rattle.std.specs.Cmp.{nat_cmp_total, unsigned_tied}
use Rattle.std.specs.FinMap.{get, insert, remove, contains_key, get-insert, get-remove, same_map, nat_cmp-IsAntisymmetric}
use Rattle.std.proofs.lemmas.Bool.{false≢true, eqb-true, eqb-false, eq-eqb, cases_Bool}
use Rattle.std.proofs.lemmas.List.Sums.{sum_by-insert}
use Rattle.std.proofs.lemmas.List.Sorted.{sum_by-IsPermutation}
use Rattle.scenario.specs.Setup.{Setup, member_count}
use Rattle.streams.specs.Draw.{Words, AreWords, below_of}
use Rattle.probing.specs.ProbeOrder.{ProbeOrder, IsSoundOrder, times_in, next_of, insert_of, remove_of}
use Rattle.probing.proofs.SoundLemmas.{one_if, one_if-other}
use Rattle.probing.proofs.RoundLemmas.{is_probe, next_sound}
use Rattle.probing.specs.Mixed.{mixed_of}
use Rattle.probing.proofs.MixedLemmas.{mixed_same, mixed_sound}
use Rattle.probing.specs.Displaced.{displaced_of}
use Rattle.probing.proofs.DisplacedLemmas.{displaced_counted}
use Rattle.probing.proofs.OthersLemmas.{removed_absent, others_counted, remove_sound}
use Rattle.incarnation.specs.declared.Claim.{Claim}
use Rattle.lifeguard.specs.declared.probe.Probe.{Probe}
use Rattle.membership.specs.Table.{Known, is_confirm}
use Rattle.lifeguard.specs.Probe.{with_nack, with_reach}
use Rattle.member.specs.Step.{answered, nacked, reached}
use Rattle.member.specs.Here.{HoldsOthers}
use Rattle.member.specs.State.{is_probed}

abbrev Held : Type 0
Held = Claim × ℕ

-- what the table has at a member after another or the same was put
put_get : (table : Known) (k q : ℕ) (v : Held) → get (insert table k v) q ≡ cond (eqb q k) (Some v) (get table q)
put_get table k q v = get-insert nat_cmp_total table k v q ∙ ap (λ b. cond b (Some v) (get table q)) (unsigned_tied q k)

-- a member that was put is there
pub put_there : (table : Known) (k : ℕ) (v : Held) → get (insert table k v) k ≡ Some v
put_there table k v = put_get table k k v ∙ ap (λ b. cond b (Some v) (get table k)) (eq-eqb k k refl)

others_cases : (s : Setup) (m : ℕ) (table : Known) (k q : ℕ) (v : Held) (b : Bool) → eqb q k ≡ b → k < member_count s → k ≢ m
    → (contains_key table q ≡ true → (q < member_count s) × (q ≢ m)) → is_some (cond b (Some v) (get table q)) ≡ true → (q < member_count s) × (q ≢ m)
others_cases s m table k q v true e low apart old there =
    let same : q ≡ k = eqb-true q k e in subst (λ r. (r < member_count s) × (r ≢ m)) (sym same) (low, apart)
others_cases s m table k q v false e low apart old there = old there

-- who is probed is not out of the rota
probed_cases : (table : Known) (rota : ProbeOrder) (k q : ℕ) (v : Held) (b : Bool) → is_confirm v.0 ≡ false → (is_probed (get table q) ≡ false → times_in rota.members q ≡ 0)
    → is_probed (cond b (Some v) (get table q)) ≡ false → times_in rota.members q ≡ 0
probed_cases table rota k q v true up old none = absurd (false≢true (sym none ∙ ap not up))
probed_cases table rota k q v false up old none = old none

-- another member of the scenario, who isn't confirmed, is put into the table
pub holds_put : (s : Setup) (m : ℕ) (table : Known) (rota : ProbeOrder) (probe : Option Probe) (contact : Option ℕ) (k : ℕ) (v : Held) → k < member_count s → k ≢ m → is_confirm v.0 ≡ false
    → HoldsOthers s m table rota probe contact → HoldsOthers s m (insert table k v) rota probe contact
holds_put s m table rota probe contact k v low apart up holds = record {
  others = λ q there. others_cases s m table k q v (eqb q k) refl low apart (holds.others q) (sym (ap is_some (put_get table k q v)) ∙ there);
  listed = λ q none. probed_cases table rota k q v (eqb q k) up (holds.listed q) (sym (ap is_probed (put_get table k q v)) ∙ none);
  sound = holds.sound;
  target = holds.target;
  asked = holds.asked;
}

-- and into the rota
pub holds_place : (s : Setup) (m : ℕ) (table : Known) (rota : ProbeOrder) (probe : Option Probe) (contact : Option ℕ) (words : Words) (k : ℕ) → is_probed (get table k) ≡ true
    → IsSoundOrder (insert_of words k rota).0 → HoldsOthers s m table rota probe contact → HoldsOthers s m table (insert_of words k rota).0 probe contact
unfolding insert_of
holds_place s m table rota probe contact words k there sound holds = record {
  others = holds.others;
  listed = λ q none.
      let apart : k ≢ q = λ same. false≢true (sym none ∙ ap (λ r. is_probed (get table r)) (sym same) ∙ there) in
      let place = (below_of words (length rota.members + 1)).0 in
      omega (arith, sum_by-insert (λ (it : ℕ). one_if (it == q)) rota.members place k, one_if-other k q apart, holds.listed q none);
  sound = sound;
  target = holds.target;
  asked = holds.asked;
}

-- and in another one's place of it
pub holds_newcomer : (s : Setup) (m : ℕ) (table : Known) (rota : ProbeOrder) (probe : Option Probe) (contact : Option ℕ) (words : Words) (k : ℕ) → AreWords words → is_probed (get table k) ≡ true
    → IsSoundOrder (displaced_of words k rota).0 → HoldsOthers s m table rota probe contact → HoldsOthers s m table (displaced_of words k rota).0 probe contact
holds_newcomer s m table rota probe contact words k fit there sound holds = record {
  others = holds.others;
  listed = λ q none.
      let apart : k ≢ q = λ same. false≢true (sym none ∙ ap (λ r. is_probed (get table r)) (sym same) ∙ there) in
      omega (arith, displaced_counted words k q rota fit holds.sound, one_if-other k q apart, holds.listed q none);
  sound = sound;
  target = holds.target;
  asked = holds.asked;
}

-- a member that is confirmed is put into the table, and taken out of the rota
pub holds_confirm : (s : Setup) (m : ℕ) (table : Known) (rota : ProbeOrder) (probe : Option Probe) (contact : Option ℕ) (k : ℕ) (v : Held) → k < member_count s → k ≢ m
    → HoldsOthers s m table rota probe contact → HoldsOthers s m (insert table k v) (remove_of k rota) probe contact
holds_confirm s m table rota probe contact k v low apart holds = record {
  others = λ q there. others_cases s m table k q v (eqb q k) refl low apart (holds.others q) (sym (ap is_some (put_get table k q v)) ∙ there);
  listed = λ q none.
      elim (cases_Bool (eqb q k)) [
        | inl e ↦ subst (λ r. times_in (remove_of k rota).members r ≡ 0) (sym (eqb-true q k e)) (removed_absent k rota holds.sound)
        | inr e ↦
            let other : k ≢ q = λ same. eqb-false q k e (sym same) in
            let as_before : get (insert table k v) q ≡ get table q = put_get table k q v ∙ ap (λ b. cond b (Some v) (get table q)) e in
            others_counted k q rota holds.sound other ∙ holds.listed q (ap is_probed (sym as_before) ∙ none)
      ];
  sound = remove_sound k rota holds.sound;
  target = holds.target;
  asked = holds.asked;
}

-- of a member that isn't probed nothing is held any more
left_get : (table : Known) (k q : ℕ) → get (remove table k) q ≡ cond (eqb q k) None (get table q)
left_get table k q = get-remove nat_cmp_total table k q ∙ ap (λ b. cond b None (get table q)) (unsigned_tied q k)

pub holds_forgotten : (s : Setup) (m : ℕ) (table : Known) (rota : ProbeOrder) (probe : Option Probe) (contact : Option ℕ) (k : ℕ) → is_probed (get table k) ≡ false
    → HoldsOthers s m table rota probe contact → HoldsOthers s m (remove table k) rota probe contact
holds_forgotten s m table rota probe contact k absent holds = record {
  others = λ q there. holds.others q (known (eqb q k) (get table q) (sym (ap is_some (left_get table k q)) ∙ there));
  listed = λ q none. by_place q (eqb q k) refl (sym (ap is_probed (left_get table k q)) ∙ none);
  sound = holds.sound;
  target = holds.target;
  asked = holds.asked;
}
  where
    known : (b : Bool) (o : Option Held) → is_some (cond b None o) ≡ true → is_some o ≡ true
    known true o there = absurd (false≢true there)
    known false o there = there

    by_place : (q : ℕ) (b : Bool) → eqb q k ≡ b → is_probed (cond b None (get table q)) ≡ false → times_in rota.members q ≡ 0
    by_place q true e none = holds.listed q (ap (λ r. is_probed (get table r)) (eqb-true q k e) ∙ absent)
    by_place q false e none = holds.listed q none

-- another probe, of a member of the scenario, or none
pub holds_probe : (s : Setup) (m : ℕ) (table : Known) (rota : ProbeOrder) (before after : Option Probe) (contact : Option ℕ) → IfSome after (λ p. p.target < member_count s)
    → HoldsOthers s m table rota before contact → HoldsOthers s m table rota after contact
holds_probe s m table rota before after contact member holds = record { others = holds.others; listed = holds.listed; sound = holds.sound; target = member; asked = holds.asked }

pub holds_no_probe : (s : Setup) (m : ℕ) (table : Known) (rota : ProbeOrder) (before : Option Probe) (contact : Option ℕ) → HoldsOthers s m table rota before contact → HoldsOthers s m table rota None contact
holds_no_probe s m table rota before contact holds = holds_probe s m table rota before None contact tt holds

-- somebody else is asked, or nobody
pub holds_contact : (s : Setup) (m : ℕ) (table : Known) (rota : ProbeOrder) (probe : Option Probe) (before after : Option ℕ) → IfSome after (λ c. c < member_count s)
    → HoldsOthers s m table rota probe before → HoldsOthers s m table rota probe after
holds_contact s m table rota probe before after member holds = record { others = holds.others; listed = holds.listed; sound = holds.sound; target = holds.target; asked = member }

pub holds_alike : (s : Setup) (m : ℕ) (table : Known) (rota : ProbeOrder) (probe : Option Probe) (before after : Option ℕ) → after ≡ before → HoldsOthers s m table rota probe before
    → HoldsOthers s m table rota probe after
holds_alike s m table rota probe before after same holds = subst (λ (q : Option ℕ). HoldsOthers s m table rota probe q) (sym same) holds

pub holds_no_contact : (s : Setup) (m : ℕ) (table : Known) (rota : ProbeOrder) (probe : Option Probe) (before : Option ℕ) → HoldsOthers s m table rota probe before → HoldsOthers s m table rota probe None
holds_no_contact s m table rota probe before holds = holds_contact s m table rota probe before None tt holds

target_either : (n : ℕ) (b : Bool) (p q : Probe) → p.target < n → q.target < n → (cond b p q).target < n
target_either n true p q h g = h
target_either n false p q h g = g

-- what comes back of a probe leaves its target
pub holds_answered : (s : Setup) (m : ℕ) (table : Known) (rota : ProbeOrder) (seq : ℕ) (probe : Option Probe) (contact : Option ℕ) → HoldsOthers s m table rota probe contact → HoldsOthers s m table rota (answered seq probe) contact
holds_answered s m table rota seq None contact holds = holds
holds_answered s m table rota seq (Some p) contact holds =
    holds_probe s m table rota (Some p) _ contact (target_either (member_count s) (nat_eq p.seq seq) (record p { acked = true }) p holds.target holds.target) holds

pub holds_nacked : (s : Setup) (m : ℕ) (table : Known) (rota : ProbeOrder) (seq : ℕ) (probe : Option Probe) (contact : Option ℕ) → HoldsOthers s m table rota probe contact → HoldsOthers s m table rota (nacked seq probe) contact
holds_nacked s m table rota seq None contact holds = holds
holds_nacked s m table rota seq (Some p) contact holds =
    holds_probe s m table rota (Some p) _ contact (target_either (member_count s) (nat_eq p.seq seq) (with_nack p) p holds.target holds.target) holds

pub holds_reached : (s : Setup) (m : ℕ) (table : Known) (rota : ProbeOrder) (seq : ℕ) (probe : Option Probe) (contact : Option ℕ) → HoldsOthers s m table rota probe contact → HoldsOthers s m table rota (reached seq probe) contact
holds_reached s m table rota seq None contact holds = holds
holds_reached s m table rota seq (Some p) contact holds =
    holds_probe s m table rota (Some p) _ contact (target_either (member_count s) (nat_eq p.seq seq) (with_reach p) p holds.target holds.target) holds

probed_there : (held : Option Held) → is_probed held ≡ true → is_some held ≡ true
probed_there None probed = probed
probed_there (Some held) probed = refl

module _ (s : Setup) (m : ℕ) (table : Known) (rota : ProbeOrder) (probe : Option Probe) (contact : Option ℕ) (words : Words) (fit : AreWords words) (holds : HoldsOthers s m table rota probe contact) where
  -- the next probe
  pub holds_next : HoldsOthers s m table (next_of words rota).1 probe contact
  holds_next = record {
    others = holds.others;
    listed = λ q none.
        omega (arith, sum_by-IsPermutation (λ (it : ℕ). one_if (it == q)) rota.members (next_of words rota).1.members (is_probe words rota fit holds.sound).same, holds.listed q none);
    sound = next_sound words rota fit holds.sound;
    target = holds.target;
    asked = holds.asked;
  }

  -- the members in a new order
  pub holds_mixed : HoldsOthers s m table (mixed_of words rota).0 probe contact
  holds_mixed = record {
    others = holds.others;
    listed = λ q none.
        omega (arith, sum_by-IsPermutation (λ (it : ℕ). one_if (it == q)) rota.members (mixed_of words rota).0.members (mixed_same words rota fit holds.sound), holds.listed q none);
    sound = mixed_sound words rota fit holds.sound;
    target = holds.target;
    asked = holds.asked;
  }

  -- the next probe goes to a member of the scenario
  pub next_is_member : (target : ℕ) → (next_of words rota).0 ≡ Some target → target < member_count s
  next_is_member target is =
      elim (cases_Bool (is_probed (get table target))) [
        | inl here ↦ (holds.others target (probed_there (get table target) here)).0
        | inr none ↦ absurd (impossible (holds.listed target none) ((is_probe words rota fit holds.sound).some target is))
      ]
    where
      impossible : {n : ℕ} → n ≡ 0 → 1 ≤ n → ⊥
      impossible e h = omega arith

-- a member that is not there is put and taken out again
pub put_removed : (table : Known) (k : ℕ) (v : Held) → contains_key table k ≡ false → remove (insert table k v) k ≡ table
put_removed table k v none =
    same_map nat_cmp_total nat_cmp-IsAntisymmetric _ _ (λ q.
    get-remove nat_cmp_total (insert table k v) k q
    ∙ ap (λ o. cond (eq_by_cmp nat_cmp q k) None o) (get-insert nat_cmp_total table k v q)
    ∙ ap (λ b. cond b None (cond b (Some v) (get table q))) (unsigned_tied q k)
    ∙ last q (eqb q k) refl)
  where
    last : (q : ℕ) (b : Bool) → eqb q k ≡ b → cond b None (cond b (Some v) (get table q)) ≡ get table q
    last q true e = sym (gone (get table q) (ap (contains_key table) (eqb-true q k e) ∙ none))
      where
        gone : (o : Option Held) → is_some o ≡ false → o ≡ None
        gone None h = refl
        gone (Some x) h = absurd (false≢true (sym h))
    last q false e = refl

pub own_absent : (s : Setup) (m : ℕ) (table : Known) (rota : ProbeOrder) (probe : Option Probe) (contact : Option ℕ) → HoldsOthers s m table rota probe contact → contains_key table m ≡ false
own_absent s m table rota probe contact holds = elim (cases_Bool (contains_key table m)) [ inl here ↦ absurd ((holds.others m here).1 refl) | inr none ↦ none ]

-- what holds holds after a success too
pub in_any_case : {A E P : Type 0} (r : Result A E) → P → OnOk r P
in_any_case (Ok x) p = p
in_any_case (Err e) p = tt

-- whom the next probe goes to, if there is one
pub next_is_if : (s : Setup) (m : ℕ) (table : Known) (rota : ProbeOrder) (probe : Option Probe) (contact : Option ℕ) (words : Words) → AreWords words → HoldsOthers s m table rota probe contact
    → (target : Option ℕ) → target ≡ (next_of words rota).0 → IfSome target (λ t. t < member_count s)
next_is_if s m table rota probe contact words fit holds None is = tt
next_is_if s m table rota probe contact words fit holds (Some target) is = next_is_member s m table rota probe contact words fit holds target (sym is)
