-- The table beside the suspicions and the rota.
use Rattle.std.proofs.Common.{◌≡◌, ◌≢◌, ℕ, zero, suc, ◌+◌, ◌<◌, ◌≤◌, ◌^◌, ◌==◌, Bool, true, false, cond, not, ◌&&◌, eqb, nat_eq, List, [], ◌∷◌, map, filter, length, Option, Some, None, refl, sym, ap, subst, ◌∙◌, arith}
use Rattle.std.proofs.lemmas.Option.{same_Some}
use Rattle.std.specs.Option.{is_some, option_map_or, option_and_then}
use Rattle.std.specs.List.{AllByRecursion, range_with_len}
use Rattle.std.specs.Ordering.{nat_cmp}
use Rattle.std.specs.Cmp.{nat_cmp_total, unsigned_tied}
use Rattle.std.specs.FinMap.{FinMap, get, insert, remove, empty, contains_key, from_entries, get-insert, get-remove, get-empty}
use Rattle.std.proofs.lemmas.Bool.{false≢true, eqb-true, eqb-false, eq-eqb}
use Rattle.std.proofs.lemmas.Bool.Decides.{nat_tests}
use Rattle.std.proofs.lemmas.List.Edits.{length-insert}
use Rattle.std.proofs.lemmas.List.Sums.{sum_by-insert}
use Rattle.std.proofs.lemmas.List.Sorted.{sum_by-IsPermutation}
use Rattle.scenario.specs.Setup.{Setup, member_count, start_of}
use Rattle.streams.specs.Draw.{Words, AreWords, below_of}
use Rattle.streams.proofs.RangeLemmas.{below_fits}
use Rattle.incarnation.specs.declared.Claim.{Claim}
use Rattle.incarnation.specs.declared.Claim.TheVariants.{Alive}
use Rattle.probing.specs.ProbeOrder.{ProbeOrder, IsSoundOrder, times_in, round_over, next_of, insert_of, remove_of}
use Rattle.probing.proofs.SoundLemmas.{one_if, one_if-same, one_if-other, times_in-cons, are_members-insert, members_bounded}
use Rattle.probing.specs.Mixed.{mixed_of}
use Rattle.probing.specs.Displaced.{displaced_of}
use Rattle.probing.proofs.MixedLemmas.{mixed_same, mixed_sound}
use Rattle.probing.proofs.DisplacedLemmas.{displaced_sound, displaced_counted}
use Rattle.probing.proofs.RoundLemmas.{is_probe, next_sound}
use Rattle.probing.proofs.OthersLemmas.{removed_absent, others_counted, remove_sound}
use Rattle.suspicion.specs.declared.terms.Terms.{Terms}
use Rattle.suspicion.specs.Suspicions.{HeldSuspicion, HeldSuspicions, counts, with_accuser, accused, accused_of, after_accusation}
use Rattle.membership.specs.Table.{Known, is_suspect, all_alive}
use Rattle.member.specs.Step.{first_others}
use Rattle.member_laws.specs.Words.{holds, is_live}

-- ---- look-ups

pub get_put : {X : Type 0} (m : FinMap nat_cmp X) (k q : ℕ) (v : X) → get (insert m k v) q ≡ cond (eqb q k) (Some v) (get m q)
get_put m k q v = get-insert nat_cmp_total m k v q ∙ ap (λ b. cond b (Some v) (get m q)) (unsigned_tied q k)

pub get_left : {X : Type 0} (m : FinMap nat_cmp X) (k q : ℕ) → get (remove m k) q ≡ cond (eqb q k) None (get m q)
get_left m k q = get-remove nat_cmp_total m k q ∙ ap (λ b. cond b None (get m q)) (unsigned_tied q k)

some_either : {X : Type 0} (b : Bool) (v : X) (o : Option X) → is_some (cond b (Some v) o) ≡ cond b true (is_some o)
some_either true v o = refl
some_either false v o = refl

none_either : {X : Type 0} (b : Bool) (o : Option X) → is_some (cond b None o) ≡ cond b false (is_some o)
none_either true o = refl
none_either false o = refl

pub has_put : {X : Type 0} (m : FinMap nat_cmp X) (k q : ℕ) (v : X) → contains_key (insert m k v) q ≡ cond (eqb q k) true (contains_key m q)
has_put m k q v = ap is_some (get_put m k q v) ∙ some_either (eqb q k) v (get m q)

has_left : {X : Type 0} (m : FinMap nat_cmp X) (k q : ℕ) → contains_key (remove m k) q ≡ cond (eqb q k) false (contains_key m q)
has_left m k q = ap is_some (get_left m k q) ∙ none_either (eqb q k) (get m q)

held_either : (test : Claim → Bool) (b : Bool) (v : Claim × ℕ) (o : Option (Claim × ℕ))
    → option_map_or (λ (held : Claim × ℕ). test held.0) (cond b (Some v) o) false ≡ cond b (test v.0) (option_map_or (λ (held : Claim × ℕ). test held.0) o false)
held_either test true v o = refl
held_either test false v o = refl

holds_put : (test : Claim → Bool) (table : Known) (k q : ℕ) (v : Claim × ℕ) → holds test (insert table k v) q ≡ cond (eqb q k) (test v.0) (holds test table q)
holds_put test table k q v =
    ap (λ o. option_map_or (λ (held : Claim × ℕ). test held.0) o false) (get_put table k q v) ∙ held_either test (eqb q k) v (get table q)

held_none : (test : Claim → Bool) (b : Bool) (o : Option (Claim × ℕ))
    → option_map_or (λ (held : Claim × ℕ). test held.0) (cond b None o) false ≡ cond b false (option_map_or (λ (held : Claim × ℕ). test held.0) o false)
held_none test true o = refl
held_none test false o = refl

holds_left : (test : Claim → Bool) (table : Known) (k q : ℕ) → holds test (remove table k) q ≡ cond (eqb q k) false (holds test table q)
holds_left test table k q =
    ap (λ o. option_map_or (λ (held : Claim × ℕ). test held.0) o false) (get_left table k q) ∙ held_none test (eqb q k) (get table q)

-- of whom no claim passes the test it makes no difference that nothing is held any more
same_left : (test : Claim → Bool) (table : Known) (k q : ℕ) → holds test table k ≡ false → holds test (remove table k) q ≡ holds test table q
same_left test table k q none = holds_left test table k q ∙ either (eqb q k) refl
  where
    either : (b : Bool) → eqb q k ≡ b → cond b false (holds test table q) ≡ holds test table q
    either true e = sym (ap (holds test table) (eqb-true q k e) ∙ none)
    either false e = refl

-- what is held of a member that passes a test makes it known
pub known_held : (test : Claim → Bool) (o : Option (Claim × ℕ)) → option_map_or (λ (held : Claim × ℕ). test held.0) o false ≡ true → is_some o ≡ true
known_held test None h = absurd (false≢true h)
known_held test (Some held) h = refl

-- ---- the members known

pub record HoldsOthers (n m : ℕ) (table : Known) : Type 0 where
  pub others : (q : ℕ) → contains_key table q ≡ true → (q < n) × (q ≢ m)

others_cases : (n m : ℕ) (table : Known) (k q : ℕ) (b : Bool) → eqb q k ≡ b → k < n → k ≢ m → (contains_key table q ≡ true → (q < n) × (q ≢ m))
    → cond b true (contains_key table q) ≡ true → (q < n) × (q ≢ m)
others_cases n m table k q true e low apart old here = subst (λ r. (r < n) × (r ≢ m)) (sym (eqb-true q k e)) (low, apart)
others_cases n m table k q false e low apart old here = old here

pub others_put : (n m : ℕ) (table : Known) (k : ℕ) (v : Claim × ℕ) → k < n → k ≢ m → HoldsOthers n m table → HoldsOthers n m (insert table k v)
others_put n m table k v low apart h = record {
  others = λ q here. others_cases n m table k q (eqb q k) refl low apart (h.others q) (sym (has_put table k q v) ∙ here);
}

pub others_left : (n m : ℕ) (table : Known) (k : ℕ) → HoldsOthers n m table → HoldsOthers n m (remove table k)
others_left n m table k h = record { others = λ q here. h.others q (known (eqb q k) (contains_key table q) (sym (has_left table k q) ∙ here)) }
  where
    known : (b c : Bool) → cond b false c ≡ true → c ≡ true
    known true c h = absurd (false≢true h)
    known false c h = h

-- ---- suspicions

-- a fact of each suspicion that stands
module _ (P : HeldSuspicion → Type 0) where
  abbrev pub OfAll : HeldSuspicions → Type 0
  OfAll held = (q : ℕ) (x : HeldSuspicion) → get held q ≡ Some x → P x

  put_either : (b : Bool) (v x : HeldSuspicion) (old : Option HeldSuspicion) → P v → (old ≡ Some x → P x) → cond b (Some v) old ≡ Some x → P x
  put_either true v x old own later is = subst P (same_Some v x is) own
  put_either false v x old own later is = later is

  left_either : (b : Bool) (x : HeldSuspicion) (old : Option HeldSuspicion) → (old ≡ Some x → P x) → cond b None old ≡ Some x → P x
  left_either true x old later is = absurd (false≢true (ap is_some is))
  left_either false x old later is = later is

  pub of_put : (held : HeldSuspicions) (k : ℕ) (v : HeldSuspicion) → P v → OfAll held → OfAll (insert held k v)
  of_put held k v own h q x here = put_either _ v x (get held q) own (h q x) (sym (get_put held k q v) ∙ here)

  pub of_left : (held : HeldSuspicions) (k : ℕ) → OfAll held → OfAll (remove held k)
  of_left held k h q x here = left_either _ x (get held q) (h q x) (sym (get_left held k q) ∙ here)

  -- that one more accuser leaves so
  module _ (stays : (x : HeldSuspicion) (accuser g : ℕ) → P x → P (with_accuser x accuser g)) where
    pub of_confirmed : (o : Option HeldSuspicion) (accuser g : ℕ) → ((x : HeldSuspicion) → o ≡ Some x → P x) → (y : HeldSuspicion) → option_and_then (λ x. accused x accuser g) o ≡ Some y → P y
    of_confirmed None accuser g h y is = absurd (false≢true (ap is_some is))
    of_confirmed (Some x) accuser g h y is = put_either (counts x accuser) (with_accuser x accuser g) y None (stays x accuser g (h x refl)) (λ none. absurd (false≢true (ap is_some none))) is

    pub of_accused : (held : HeldSuspicions) (k accuser g : ℕ) → OfAll held → OfAll (after_accusation held k accuser g)
    of_accused held k accuser g h = either (accused_of held k accuser g) (of_confirmed (get held k) accuser g (h k))
      where
        either : (o : Option HeldSuspicion) → ((y : HeldSuspicion) → o ≡ Some y → P y) → OfAll (option_map_or (insert held k) o held)
        either None own = h
        either (Some y) own = of_put held k y (own y refl) h

pub record SuspectsAlike (table : Known) (suspicions : HeldSuspicions) (terms : Terms) : Type 0 where
  pub alike : (q : ℕ) → contains_key suspicions q ≡ holds is_suspect table q
  pub settled : (q : ℕ) (x : HeldSuspicion) → get suspicions q ≡ Some x → x.terms ≡ terms

-- a suspicion that starts
pub suspected : (table : Known) (suspicions : HeldSuspicions) (terms : Terms) (k : ℕ) (v : Claim × ℕ) (x : HeldSuspicion) → is_suspect v.0 ≡ true → x.terms ≡ terms
    → SuspectsAlike table suspicions terms → SuspectsAlike (insert table k v) (insert suspicions k x) terms
suspected table suspicions terms k v x is own h = record {
  alike = λ q.
      has_put suspicions k q x ∙ ap (cond (eqb q k) true) (h.alike q) ∙ ap (λ b. cond (eqb q k) b (holds is_suspect table q)) (sym is)
      ∙ sym (holds_put is_suspect table k q v);
  settled = of_put (λ x. x.terms ≡ terms) suspicions k x own h.settled;
}

-- one that ends
pub cleared : (table : Known) (suspicions : HeldSuspicions) (terms : Terms) (k : ℕ) (v : Claim × ℕ) → is_suspect v.0 ≡ false
    → SuspectsAlike table suspicions terms → SuspectsAlike (insert table k v) (remove suspicions k) terms
cleared table suspicions terms k v is h = record {
  alike = λ q.
      has_left suspicions k q ∙ ap (cond (eqb q k) false) (h.alike q) ∙ ap (λ b. cond (eqb q k) b (holds is_suspect table q)) (sym is)
      ∙ sym (holds_put is_suspect table k q v);
  settled = of_left (λ x. x.terms ≡ terms) suspicions k h.settled;
}

-- where nothing is held any more of one that isn't suspected
pub suspects_left : (table : Known) (suspicions : HeldSuspicions) (terms : Terms) (k : ℕ) → holds is_suspect table k ≡ false → SuspectsAlike table suspicions terms → SuspectsAlike (remove table k) suspicions terms
suspects_left table suspicions terms k none h = record { alike = λ q. h.alike q ∙ sym (same_left is_suspect table k q none); settled = h.settled }

-- one that is shortened
same_keys : (b c : Bool) → c ≡ true → cond b true c ≡ c
same_keys true c is = sym is
same_keys false c is = refl

module _ (table : Known) (suspicions : HeldSuspicions) (terms : Terms) (k : ℕ) (h : SuspectsAlike table suspicions terms) where
  put_again : (y : HeldSuspicion) → contains_key suspicions k ≡ true → (q : ℕ) → contains_key (insert suspicions k y) q ≡ holds is_suspect table q
  put_again y here q = has_put suspicions k q y ∙ there (eqb q k) refl ∙ h.alike q
    where
      there : (b : Bool) → eqb q k ≡ b → cond b true (contains_key suspicions q) ≡ contains_key suspicions q
      there true e = sym (ap (contains_key suspicions) (eqb-true q k e) ∙ here)
      there false e = refl

  after_held : (x : Option HeldSuspicion) (accuser g : ℕ) → is_some x ≡ contains_key suspicions k → (q : ℕ)
      → contains_key (option_map_or (insert suspicions k) (option_and_then (λ x. accused x accuser g) x) suspicions) q ≡ holds is_suspect table q
  after_held None accuser g here = h.alike
  after_held (Some x) accuser g here = either (accused x accuser g)
    where
      either : (o : Option HeldSuspicion) → (q : ℕ) → contains_key (option_map_or (insert suspicions k) o suspicions) q ≡ holds is_suspect table q
      either None = h.alike
      either (Some y) = put_again y (sym here)

  pub accusation : (accuser g : ℕ) → SuspectsAlike table (after_accusation suspicions k accuser g) terms
  accusation accuser g = record {
    alike = after_held (get suspicions k) accuser g refl;
    settled = of_accused (λ x. x.terms ≡ terms) (λ x accuser g own. own) suspicions k accuser g h.settled;
  }

-- ---- the rota

pub record ProbesAlike (table : Known) (rota : ProbeOrder) : Type 0 where
  pub probes : (q : ℕ) → times_in rota.members q ≡ cond (holds is_live table q) 1 0
  pub sound : IsSoundOrder rota

-- where nothing is held any more of one that isn't probed
pub probes_left : (table : Known) (rota : ProbeOrder) (k : ℕ) → holds is_live table k ≡ false → ProbesAlike table rota → ProbesAlike (remove table k) rota
probes_left table rota k none h = record { probes = λ q. h.probes q ∙ ap (λ b. cond b 1 0) (sym (same_left is_live table k q none)); sound = h.sound }

pub next_probes : (table : Known) (rota : ProbeOrder) (words : Words) → AreWords words → ProbesAlike table rota → ProbesAlike table (next_of words rota).1
next_probes table rota words fit h = record {
  probes = λ q. sum_by-IsPermutation (λ (it : ℕ). one_if (it == q)) rota.members (next_of words rota).1.members (is_probe words rota fit h.sound).same ∙ h.probes q;
  sound = next_sound words rota fit h.sound;
}

pub mixed_probes : (table : Known) (rota : ProbeOrder) (words : Words) → AreWords words → ProbesAlike table rota → ProbesAlike table (mixed_of words rota).0
mixed_probes table rota words fit h = record {
  probes = λ q. sum_by-IsPermutation (λ (it : ℕ). one_if (it == q)) rota.members (mixed_of words rota).0.members (mixed_same words rota fit h.sound) ∙ h.probes q;
  sound = mixed_sound words rota fit h.sound;
}

insert_sound : (words : Words) (member : ℕ) (order : ProbeOrder) → AreWords words → IsSoundOrder order → member < 2 ^ 16 → times_in order.members member ≡ 0
    → IsSoundOrder (insert_of words member order).0
unfolding insert_of
insert_sound words member order fit sound low absent =
    let size = length order.members in
    let place = (below_of words (size + 1)).0 in
    let short = members_bounded order.members sound.listed in
    let within : place < size + 1 = below_fits words (size + 1) fit (omega arith) (omega (arith, short)) in
    let more = length-insert order.members place member (omega (arith, within)) in
    record {
      listed = are_members-insert order.members place member low absent sound.listed;
      within = grind (arith, nat_tests, more, sound.within);
    }

insert_counted : (words : Words) (member q : ℕ) (order : ProbeOrder) → times_in (insert_of words member order).0.members q ≡ times_in order.members q + one_if (member == q)
unfolding insert_of
insert_counted words member q order = sum_by-insert (λ (it : ℕ). one_if (it == q)) order.members (below_of words (length order.members + 1)).0 member

unheld : (test : Claim → Bool) (o : Option (Claim × ℕ)) → o ≡ None → option_map_or (λ (held : Claim × ℕ). test held.0) o false ≡ false
unheld test o none = ap (λ o. option_map_or (λ (held : Claim × ℕ). test held.0) o false) none

one_more : (table : Known) (rota : ProbeOrder) (k : ℕ) (v : Claim × ℕ) → is_live v.0 ≡ true → ProbesAlike table rota → (q : ℕ) (b : Bool) → eqb q k ≡ b → times_in rota.members k ≡ 0
    → times_in rota.members q + one_if (k == q) ≡ cond (cond b (is_live v.0) (holds is_live table q)) 1 0
one_more table rota k v is h q true e absent =
    let same : q ≡ k = eqb-true q k e in
    omega (arith, ap (times_in rota.members) same, absent, one_if-same k q (sym same)) ∙ ap (λ b. cond b 1 0) (sym is)
one_more table rota k v is h q false e absent = omega (arith, one_if-other k q (λ same. eqb-false q k e (sym same))) ∙ h.probes q

-- a member that wasn't known, or was confirmed, comes into the rota
pub placed : (table : Known) (rota : ProbeOrder) (words : Words) (k : ℕ) (v : Claim × ℕ) → AreWords words → k < 2 ^ 16 → holds is_live table k ≡ false → is_live v.0 ≡ true
    → ProbesAlike table rota → ProbesAlike (insert table k v) (insert_of words k rota).0
placed table rota words k v fit low none is h =
    let absent : times_in rota.members k ≡ 0 = h.probes k ∙ ap (λ b. cond b 1 0) none in
    record {
      probes = λ q. insert_counted words k q rota ∙ one_more table rota k v is h q (eqb q k) refl absent ∙ ap (λ b. cond b 1 0) (sym (holds_put is_live table k q v));
      sound = insert_sound words k rota fit h.sound low absent;
    }

-- one that takes the place of another comes into the rota too
pub displaced : (table : Known) (rota : ProbeOrder) (words : Words) (k : ℕ) (v : Claim × ℕ) → AreWords words → k < 2 ^ 16 → holds is_live table k ≡ false → is_live v.0 ≡ true
    → ProbesAlike table rota → ProbesAlike (insert table k v) (displaced_of words k rota).0
displaced table rota words k v fit low none is h =
    let absent : times_in rota.members k ≡ 0 = h.probes k ∙ ap (λ b. cond b 1 0) none in
    record {
      probes = λ q. displaced_counted words k q rota fit h.sound ∙ one_more table rota k v is h q (eqb q k) refl absent ∙ ap (λ b. cond b 1 0) (sym (holds_put is_live table k q v));
      sound = displaced_sound words k rota fit h.sound low absent;
    }

-- one that is known, and not as confirmed, is there
pub stays_probed : (table : Known) (rota : ProbeOrder) (k : ℕ) (v : Claim × ℕ) → holds is_live table k ≡ true → is_live v.0 ≡ true
    → ProbesAlike table rota → ProbesAlike (insert table k v) rota
stays_probed table rota k v was is h = record {
  probes = λ q. h.probes q ∙ ap (λ b. cond b 1 0) (same q (eqb q k) refl ∙ sym (holds_put is_live table k q v));
  sound = h.sound;
}
  where
    same : (q : ℕ) (b : Bool) → eqb q k ≡ b → holds is_live table q ≡ cond b (is_live v.0) (holds is_live table q)
    same q true e = ap (holds is_live table) (eqb-true q k e) ∙ was ∙ sym is
    same q false e = refl

-- one that is confirmed is taken out
pub taken_out : (table : Known) (rota : ProbeOrder) (k : ℕ) (v : Claim × ℕ) → is_live v.0 ≡ false → ProbesAlike table rota → ProbesAlike (insert table k v) (remove_of k rota)
taken_out table rota k v is h = record {
  probes = λ q. counted q (eqb q k) refl ∙ ap (λ b. cond b 1 0) (sym (holds_put is_live table k q v));
  sound = remove_sound k rota h.sound;
}
  where
    counted : (q : ℕ) (b : Bool) → eqb q k ≡ b → times_in (remove_of k rota).members q ≡ cond (cond b (is_live v.0) (holds is_live table q)) 1 0
    counted q true e = ap (times_in (remove_of k rota).members) (eqb-true q k e) ∙ removed_absent k rota h.sound ∙ ap (λ b. cond b 1 0) (sym is)
    counted q false e = others_counted k q rota h.sound (λ same. eqb-false q k e (sym same)) ∙ h.probes q

-- ---- the table of the first members

-- these members, each held to be alive
abbrev firsts : List ℕ → Known
firsts xs = from_entries (map (λ m. (m, (Alive, 0))) xs)

has_cases : (x q : ℕ) (rest : Bool) (P : ℕ → Type 0) (b : Bool) → eqb q x ≡ b → P x → (rest ≡ true → P q) → cond b true rest ≡ true → P q
has_cases x q rest P true e own old here = subst P (sym (eqb-true q x e)) own
has_cases x q rest P false e own old here = old here

all_has : (xs : List ℕ) (P : ℕ → Type 0) → AllByRecursion P xs → (q : ℕ) → contains_key (firsts xs) q ≡ true → P q
all_has [] P h q here = absurd (false≢true (sym (ap is_some (get-empty nat_cmp q)) ∙ here))
all_has (x ∷ xs) P h q here = has_cases x q (contains_key (firsts xs) q) P (eqb q x) refl h.0 (all_has xs P h.1 q) (sym (has_put (firsts xs) x q (Alive, 0)) ∙ here)

live_alike : (xs : List ℕ) (q : ℕ) → holds is_live (firsts xs) q ≡ contains_key (firsts xs) q
live_alike [] q = unheld is_live (get (firsts []) q) (get-empty nat_cmp q) ∙ sym (ap is_some (get-empty nat_cmp q))
live_alike (x ∷ xs) q =
    holds_put is_live (firsts xs) x q (Alive, 0) ∙ ap (cond (eqb q x) true) (live_alike xs q) ∙ sym (has_put (firsts xs) x q (Alive, 0))

both_false : (b : Bool) → cond b false false ≡ false
both_false true = refl
both_false false = refl

none_suspected : (xs : List ℕ) (q : ℕ) → holds is_suspect (firsts xs) q ≡ false
none_suspected [] q = unheld is_suspect (get (firsts []) q) (get-empty nat_cmp q)
none_suspected (x ∷ xs) q =
    holds_put is_suspect (firsts xs) x q (Alive, 0) ∙ ap (cond (eqb q x) false) (none_suspected xs q) ∙ both_false (eqb q x)

module _ (p : ℕ → Bool) where
  low_either : (b : Bool) (a q : ℕ) (xs : List ℕ) → q < a → times_in xs q ≡ 0 → times_in (cond b (a ∷ xs) xs) q ≡ 0
  low_either true a q xs low none = omega (arith, times_in-cons a xs q, one_if-other a q (λ same. omega arith))
  low_either false a q xs low none = none

  lower : (a n q : ℕ) → q < a → times_in (filter p (range_with_len a n)) q ≡ 0
  lower a zero q low = refl
  lower a (suc n) q low = low_either (p a) a q (filter p (range_with_len (a + 1) n)) low (lower (a + 1) n q (omega arith))

  one_cases : (a q : ℕ) (xs : List ℕ) (b : Bool) → eqb q a ≡ b → (q < a + 1 → times_in xs q ≡ 0) → times_in xs q ≡ cond (contains_key (firsts xs) q) 1 0
      → one_if (a == q) + times_in xs q ≡ cond (cond b true (contains_key (firsts xs) q)) 1 0
  one_cases a q xs true e low old =
      let same : q ≡ a = eqb-true q a e in
      omega (arith, one_if-same a q (sym same), low (omega arith))
  one_cases a q xs false e low old = omega (arith, one_if-other a q (λ same. eqb-false q a e (sym same))) ∙ old

  count_either : (b : Bool) (a q : ℕ) (xs : List ℕ) → (q < a + 1 → times_in xs q ≡ 0) → times_in xs q ≡ cond (contains_key (firsts xs) q) 1 0
      → times_in (cond b (a ∷ xs) xs) q ≡ cond (contains_key (firsts (cond b (a ∷ xs) xs)) q) 1 0
  count_either true a q xs low old =
      times_in-cons a xs q ∙ one_cases a q xs (eqb q a) refl low old ∙ ap (λ b. cond b 1 0) (sym (has_put (firsts xs) a q (Alive, 0)))
  count_either false a q xs low old = old

  counted_firsts : (a n q : ℕ) → times_in (filter p (range_with_len a n)) q ≡ cond (contains_key (firsts (filter p (range_with_len a n))) q) 1 0
  counted_firsts a zero q = ap (λ b. cond b 1 0) (sym (ap is_some (get-empty nat_cmp q)))
  counted_firsts a (suc n) q =
      count_either (p a) a q (filter p (range_with_len (a + 1) n)) (λ low. lower (a + 1) n q low) (counted_firsts (a + 1) n q)

  all_either : (P : ℕ → Type 0) (b : Bool) (a : ℕ) (xs : List ℕ) → (b ≡ true → P a) → AllByRecursion P xs → AllByRecursion P (cond b (a ∷ xs) xs)
  all_either P true a xs own rest = (own refl, rest)
  all_either P false a xs own rest = rest

  all_range : (P : ℕ → Type 0) (n : ℕ) → ((q : ℕ) → q < n → p q ≡ true → P q) → (a l : ℕ) → a + l ≤ n → AllByRecursion P (filter p (range_with_len a l))
  all_range P n fits a zero h = tt
  all_range P n fits a (suc l) h = all_either P (p a) a (filter p (range_with_len (a + 1) l)) (fits a (omega arith)) (all_range P n fits (a + 1) l (omega arith))

module _ (s : Setup) (m : ℕ) where
  is_first : ℕ → Bool
  is_first other = nat_eq (start_of s other) 0 && not (nat_eq other m)

  first_other : (q : ℕ) → q < member_count s → is_first q ≡ true → (q < member_count s) × (q ≢ m)
  unfolding is_first
  first_other q low is = (low, λ same. differ (nat_eq (start_of s q) 0) (nat_eq q m) (eq-eqb q m same) is)
    where
      differ : (a b : Bool) → b ≡ true → (a && not b) ≡ true → ⊥
      differ true true e h = false≢true h
      differ true false e h = false≢true e
      differ false b e h = false≢true h

  all_first : AllByRecursion (λ q. (q < member_count s) × (q ≢ m)) (first_others s m)
  unfolding first_others is_first
  all_first = all_range is_first (λ q. (q < member_count s) × (q ≢ m)) (member_count s) first_other 0 (member_count s) (omega arith)

  pub first_known : HoldsOthers (member_count s) m (all_alive (first_others s m))
  unfolding all_alive
  first_known = record { others = all_has (first_others s m) (λ q. (q < member_count s) × (q ≢ m)) all_first }

  pub first_suspected : (terms : Terms) → SuspectsAlike (all_alive (first_others s m)) empty terms
  unfolding all_alive
  first_suspected terms = record {
    alike = λ q. ap is_some (get-empty nat_cmp q) ∙ sym (none_suspected (first_others s m) q);
    settled = λ q x here. absurd (false≢true (sym (ap is_some (get-empty nat_cmp q)) ∙ ap is_some here));
  }

  first_counted : (q : ℕ) → times_in (first_others s m) q ≡ cond (contains_key (all_alive (first_others s m)) q) 1 0
  unfolding all_alive first_others is_first
  first_counted q = counted_firsts is_first 0 (member_count s) q

  few_either : (n : ℕ) (b : Bool) → n ≡ cond b 1 0 → n ≤ 1
  few_either n true e = omega arith
  few_either n false e = omega arith

  high : (q : ℕ) (b : Bool) → contains_key (all_alive (first_others s m)) q ≡ b → member_count s ≤ 16384 → 2 ^ 16 ≤ q → ◌≡◌ {A = ℕ} (cond b 1 0) 0
  high q true here few h = let low = (first_known.others q here).0 in absurd (omega arith)
  high q false here few h = refl

  pub first_probed : member_count s ≤ 16384 → ProbesAlike (all_alive (first_others s m)) (round_over (first_others s m))
  unfolding all_alive
  first_probed few = record {
    probes = λ q. first_counted q ∙ ap (λ b. cond b 1 0) (sym (live_alike (first_others s m) q));
    sound = record {
      listed = record {
        distinct = λ q. few_either _ (contains_key (all_alive (first_others s m)) q) (first_counted q);
        numbers = λ q h. first_counted q ∙ high q (contains_key (all_alive (first_others s m)) q) refl few h;
      };
      within = omega arith;
    };
  }

-- ---- and the empty one

pub none_known : (n m : ℕ) → HoldsOthers n m empty
none_known n m = record { others = λ q here. absurd (false≢true (sym (ap is_some (get-empty nat_cmp q)) ∙ here)) }

pub none_suspects : (terms : Terms) → SuspectsAlike empty empty terms
none_suspects terms = record {
  alike = λ q. ap is_some (get-empty nat_cmp q) ∙ sym (unheld is_suspect (get empty q) (get-empty nat_cmp q));
  settled = λ q x here. absurd (false≢true (sym (ap is_some (get-empty nat_cmp q)) ∙ ap is_some here));
}

pub none_probed : ProbesAlike empty (round_over [])
none_probed = record {
  probes = λ q. ap (λ b. cond b 1 0) (sym (unheld is_live (get empty q) (get-empty nat_cmp q)));
  sound = record { listed = record { distinct = λ q. omega arith; numbers = λ q h. refl }; within = omega arith };
}
