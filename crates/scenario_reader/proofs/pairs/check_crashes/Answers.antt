use Rattle.std.proofs.Common.{◌≡◌, ◌++◌, ◌∷◌, [], ℕ, List, Bool, true, false, nat_eq, map, take, refl, ap, sym, ◌∙◌, if◌then◌else◌}
use Rattle.std.specs.List.{list_any}
use Rattle.std.proofs.lemmas.List.{map_more}
use Rattle.toml.specs.View.{view}
use Rattle.toml.specs.declared.value.Value.{Value}
use Rattle.schema.proofs.Trees.{any-map}
use Rattle.scenario.specs.Setup.{Group}
use Rattle.scenario_reader.specs.Reading.{crash_in}
use Rattle.scenario_reader.specs.Rules.{is_same_member}
use Rattle.scenario.specs.declared.settings.Crash.{Crash}
use Rattle.scenario_reader.proofs.Trees.{any_same}
use Rattle.scenario_reader.proofs.Find.{nat_eq-sym}
use Rattle.scenario_reader.proofs.Groups.{broken_by, fits_by}
use Rattle.scenario_reader.proofs.Sweep.{pair_there, pair_missing}
use Rattle.scenario_reader.proofs.pairs.check_crashes.Goals as goal

abbrev crash : List Group → Value → Crash
crash gs v = crash_in gs (view v)

-- a member crashes already where its number is among those so far
seen : (gs : List Group) (vs : List Value) (keys : List ℕ) (k : ℕ) (b : Bool) → keys ≡ map (λ v. (crash gs v).member) vs → list_any (nat_eq k) keys ≡ b
    → list_any (λ (c : Crash). nat_eq c.member k) (map (crash gs) vs) ≡ b
seen gs vs keys k b are found =
    any-map (λ (c : Crash). nat_eq c.member k) (crash gs) vs ∙ any_same (λ v. nat_eq (crash gs v).member k) (λ v. nat_eq k (crash gs v).member) (λ v. nat_eq-sym (crash gs v).member k) vs
    ∙ sym (any-map (nat_eq k) (λ v. (crash gs v).member) vs) ∙ ap (list_any (nat_eq k)) (sym are) ∙ found

pub loop-i-init : goal.loop-i-init
loop-i-init c = record { members = c.new-members.ensures.empty; fine = refl }

pub returns-in-Ok-false-clause-err : goal.returns-in-Ok-false-clause-err
returns-in-Ok-false-clause-err c = λ _.
    let gs = c.args.roster.now in
    let list = c.args.list.now in
    let item = c.index-list-i.result in
    let again : list_any (nat_eq c.member.result) c.loop-i.members.keys ≡ true = broken_by (list_any (nat_eq c.member.result) c.loop-i.members.keys) c.in-Ok-false.field-0 c.in-Ok-false.ensures.added c.in-Ok-false.field-0-test in
    let mine : list_any (nat_eq (crash gs item).member) c.loop-i.members.keys ≡ true = ap (λ n. list_any (nat_eq n) c.loop-i.members.keys) (sym c.member.ensures) ∙ again in
    (c.in_item.ensures, pair_there is_same_member (crash gs) list c.loop-i.i item c.loop-i-test.true (sym c.index-list-i.is) (seen gs (take c.loop-i.i list) c.loop-i.members.keys (crash gs item).member true c.loop-i.invariant.members mine))

pub loop-i-preserved : goal.loop-i-preserved
loop-i-preserved c =
    let gs = c.args.roster.now in
    let list = c.args.list.now in
    let item = c.index-list-i.result in
    let i = c.loop-i.i in
    let old = c.loop-i.members.keys in
    let k = c.member.result in
    let fresh : list_any (nat_eq k) old ≡ false = fits_by (list_any (nat_eq k) old) c.in-Ok-true.field-0 c.in-Ok-true.ensures.added c.in-Ok-true.field-0-test in
    let mine : list_any (nat_eq (crash gs item).member) old ≡ false = ap (λ n. list_any (nat_eq n) old) (sym c.member.ensures) ∙ fresh in
    let keys : c.insert.new.self.keys ≡ old ++ k ∷ [] = c.in-Ok-true.ensures.keys ∙ ap (λ b. if b then old else old ++ k ∷ []) fresh in
    record {
      members = keys ∙ ap (λ ks. ks ++ k ∷ []) c.loop-i.invariant.members ∙ ap (λ n. map (λ v. (crash gs v).member) (take i list) ++ n ∷ []) c.member.ensures
          ∙ sym (map_more (λ v. (crash gs v).member) list i item c.loop-i-test.true ∙ ap (λ w. map (λ v. (crash gs v).member) (take i list) ++ (crash gs w).member ∷ []) (sym c.index-list-i.is));
      fine = pair_missing is_same_member (crash gs) list i item c.loop-i-test.true (sym c.index-list-i.is) (seen gs (take i list) old (crash gs item).member false c.loop-i.invariant.members mine) c.loop-i.invariant.fine;
    }
