use Rattle.std.proofs.Common.{◌≡◌, ◌++◌, [], ◌<◌, ap, sym, subst, ◌∙◌, arith, take, flat_map}
use Rattle.std.specs.Prelude.{Option, IfSome}
use Rattle.std.specs.String.{string_bytes}
use Rattle.std.specs.Option.{option_map_or}
use Rattle.scenario.specs.Setup.{member_count}
use Rattle.series.specs.declared.accusers.Accusation.{Accusation}
use Rattle.false_deaths.specs.Causes.{accuser_item}
use Rattle.false_deaths.proofs.Naming.{at_named, told_next}
use Rattle.false_deaths.proofs.accusers.push_first.Goals as goal

pub push_at-requires : goal.push_at-requires
push_at-requires c =
    let s = c.args.scenario.now in
    let those = c.requires.those in
    subst (λ (o : Option Accusation). IfSome o (λ a. a.claim.member < member_count s)) (sym (c.at.ensures those.0 those.1)) (at_named (λ a. a.claim.member < member_count s) those.0 c.loop-place.place those.2)

pub loop-place-preserved : goal.loop-place-preserved
loop-place-preserved c list are =
    told_next (accuser_item c.args.time c.args.scenario.now) list c.loop-place.place _ _ _ (c.loop-place.invariant list are)
    (c.in_ok-push_at.ensures ∙ ap (λ (o : Option Accusation). string_bytes c.loop-place.text ++ option_map_or (accuser_item c.args.time c.args.scenario.now) o []) (c.at.ensures list are))

pub returns : goal.returns
returns c list are =
    let all : c.loop-place.place ≡ 4 = omega (arith, c.loop-place-test.false, c.loop-place.auto.place-end) in
    c.loop-place.invariant list are ∙ ap (λ n. string_bytes c.args.text.now ++ flat_map (accuser_item c.args.time c.args.scenario.now) (take n list)) all
