use Rattle.std.proofs.Common.{◌≡◌, ◌<◌, ◌≤◌, ℕ, List, length, take, false, refl, ap, subst, ◌∙◌, arith}
use Rattle.std.proofs.lemmas.Bool.{false≢true}
use Rattle.std.proofs.lemmas.List.{take_all}
use Rattle.incidents.specs.OpenPlaces.{places_of, is_among}
use Rattle.incidents.specs.Lines.{AreSeen, AreLeft}
use Rattle.incidents.proofs.Listing.{seen_more, left_more}
use Rattle.incidents.proofs.lines.see_open.Goals as goal

pub loop-nth-init : goal.loop-nth-init
loop-nth-init c = record {
  long = refl;
  seen = λ count p k d few low within among line. absurd (false≢true among);
  left = λ k d none. refl;
}

pub see_one-requires : goal.see_one-requires
see_one-requires c =
    let here : c.loop-nth.nth < length (places_of c.args.open_places.now c.args.member) = omega (arith, c.loop-nth-test.true, c.loop-nth.auto.nth-end, c.count-nth-end.ensures) in
    let low = c.requires.low c.loop-nth.nth 0 here in
    omega (arith, low, c.place.ensures, c.loop-nth.invariant.long)

pub loop-nth-preserved : goal.loop-nth-preserved
loop-nth-preserved c =
    let places : List ℕ = places_of c.args.open_places.now c.args.member in
    let nth = c.loop-nth.nth in
    let here : nth < length places = omega (arith, c.loop-nth-test.true, c.loop-nth.auto.nth-end, c.count-nth-end.ensures) in
    let apart : is_among c.place.result (take nth places) ≡ false = ap (λ q. is_among q (take nth places)) c.place.ensures ∙ c.requires.apart nth 0 here in
    record {
      long = c.see_one.ensures.long ∙ c.loop-nth.invariant.long;
      seen =
          seen_more c.args.row.now c.args.lines.now.items c.loop-nth.lines.items c.see_one.new.lines.items places nth c.place.result c.place.ensures here apart
          c.loop-nth.invariant.seen c.loop-nth.invariant.left c.see_one.ensures.here c.see_one.ensures.left;
      left =
          left_more c.args.lines.now.items c.loop-nth.lines.items c.see_one.new.lines.items places nth c.place.result c.place.ensures here
          c.loop-nth.invariant.left c.see_one.ensures.left;
    }

pub returns-clause-seen : goal.returns-clause-seen
returns-clause-seen c =
    let places : List ℕ = places_of c.args.open_places.now c.args.member in
    let past : length places ≤ c.loop-nth.nth = omega (arith, c.loop-nth-test.false, c.loop-nth.auto.nth-end, c.count-nth-end.ensures) in
    subst (AreSeen c.args.row.now c.args.lines.now.items c.loop-nth.lines.items) (take_all c.loop-nth.nth places past) c.loop-nth.invariant.seen

pub returns-clause-left : goal.returns-clause-left
returns-clause-left c =
    let places : List ℕ = places_of c.args.open_places.now c.args.member in
    let past : length places ≤ c.loop-nth.nth = omega (arith, c.loop-nth-test.false, c.loop-nth.auto.nth-end, c.count-nth-end.ensures) in
    subst (AreLeft c.args.lines.now.items c.loop-nth.lines.items) (take_all c.loop-nth.nth places past) c.loop-nth.invariant.left
