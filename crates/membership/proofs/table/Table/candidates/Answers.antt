use Rattle.std.proofs.Common.{◌≡◌, ◌+◌, length, ap, ◌∙◌, arith}
use Rattle.membership.specs.Numbers.{numbers_of}
use Rattle.membership.specs.Deaths.{since_of}
use Rattle.membership.specs.Candidates.{does_fit, candidates_of}
use Rattle.membership.specs.Held.{claims_in}
use Rattle.membership.proofs.Sides.{all_listed, taken_is, dropped_is}
use Rattle.membership.proofs.table.Table.candidates.Goals as goal

pub returns : goal.returns
returns c =
    let incs = (numbers_of c.self.inside.incs) in
    let claims = c.self.inside.claims.items in
    let at : c.from-place.result ≡ c.args.own = c.from-place.ensures ∙ c.own.view_is in
    let long : c.len-end.result ≡ length claims = omega (arith, c.len-end.ensures) in
    let next : c.from-place.result + 1 ≡ c.args.own + 1 = omega (arith, at) in
    all_listed incs (does_fit c.args.fitting.now (since_of c.args.deaths.now)) (claims_in claims) _ _ c.args.own (c.from-place.result + 1) c.in_ok-them.them.items c.append_known.new.them.items c.push.new.self.items
    c.append_known-2.new.them.items c.in_ok-them.ensures.items
    (taken_is c.deref.result.now claims c.min.result c.from-place.result c.args.own c.len-end.result c.deref.ensures.value c.min.ensures at long)
    (dropped_is c.deref-2.result.now claims c.min-2.result (c.from-place.result + 1) (c.args.own + 1) c.len-end.result c.deref-2.ensures.value c.min-2.ensures next long)
    next (c.in_ok-append_known.ensures incs) c.in_ok-push.ensures.items (c.in_ok-append_known-2.ensures incs)
    ∙ ap (candidates_of c.args.own (does_fit c.args.fitting.now (since_of c.args.deaths.now))) c.self.view_is
