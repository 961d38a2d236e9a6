use Rattle.std.proofs.Common.{◌≡◌, ◌==◌, get_or, length, ◌<◌, true, false, if◌then◌else◌, refl, sym, ap, arith}
use Rattle.std.proofs.lemmas.Bool.Decides.{nat_tests}
use Rattle.partitioning.proofs.Joining.{all_joined, one_more}
use Rattle.partitioning.proofs.sites.join.Goals.{then-site-gone, else-site-gone}
use Rattle.partitioning.proofs.sites.join.Goals as goal

pub loop-site-init : goal.loop-site-init
loop-site-init c = refl

pub loop-site-preserved : goal.loop-site-preserved
loop-site-preserved c =
    let old = c.args.sites.now in
    let kept = get_or old c.args.group 0 in
    let gone = get_or old c.args.other 0 in
    let next = c.loop-site.site-index in
    let sites = c.loop-site.sites in
    let site = get_or sites next 0 in
    let within : next < length old = c.loop-site-test.true in
    elim c.if-site-gone.branch [
      | then-site-gone w ↦
          let test : (site == gone) ≡ true = grind (arith, nat_tests, w.if-site-gone.true) in
          one_more kept gone old next kept sites c.if-site-gone.sites within c.loop-site.invariant (sym (ap (λ b. if b then kept else site) test)) w.sites-is
      | else-site-gone w ↦
          let test : (site == gone) ≡ false = grind (arith, nat_tests, w.if-site-gone.false) in
          one_more kept gone old next site sites c.if-site-gone.sites within c.loop-site.invariant (sym (ap (λ b. if b then kept else site) test)) w.sites-is
    ]

pub returns : goal.returns
returns c =
    let old = c.args.sites.now in
    all_joined (get_or old c.args.group 0) (get_or old c.args.other 0) old c.loop-site.site-index c.loop-site.sites (omega (arith, c.loop-site-test.false)) c.loop-site.invariant
