use Rattle.std.proofs.Common.{ap, ◌∙◌, subst}
use Rattle.member.specs.Effects.{Effect}
use Rattle.member.specs.Beginnings.{setting_set, reconnect_set, alone_begun}
use Rattle.member.specs.CounterOverflow.{IsOverflowed}
use Rattle.member.proofs.CounterOverflow.{refused}
use Rattle.member.proofs.ProcessOverflow.{kept_asked, kept_setting, kept_reconnect}
use Rattle.member.proofs.member.Member.begin_alone.Goals as goal

pub returns-in_err-set_own_beats : goal.returns-in_err-set_own_beats
unfolding alone_begun
returns-in_err-set_own_beats c =
    let s = c.args.here.now.scenario.now in
    let k = c.args.here.now.key in
    refused _ _ c.from_residual.ensures.1 (λ h. kept_asked s k c.args.contact _ (kept_reconnect s k s.serf _ (kept_setting s k s.gossip _ (c.in_err-set_own_beats.ensures.overflow h))))

pub returns-in_err-set_setting : goal.returns-in_err-set_setting
unfolding alone_begun
returns-in_err-set_setting c =
    let s = c.args.here.now.scenario.now in
    let k = c.args.here.now.key in
    refused _ _ c.from_residual-in_err-set_setting.ensures.1 (λ h. kept_asked s k c.args.contact _ (kept_reconnect s k s.serf _
    (subst (λ (o : Effect). IsOverflowed (setting_set s k s.gossip o).state) c.in_ok-set_own_beats.ensures.ok (c.in_err-set_setting.ensures.overflow h))))

pub returns-in_err-set_reconnect : goal.returns-in_err-set_reconnect
unfolding alone_begun
returns-in_err-set_reconnect c =
    let s = c.args.here.now.scenario.now in
    let k = c.args.here.now.key in
    refused _ _ c.from_residual-in_err-set_reconnect.ensures.1 (λ h. kept_asked s k c.args.contact _
    (subst (λ (o : Effect). IsOverflowed (reconnect_set s k s.serf o).state) (c.in_ok-set_setting.ensures.ok ∙ ap (setting_set s k s.gossip) c.in_ok-set_own_beats.ensures.ok) (c.in_err-set_reconnect.ensures.overflow h)))
