use Rattle.std.proofs.Common.{◌∙◌, sym}
use Rattle.trace.specs.declared.row.What.TheVariants as what
use Rattle.reports.proofs.Detections.{tells_of-other, tells_of-it, has_kind-same, has_kind-not, same_detection, suspect_detection, confirm_detection}
use Rattle.reports.proofs.departure.Detection.see.Goals as goal

pub returns-then-not-is_about : goal.returns-then-not-is_about
returns-then-not-is_about c =
    same_detection c.args.member c.args.row.now c.args.self.now
    (tells_of-other what.Suspect c.args.member c.args.row.now (sym c.is_about.ensures ∙ c.if-not-is_about.true))
    (tells_of-other what.Confirm c.args.member c.args.row.now (sym c.is_about.ensures ∙ c.if-not-is_about.true))

pub returns-in-Suspect : goal.returns-in-Suspect
returns-in-Suspect c =
    suspect_detection c.args.member c.args.row.now c.args.self.now _
    (tells_of-it what.Suspect c.args.member c.args.row.now (sym c.is_about.ensures ∙ c.if-not-is_about.false) ∙ has_kind-same what.Suspect what.Suspect c.args.row.now c.in-Suspect.is)
    (tells_of-it what.Confirm c.args.member c.args.row.now (sym c.is_about.ensures ∙ c.if-not-is_about.false) ∙ has_kind-same what.Suspect what.Confirm c.args.row.now c.in-Suspect.is)
    c.suspect_at.ensures

pub returns-in-Confirm : goal.returns-in-Confirm
returns-in-Confirm c =
    confirm_detection c.args.member c.args.row.now c.args.self.now _
    (tells_of-it what.Suspect c.args.member c.args.row.now (sym c.is_about.ensures ∙ c.if-not-is_about.false) ∙ has_kind-same what.Confirm what.Suspect c.args.row.now c.in-Confirm.is)
    (tells_of-it what.Confirm c.args.member c.args.row.now (sym c.is_about.ensures ∙ c.if-not-is_about.false) ∙ has_kind-same what.Confirm what.Confirm c.args.row.now c.in-Confirm.is)
    c.confirm_at.ensures

pub returns-in_default : goal.returns-in_default
returns-in_default c =
    same_detection c.args.member c.args.row.now c.args.self.now
    (tells_of-it what.Suspect c.args.member c.args.row.now (sym c.is_about.ensures ∙ c.if-not-is_about.false) ∙ has_kind-not what.Suspect c.args.row.now c.in_default.not-Suspect)
    (tells_of-it what.Confirm c.args.member c.args.row.now (sym c.is_about.ensures ∙ c.if-not-is_about.false) ∙ has_kind-not what.Confirm c.args.row.now c.in_default.not-Confirm)
