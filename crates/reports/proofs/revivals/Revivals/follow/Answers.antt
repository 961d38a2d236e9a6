use Rattle.reports.specs.Held.{failed_of, are_marked}
use Rattle.reports.proofs.Returning.{count-push, failed-push}
use Rattle.reports.proofs.revivals.Revivals.follow.Goals as goal

pub returns : goal.returns
returns c rows are =
    let row = c.args.row.now in
    let before = failed_of c.args.self.now in
    record {
      all = count-push _ _ c.is_back.result before rows row are.all c.from.ensures c.is_back.ensures are.held;
      held = failed-push before (are_marked c.see.new.failed) rows row are.held c.see.ensures;
    }
