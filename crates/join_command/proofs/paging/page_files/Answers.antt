use Rattle.std.proofs.Common.{◌<◌, List, inr, sym, subst}
use Rattle.std.specs.Prelude.{None}
use Rattle.std.specs.Borrow.{Bor}
use Rattle.figures.proofs.Handing.{if_err_then}
use Rattle.clap.specs.Words.{Text}
use Rattle.files.specs.Files.{Making}
use Rattle.scenario_files.specs.Shelves.{Shelf}
use Rattle.join_command.specs.Outcomes.{FailsToStorePage, GathersSettings, StoresPage}
use Rattle.join_command.proofs.Held.{on_ok_then}
use Rattle.join_command.proofs.paging.page_files.Goals as goal

pub returns-clause-done : goal.returns-clause-done
returns-clause-done g c =
    let known = g.F.Files.known in
    let words = c.args.words.now in
    let release = c.args.release.now.version.now in
    let joined = c.in_ok-joined.joined in
    let came = c.in_ok-joined.ensures in
    let after = known c.store_page.new.files in
    let gathered = subst (λ (names : List (Bor Text)). GathersSettings (known c.args.files.now) names None None joined.plan joined.columns joined.settings.items) c.as_slice.ensures.value came.gathered in
    on_ok_then _ _ c.store_page.result c.store_page.ensures.done (λ stored. record {
      plan = joined.plan;
      columns = joined.columns;
      settings = joined.settings.items;
      gathered = gathered;
      stored = subst (λ (shelf : Shelf). StoresPage release shelf after (g.F.Files.making c.args.files.now) words joined.plan joined.settings.items) came.same
          (subst (λ (making : Making). StoresPage release (known c.gather.new.files) after making words joined.plan joined.settings.items) came.making stored);
    })

pub returns-clause-failed : goal.returns-clause-failed
returns-clause-failed g c =
    let known = g.F.Files.known in
    let words = c.args.words.now in
    let release = c.args.release.now.version.now in
    let joined = c.in_ok-joined.joined in
    let came = c.in_ok-joined.ensures in
    let after = known c.store_page.new.files in
    let refused = g.F.Files.refused c.store_page.new.files in
    let gathered = subst (λ (names : List (Bor Text)). GathersSettings (known c.args.files.now) names None None joined.plan joined.columns joined.settings.items) c.as_slice.ensures.value came.gathered in
    if_err_then c.store_page.result _ _ c.store_page.ensures.failed (λ failure failed. inr (record {
      release = release;
      plan = joined.plan;
      columns = joined.columns;
      settings = joined.settings.items;
      gathered = gathered;
      failed = subst (λ n. FailsToStorePage (n < refused) release (known c.args.files.now) after (g.F.Files.making c.args.files.now) words joined.plan joined.settings.items failure) came.counted
          (subst (λ (shelf : Shelf). FailsToStorePage (g.F.Files.refused c.gather.new.files < refused) release shelf after (g.F.Files.making c.args.files.now) words joined.plan joined.settings.items failure) came.same
          (subst (λ (making : Making). FailsToStorePage (g.F.Files.refused c.gather.new.files < refused) release (known c.gather.new.files) after making words joined.plan joined.settings.items failure) came.making failed));
    }))
