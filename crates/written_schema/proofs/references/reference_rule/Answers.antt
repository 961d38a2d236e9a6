use Rattle.std.proofs.Common.{ℕ, List, Option, min, ap, subst, ◌∙◌}
use Rattle.toml.specs.Data.{Data}
use Rattle.toml.specs.View.{view}
use Rattle.written_schema.specs.Lowest.{Lowest}
use Rattle.written_schema.specs.References.{IsContactRule, IsCutRule, IsPathRule, IsTimeoutRule}
use Rattle.written_schema.proofs.Lowest.{lowest_seen}
use Rattle.written_schema.proofs.references.reference_rule.Goals as goal

pub returns : goal.returns
returns c =
    let roster = c.args.roster.now in
    let contacts = c.contacts_rule-contacts.result in
    let paths = c.paths_rule-paths.result in
    let cuts = c.cuts_rule-cuts.result in
    let timeout = c.timeout_rule-timeout.result in
    record {
      contacts = contacts;
      paths = paths;
      cuts = cuts;
      timeout = timeout;
      of_contacts =
          subst (λ (ds : List Data). Lowest (IsContactRule c.args.tick roster) ds contacts) c.items_at.ensures
          (lowest_seen (IsContactRule c.args.tick roster) view c.items_at.result.now contacts c.contacts_rule-contacts.ensures);
      of_paths =
          subst (λ (ds : List Data). Lowest (IsPathRule roster) ds paths) c.items_at-2.ensures
          (lowest_seen (IsPathRule roster) view c.items_at-2.result.now paths c.paths_rule-paths.ensures);
      of_cuts =
          subst (λ (ds : List Data). Lowest (IsCutRule c.args.tick roster) ds cuts) c.items_at-3.ensures
          (lowest_seen (IsCutRule c.args.tick roster) view c.items_at-3.result.now cuts c.cuts_rule-cuts.ensures);
      of_timeout = subst (λ (swim : Option Data). IsTimeoutRule c.args.tick swim timeout) c.get.ensures c.timeout_rule-timeout.ensures;
      lowest = c.min-3.ensures ∙ ap (λ (n : ℕ). min n timeout) (c.min-2.ensures ∙ ap (λ (n : ℕ). min n cuts) c.min.ensures);
    }
