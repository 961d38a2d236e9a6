use Rattle.std.proofs.Common.{sym, ◌∙◌}
use Rattle.std.proofs.lemmas.Bool.Decides.{Decides-eqb}
use Rattle.incidents.proofs.Clusters.{and_first, and_rest}
use Rattle.incidents.proofs.cluster.Cluster.is_same.Goals as goal

pub returns : goal.returns
returns c all =
    let rest = sym c.both.ensures ∙ and_rest _ _ (sym c.both-2.ensures ∙ all) in
    record {
      founders = sym c.deref.ensures.value ∙ c.same_founders-founders.ensures.0 (and_first _ _ (sym c.both-2.ensures ∙ all)) ∙ c.deref-2.ensures.value;
      troubles = sym c.deref-3.ensures.value ∙ c.same_troubles-troubles.ensures.0 (and_first _ _ rest) ∙ c.deref-4.ensures.value;
      reach = (Decides-eqb c.args.self.now.reach c.args.other.now.reach).0 (and_rest _ _ rest);
    }
