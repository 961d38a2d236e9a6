use Rattle.std.proofs.Common.{◌≡◌, ◌<◌, ◌≤◌, List, ap, get_or, is_some, length, subst, sym, arith, rules}
use Rattle.std.specs.Prelude.{All}
use Rattle.std.specs.List.{insert}
use Rattle.table_merge.specs.Found.{AreApart, ShareSeed}
use Rattle.table_merge.specs.declared.finding.Found.{Found}
use Rattle.table_merge.proofs.Order.{insert_apart}
use Rattle.table_merge.proofs.ordering.take_in.Goals as goal

pub returns-in-Ok-clause-apart : goal.returns-in-Ok-clause-apart
returns-in-Ok-clause-apart c =
    let table = c.args.table in
    let old = c.args.tables.now.items in
    let at = c.insertion_place-at.result in
    let is : c.insert.new.self.items ≡ insert old at table = search rules in
    let same = c.deref-2.ensures.value in
    let none = subst (All (λ (f : Found). ¬ (ShareSeed f.seeds table.seeds))) c.deref.ensures.value (c.sharing.ensures.none (ap is_some c.in_default.is)) in
    subst (AreApart 0) (sym is)
    (insert_apart 0 old at table (omega arith) c.requires.ordered c.requires.apart none (subst (λ (l : List Found). at ≤ length l) same c.insertion_place-at.ensures.within)
    (λ k d less. subst (λ (l : List Found). (get_or l k d).seeds.first < table.seeds.first) same (c.insertion_place-at.ensures.before k d less))
    (λ d less. subst (λ (l : List Found). table.seeds.first ≤ (get_or l at d).seeds.first) same
    (c.insertion_place-at.ensures.behind d (subst (λ (l : List Found). at < length l) (sym same) less))))
