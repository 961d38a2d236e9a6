use Rattle.std.proofs.Common.{◌≡◌, ◌<◌, ◌+◌, ◌++◌, ◌∷◌, [], length, map, string_bytes, take, get_or, sym, ap, ◌∙◌, subst, arith}
use Rattle.std.specs.List.{AllZip}
use Rattle.std.proofs.lemmas.List.{length-map, get_or-map, take_all}
use Rattle.std.proofs.lemmas.List.Elements.{all_zip_more}
use Rattle.scenario.specs.Labels.{IsLabelOf}
use Rattle.scenario.proofs.labels.labels_of.Goals as goal

pub loop-name-preserved : goal.loop-name-preserved
loop-name-preserved c =
    let names = c.args.names.now in
    let i = c.loop-name.name-index in
    let name = c.name-item.result in
    let within : i < length (map string_bytes names) = omega (arith, length-map names string_bytes, c.loop-name-test.true) in
    subst (AllZip IsLabelOf (take (i + 1) (map string_bytes names))) (sym c.in_ok-push.ensures.items)
    (all_zip_more IsLabelOf (map string_bytes names) c.loop-name.labels.items i (string_bytes name) c.label_of.result within
    (ap string_bytes c.name-item.is ∙ sym (get_or-map string_bytes names i name (string_bytes name) c.loop-name-test.true)) c.loop-name.invariant
    (subst (λ n. IsLabelOf n c.label_of.result) c.as_bytes.ensures.value c.label_of.ensures))
