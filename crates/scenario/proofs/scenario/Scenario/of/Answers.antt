use Rattle.std.proofs.Common.{◌≡◌, map, string_bytes, sym, ap, ◌∙◌, subst, List}
use Rattle.scenario.specs.Labels.{IsLabelOf}
use Rattle.std.specs.List.{range_with_len, list_any, AllZip}
use Rattle.scenario.specs.Setup.{group_at, member_count, is_in_pause}
use Rattle.scenario.specs.Script.{script_in}
use Rattle.scenario.specs.SetupOf.{group_of, setup_in}
use Rattle.scenario.specs.declared.settings.Group.{Group as Stored}
use Rattle.scenario.proofs.Names.{length-names}
use Rattle.scenario.proofs.scenario.Scenario.of.Goals as goal

pub invariant_of-result : goal.invariant_of-result
invariant_of-result c =
    let s = setup_in c.args.contents in
    let counted : c.len-members.result ≡ member_count s =
    c.len-members.ensures ∙ c.args.contents.names.ok.0 ∙ length-names c.args.contents.names.items s c.requires.named in
    record {
      names = c.requires.named;
      sound = c.requires.sound;
      numbers =
          c.in_ok-numbers.ensures ∙ ap (λ (gs : List Stored). map (group_at (map group_of gs)) (range_with_len 0 c.len-members.result)) c.as_slice.ensures.value
          ∙ ap (λ n. map (group_at s.groups) (range_with_len 0 n)) counted;
      naps = λ m t. c.in_ok-naps.ensures m t ∙ ap (list_any (is_in_pause m t)) c.as_slice-2.ensures.value;
      calendar = λ m t is. c.in_ok-calendar.ensures m t (
          ap (list_any (is_in_pause m t)) (c.as_slice-3.ensures.value ∙ sym c.as_slice-2.ensures.value) ∙ sym (c.in_ok-naps.ensures m t) ∙ is
          );
      stops = λ m t. c.in_ok-stops.ensures m t ∙ ap (list_any (is_in_pause m t)) c.as_slice-4.ensures.value;
      scripts = λ m. c.in_ok-scripts.ensures m ∙ (λ i. script_in (c.as_slice-5.ensures.value i) (c.as_slice-6.ensures.value i) (c.as_slice-7.ensures.value i) m);
      labels = subst (λ names. AllZip IsLabelOf names c.in_ok-labels.labels.items) (ap (map string_bytes) c.as_slice-8.ensures.value ∙ c.requires.named) c.in_ok-labels.ensures;
    }
