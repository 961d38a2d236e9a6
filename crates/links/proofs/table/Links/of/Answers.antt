use Rattle.std.proofs.Common.{◌≤◌, ◌^◌, ap, ◌∙◌, length, subst, sym}
use Rattle.std.proofs.lemmas.List.FromFn.{length-map-range_with_len}
use Rattle.std.specs.List.{list_any}
use Rattle.scenario.specs.Setup.{group_at, member_count, is_slow, cuts_off}
use Rattle.scenario.specs.declared.settings.StreamTimes.{StreamTimes}
use Rattle.links.specs.Entries.{route, spans_in, extra_in}
use Rattle.links.proofs.Served.{routes_of_all, outages_of_all, links_are, links_sound, cuts_are, extras_small}
use Rattle.links.proofs.Calendars.{not_slow, not_cut}
use Rattle.links.proofs.table.Links.of.Goals as goal

pub invariant_of-result : goal.invariant_of-result
invariant_of-result c =
    let s = c.args.scenario.now in
    let last = routes_of_all s c.paths.result.now (route c.in_ok-routes_of.field-0) c.paths.ensures c.in_ok-routes_of.ensures in
    let cuts = outages_of_all s c.cuts.result.now c.in_ok-outages_of.field-0.entries c.cuts.ensures.value c.in_ok-outages_of.ensures in
    record {
      links_sound = links_sound s c.in_ok-groups_of.field-0.items c.link.result (route c.in_ok-routes_of.field-0) c.in_ok-groups_of.ensures c.link.ensures.value last c.link.ensures.sound;
      waits_sound = (
        subst (λ (x : StreamTimes). x.connect ≤ 2 ^ 24) (sym c.stream-stream.ensures.value) c.stream-stream.ensures.sound.connect.1,
        subst (λ (x : StreamTimes). x.again ≤ 2 ^ 24) (sym c.stream-stream.ensures.value) c.stream-stream.ensures.sound.again.1,
      );
      extras_sound = extras_small s c.in_ok-times_of.field-0.items c.in_ok-times_of.ensures c.link.ensures.sound;
      slows_noted = λ m t. not_slow c.in_ok-calendar_of_slows.field-0 s.version s.slows m t (extra_in (spans_in c.in_ok-times_of.field-0.items m) t)
          (λ n u is. c.in_ok-calendar_of_slows.ensures n u (ap (list_any (is_slow n u)) c.slows.ensures ∙ is)) (c.in_ok-times_of.ensures m t);
      cuts_noted = λ from to t. not_cut c.in_ok-calendar_of_cuts.field-0 s.cuts c.in_ok-outages_of.field-0.entries from to t
          (λ f g u is. c.in_ok-calendar_of_cuts.ensures f g u (ap (list_any (cuts_off f g u)) c.cuts-2.ensures.value ∙ is)) (cuts from to t);
    }

pub returns : goal.returns
returns c =
    let s = c.args.scenario.now in
    let last = routes_of_all s c.paths.result.now (route c.in_ok-routes_of.field-0) c.paths.ensures c.in_ok-routes_of.ensures in
    let cuts = outages_of_all s c.cuts.result.now c.in_ok-outages_of.field-0.entries c.cuts.ensures.value c.in_ok-outages_of.ensures in
    record {
      members = ap length c.in_ok-groups_of.ensures ∙ length-map-range_with_len (group_at s.groups) 0 (member_count s);
      some = c.link.ensures.sound.members.0;
      links = links_are s c.in_ok-groups_of.field-0.items c.link.result (route c.in_ok-routes_of.field-0) c.in_ok-groups_of.ensures c.link.ensures.value last;
      cuts = cuts_are s c.in_ok-groups_of.field-0.items c.in_ok-outages_of.field-0.entries c.in_ok-groups_of.ensures cuts;
      extras = c.in_ok-times_of.ensures;
      connect = ap (λ (x : StreamTimes). x.connect) c.stream-stream.ensures.value;
      again = ap (λ (x : StreamTimes). x.again) c.stream-stream.ensures.value;
    }
