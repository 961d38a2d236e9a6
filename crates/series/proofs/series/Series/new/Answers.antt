use Rattle.std.proofs.Common.{◌<◌, refl, sym, subst, ◌∙◌, lit<, []}
use Rattle.series.specs.Deaths.{AreMembers}
use Rattle.series.proofs.series.Series.new.Goals as goal

pub returns : goal.returns
returns c = record {
  counted = refl;
  width = c.of.ensures;
  sent = λ kind place span _ _. c.in_ok-make_room.ensures.same place span ∙ c.new-sent.ensures place span;
  lost = λ kind place span _ _. c.in_ok-make_room-2.ensures.same place span ∙ c.new-lost.ensures place span;
  health = c.in_ok-make_room-3.ensures.same 17 [] (c.new-health.ensures 17 (lit< tt));
  ready = λ member low. c.in_ok-make_room-3.ensures.room member (subst (λ n. member < n) (sym c.members.ensures.count) low);
  sent_room = c.in_ok-make_room.ensures.room;
  lost_room = c.in_ok-make_room-2.ensures.room;
  told = c.in_ok-stories.ensures.all;
  stories = c.in_ok-stories.ensures.told;
  deaths = c.in_ok-deaths.ensures.none;
  deaths_room = subst (λ n. AreMembers n c.in_ok-deaths.deaths) c.members-2.ensures.count c.in_ok-deaths.ensures.room;
}
