-- From each state of a drive there is one way on, but for the answer.
use Rattle.std.proofs.Common.{◌≡◌, inl, inr, ℕ, List, [], ◌∷◌, Option, Some, ap, ◌∙◌, sym}
use Rattle.std.specs.FinMap.{get}
use Rattle.base.specs.declared.key.Key.{Key}
use Rattle.base.specs.Order.{same_key}
use Rattle.base.specs.World.{World}
use Rattle.scenario.specs.Setup.{Setup}
use Rattle.drive_events.specs.declared.content.Content.{Content}
use Rattle.drive_answers.specs.declared.action.Action.{Action}
use Rattle.drive_process.specs.Process.{Process}
use Rattle.drive_world.specs.Telling.{Drive, fate_of}
use Rattle.drive_world.specs.Courses.{Move, Moves, Tells, Takes, take, move_by}

one_content : (w : World Process Content) (k l : Key) (c d : Content) → k ≡ l → get w.pending k ≡ Some c → get w.pending l ≡ Some d → c ≡ d
one_content w k l c d same here there = let both : Some c ≡ Some d = sym here ∙ ap (get w.pending) same ∙ there in cc

module _ (s : Setup) (least_delay : Option ℕ) (d : Drive) (m n : Move) where
  both_tell : Tells s least_delay d m → Tells s least_delay d n → m ≡ n
  both_tell a b =
      let key : a.key ≡ b.key = same_key a.key b.key (b.next.least a.key a.next.may) (a.next.least b.key b.next.may) in
      let content : a.content ≡ b.content = one_content d.world a.key b.key a.content b.content key a.here b.here in
      a.move ∙ (λ i. move_by (fate_of d.world (key i) (content i)) s d (key i) (content i)) ∙ sym b.move

  both_take : Takes s least_delay d m → Takes s least_delay d n → m.taken ≡ n.taken → m ≡ n
  both_take a b taken =
      let waiting : a.key ∷ a.others ≡ b.key ∷ b.others = sym a.first ∙ b.first in
      let key : a.key ≡ b.key = cc in
      let others : a.others ≡ b.others = cc in
      let content : a.content ≡ b.content = one_content d.world a.key b.key a.content b.content key a.here b.here in
      let list : (a.line, a.actions) ∷ [] ≡ (b.line, b.actions) ∷ [] = sym (ap (λ (x : Move). x.taken) a.move) ∙ taken ∙ ap (λ (x : Move). x.taken) b.move in
      let same : (a.line, a.actions) ≡ (b.line, b.actions) = cc in
      a.move
      ∙ (λ i. take s d (key i) (content i) (others i) (ap (λ (p : List ℕ × List Action). p.0) same i) (ap (λ (p : List ℕ × List Action). p.1) same i))
      ∙ sym b.move

  pub one_way : Moves s least_delay d m → Moves s least_delay d n → m.taken ≡ n.taken → m ≡ n
  one_way (inl a) (inl b) taken = both_tell a b
  one_way (inl a) (inr b) taken = absurd (b.none a.key a.next.may)
  one_way (inr a) (inl b) taken = absurd (a.none b.key b.next.may)
  one_way (inr a) (inr b) taken = both_take a b taken
