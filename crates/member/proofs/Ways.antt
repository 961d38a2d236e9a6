-- The ways of messages where processes are blocked: what was drawn, and that nothing gets through before it is there.
use Rattle.std.proofs.Common.{◌≡◌, ℕ, ◌+◌, ◌<◌, ◌≤◌, Bool, true, false, cond, Option, Some, None, ap, ◌∙◌, subst, arith}
use Rattle.std.specs.Option.{IfSome}
use Rattle.base.specs.declared.key.Key.{Key}
use Rattle.base.specs.declared.profile.Profile.{Profile}
use Rattle.base.specs.declared.profile.Profile.TheVariants.{Papers, Memberlist, Hashicorp}
use Rattle.scenario.specs.Setup.{Setup, free}
use Rattle.scenario.proofs.Pauses.{is_awake_at, with_blocks, free_is}
use Rattle.streams.specs.Draw.{Words}
use Rattle.member.specs.Blocks.{Way, departs_by, got_through_by, on_its_way}

-- when a message is there that departs at a moment, and when it gets through
pub drawn_on_way : (profile : Profile) (s : Setup) (k : Key) (to : ℕ) (way : Way) (words rest : Words) (departs : ℕ) (arrival got : Option ℕ) → departs ≡ departs_by profile s k
    → (arrival, rest) ≡ way departs words → got ≡ got_through_by profile s to arrival → (got, rest) ≡ on_its_way profile s k to way words
drawn_on_way profile s k to way words rest departs arrival got at drawn through =
    let there : (arrival, rest) ≡ way (departs_by profile s k) words = drawn ∙ ap (λ d. way d words) at in
    ap (λ (g : Option ℕ). (g, rest)) through ∙ ap (λ (p : Option ℕ × Words). (got_through_by profile s to p.0, p.1)) there

-- a moment up to another one
pub by_then : (o : Option ℕ) (now limit most : ℕ) → IfSome o (λ at. at ≤ now + limit) → now + limit ≤ most → IfSome o (λ at. at ≤ most)
by_then None now limit most h short = tt
by_then (Some at) now limit most h short = omega (arith, h, short)

-- who is blocked is free later
pub free_later : (s : Setup) (m t : ℕ) → t ≤ free s m t
free_later s m t = subst (λ u. t ≤ u) (free_is s m t) (is_awake_at (with_blocks s) m t).later

pub departs_later : (profile : Profile) (s : Setup) (k : Key) → k.at ≤ departs_by profile s k
departs_later Papers s k = omega arith
departs_later Memberlist s k = omega arith
departs_later Hashicorp s k = free_later s k.to k.at

pub through_later : (profile : Profile) (s : Setup) (to d : ℕ) (o : Option ℕ) → IfSome o (λ at. d ≤ at) → IfSome (got_through_by profile s to o) (λ at. d ≤ at)
through_later Papers s to d o from = from
through_later Memberlist s to d o from = from
through_later Hashicorp s to d None from = tt
through_later Hashicorp s to d (Some at) from = let later = free_later s to at in omega (arith, from, later)

-- what is there after a moment
pub after : (o : Option ℕ) (now d : ℕ) → now < d → IfSome o (λ at. d ≤ at) → IfSome o (λ at. now < at)
after None now d h from = tt
after (Some at) now d h from = omega (arith, h, from)

pub choice_later : (b : Bool) (at d : ℕ) → d ≤ at → IfSome (cond {A = Option ℕ} b (Some at) None) (λ a. d ≤ a)
choice_later true at d h = h
choice_later false at d h = tt
