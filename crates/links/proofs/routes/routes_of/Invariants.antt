use Rattle.std.proofs.Common.{◌≡◌, ℕ, ◌≤◌, List, map, take, length}
use Rattle.std.specs.List.{filter}
use Rattle.std.specs.Option.{unwrap_or}
use Rattle.scenario.specs.Setup.{leads, last_link}
use Rattle.scenario.specs.declared.settings.Link.{Link}
use Rattle.scenario.specs.declared.settings.Path.{Path}
use Rattle.links.specs.Entries.{number_in, route}
use Rattle.links.specs.declared.routes.Routes.{Routes}
use Rattle.links.proofs.routes.routes_of.Given as goal

-- each number is that of a link, and each two groups have the link of the last of these paths that joins them
pub record HasPaths (routes : Routes) (paths : List Path) : Type 0 where
  pub small : (from to : ℕ) → number_in routes.rows.items from to ≤ length routes.links.items
  pub last : (link : Link) (from to : ℕ) → unwrap_or (route routes from to) link ≡ last_link link (map (λ p. p.link) (filter (leads from to) paths))

-- the table has the paths so far
abbrev pub invariant-loop-path : goal.invariant-loop-path
invariant-loop-path l = HasPaths l.routes (take l.path-index l.paths)
