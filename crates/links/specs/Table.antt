-- What the table of links gives.
use Rattle.std.specs.Prelude.{ℕ, Bool}
use Rattle.scenario.specs.declared.settings.Link.{Link}
use Rattle.links.specs.Entries.{link_of_pair, route, spans_in, extra_in, outages_of_pair}
use Rattle.scenario.specs.Spells.{is_in_any}
use Rattle.links.specs.declared.table.Links.{Links}

-- the link that the table gives from one member to another
abbrev pub link_at : Links → ℕ → ℕ → Link
link_at l i j = link_of_pair l.groups.items l.link (route l.routes) i j

-- by how many ticks the table says that a member is slow at a moment
abbrev pub extra_at : Links → ℕ → ℕ → ℕ
extra_at l m t = extra_in (spans_in l.spans.items m) t

-- the table says that the link from one member to another is cut at a moment
abbrev pub is_cut_at : Links → ℕ → ℕ → ℕ → Bool
is_cut_at l i j t = is_in_any (outages_of_pair l.groups.items l.outages.entries i j) t
