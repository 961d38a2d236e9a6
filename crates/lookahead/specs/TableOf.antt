-- What callers see of the horizons.
use Rattle.lookahead.specs.declared.table.Horizons.TheInside.{Inside}
use Rattle.lookahead.specs.Walks.{Table}

abbrev pub table_of : Inside → Table
table_of h = record { parts = h.parts; lengths = h.lengths }
