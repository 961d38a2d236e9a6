use Rattle.piggyback.proofs.Sorting.{pairwise_from_distinct, count_by-in_order, in_order-is, pairs_in_order, place_in_order}
use Rattle.piggyback.proofs.laws.order_of_distinct_updates.Goals as goal

pub returns-clause-complete : goal.returns-clause-complete
returns-clause-complete c these distinct p = count_by-in_order p these (pairwise_from_distinct these distinct)

pub returns-clause-sorted : goal.returns-clause-sorted
returns-clause-sorted c these distinct = pairs_in_order _ (in_order-is these (pairwise_from_distinct these distinct))

pub returns-clause-places : goal.returns-clause-places
returns-clause-places c these distinct = place_in_order these (pairwise_from_distinct these distinct)
