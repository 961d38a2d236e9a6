use Rattle.broadcast_queue.specs.Lengths.{carrier_bytes}
use Rattle.broadcast_queue.proofs.Picks.{nothing_or_within}
use Rattle.broadcast_queue.proofs.laws.a_pick_by_bytes_fits_into_its_packet.Goals as goal

pub returns : goal.returns
returns c packet carrier items = nothing_or_within packet (carrier_bytes carrier) items
