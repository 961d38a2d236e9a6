use Rattle.parallel_run.proofs.WorkerEndings.{on_true, lot_of_run, later_gathered, gathered_rise}
use Rattle.parallel_run.proofs.connections.Connections.send_lot.Goals as goal

pub lot-requires : goal.lot-requires
lot-requires g c =
    let basis = c.requires.run.0 in
    let known = c.requires.run.1 in
    let there = c.requires.gathered basis known in
    record { rising = gathered_rise basis (c.requires.basis basis known) c.args.self.now.number there.0 c.args.gathered.now there.2 }

pub send-requires : goal.send-requires
send-requires g c = record {
  delivered = λ basis known.
      let there = c.requires.gathered basis known in
      let lot = c.in_ok-lot.ensures in
      lot_of_run basis (c.requires.basis basis known) c.args.self.now.number c.args.until there.0 c.args.gathered.now c.lot.new.self c.in_ok-lot.lot there.1 there.2 lot.moments lot.rows lot.before lot.later
      c.args.round c.args.last (λ ends. on_true c.args.last c.requires.lasted ends basis known) lot.from lot.round lot.last;
}

pub returns-then-send-clause-gathered : goal.returns-then-send-clause-gathered
returns-then-send-clause-gathered g c = λ basis to known far gathers.
    let lot = c.in_ok-lot.ensures in
    later_gathered basis (c.requires.basis basis known) c.args.self.now.number c.args.until to c.args.gathered.now c.lot.new.self c.in_ok-lot.lot far gathers lot.moments lot.rows lot.before lot.later lot.since
