use Rattle.drive_command.proofs.making.close_files.Goals as goal

pub returns-clause-closed : goal.returns-clause-closed
returns-clause-closed g c =
    let known = g.F.Files.known in
    record {
      one = known c.close.new.self;
      two = known c.close_asked.new.files;
      trace_closed = c.close.ensures.closed;
      others = c.close.ensures.others;
      report_closed = c.close_asked.ensures.closed;
      page_closed = c.close_asked-2.ensures.closed;
    }
