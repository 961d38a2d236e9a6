use Rattle.board.specs.Sites.{table_of}
use Rattle.parallel_run.proofs.run.over_board.Given as goal

abbrev pub ghosts-at_board : goal.ghosts-at_board
ghosts-at_board g a = record { table = table_of a.board.now }
