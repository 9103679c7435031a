use Rattle.load_table.proofs.handing.split.Given as goal

abbrev pub ghosts-split_as : goal.ghosts-split_as
ghosts-split_as a = record { allot = a.allot; given = a.given.now }
