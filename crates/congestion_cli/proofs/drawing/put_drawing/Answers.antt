use Rattle.congestion_cli.proofs.drawing.put_drawing.Goals as goal

pub returns-in-Picture-clause-puts : goal.returns-in-Picture-clause-puts
returns-in-Picture-clause-puts g c = rw c.in-Picture.is c.put_picture.ensures.puts

pub returns-in-Table-clause-puts : goal.returns-in-Table-clause-puts
returns-in-Table-clause-puts g c = rw c.in-Table.is (rw c.as_slice.ensures.value at c.put_table.ensures.puts)
