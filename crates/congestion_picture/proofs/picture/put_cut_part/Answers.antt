use Rattle.congestion_picture.proofs.picture.put_cut_part.Goals as goal

pub returns-in-Some-clause-puts : goal.returns-in-Some-clause-puts
returns-in-Some-clause-puts g c = rw c.in-Some.is (rw c.as_slice.ensures.value at c.put_cut.ensures.puts)
