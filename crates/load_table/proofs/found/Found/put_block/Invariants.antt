use Rattle.load_table.specs.Blocks.{ArePut}
use Rattle.load_table.proofs.found.Found.put_block.Given as goal

-- the values so far are put
abbrev pub invariant-loop-k : goal.invariant-loop-k
invariant-loop-k l = ArePut l.fn.first l.k l.fn.values l.initial.self l.self
