use Rattle.std.proofs.Common.{◌≡◌, length}
use Rattle.std.specs.List.{All}
use Rattle.hot_cuts.proofs.least_trees.LeastTrees.new.Given as goal

-- the rows so far
abbrev pub invariant-loop : goal.invariant-loop
invariant-loop l = All (λ row. length row.items ≡ l.nodes) l.rows.items
