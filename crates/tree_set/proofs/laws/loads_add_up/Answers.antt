use Rattle.std.proofs.Common.{List, [], arith}
use Rattle.std.proofs.lemmas.List.Sums.{sum_by-append, sum_by-cons}
use Rattle.grid_base.specs.declared.piece.Piece.{Piece}
use Rattle.tree_set.specs.Loads.{load}
use Rattle.tree_set.proofs.laws.loads_add_up.Goals as goal

pub returns-clause-one : goal.returns-clause-one
returns-clause-one c = λ g nets trees e. omega (arith, sum_by-cons (λ (ts : List (List Piece)). load g nets ts e) trees [])

pub returns-clause-both : goal.returns-clause-both
returns-clause-both c = λ g nets a b e. sum_by-append (λ (ts : List (List Piece)). load g nets ts e) a b
