use Rattle.std.proofs.Common.{◌≡◌}
use Rattle.tree_growth.specs.Growns.{IsGrown}
use Rattle.tree_growth.proofs.growing.Growing.take_way.Given as goal

abbrev pub invariant-loop : goal.invariant-loop
invariant-loop l = record {
  size : l.grown.size ≡ l.initial.grown.size;
  grown : IsGrown l.grid l.over l.initial.grown → IsGrown l.grid l.over l.grown;
}
