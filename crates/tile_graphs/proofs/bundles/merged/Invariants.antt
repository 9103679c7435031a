use Rattle.std.proofs.Common.{◌≡◌, ◌<◌, ◌^◌, ◌++◌, None, [], take}
use Rattle.std.specs.Option.{option_to_list}
use Rattle.tile_graphs.specs.Bundles.{AreTight, CostAlike, demand_of_bundles}
use Rattle.tile_graphs.proofs.bundles.merged.Given as goal

-- the bundles so far cost what their nets do, and neighbours with the same ends are put together
abbrev pub invariant-loop-single : goal.invariant-loop-single
invariant-loop-single l = record {
  alike : demand_of_bundles l.singles < 2 ^ 64 → CostAlike (l.bundles.items ++ option_to_list l.last) (take l.single-index l.singles);
  tight : AreTight l.most (l.bundles.items ++ option_to_list l.last);
  first : l.last ≡ None → l.bundles.items ≡ [];
}
