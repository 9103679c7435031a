use Rattle.std.proofs.Common.{◌≡◌, ◌++◌}
use Rattle.std.specs.List.{flat_map}
use Rattle.bound_climb.proofs.climb_turn.joined.Given as goal

-- the sets of the parts so far
abbrev pub invariant-loop-part : goal.invariant-loop-part
invariant-loop-part l = record {
  joined : l.trees.items ≡ flat_map (λ some. some.items) l.yielded;
  all : l.yielded ++ l.part-iterator.rest.items ≡ l.fn.parts.items;
}
