use Rattle.std.proofs.Common.{◌≡◌, ◌≤◌, take}
use Rattle.std.specs.BTreeSet.{contains}
use Rattle.std.specs.List.{count_by}
use Rattle.std.specs.Ordering.{nat_cmp}
use Rattle.eco_cli.proofs.routed_nets.count_routed.Given as goal

-- how many of the nets so far have one of the ids
abbrev pub invariant-loop-net : goal.invariant-loop-net
invariant-loop-net l = record {
  counted : l.count ≡ count_by (λ n. contains nat_cmp l.routed n.id) (take l.net-index l.nets);
  small : l.count ≤ l.net-index;
}
