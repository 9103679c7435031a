use Rattle.std.proofs.Common.{◌≡◌, ◌≤◌, length}
use Rattle.groups.specs.Joined.{AreJoined, AreJoinedBy, IsParent}
use Rattle.groups.proofs.union_find.Groups.root.Given as goal

-- the number is joined to where the search stands, and each number to its parent
abbrev pub invariant-loop-root : goal.invariant-loop-root
invariant-loop-root l = record {
  within : l.root ≤ l.i;
  long : length l.self.parents.items ≡ length l.initial.self.parents.items;
  joined : AreJoined (IsParent l.initial.self.parents.items) l.i l.root;
  stay : AreJoinedBy (IsParent l.initial.self.parents.items) l.self.parents.items;
}

abbrev pub decreases-loop-root : goal.decreases-loop-root
decreases-loop-root l = l.root
