use Rattle.std.proofs.Common.{◌≡◌, length}
use Rattle.groups.specs.Joined.{AreJoinedBy, IsParent}
use Rattle.groups.proofs.union_find.Groups.flatten.Given as goal

-- each number is joined to its parent
abbrev pub invariant-loop-i : goal.invariant-loop-i
invariant-loop-i l = record {
  long : length l.self.parents.items ≡ length l.initial.self.parents.items;
  stay : AreJoinedBy (IsParent l.initial.self.parents.items) l.self.parents.items;
}
