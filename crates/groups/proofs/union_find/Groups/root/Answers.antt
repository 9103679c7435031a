use Rattle.std.proofs.Common.{◌≡◌, ◌∙◌, ◌<◌, length, slice_index, ap, arith}
use Rattle.std.proofs.lemmas.List.{get_or_default, length-set}
use Rattle.groups.specs.Joined.{IsParent}
use Rattle.groups.specs.Joined.AreJoined.{on}
use Rattle.groups.proofs.Parents.{to_itself, to_parent, two_up, with_parent}
use Rattle.groups.proofs.union_find.Groups.root.Goals as goal

pub loop-root-init : goal.loop-root-init
loop-root-init c =
    let parents = c.args.self.now.parents.items in
    record {
      within = omega arith;
      long = omega arith;
      joined = to_itself (IsParent parents) parents (to_parent parents) c.args.i c.requires;
      stay = to_parent parents;
    }

pub loop-root-preserved : goal.loop-root-preserved
loop-root-preserved c =
    let first = IsParent c.args.self.now.parents.items in
    let parents = c.loop-root.self.parents.items in
    let root = c.loop-root.root in
    let far = c.index-far.result.now in
    let before = c.loop-root.invariant in
    let inside : root < length parents = omega (arith, before.within, before.long, c.requires) in
    let up : c.index-in-loop-root.result.now ≡ slice_index parents root = c.index-in-loop-root.ensures ∙ get_or_default parents root c.index-in-loop-root.result.now 0 inside in
    let up_inside : slice_index parents root < length parents = omega (arith, c.loop-root.self.below root, inside) in
    let at_far : far ≡ slice_index parents (slice_index parents root) =
    c.index-far.ensures ∙ get_or_default parents c.index-in-loop-root.result.now far 0 (omega (arith, up, up_inside)) ∙ ap (slice_index parents) up in
    let step = two_up first parents before.stay root far inside up_inside at_far in
    record {
      within = omega (arith, at_far, c.loop-root.self.below root, c.loop-root.self.below (slice_index parents root), before.within);
      long = length-set parents root far ∙ before.long;
      joined = on before.joined step;
      stay = with_parent first parents before.stay root far inside step;
    }
