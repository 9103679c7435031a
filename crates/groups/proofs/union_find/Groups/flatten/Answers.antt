use Rattle.std.proofs.Common.{◌≡◌, ◌∙◌, ◌<◌, length, slice_index, ap, arith}
use Rattle.std.proofs.lemmas.List.{get_or_default, length-set}
use Rattle.groups.specs.Joined.{IsParent}
use Rattle.groups.proofs.Parents.{to_parent, two_up, with_parent}
use Rattle.groups.proofs.union_find.Groups.flatten.Goals as goal

pub loop-i-init : goal.loop-i-init
loop-i-init c = record { long = omega arith; stay = to_parent c.args.self.now.parents.items }

pub loop-i-preserved : goal.loop-i-preserved
loop-i-preserved c =
    let first = IsParent c.args.self.now.parents.items in
    let parents = c.loop-i.self.parents.items in
    let i = c.loop-i.i in
    let far = c.index-in-loop-i.result.now in
    let before = c.loop-i.invariant in
    let inside : i < length parents = omega (arith, c.loop-i-test.true, c.len-i-end.ensures, c.loop-i.auto.i-end, before.long, c.args.self.now.parents.ok.0) in
    let up : c.index.result.now ≡ slice_index parents i = c.index.ensures ∙ get_or_default parents i c.index.result.now 0 inside in
    let up_inside : slice_index parents i < length parents = omega (arith, c.loop-i.self.below i, inside) in
    let at_far : far ≡ slice_index parents (slice_index parents i) =
    c.index-in-loop-i.ensures ∙ get_or_default parents c.index.result.now far 0 (omega (arith, up, up_inside)) ∙ ap (slice_index parents) up in
    record {
      long = length-set parents i far ∙ before.long;
      stay = with_parent first parents before.stay i far inside (two_up first parents before.stay i far inside up_inside at_far);
    }
