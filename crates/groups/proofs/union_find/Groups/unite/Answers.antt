use Rattle.std.proofs.Common.{◌<◌, length, refl, inr, arith}
use Rattle.groups.specs.Joined.{AreJoined, AreJoinedBy, IsParent, IsParentOr}
use Rattle.groups.specs.Joined.AreJoined.{link, back, on}
use Rattle.groups.proofs.Parents.{down_between, joined_before, with_pair, with_parent}
use Rattle.groups.proofs.union_find.Groups.unite.Goals as goal

pub returns-clause-stay : goal.returns-clause-stay
returns-clause-stay c =
    let old = c.args.self.now.parents.items in
    let middle = c.root-one.new.self.parents.items in
    let now = c.root-other.new.self.parents.items in
    let i = c.args.i in
    let j = c.args.j in
    let Link = IsParentOr old i j in
    let one = c.root-one.result in
    let other = c.root-other.result in
    let first = joined_before (IsParent old) middle c.root-one.ensures.stay in
    let up_i : AreJoined Link i one = with_pair old i j i one c.root-one.ensures.joined in
    let up_j : AreJoined Link j other = with_pair old i j j other (first j other c.root-other.ensures.joined) in
    let roots : AreJoined Link one other = on (back up_i) (on (link (inr (refl, refl))) up_j) in
    let stay : AreJoinedBy Link now = λ k within. with_pair old i j k _ (first k _ (c.root-other.ensures.stay k within)) in
    let inside : c.max.result < length now =
    omega (arith, c.max.ensures, c.root-one.ensures.within, c.root-other.ensures.within, c.root-one.ensures.long, c.root-other.ensures.long, c.requires.i, c.requires.j) in
    let down : AreJoined Link c.max.result c.min.result = rw (c.max.ensures, c.min.ensures) (down_between Link one other roots) in
    with_parent Link now stay c.max.result c.min.result inside down
