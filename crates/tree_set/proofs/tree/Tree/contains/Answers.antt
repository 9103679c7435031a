use Rattle.std.proofs.Common.{sym}
use Rattle.tree_set.proofs.Search.{found_by_search}
use Rattle.tree_set.proofs.tree.Tree.contains.Goals as goal

pub returns : goal.returns
returns c =
    let up = c.self.invariant in
    let items = c.self.inside.pieces.items in
    let within = c.binary_search.ensures.bound in
    let at = c.binary_search.ensures.position in
    let found = found_by_search items c.args.piece c.binary_search.result up (rw c.as_slice.ensures.value at within) (rw c.as_slice.ensures.value at at) in
    rw (c.is_ok.ensures.value, sym c.self.view_is) (record { member = found })
