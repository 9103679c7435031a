use Rattle.std.proofs.Common.{◌≡◌, ◌≤◌, ◌<◌, length, List, get_or, ◌∙◌, ap, arith, sum_by}
use Rattle.std.specs.List.{zip}
use Rattle.std.proofs.lemmas.List.{take_all}
use Rattle.std.proofs.lemmas.Slice.Zip.{length-zip}
use Rattle.grid_base.specs.declared.piece.Piece.{Piece}
use Rattle.grid_graph.specs.declared.net_spec.NetSpec.{NetSpec}
use Rattle.tree_set.specs.Loads.{net_load}
use Rattle.tree_set.proofs.Loads.{load_more}
use Rattle.tree_set.proofs.measures.add_all.Goals as goal

pub loop-k-preserved : goal.loop-k-preserved
loop-k-preserved c =
    let d = c.args.design.now in
    let n = c.index-nets-k.result in
    let tree = c.index-trees-k.result in
    let in_trees : c.loop-k.k < length c.args.trees.now = c.loop-k-test.true in
    let in_nets : c.loop-k.k < length d.nets = omega (arith, c.requires.one_each) in
    let at : n ≡ get_or d.nets c.loop-k.k n = c.index-nets-k.is ∙ ap (λ (ns : List NetSpec). get_or ns c.loop-k.k n) c.list-nets.ensures.items in
    record {
      value = λ e. load_more d.grid d.nets c.args.trees.now c.loop-k.k e n tree _ _ in_nets in_trees at c.index-trees-k.is (c.loop-k.invariant.value e) (rw c.index-nets-k.is (c.add_load.ensures.value e));
      limit = λ e. omega (arith, c.add_load.ensures.limit e, c.loop-k.invariant.limit e);
    }

pub returns-clause-value : goal.returns-clause-value
returns-clause-value c e =
    let d = c.args.design.now in
    let all : length (zip d.nets c.args.trees.now) ≤ c.loop-k.k = omega (arith, length-zip d.nets c.args.trees.now) in
    c.loop-k.invariant.value e ∙ ap (λ (xs : List (NetSpec × List Piece)). sum_by (λ x. net_load d.grid x.0.width x.1 e) xs) (take_all c.loop-k.k (zip d.nets c.args.trees.now) all)
