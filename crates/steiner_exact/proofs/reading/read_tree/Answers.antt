use Rattle.std.proofs.Common.{List, subst}
use Rattle.grid_base.specs.declared.piece.Piece.{Piece}
use Rattle.shortest_paths.specs.LabelWords.{label_of}
use Rattle.steiner_exact.specs.Reading.{IsReadOn}
use Rattle.steiner_exact.proofs.TreesRead.{read_set}
use Rattle.steiner_exact.proofs.reading.read_tree.Goals as goal

pub returns-clause-tree : goal.returns-clause-tree
returns-clause-tree g c =
    let s = g.W.Weights.size c.args.weights.now in
    let pieces = g.W.Weights.pieces c.args.weights.now in
    let number = label_of c.args.labels.now c.args.mask c.args.v.0 in
    let on : IsReadOn s pieces c.args.terminals.now c.args.mask c.args.v.0 number c.new-pieces.result.items c.read_part.new.tree.items = c.in_ok-read_part.ensures in
    read_set s pieces c.args.terminals.now c.args.mask c.args.v.0 number c.read_part.new.tree.items c.of.result (g.met.W.Weights.once c.args.weights.now)
    (subst (λ (ps : List Piece). IsReadOn s pieces c.args.terminals.now c.args.mask c.args.v.0 number ps c.read_part.new.tree.items) c.new-pieces.ensures.items on)
    c.of.ensures.rising c.of.ensures.same
