use Rattle.std.proofs.Common.{◌≡◌, ◌<◌, ◌≤◌, List, length, get_or, sym, ◌∙◌, ap, arith}
use Rattle.std.specs.List.{zip}
use Rattle.std.proofs.lemmas.Slice.Zip.{length-zip, get_or-zip}
use Rattle.grid_base.specs.declared.piece.Piece.{Piece}
use Rattle.grid_graph.specs.declared.net_spec.NetSpec.{NetSpec}
use Rattle.route_text.specs.RouteText.{net_text}
use Rattle.gr_desk.proofs.Pens.{puts-more, puts-whole}
use Rattle.route_text.proofs.routes.put_nets.Goals as goal

pub loop-k-preserved : goal.loop-k-preserved
loop-k-preserved g c =
    let d = c.args.design.now in
    let trees = c.args.trees.now in
    let k = c.loop-k.k in
    let n = c.index-nets-k.result in
    let tree = c.index-trees-k.result in
    let in_trees : k < length trees = c.loop-k-test.true in
    let in_nets : k < length d.nets = omega (arith, c.requires.one_each) in
    let within : k < length (zip d.nets trees) = omega (arith, length-zip d.nets trees) in
    let net_is : n ≡ get_or d.nets k n = c.index-nets-k.is ∙ ap (λ (ns : List NetSpec). get_or ns k n) c.list-nets.ensures.items in
    let at : get_or (zip d.nets trees) k (n, tree) ≡ (n, tree) =
    get_or-zip d.nets trees k (n, tree) in_nets in_trees ∙ ap (λ (x : NetSpec). (x, get_or trees k tree)) (sym net_is) ∙ ap (λ (t : List Piece). (n, t)) (sym c.index-trees-k.is) in
    record {
      same_desk = c.put_net.ensures.same_desk ∙ c.loop-k.invariant.same_desk;
      puts = puts-more (λ x. net_text d.grid x.0 x.1) (zip d.nets trees) k (n, tree) within c.loop-k.invariant.puts (rw at c.put_net.ensures.puts);
    }

pub returns-clause-puts : goal.returns-clause-puts
returns-clause-puts g c =
    let d = c.args.design.now in
    let trees = c.args.trees.now in
    let whole : length (zip d.nets trees) ≤ c.loop-k.k = omega (arith, length-zip d.nets trees) in
    puts-whole (λ x. net_text d.grid x.0 x.1) (zip d.nets trees) c.loop-k.k whole c.loop-k.invariant.puts
