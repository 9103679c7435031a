use Rattle.std.proofs.Common.{◌≡◌, ◌<◌, List, length, sym, subst, arith}
use Rattle.std.proofs.lemmas.List.{length_push}
use Rattle.grid_base.specs.declared.piece.Piece.{Piece}
use Rattle.grid_base.specs.Lists.{At}
use Rattle.grid_graph.specs.declared.net_spec.NetSpec.{NetSpec}
use Rattle.grid_graph.specs.Grids.{size_of}
use Rattle.grid_graph.proofs.Grounds.{net_stands}
use Rattle.tree_set.specs.Routings.{ArePieces}
use Rattle.guide_text.specs.Guides.{IsGuideOf}
use Rattle.guide_text.proofs.GuideLists.{read_at, one_guide_more}
use Rattle.guide_text.proofs.guides.guides_of.Goals as goal

pub loop-k-init : goal.loop-k-init
loop-k-init c = rw c.new-guides.ensures.items (record { long = omega arith; each = λ k n tree guide at_n at_tree at. absurd (cc at) })

pub guide_of-requires-clause-net : goal.guide_of-requires-clause-net
guide_of-requires-clause-net c =
    let d = c.args.design.now in
    let k = c.loop-k.k in
    let within : k < length d.nets = omega (arith, c.loop-k-test.true, c.requires.one_each) in
    d.limits.net k c.index-nets-k.result (net_stands d.nets _ k c.index-nets-k.result c.list-nets.ensures.items within c.index-nets-k.is)

pub guide_of-requires-clause-pieces : goal.guide_of-requires-clause-pieces
guide_of-requires-clause-pieces c =
    subst (ArePieces (size_of c.args.design.now.grid)) (sym c.index-trees-k.is) (c.requires.pieces c.loop-k.k c.index-trees-k.result c.loop-k-test.true)

pub loop-k-preserved : goal.loop-k-preserved
loop-k-preserved c =
    let d = c.args.design.now in
    let trees = c.args.trees.now in
    let guides = c.loop-k.guides.items in
    let one = c.in_ok-guide_of.field-0 in
    let long = c.loop-k.invariant.long in
    rw c.in_ok-push.ensures.items (record {
      long = omega (arith, long, length_push guides one);
      each = one_guide_more d.grid d.nets trees guides one c.loop-k.invariant.each (λ n tree at_n at_tree.
          let net : c.index-nets-k.result ≡ n = read_at d.nets _ c.loop-k.k c.index-nets-k.result n c.list-nets.ensures.items c.index-nets-k.is (subst (λ j. At d.nets j n) long at_n) in
          let set : c.index-trees-k.result ≡ tree = read_at trees trees c.loop-k.k c.index-trees-k.result tree (λ i. trees) c.index-trees-k.is (subst (λ j. At trees j tree) long at_tree) in
          subst (λ (m : NetSpec). IsGuideOf d.grid m tree one) net (subst (λ (t : List Piece). IsGuideOf d.grid c.index-nets-k.result t one) set c.in_ok-guide_of.ensures));
    })

pub returns : goal.returns
returns c =
    let d = c.args.design.now in
    record { long = omega (arith, c.loop-k.invariant.long, c.loop-k-test.false, c.loop-k.auto.k-end, c.requires.one_each); each = c.loop-k.invariant.each }
