use Rattle.std.proofs.Common.{◌≡◌, ℕ, List, get_or, slice_index, ◌∙◌, ap, subst, arith}
use Rattle.std.proofs.lemmas.Option.{get_or_from_slice_get}
use Rattle.grid_base.specs.declared.piece.Piece.{Piece}
use Rattle.grid_base.specs.Lists.{At}
use Rattle.grid_graph.specs.declared.net_spec.NetSpec.{NetSpec}
use Rattle.load_table.specs.Holdings.{Holding}
use Rattle.price_workers.specs.TreeLoads.{HoldsTree}
use Rattle.routing_tests.proofs.worker_tests.after_repair.Goals as goal

pub reprice_net-requires-clause-had : goal.reprice_net-requires-clause-had
reprice_net-requires-clause-had c n before at there =
    let d = c.args.design.now in
    let net = c.index-list-0.result in
    let tree : List Piece = c.index.result.now in
    let p = c.refresh.new.self.share.party in
    let held : HoldsTree d.grid net.width tree c.args.share.party = c.in_ok-holds_tree.ensures c.if-not-branch.false in
    let shares : p.shares ≡ c.args.share.party.shares =
    ap (λ (h : Holding). h.party.shares) c.refresh.ensures.reading ∙ ap (λ (h : Holding). h.party.shares) c.in-Ok.ensures.share in
    let stood : At c.args.trees.items 0 before = subst (λ (ts : List (List Piece)). At ts 0 before) (c.refresh.ensures.trees ∙ c.in-Ok.ensures.trees) there in
    let same_net : net ≡ n = c.index-list-0.is ∙ ap (λ (ns : List NetSpec). get_or ns 0 net) c.list.ensures.items ∙ get_or_from_slice_get d.nets 0 n net at in
    let same_tree : tree ≡ before = c.index.ensures ∙ get_or_from_slice_get c.args.trees.items 0 before tree stood in
    let its : HoldsTree d.grid net.width tree p = record {
      pieces = held.pieces;
      had = λ r. omega (arith, held.had r, ap (λ (xs : List ℕ). slice_index xs r) shares);
    } in
    subst (λ (m : NetSpec). HoldsTree d.grid m.width before p) same_net (subst (λ (ps : List Piece). HoldsTree d.grid net.width ps p) same_tree its)
