use Rattle.std.proofs.Common.{◌≡◌, ◌<◌, ◌≤◌, ◌+◌, ◌-◌, ℕ, List, length, take, slice_index, slice_index_or, refl, ◌∙◌, ap, ⊎_elim, arith}
use Rattle.std.proofs.lemmas.Bool.{cases_lt}
use Rattle.std.proofs.lemmas.List.{take_all}
use Rattle.std.proofs.lemmas.Slice.Zip.{AllZip-long}
use Rattle.grid_base.specs.Lists.{At}
use Rattle.grid_base.proofs.Lists.{AllZip-at}
use Rattle.grid_graph.specs.Grids.{entries, size_of}
use Rattle.load_core.specs.Parties.{share_at}
use Rattle.tree_set.specs.Loads.{load_on, tree_load}
use Rattle.tree_set.specs.Routings.{ArePieces, IsRoute}
use Rattle.sharing_runs.proofs.Between.{load_on-none}
use Rattle.price_workers.proofs.Taken.{without_tree-at}
use Rattle.price_workers.proofs.TurnFacts.{DiffersInShares-trans, read_at, At-read, route_pieces}
use Rattle.price_workers.proofs.NetLoads.{load_on-next, load_on-front, tree_load-beyond}
use Rattle.rounding_pick.proofs.taking.take_routing.Goals as goal

pub loop-position-init : goal.loop-position-init
loop-position-init c = record {
  shares = λ r within. omega (arith, load_on-none c.args.design.now.grid c.args.design.now.nets r);
  party = refl;
  table = refl;
  valid = c.requires.share;
}

pub bounds-trees-position : goal.bounds-trees-position
bounds-trees-position c =
    let d = c.args.design.now in
    omega (arith, c.loop-position-test.true, ap length c.list-nets.ensures.items, AllZip-long (IsRoute d.grid) d.nets c.args.trees.now c.requires.routing)

pub take_load-requires-clause-width : goal.take_load-requires-clause-width
take_load-requires-clause-width c =
    let d = c.args.design.now in
    let k = c.loop-position.position in
    (d.limits.net k (slice_index_or c.list-nets.result.now k c.index-nets-position.result)
    (read_at d.nets c.list-nets.result.now k c.index-nets-position.result c.list-nets.ensures.items c.loop-position-test.true)).width

pub take_load-requires-clause-had : goal.take_load-requires-clause-had
take_load-requires-clause-had c =
    let d = c.args.design.now in
    let trees = c.args.trees.now in
    let k = c.loop-position.position in
    let net = slice_index_or c.list-nets.result.now k c.index-nets-position.result in
    let tree = c.index-trees-position.result in
    let among : k < length trees =
    omega (arith, c.loop-position-test.true, ap length c.list-nets.ensures.items, AllZip-long (IsRoute d.grid) d.nets trees c.requires.routing) in
    let at : At d.nets k net = read_at d.nets c.list-nets.result.now k c.index-nets-position.result c.list-nets.ensures.items c.loop-position-test.true in
    let stands : At trees k tree = At-read trees k tree c.index-trees-position.is among in
    let pieces : ArePieces (size_of d.grid) tree = route_pieces d.grid net tree (AllZip-at (IsRoute d.grid) d.nets trees k net tree c.requires.routing at stands) in
    record {
      pieces = pieces;
      had = λ r. ⊎_elim
          (λ (within : r < entries d.grid).
          omega (
            arith,
            c.loop-position.invariant.shares r within,
            c.requires.had r within,
            load_on-next d.grid d.nets trees k net tree r at stands,
            load_on-front d.grid d.nets trees (k + 1) r (omega (arith, among)),
          ))
          (λ (beyond : entries d.grid ≤ r). omega (arith, tree_load-beyond d.grid net.width tree r pieces beyond))
          (cases_lt r (entries d.grid));
    }

pub loop-position-preserved : goal.loop-position-preserved
loop-position-preserved c =
    let d = c.args.design.now in
    let trees = c.args.trees.now in
    let k = c.loop-position.position in
    let net = slice_index_or c.list-nets.result.now k c.index-nets-position.result in
    let tree = c.index-trees-position.result in
    let inv = c.loop-position.invariant in
    let among : k < length trees =
    omega (arith, c.loop-position-test.true, ap length c.list-nets.ensures.items, AllZip-long (IsRoute d.grid) d.nets trees c.requires.routing) in
    let at : At d.nets k net = read_at d.nets c.list-nets.result.now k c.index-nets-position.result c.list-nets.ensures.items c.loop-position-test.true in
    let stands : At trees k tree = At-read trees k tree c.index-trees-position.is among in
    let took = c.take_load.ensures in
    record {
      shares = λ r within.
          let less : share_at r c.take_load.new.share.party ≡ share_at r c.loop-position.share.party - tree_load d.grid net.width tree r =
          ap (λ (l : List ℕ). slice_index l r) took.shares ∙ without_tree-at d.grid net.width tree c.loop-position.share.party.shares r in
          omega (
            arith,
            less,
            inv.shares r within,
            c.requires.had r within,
            load_on-next d.grid d.nets trees k net tree r at stands,
            load_on-front d.grid d.nets trees (k + 1) r (omega (arith, among)),
          );
      party = DiffersInShares-trans c.args.share.now.party c.loop-position.share.party c.take_load.new.share.party inv.party took.party;
      table = took.table ∙ inv.table;
      valid = took.valid;
    }

pub returns-clause-shares : goal.returns-clause-shares
returns-clause-shares c r within =
    let d = c.args.design.now in
    let trees = c.args.trees.now in
    let whole : take c.loop-position.position trees ≡ trees =
    take_all c.loop-position.position trees
    (omega (arith, c.loop-position-test.false, ap length c.list-nets.ensures.items, AllZip-long (IsRoute d.grid) d.nets trees c.requires.routing)) in
    c.loop-position.invariant.shares r within ∙ ap (λ ts. share_at r c.loop-position.share.party + load_on d.grid d.nets ts r) whole
