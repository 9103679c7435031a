use Rattle.std.proofs.Common.{◌≡◌, ◌<◌, ℕ, List, get_or, length, refl, sym, ◌∙◌, ap, subst, arith, true}
use Rattle.price_workers.proofs.Common.{Grid, get_or-set_same, same_Some, Piece, At, NetSpec, entries, IsNetWidth, grid_of}
use Rattle.price_workers.proofs.Common.{loads_of, HasRoomForSet, HoldsTree, TableId, AreCloseTo, MarksChanges, MarksTree}
use Rattle.price_workers.proofs.LightSteps.{step_moved}
use Rattle.price_workers.proofs.MarkSteps.{changes_put, changes_taken, marked_again}
use Rattle.price_workers.proofs.Taken.{put_back}
use Rattle.price_workers.proofs.TurnFacts.{DiffersInShares-trans, same_party, same_share, close_moved, less_at, same_allot}
use Rattle.price_workers.proofs.TurnFacts.{kept_long, At-read, step_pieces, working_put}
use Rattle.price_workers.proofs.worker.Worker.reprice_net.Goals.{After-add_tree, After-take_tree, After-index-in-Ok, After-index-in-Err}
use Rattle.price_workers.proofs.worker.Worker.reprice_net.Goals as goal

-- the net stands in the design
here : (c : After-take_tree) → At c.args.design.now.nets c.args.net c.index-list-net.result
here c =
    At-read c.args.design.now.nets c.args.net c.index-list-net.result
    (c.index-list-net.is ∙ ap (λ (l : List NetSpec). get_or l c.args.net c.index-list-net.result) c.list.ensures.items) c.requires.net

-- its set stands among those of the worker
stood : (c : After-take_tree) → At c.args.self.now.trees.items c.args.at c.index.result.now
stood c = At-read c.args.self.now.trees.items c.args.at c.index.result.now c.index.ensures c.requires.at

-- and the share had its load
held : (c : After-take_tree) → HoldsTree c.args.design.now.grid c.index-list-net.result.width c.index.result.now c.args.self.now.share.party
held c = c.requires.had c.index-list-net.result c.index.result.now (here c) (stood c)

-- without it what is seen is still close, and there is still room
close_without : (c : After-take_tree) → AreCloseTo c.take_tree.new.share.party (loads_of c.take_tree.new.kept)
close_without c =
    let g : Grid = c.args.design.now.grid in
    let w = c.args.self.now in
    let width = c.index-list-net.result.width in
    let tree : List Piece = c.index.result.now in
    let close = w.working.close c.requires.may.refreshed in
    close_moved w.share.party c.take_tree.new.share.party (loads_of w.kept) (loads_of c.take_tree.new.kept) close
    c.take_tree.ensures.party (λ r. omega (
      arith,
      (close r).least,
      (held c).had r,
      less_at g width tree w.share.party.shares r c.take_tree.ensures.share,
      less_at g width tree (loads_of w.kept) r c.take_tree.ensures.seen,
    ))

room_without : (c : After-take_tree) → HasRoomForSet c.take_tree.new.share.party
room_without c r =
    let p = c.args.self.now.share.party in
    omega (
      arith,
      c.requires.may.room r,
      less_at c.args.design.now.grid c.index-list-net.result.width c.index.result.now p.shares r c.take_tree.ensures.share,
      same_allot p c.take_tree.new.share.party c.take_tree.ensures.party,
    )

-- the grid is that of the design, which has so many entries, and the net's width is one of its widths
words_without : (c : After-take_tree) → c.take_tree.new.share.table.words ≡ entries (grid_of c.take_tree.new.kept)
words_without c =
    ap (λ (t : TableId). t.words) c.take_tree.ensures.table
    ∙ c.args.self.now.working.words
    ∙ ap entries (sym c.take_tree.ensures.setting.grid)

limited : (c : After-take_tree) → IsNetWidth c.args.design.now.grid c.index-list-net.result.width
limited c = (c.args.design.now.limits.net c.args.net c.index-list-net.result (here c)).width

grid_without : (c : After-take_tree) → grid_of c.take_tree.new.kept ≡ c.args.design.now.grid
grid_without c = c.take_tree.ensures.setting.grid ∙ c.requires.works.on_grid

-- the new set was written in its place, or the old one still stands there
written : (c : After-index-in-Ok) → c.index-in-Ok.result.now ≡ c.in-Ok.tree
written c = c.index-in-Ok.ensures ∙ get_or-set_same c.args.self.now.trees.items c.args.at c.in-Ok.tree c.index-in-Ok.result.now c.requires.at

again : (c : After-index-in-Err) → c.index-in-Err.result.now ≡ c.index.result.now
again c = same_Some c.index-in-Err.result.now c.index.result.now
    (sym (At-read c.args.self.now.trees.items c.args.at c.index-in-Err.result.now c.index-in-Err.ensures c.requires.at)
    ∙ At-read c.args.self.now.trees.items c.args.at c.index.result.now c.index.ensures c.requires.at)

-- what stands at a place of a list stands there again
stands_again : (trees : List (List Piece)) (k : ℕ) (a b : List Piece) → a ≡ get_or trees k a → b ≡ get_or trees k b → k < length trees → a ≡ b
stands_again trees k a b first next within = same_Some a b (sym (At-read trees k a first within) ∙ At-read trees k b next within)

first_marks : (c : After-add_tree) → MarksTree c.args.design.now.grid c.index.result.now c.args.self.now.changes.marks.items c.add_tree.new.self.marks.items
first_marks c =
    let trees = c.args.self.now.trees.items in
    let its : c.index-2.result.now ≡ c.index.result.now =
    stands_again trees c.args.at c.index-2.result.now c.index.result.now c.index-2.ensures c.index.ensures c.requires.at in
    subst (λ (ps : List Piece). MarksTree c.args.design.now.grid ps c.args.self.now.changes.marks.items c.add_tree.new.self.marks.items) its
    c.add_tree.ensures.marked

-- the old set has marks, so without its load what is seen is as it was found last but for these
taken_marks : (c : After-add_tree) → MarksChanges (grid_of c.take_tree.new.kept) c.add_tree.new.self.marks.items
    c.take_tree.new.share.party.last (loads_of c.take_tree.new.kept)
taken_marks c =
    let w = c.args.self.now in
    changes_taken c.args.design.now.grid c.index-list-net.result.width c.index.result.now w.share.party c.take_tree.new.share.party
    w.kept c.take_tree.new.kept w.marked c.requires.works.on_grid c.take_tree.ensures.setting
    (first_marks c) c.take_tree.ensures.seen c.take_tree.ensures.party

pub take_tree-requires-clause-had : goal.take_tree-requires-clause-had
take_tree-requires-clause-had c =
    let spec = c.index-list-net.result in
    let list_is = c.index-list-net.is ∙ ap (λ (l : List NetSpec). get_or l c.args.net spec) c.list.ensures.items in
    c.requires.had spec c.index.result.now (At-read c.args.design.now.nets c.args.net spec list_is c.requires.net)
    (At-read c.args.self.now.trees.items c.args.at c.index.result.now c.index.ensures c.requires.at)

pub route_net-requires-clause-width : goal.route_net-requires-clause-width
route_net-requires-clause-width c =
    rw (grid_without (goal.at.route_net-requires-clause-width c).After-take_tree)
    (limited (goal.at.route_net-requires-clause-width c).After-take_tree)

pub route_net-requires-clause-ground : goal.route_net-requires-clause-ground
route_net-requires-clause-ground c =
    let took = (goal.at.route_net-requires-clause-ground c).After-take_tree in
    rw (grid_without took) (c.requires.ground _ (here took))

pub put_tree-requires-clause-width : goal.put_tree-requires-clause-width
put_tree-requires-clause-width c = limited (goal.at.put_tree-requires-clause-width c).After-take_tree

pub put_tree-requires-clause-pieces : goal.put_tree-requires-clause-pieces
put_tree-requires-clause-pieces c =
    rw (written c, ← grid_without (goal.at.put_tree-requires-clause-pieces c).After-take_tree)
    (step_pieces _ c.index-list-net.result _ c.in-Ok.tree c.in-Ok.ensures.step)

pub put_tree-requires-clause-room : goal.put_tree-requires-clause-room
put_tree-requires-clause-room c = room_without (goal.at.put_tree-requires-clause-room c).After-take_tree

pub put_tree-requires-clause-close : goal.put_tree-requires-clause-close
put_tree-requires-clause-close c =
    rw c.in-Ok.ensures.loads (close_without (goal.at.put_tree-requires-clause-close c).After-take_tree)

pub invariant_of-self : goal.invariant_of-self
invariant_of-self c =
    let took = (goal.at.invariant_of-self c).After-take_tree in
    let route = c.in-Ok.ensures in
    let put = c.put_tree.ensures in
    record {
      working = working_put c.args.design.now.grid c.index-list-net.result.width c.index-in-Ok.result.now c.take_tree.new.share
          c.put_tree.new.share c.take_tree.new.kept c.route_net.new.kept c.put_tree.new.kept (words_without took)
          (close_without took) route.setting route.loads route.labels put.party put.share put.seen put.table put.setting
          put.valid;
      marked = changes_put c.args.design.now.grid c.index-list-net.result.width c.index-in-Ok.result.now c.in-Ok.tree
          c.take_tree.new.share.party c.put_tree.new.share.party c.take_tree.new.kept c.route_net.new.kept c.put_tree.new.kept
          (taken_marks (goal.at.invariant_of-self c).After-add_tree) (grid_without took) route.setting put.setting route.loads
          (written (goal.at.invariant_of-self c).After-index-in-Ok) c.add_tree-in-Ok.ensures.marked put.seen put.party;
    }

pub put_tree-requires-in-Err-clause-width : goal.put_tree-requires-in-Err-clause-width
put_tree-requires-in-Err-clause-width c = limited (goal.at.put_tree-requires-in-Err-clause-width c).After-take_tree

pub put_tree-requires-in-Err-clause-pieces : goal.put_tree-requires-in-Err-clause-pieces
put_tree-requires-in-Err-clause-pieces c =
    rw (again c) (held (goal.at.put_tree-requires-in-Err-clause-pieces c).After-take_tree).pieces

pub put_tree-requires-in-Err-clause-room : goal.put_tree-requires-in-Err-clause-room
put_tree-requires-in-Err-clause-room c = room_without (goal.at.put_tree-requires-in-Err-clause-room c).After-take_tree

pub put_tree-requires-in-Err-clause-close : goal.put_tree-requires-in-Err-clause-close
put_tree-requires-in-Err-clause-close c =
    rw c.in-Err.ensures.loads (close_without (goal.at.put_tree-requires-in-Err-clause-close c).After-take_tree)

pub invariant_of-self-in-Err : goal.invariant_of-self-in-Err
invariant_of-self-in-Err c =
    let took = (goal.at.invariant_of-self-in-Err c).After-take_tree in
    let route = c.in-Err.ensures in
    let put = c.put_tree-in-Err.ensures in
    record {
      working = working_put c.args.design.now.grid c.index-list-net.result.width c.index-in-Err.result.now c.take_tree.new.share
          c.put_tree-in-Err.new.share c.take_tree.new.kept c.route_net.new.kept c.put_tree-in-Err.new.kept (words_without took)
          (close_without took) route.setting route.loads route.labels put.party put.share put.seen put.table put.setting
          put.valid;
      marked = changes_put c.args.design.now.grid c.index-list-net.result.width c.index-in-Err.result.now c.index.result.now
          c.take_tree.new.share.party c.put_tree-in-Err.new.share.party c.take_tree.new.kept c.route_net.new.kept
          c.put_tree-in-Err.new.kept (taken_marks (goal.at.invariant_of-self-in-Err c).After-add_tree) (grid_without took) route.setting
          put.setting route.loads (again (goal.at.invariant_of-self-in-Err c).After-index-in-Err)
          (marked_again c.args.design.now.grid c.index.result.now c.args.self.now.changes.marks.items c.add_tree.new.self.marks.items
          (first_marks (goal.at.invariant_of-self-in-Err c).After-add_tree)) put.seen put.party;
    }

pub returns-in-Ok-clause-repriced : goal.returns-in-Ok-clause-repriced
returns-in-Ok-clause-repriced c n before at_net at_tree =
    let w = c.args.self.now in
    let spec = c.index-list-net.result in
    let took = c.take_tree.ensures in
    let put = c.put_tree.ensures in
    let after = (goal.at.returns-in-Ok-clause-repriced c).After-take_tree in
    let its = written (goal.at.returns-in-Ok-clause-repriced c).After-index-in-Ok in
    rw (same_Some n spec (sym at_net ∙ here after), same_Some before c.index.result.now (sym at_tree ∙ stood after)) (record {
      tree = c.in-Ok.tree;
      step = step_moved (grid_without after) took.seen took.setting.scale took.setting.budget c.in-Ok.ensures.step;
      trees = refl;
      seen = rw (← (c.in-Ok.ensures.loads ∙ took.seen), ← its) put.seen;
      share = rw (← took.share, ← its) put.share;
      counted = record {
        since = refl;
        refreshed = c.requires.may.refreshed;
        party = DiffersInShares-trans w.share.party c.take_tree.new.share.party c.put_tree.new.share.party took.party put.party;
      };
    })

pub returns-in-Err-clause-no_memory : goal.returns-in-Err-clause-no_memory
returns-in-Err-clause-no_memory c =
    let g = c.args.design.now.grid in
    let w = c.args.self.now in
    let width = c.index-list-net.result.width in
    let old : List Piece = c.index.result.now in
    let took = c.take_tree.ensures in
    let put = c.put_tree-in-Err.ensures in
    let kept = c.put_tree-in-Err.new.kept in
    let now = c.put_tree-in-Err.new.share.party in
    let after = (goal.at.returns-in-Err-clause-no_memory c).After-take_tree in
    let its = again (goal.at.returns-in-Err-clause-no_memory c).After-index-in-Err in
    let had = (held after).had in
    let table = put.table ∙ took.table in
    let valid = w.working.share_holds c.requires.may.refreshed in
    let on_grid = put.setting.grid ∙ c.in-Err.ensures.setting.grid ∙ took.setting.grid in
    record {
      share = same_share w.share c.put_tree-in-Err.new.share table (same_party w.share.party now
          (DiffersInShares-trans w.share.party c.take_tree.new.share.party now took.party put.party) (put_back g width old
          w.share.party.shares now.shares (put.valid.wide.shares ∙ ap (λ (t : TableId). t.words) table ∙ sym valid.wide.shares)
          had (rw (← took.share, ← its) put.share)));
      trees = refl;
      seen = put_back g width old (loads_of w.kept) (loads_of kept) (kept_long kept on_grid ∙ sym w.kept.kept.loaded.long)
          (λ r. omega (arith, had r, (w.working.close c.requires.may.refreshed r).least))
          (rw (← (c.in-Err.ensures.loads ∙ took.seen), ← its) put.seen);
      since = refl;
      refreshed = refl;
    }

pub add_tree-requires-clause-pieces : goal.add_tree-requires-clause-pieces
add_tree-requires-clause-pieces c =
    rw (stands_again c.args.self.now.trees.items c.args.at c.index-2.result.now c.index.result.now c.index-2.ensures c.index.ensures c.requires.at)
    (held (goal.at.add_tree-requires-clause-pieces c).After-take_tree).pieces

pub add_tree-requires-in-Ok-clause-pieces : goal.add_tree-requires-in-Ok-clause-pieces
add_tree-requires-in-Ok-clause-pieces c =
    rw (← grid_without (goal.at.add_tree-requires-in-Ok-clause-pieces c).After-take_tree)
    (step_pieces _ c.index-list-net.result _ c.in-Ok.tree c.in-Ok.ensures.step)

pub returns-in-Ok-clause-close : goal.returns-in-Ok-clause-close
returns-in-Ok-clause-close c =
    let took = (goal.at.returns-in-Ok-clause-close c).After-take_tree in
    let route = c.in-Ok.ensures in
    let put = c.put_tree.ensures in
    (working_put c.args.design.now.grid c.index-list-net.result.width c.index-in-Ok.result.now c.take_tree.new.share
    c.put_tree.new.share c.take_tree.new.kept c.route_net.new.kept c.put_tree.new.kept {labels = c.route_net.new.labels}
    {refreshed = true} (words_without took) (close_without took) route.setting route.loads route.labels put.party put.share
    put.seen put.table put.setting put.valid).close refl

pub returns-in-Err-clause-close : goal.returns-in-Err-clause-close
returns-in-Err-clause-close c =
    let took = (goal.at.returns-in-Err-clause-close c).After-take_tree in
    let route = c.in-Err.ensures in
    let put = c.put_tree-in-Err.ensures in
    (working_put c.args.design.now.grid c.index-list-net.result.width c.index-in-Err.result.now c.take_tree.new.share
    c.put_tree-in-Err.new.share c.take_tree.new.kept c.route_net.new.kept c.put_tree-in-Err.new.kept
    {labels = c.route_net.new.labels} {refreshed = true} (words_without took) (close_without took) route.setting route.loads
    route.labels put.party put.share put.seen put.table put.setting put.valid).close refl
