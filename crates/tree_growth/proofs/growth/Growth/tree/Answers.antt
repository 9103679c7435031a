use Rattle.std.proofs.Common.{List, length, ap, arith, subst}
use Rattle.std.specs.Prelude.{IfOk, IfSome}
use Rattle.std.proofs.lemmas.List.Elements.{All-contains}
use Rattle.grid_base.specs.declared.vertex.Vertex.{Vertex}
use Rattle.grid_base.specs.Numbers.{IsVertex}
use Rattle.grid_base.specs.Walks.{JoinsList}
use Rattle.grid_graph.specs.Grids.{size_of}
use Rattle.net_search.specs.Plans.{size_of_plan}
use Rattle.tree_growth.proofs.Joins.{net_vertices}
use Rattle.tree_growth.proofs.growth.Growth.tree.Goals as goal

pub returns-in-None-clause-joins : goal.returns-in-None-clause-joins
returns-in-None-clause-joins c = λ a b at_a at_b. absurd (omega (arith, at_a.1, ap length c.list-terminals.ensures.items, c.in-None.ensures.none))

pub begin-requires : goal.begin-requires
begin-requires c =
    let s = c.fit.new.self.grown.size in
    record {
      root = All-contains (λ (v : Vertex). IsVertex s v.0) c.list-terminals.result.now c.in-Some.root
          (net_vertices c.args.grid.now c.args.net.now s c.list-terminals.result.now c.requires.net c.in_ok-fit.ensures c.list-terminals.ensures.items) c.in-Some.ensures.root;
    }

pub grow-is_done-requires-clause-root : goal.grow-is_done-requires-clause-root
grow-is_done-requires-clause-root c =
    All-contains (λ (v : Vertex). IsVertex (size_of_plan c.of-plan.result) v.0) c.list-terminals.result.now c.in-Some.root
    (net_vertices c.args.grid.now c.args.net.now (size_of_plan c.of-plan.result) c.list-terminals.result.now c.requires.net c.of-plan.ensures.size c.list-terminals.ensures.items) c.in-Some.ensures.root

pub grow-is_done-requires-clause-terminals : goal.grow-is_done-requires-clause-terminals
grow-is_done-requires-clause-terminals c = net_vertices c.args.grid.now c.args.net.now (size_of_plan c.of-plan.result) c.list-terminals.result.now c.requires.net c.of-plan.ensures.size c.list-terminals.ensures.items

pub returns-clause-keeps : goal.returns-clause-keeps
returns-clause-keeps c =
    let g = c.args.grid.now in
    c.tree.ensures.keeps g c.args.over (c.in_ok-is_done.ensures.grown (c.begin.ensures.grown g c.args.over c.in_ok-fit.ensures))

pub returns-clause-joins : goal.returns-clause-joins
returns-clause-joins c =
    let g = c.args.grid.now in
    subst (λ (ts : List Vertex). IfOk c.tree.result (λ found. IfSome found (λ tree. JoinsList (size_of g) tree ts))) c.list-terminals.ensures.items
    (c.tree.ensures.joins g c.args.over (c.in_ok-is_done.ensures.grown (c.begin.ensures.grown g c.args.over c.in_ok-fit.ensures)))
