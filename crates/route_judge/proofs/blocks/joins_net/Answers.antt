use Rattle.std.proofs.Common.{◌≡◌, ℕ, ◌<◌, List, length, get_or, refl, sym, ◌∙◌, ap, subst, All}
use Rattle.std.specs.Prelude.{◌↔◌, IfOk, IsTrue}
use Rattle.std.proofs.lemmas.Option.{slice_get_read, same_Some}
use Rattle.straight_runs.specs.Runs.{IsStraightRun, pieces_of}
use Rattle.grid_base.specs.declared.vertex.Vertex.{Vertex}
use Rattle.grid_base.specs.Lists.{At}
use Rattle.grid_base.specs.Numbers.{IsVertex}
use Rattle.grid_base.specs.Walks.{JoinsList}
use Rattle.grid_graph.specs.declared.net_spec.NetSpec.{NetSpec}
use Rattle.grid_graph.specs.Grids.{size_of}
use Rattle.route_judge.proofs.AllSets.{terminals_are_vertices}
use Rattle.route_judge.proofs.blocks.joins_net.Goals as goal

read_net : (nets xs : List NetSpec) (place : ℕ) (n : NetSpec) → xs ≡ nets → place < length nets → n ≡ get_or xs place n → At nets place n
read_net nets xs place n same below is = slice_get_read nets _ place n refl below (is ∙ ap (λ ys. get_or ys place n) same)

pub runs_join-requires-clause-runs : goal.runs_join-requires-clause-runs
runs_join-requires-clause-runs c = subst (λ s. All (IsStraightRun s) c.args.runs.now) (sym c.size.ensures) c.requires.runs

pub runs_join-requires-clause-vertices : goal.runs_join-requires-clause-vertices
runs_join-requires-clause-vertices c =
    let d = c.args.design.now in
    let at = read_net d.nets _ c.args.place c.index-list-place.result c.list.ensures.items c.requires.place c.index-list-place.is in
    subst (λ s. All (λ (t : Vertex). IsVertex s t.0) c.list-2.result.now) (sym c.size.ensures)
    (subst (λ ts. All (λ (t : Vertex). IsVertex (size_of d.grid) t.0) ts) (sym c.list-2.ensures.items) (terminals_are_vertices d c.args.place c.index-list-place.result at))

pub returns : goal.returns
returns c n here =
    let d = c.args.design.now in
    let runs = c.args.runs.now in
    let at = read_net d.nets _ c.args.place c.index-list-place.result c.list.ensures.items c.requires.place c.index-list-place.is in
    let is : c.index-list-place.result ≡ n = same_Some _ _ (sym at ∙ here) in
    let told = subst (λ s. IfOk c.runs_join.result (λ joined. IsTrue joined ↔ JoinsList s (pieces_of s runs) c.list-2.result.now)) c.size.ensures c.runs_join.ensures in
    subst (λ ts. IfOk c.runs_join.result (λ joined. IsTrue joined ↔ JoinsList (size_of d.grid) (pieces_of (size_of d.grid) runs) ts))
    (c.list-2.ensures.items ∙ ap (λ (m : NetSpec). m.terminals) is) told
