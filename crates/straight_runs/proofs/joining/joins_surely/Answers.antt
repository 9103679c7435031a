use Rattle.std.proofs.Common.{◌≡◌, All, ap, subst, sym}
use Rattle.std.proofs.lemmas.List.Elements.{All-contains}
use Rattle.grid_base.specs.declared.vertex.Vertex.{Vertex}
use Rattle.grid_base.specs.Numbers.{IsVertex}
use Rattle.grid_base.specs.Walks.{InPieces, InVertices}
use Rattle.grid_base.proofs.Joined.{Joins-alone}
use Rattle.straight_runs.specs.Runs.{pieces_of}
use Rattle.straight_runs.proofs.joining.joins_surely.Goals as goal

pub returns-then-are_all : goal.returns-then-are_all
returns-then-are_all c sure =
    let s = c.args.size in
    let terminals = c.args.terminals.now in
    let first = c.in-Some.first.now in
    let all : All (λ (v : Vertex). v ≡ first) terminals = c.are_all.ensures.0 c.if-are_all.true in
    let vertex : IsVertex s first.0 = subst (λ (v : Vertex). IsVertex s v.0) (sym c.in-Some.ensures.item.1) (c.requires.vertices 0 first c.in-Some.ensures.item.3.0) in
    Joins-alone s (InPieces (pieces_of s c.args.runs.now)) (InVertices terminals) first.0 vertex
    (λ w at. ap (λ (v : Vertex). v.0) (All-contains (λ (v : Vertex). v ≡ first) terminals (record { 0 = w }) all at))
