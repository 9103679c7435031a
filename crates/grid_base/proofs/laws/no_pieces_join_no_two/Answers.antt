-- A walk without pieces is a vertex alone.
use Rattle.std.proofs.Common.{◌≡◌, [], refl, arith}
use Rattle.grid_base.specs.declared.size.Size.{Size}
use Rattle.grid_base.specs.declared.vertex.Vertex.{Vertex}
use Rattle.grid_base.specs.Walks.{WalkBetween, InPieces}
use Rattle.grid_base.proofs.Walks.{walk_without_pieces}
use Rattle.grid_base.proofs.laws.no_pieces_join_no_two.Goals as goal

one_vertex : (s : Size) (a b : Vertex) → WalkBetween s (InPieces []) a.0 b.0 → a.0 ≡ b.0
one_vertex s a b = walk_without_pieces s (InPieces []) (λ p at. omega (arith, at.1)) a.0 b.0

pub returns-clause-walk : goal.returns-clause-walk
returns-clause-walk c = one_vertex c.args.size.now c.args.a c.args.b

pub returns-clause-joined : goal.returns-clause-joined
returns-clause-joined c joins = one_vertex c.args.size.now c.args.a c.args.b (joins c.args.a.0 c.args.b.0 (0, omega arith, refl) (1, omega arith, refl))
