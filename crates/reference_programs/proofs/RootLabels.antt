-- A full table's number at the root shows that the allowed pieces join the terminals.
use Rattle.std.proofs.Common.{ℕ, ◌-◌, List, length, Option, Some, None, IsSome}
use Rattle.grid_base.specs.declared.piece.Piece.{Piece}
use Rattle.grid_base.specs.declared.size.Size.{Size}
use Rattle.grid_base.specs.declared.vertex.Vertex.{Vertex}
use Rattle.grid_base.specs.Lists.{At}
use Rattle.grid_base.specs.Walks.{Joins, InVertices}
use Rattle.grid_base.proofs.Joined.{Joins-superset}
use Rattle.grid_graph.specs.Weighed.{IsAllowed}
use Rattle.steiner_tables.specs.Masks.{all_but_root, WithVertex}
use Rattle.steiner_tables.specs.Tables.{IsLabel}
use Rattle.steiner_tables.proofs.Roots.{joins_terminals}

pub joined_by_label : (s : Size) (pieces : List (Piece × ℕ)) (terminals : List Vertex) (root : Vertex) (o : Option ℕ)
    → At terminals (length terminals - 1) root → IsLabel s pieces terminals (all_but_root terminals) root.0 o → IsSome o
    → Joins s (IsAllowed pieces) (InVertices terminals)
joined_by_label s pieces terminals root (Some x) at least some =
    joins_terminals s (IsAllowed pieces) terminals root at
    (Joins-superset s (IsAllowed least.set) (IsAllowed pieces) (WithVertex terminals (all_but_root terminals) root.0)
    (λ p in_set. (in_set.0, least.is_set.allowed (p, in_set.0) in_set.1)) least.joins)
joined_by_label s pieces terminals root None at apart some = cc
