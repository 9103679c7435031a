-- What the set of a net changes.
use Rattle.std.specs.Prelude.{ℕ, ◌+◌, ◌-◌, ◌≡◌, ◌≤◌, List, length, map, slice_index}
use Rattle.std.specs.List.{range_with_len}
use Rattle.grid_base.specs.declared.piece.Piece.{Piece}
use Rattle.grid_graph.specs.declared.grid.Grid.{Grid}
use Rattle.grid_graph.specs.Grids.{size_of}
use Rattle.load_core.specs.declared.party.Party.{Party}
use Rattle.load_core.specs.Parties.{share_at}
use Rattle.tree_set.specs.Loads.{tree_load, max_tree_load}
use Rattle.tree_set.specs.Routings.{ArePieces}

-- the loads rise by that of the set of a net of this width: on each edge by its demand, in the last entry by the number of
-- pieces
abbrev pub GainsTree : Grid → ℕ → List Piece → List ℕ → List ℕ → Type 0
GainsTree g width tree old new = (r : ℕ) → slice_index new r ≡ slice_index old r + tree_load g width tree r

-- the loads without that of the set
abbrev pub without_tree : Grid → ℕ → List Piece → List ℕ → List ℕ
without_tree g width tree loads = map (λ r. slice_index loads r - tree_load g width tree r) (range_with_len 0 (length loads))

-- a party may differ from what it was in its shares alone
abbrev pub DiffersInShares : Party → Party → Type 0
DiffersInShares old new = new ≡ record old { shares = new.shares }

-- each word has room for one more set
abbrev pub HasRoomForSet : Party → Type 0
HasRoomForSet p = (word : ℕ) → share_at word p + max_tree_load ≤ p.allot

-- the load of the set of a net of this width is in the party's shares
pub record HoldsTree (g : Grid) (width : ℕ) (tree : List Piece) (p : Party) : Type 0 where
  pub pieces : ArePieces (size_of g) tree
  pub had : (r : ℕ) → tree_load g width tree r ≤ share_at r p
