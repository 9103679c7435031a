-- Rows that hold, one condition after the other.
use Rattle.std.proofs.Common.{◌≡◌, ℕ, zero, suc, ◌^◌, ◌<◌, ◌≤◌, List, length, arith}
use Rattle.grid_base.specs.declared.piece.Piece.{Piece}
use Rattle.grid_base.specs.declared.size.Size.{Size}
use Rattle.grid_base.specs.declared.vertex.Vertex.{Vertex}
use Rattle.grid_base.specs.Lists.{At}
use Rattle.grid_base.specs.Numbers.{vertices}
use Rattle.steiner_tables.specs.Masks.{single}
use Rattle.label_search.specs.Sets.{RisesSlowly}
use Rattle.steiner_tables.proofs.Masks.{parts_sum}
use Rattle.brought_bounds.specs.TableWords.{table_number, IsTable, IsTableThatHolds, SplitHolds}

pub power_small : (n : ℕ) → n ≤ 4 → 2 ^ n ≤ 16
power_small zero small = omega arith
power_small (suc zero) small = omega arith
power_small (suc (suc zero)) small = omega arith
power_small (suc (suc (suc zero))) small = omega arith
power_small (suc (suc (suc (suc zero)))) small = omega arith
power_small (suc (suc (suc (suc (suc n))))) small = absurd (omega arith)

pub held : (s : Size) (pieces : List (Piece × ℕ)) (terminals : List Vertex) (rows : List (List ℕ)) → IsTable s terminals rows →
    ((mask : ℕ) → 0 < mask → mask ≤ length rows → RisesSlowly s pieces (table_number rows mask)) →
    ((place : ℕ) (v : Vertex) → At terminals place v → single place ≤ length rows → table_number rows (single place) v.0 ≡ 0) →
    ((one other : ℕ) → 0 < one → one ≤ length rows → 0 < other → other ≤ length rows
    → SplitHolds (vertices s) (length rows) (table_number rows) one other) → IsTableThatHolds s pieces terminals rows
held s pieces terminals rows table steps own splits = record {
  table = table;
  holds = record {
    own = λ place v at low. own place v at (omega (arith, low, table.each));
    steps = λ mask some low. steps mask some (omega (arith, low, table.each));
    splits = λ one other mask v parts low vertex.
        let sum = parts_sum one other mask parts in
        splits one other parts.some (omega (arith, sum, low, table.each)) parts.others
        (omega (arith, sum, low, table.each)) mask v parts (omega (arith, low, table.each)) vertex;
  };
}
