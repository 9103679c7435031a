use Rattle.std.proofs.Common.{◌≡◌, ℕ, ◌≤◌, ◌<◌, ◌-◌, length, get_or}
use Rattle.grid_base.specs.Numbers.{col_of, row_of, layer_of, place_at}
use Rattle.guide_text.specs.RouteTiles.{HasTile}
use Rattle.guide_text.proofs.tiles.Tiles.run_end.Given as goal

-- the tiles up to the last one are there, and that one stands at this place of the list
abbrev pub invariant-loop-last : goal.invariant-loop-last
invariant-loop-last l = record {
  within : l.place < length l.self.numbers.items;
  here : place_at l.self.size (get_or l.self.numbers.items l.place 0)
      ≡ record { col = l.last; row = row_of l.self.size (get_or l.self.numbers.items l.at 0); layer = layer_of l.self.size (get_or l.self.numbers.items l.at 0) };
  order : col_of l.self.size (get_or l.self.numbers.items l.at 0) ≤ l.last;
  each : (col : ℕ) → col_of l.self.size (get_or l.self.numbers.items l.at 0) ≤ col → col ≤ l.last
      → HasTile l.self.size l.self.numbers.items (layer_of l.self.size (get_or l.self.numbers.items l.at 0)) (row_of l.self.size (get_or l.self.numbers.items l.at 0)) col;
}

abbrev pub decreases-loop-last : goal.decreases-loop-last
decreases-loop-last l = length l.self.numbers.items - l.place
