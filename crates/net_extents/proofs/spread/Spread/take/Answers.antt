use Rattle.std.proofs.Common.{◌≡◌, ℕ, List, take, ◌∙◌, ap, subst, arith}
use Rattle.std.specs.Prelude.{map, max, min}
use Rattle.std.specs.List.{fold}
use Rattle.std.proofs.lemmas.List.{take_all}
use Rattle.grid_base.specs.declared.vertex.Vertex.{Vertex}
use Rattle.grid_base.specs.Numbers.{col_of, layer_of, layers, row_of}
use Rattle.grid_graph.specs.Flat.{tile_of}
use Rattle.net_extents.specs.Spreads.{AreEachOnce}
use Rattle.net_extents.proofs.spread.Spread.take.Goals as goal

-- the numbers of all terminals, each once
all_once : (f : Vertex → ℕ) (so_far terminals : List Vertex) (given numbers : List ℕ) → so_far ≡ terminals → given ≡ map f so_far → AreEachOnce given numbers → AreEachOnce (map f terminals) numbers
all_once f so_far terminals given numbers whole are once = subst (λ (xs : List ℕ). AreEachOnce xs numbers) (are ∙ ap (map f) whole) once

pub returns : goal.returns
returns c =
    let s = c.args.size in
    let xs = c.args.terminals.now in
    let whole : take c.loop-v.v-index xs ≡ xs = take_all c.loop-v.v-index xs (omega (arith, c.loop-v-test.false)) in
    let are = c.loop-v.invariant in
    record {
      tiles = all_once (λ v. tile_of s v.0) _ xs _ _ whole are.tiles c.sort_once.ensures;
      cols = all_once (λ v. col_of s v.0) _ xs _ _ whole are.cols c.sort_once-2.ensures;
      rows = all_once (λ v. row_of s v.0) _ xs _ _ whole are.rows c.sort_once-3.ensures;
      low = are.low ∙ ap (fold (λ low v. min low (layer_of s v.0)) (layers s)) whole;
      high = are.high ∙ ap (fold (λ high v. max high (layer_of s v.0)) 0) whole;
    }
