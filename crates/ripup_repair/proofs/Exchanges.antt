-- Routings in which the nets at some positions have other sets.
use Rattle.std.proofs.Common.{◌≡◌, ℕ, suc, ◌+◌, ◌*◌, ◌≤◌, List, [], ◌∷◌, length, slice_set, refl, ◌∙◌, ap, arith}
use Rattle.ripup_repair.proofs.Common.{length-set, Piece, At, Grid, NetSpec, IsNetWidth, load_on, max_tree_load, IsRising}
use Rattle.ripup_repair.proofs.Common.{IsRoute, IsRouting, at_positions, load_on-none, route_pieces, stands, load_on-cons}
use Rattle.ripup_repair.proofs.Common.{with_elements, AreWithin, at_positions-cons, first_within, rest_within}
use Rattle.sharing_runs.proofs.Exchanges.{AllZip-set, load_on-set}
use Rattle.routing_passes.proofs.TreeLimits.{tree_load-within}
use Rattle.ripup_repair.proofs.Positions.{AreRising, at_positions-elsewhere, none_is_first, rest_rising}

-- the load with the new sets is that with the old ones, where the new ones' load stands in place of that of the old ones
pub load_on-with : (g : Grid) (nets : List NetSpec) (trees : List (List Piece)) (ks : List ℕ) (sets : List (List Piece)) (r : ℕ)
    → length trees ≡ length nets → AreWithin nets ks → AreRising ks → length sets ≡ length ks
    → load_on g nets (with_elements trees ks sets) r + load_on g (at_positions nets ks) (at_positions trees ks) r
    ≡ load_on g nets trees r + load_on g (at_positions nets ks) sets r
load_on-with g nets trees [] [] r long within rising even = refl
load_on-with g nets trees [] (y ∷ sets) r long within rising even = absurd (omega (arith, even))
load_on-with g nets trees (k ∷ ks) [] r long within rising even = absurd (omega (arith, even))
load_on-with g nets trees (k ∷ ks) (y ∷ sets) r long within rising even =
    let n = stands nets k (first_within nets k ks within) in
    let t = stands trees k (omega (arith, first_within nets k ks within, long)) in
    let ns : List NetSpec = at_positions nets ks in
    let zs : List (List Piece) = slice_set trees k y in
    let among : AreWithin trees ks = λ i d short. omega (arith, rest_within nets k ks within i d short, long) in
    let again : at_positions zs ks ≡ at_positions trees ks =
    at_positions-elsewhere trees k y ks among (none_is_first k ks rising) in
    rw (at_positions-cons nets k ks n.0 n.1, at_positions-cons trees k ks t.0 t.1) (omega (
      arith,
      load_on-cons g n.0 ns t.0 (at_positions trees ks) r,
      load_on-cons g n.0 ns y sets r,
      load_on-with g nets zs ks sets r (length-set trees k y ∙ long) (rest_within nets k ks within) (rest_rising k ks rising)
          (omega (arith, even)),
      ap (λ l. load_on g ns l r) again,
      load_on-set g nets trees k n.0 t.0 y r n.1 t.1,
    ))

-- where each new set is a route of its net, all sets are a routing
pub routing-with : (g : Grid) (nets : List NetSpec) (trees : List (List Piece)) (ks : List ℕ) (sets : List (List Piece))
    → IsRouting g nets trees → AreWithin nets ks
    → ((i k : ℕ) (n : NetSpec) (y : List Piece) → At ks i k → At nets k n → At sets i y → IsRoute g n y)
    → IsRouting g nets (with_elements trees ks sets)
routing-with g nets trees [] sets routing within routes = routing
routing-with g nets trees (k ∷ ks) [] routing within routes = routing
routing-with g nets trees (k ∷ ks) (y ∷ sets) routing within routes =
    let n = stands nets k (first_within nets k ks within) in
    routing-with g nets (slice_set trees k y) ks sets
    (AllZip-set (IsRoute g) nets trees k n.0 y routing n.1 (routes 0 k n.0 y refl n.1 refl))
    (rest_within nets k ks within)
    (λ i j m z at net here. routes (suc i) j m z at net here)

-- a routing has no more load than so much for each net
pub load_on-within : (g : Grid) (nets : List NetSpec) (trees : List (List Piece)) (r : ℕ)
    → ((k : ℕ) (n : NetSpec) → At nets k n → IsNetWidth g n.width) → ((k : ℕ) (t : List Piece) → At trees k t → IsRising t)
    → IsRouting g nets trees
    → load_on g nets trees r ≤ length nets * max_tree_load
load_on-within g [] [] r widths rising routing = omega (arith, load_on-none g [] r)
load_on-within g [] (t ∷ trees) r widths rising routing = absurd routing
load_on-within g (n ∷ nets) [] r widths rising routing = absurd routing
load_on-within g (n ∷ nets) (t ∷ trees) r widths rising routing =
    omega (
      arith,
      load_on-cons g n nets t trees r,
      tree_load-within g n.width t r (widths 0 n refl) (rising 0 t refl) (route_pieces g n t routing.0),
      load_on-within g nets trees r (λ k m at. widths (suc k) m at) (λ k s at. rising (suc k) s at) routing.1,
    )
