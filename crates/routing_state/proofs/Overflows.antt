-- What is lacking on all edges together is the overflow.
use Rattle.std.proofs.Common.{◌≡◌, ℕ, ◌-◌, ◌≤◌, ◌<◌, List, length, map, All, refl, sym, ◌∙◌, ap, arith, ℤ, pos, negsuc, ◌-ℤ◌}
use Rattle.std.specs.Prelude.{slice_index_or}
use Rattle.std.specs.List.{sum, sum_by, range_with_len}
use Rattle.std.proofs.lemmas.Int.{ints}
use Rattle.std.proofs.lemmas.List.{ext_get_or, get_or-map, length-map}
use Rattle.std.proofs.lemmas.List.FromFn.{get_or-map-range_with_len, length-map-range_with_len}
use Rattle.std.proofs.lemmas.List.Sums.{sum-map, sum_by-le}
use Rattle.grid_graph.specs.declared.grid.Grid.{Grid}
use Rattle.grid_graph.specs.declared.kind.Kind.{Kind}
use Rattle.grid_graph.specs.declared.kind.Kind.TheVariants.{Open, Choked, Wall}
use Rattle.grid_graph.specs.Grids.{capacity, edge_numbers, kind}
use Rattle.tree_set.specs.Measures.{excess, overflow}
use Rattle.routing_state.specs.Lacks.{lack}
use Rattle.routing_state.specs.Rooms.{AreRooms}
use Rattle.routing_state.proofs.Giving.{same_default}

lack_is : (room : ℤ) (most load : ℕ) → room ≡ pos most -ℤ pos load → lack room ≡ load - most
lack_is (pos n) most load is = omega (arith, ints)
lack_is (negsuc n) most load is = omega (arith, ints)

lack-excess : (k : Kind) (room : ℤ) (most load : ℕ) → room ≡ pos most -ℤ pos load → (k ≡ Wall → load ≡ 0) → lack room ≡ excess k load most
lack-excess Open room most load is none = lack_is room most load is
lack-excess Choked room most load is none = lack_is room most load is
lack-excess Wall room most load is none = omega (arith, lack_is room most load is, none refl)

-- where walls have no load, what is lacking is what the loads are above the capacities
pub overflow-lacks : (g : Grid) (load : ℕ → ℕ) (rooms : List ℤ) → AreRooms g load rooms → ((e : ℕ) → kind g e ≡ Wall → load e ≡ 0) → sum_by lack rooms ≡ overflow g load
overflow-lacks g load rooms are off =
    let n : ℕ = edge_numbers g in
    let over : ℕ → ℕ = λ e. excess (kind g e) (load e) (capacity g e) in
    sym (sum-map lack rooms)
    ∙ ap sum (ext_get_or 0 (map lack rooms) (map over (range_with_len 0 n))
    (length-map rooms lack ∙ are.long ∙ sym (length-map-range_with_len over 0 n))
    (λ e short.
    let number : e < n = omega (arith, short, length-map rooms lack, are.long) in
    get_or-map lack rooms e (pos 0) 0 (omega (arith, short, length-map rooms lack))
    ∙ lack-excess (kind g e) _ _ _ (are.each e number) (off e)
    ∙ sym (get_or-map-range_with_len over 0 n e e 0 number (omega arith))))

none_lacks : (room : ℤ) (n : ℕ) → room ≡ pos n → lack room ≤ 0
none_lacks (pos m) n is = omega arith
none_lacks (negsuc m) n is = absurd (omega (arith, ints, is))

-- nothing is lacking where each room is a capacity
pub lacks-none : (rooms : List ℤ) (most : ℕ → ℕ) → ((e : ℕ) → e < length rooms → slice_index_or rooms e (pos 0) ≡ pos (most e)) → 0 ≡ sum_by lack rooms
lacks-none rooms most each =
    let all : All (λ room. lack room ≤ 0) rooms = λ k d below. none_lacks _ (most k) (same_default rooms k (pos 0) d below ∙ each k below) in
    omega (arith, sum_by-le lack 0 rooms all)
