-- Sums over lists, and loads of nets between two positions.
use Rattle.std.proofs.Common.{◌≡◌, ℕ, ◌+◌, ◌-◌, ◌≤◌, List, [], ◌∷◌, ◌++◌, length, take, drop, slice_get, slice_range, refl, sym}
use Rattle.std.proofs.Common.{◌∙◌, ap, arith, zero, suc, ◌==◌, Bool, true, false, cond, replicate}
use Rattle.std.specs.List.{sum_by, zip}
use Rattle.std.proofs.Math.Nat.{sub_self}
use Rattle.std.proofs.Math.Seq.{take-append_seam, take-append-add, drop-append_seam, drop-drop}
use Rattle.std.proofs.lemmas.List.{take_all}
use Rattle.std.proofs.lemmas.List.Sums.{sum_by-cons}
use Rattle.grid_base.specs.declared.piece.Piece.{Piece}
use Rattle.grid_base.specs.Lists.{At}
use Rattle.grid_graph.specs.declared.grid.Grid.{Grid}
use Rattle.grid_graph.specs.declared.net_spec.NetSpec.{NetSpec}
use Rattle.grid_graph.specs.Grids.{edge_numbers}
use Rattle.tree_set.specs.Loads.{load, load_on, load_between, net_load, tree_load}
use Rattle.tree_set.specs.Measures.{wirelength}
use Rattle.std.proofs.lemmas.List.Folds.{sum_by-replicate}
use Rattle.sharing_runs.proofs.Between.{load_on-split, load_on-between, load_on-first, load_on-none, load_on-push}
use Rattle.routing_passes.proofs.Positions.{one_here}
use Rattle.routing_passes.proofs.Slices.{slice_get-drop}

-- a sum whose terms are sums
pub sum_by-both : {X : Type 0} (f g h : X → ℕ) (xs : List X) → ((x : X) → f x ≡ g x + h x)
    → sum_by f xs ≡ sum_by g xs + sum_by h xs
sum_by-both f g h [] both = refl
sum_by-both f g h (x ∷ xs) both =
    omega (arith, sum_by-cons f x xs, sum_by-cons g x xs, sum_by-cons h x xs, both x, sum_by-both f g h xs both)

-- the load between two positions is that up to a position between them and that from there on
pub load_between-split : (g : Grid) (nets : List NetSpec) (trees : List (List Piece)) (a m b r : ℕ) → a ≤ m → m ≤ b
    → load_between g nets trees a b r ≡ load_between g nets trees a m r + load_between g nets trees m b r
load_between-split g nets trees a m b r low high =
    let parted = load_on-between g nets trees in
    omega (arith, parted a b r (omega (arith, low, high)), parted a m r low, parted m b r high)

-- of the nets only those that have a set count
load_on-first_nets : (g : Grid) (nets : List NetSpec) (trees : List (List Piece)) (m r : ℕ)
    → load_on g (take m nets) (take m trees) r ≡ load_on g nets (take m trees) r
load_on-first_nets g nets trees m r =
    let all : m - 0 ≡ m = omega arith in
    sym (rw all at (load_on-first g nets trees m r))

-- the load between two positions is that of the sets there
pub load_between-here : (g : Grid) (nets : List NetSpec) (all sets : List (List Piece)) (a b r : ℕ) → slice_range all a b ≡ sets
    → load_between g nets all a b r ≡ load_on g (drop a nets) sets r
load_between-here g nets all sets a b r here =
    load_on-first_nets g (drop a nets) (drop a all) (b - a) r ∙ ap (λ s. load_on g (drop a nets) s r) here

-- one set more, where the first is of the net at a position
pub load_on-behind_push : (g : Grid) (nets : List NetSpec) (a k : ℕ) (sets : List (List Piece)) (n : NetSpec)
    (tree : List Piece) (r : ℕ)
    → At nets k n → a ≤ k → length sets ≡ k - a
    → load_on g (drop a nets) (sets ++ tree ∷ []) r ≡ load_on g (drop a nets) sets r + tree_load g n.width tree r
load_on-behind_push g nets a k sets n tree r at low long =
    load_on-push g (drop a nets) sets n tree r
    (slice_get-drop nets a (length sets) ∙ ap (slice_get nets) (omega (arith, low, long)) ∙ at)

-- sets, and sets for the nets behind
pub load_on-behind_append : (g : Grid) (nets' : List NetSpec) (a m : ℕ) (s t : List (List Piece)) (r : ℕ) → a ≤ m
    → length s ≡ m - a
    → load_on g (drop a nets') (s ++ t) r ≡ load_on g (drop a nets') s r + load_on g (drop m nets') t r
load_on-behind_append g nets' a m s t r low long =
    let nets : List NetSpec = drop a nets' in
    let n : ℕ = length s in
    let end : a + n ≡ m = omega (arith, low, long) in
    let whole : take (length t) t ≡ t = take_all (length t) t (omega arith) in
    rw (load_on-first_nets g (drop n nets) t (length t) r, whole, drop-drop n a nets', end)
    at (rw (take-append-add s t (length t), take-append_seam s t, drop-append_seam s t)
    at (load_on-split g nets (s ++ t) n (length t) r))

-- a net more
pub load_between-next : (g : Grid) (nets : List NetSpec) (all : List (List Piece)) (a k : ℕ) (n : NetSpec) (tree : List Piece)
    (r : ℕ) → At nets k n → At all k tree → a ≤ k
    → load_between g nets all a (k + 1) r ≡ load_between g nets all a k r + tree_load g n.width tree r
load_between-next g nets all a k n tree r at stands low =
    let here = load_between-here g nets all (tree ∷ []) k (k + 1) r (one_here all k tree stands) in
    let pushed = load_on-behind_push g nets k k [] n tree r at (omega arith) (omega arith) in
    omega (arith, load_between-split g nets all a k (k + 1) r low (omega arith), here, pushed, load_on-none g (drop k nets) r)

-- no net is between a position and itself
pub load_between-none : (g : Grid) (nets : List NetSpec) (all : List (List Piece)) (a r : ℕ) → load_between g nets all a a r ≡ 0
load_between-none g nets all a r =
    load_between-here g nets all [] a a r (ap (λ n. take n (drop a all)) (sub_self a)) ∙ load_on-none g (drop a nets) r

-- the load of a first net and of the others
pub load_on-cons : (g : Grid) (n : NetSpec) (nets : List NetSpec) (t : List Piece) (trees : List (List Piece)) (r : ℕ)
    → load_on g (n ∷ nets) (t ∷ trees) r ≡ tree_load g n.width t r + load_on g nets trees r
load_on-cons g n nets t trees r =
    let pushed = load_on-behind_push g (n ∷ nets) 0 0 [] n t r refl (omega arith) refl in
    let parted = load_on-behind_append g (n ∷ nets) 0 1 (t ∷ []) trees r (omega arith) refl in
    omega (arith, parted, pushed, load_on-none g (n ∷ nets) r)

-- empty sets have no load, whatever the nets
no_edges : (g : Grid) (nets : List NetSpec) (m r : ℕ)
    → sum_by (λ (x : NetSpec × List Piece). net_load g x.0.width x.1 r) (zip nets (replicate m [])) ≡ 0
no_edges g [] m r = refl
no_edges g (n ∷ nets) zero r = refl
no_edges g (n ∷ nets) (suc m) r = rw (sum_by-cons, no_edges g nets m r)

either_none : (b : Bool) (x y : ℕ) → x ≡ 0 → y ≡ 0 → cond b x y ≡ 0
either_none true x y first second = first
either_none false x y first second = second

pub no_load : (g : Grid) (nets : List NetSpec) (m r : ℕ) → load_on g nets (replicate m []) r ≡ 0
no_load g nets m r =
    either_none (r == edge_numbers g) (wirelength (replicate m [])) (load g nets (replicate m []) r)
    (sum_by-replicate length m [] ∙ omega arith) (no_edges g nets m r)
