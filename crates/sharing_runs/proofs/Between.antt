-- The load of the first nets is that of a first part of them and of those behind it.
use Rattle.std.proofs.Common.{◌≡◌, ℕ, zero, suc, ◌+◌, ◌-◌, ◌≤◌, List, [], ◌∷◌, length, take, drop, ◌++◌, refl, sym, ◌∙◌, ap}
use Rattle.std.proofs.Common.{arith, cond, ◌==◌, Bool, true, false, Some, slice_get, slice_index, ◌<◌}
use Rattle.std.specs.List.{sum_by, zip}
use Rattle.std.proofs.lemmas.List.Sums.{sum_by-append, sum_by-cons}
use Rattle.std.proofs.Math.Seq.{take-add, take-append_seam, drop-append_seam, drop-cons}
use Rattle.std.proofs.lemmas.List.{take_all, length-append, ext_get_or}
use Rattle.std.proofs.lemmas.List.FromFn.{get_or-map-range_with_len, length-map-range_with_len}
use Rattle.std.proofs.lemmas.Option.{slice_get_within, get_or_from_slice_get}
use Rattle.grid_base.specs.declared.piece.Piece.{Piece}
use Rattle.grid_graph.specs.declared.grid.Grid.{Grid}
use Rattle.grid_graph.specs.declared.net_spec.NetSpec.{NetSpec}
use Rattle.grid_graph.specs.Grids.{edge_numbers, entries}
use Rattle.tree_set.specs.Loads.{load, net_load, tree_load, load_on, load_between, load_list}
use Rattle.tree_set.specs.Measures.{wirelength}

-- of a list without an element there are no pairs
zip-none : {X Y : Type 0} (xs : List X) → zip {X = Y} xs [] ≡ []
zip-none [] = refl
zip-none (x ∷ xs) = refl

-- pairs with the first m need the first m alone
zip-take : {X Y : Type 0} (m : ℕ) (xs : List X) (ys : List Y) → zip xs (take m ys) ≡ zip (take m xs) (take m ys)
zip-take zero xs ys = zip-none xs
zip-take (suc m) [] ys = refl
zip-take (suc m) (x ∷ xs) [] = refl
zip-take (suc m) (x ∷ xs) (y ∷ ys) = ap (λ rest. (x, y) ∷ rest) (zip-take m xs ys)

-- nothing is taken of nothing
pub take-none : {X : Type 0} (m : ℕ) → take {A = X} m [] ≡ []
take-none zero = refl
take-none (suc m) = refl

-- pairs with the first n, and then the next m
sum_by-zip-split : {X Y : Type 0} (f : X × Y → ℕ) (n m : ℕ) (xs : List X) (ys : List Y)
    → sum_by f (zip xs (take n ys ++ take m (drop n ys)))
    ≡ sum_by f (zip xs (take n ys)) + sum_by f (zip (take m (drop n xs)) (take m (drop n ys)))
sum_by-zip-split {X = X} {Y = Y} f zero m xs ys =
    omega (arith, ap (λ ps. sum_by f ps) (zip-take m xs ys), ap (λ ps. sum_by f ps) (zip-none {X = X} {Y = Y} xs))
sum_by-zip-split {X = X} f (suc n) m [] ys = omega
    (arith, ap (λ first. sum_by f (zip first (take m (drop (suc n) ys)))) (take-none {X = X} m))
sum_by-zip-split {X = X} {Y = Y} f (suc n) m (x ∷ xs) [] =
    omega (
      arith,
      ap (λ none. sum_by f (zip (x ∷ xs) none)) (take-none {X = Y} m),
      ap (λ none. sum_by f (zip (take m (drop n xs)) none)) (take-none {X = Y} m)
          ∙ ap (λ ps. sum_by f ps) (zip-none {X = X} {Y = Y} (take m (drop n xs))),
    )
sum_by-zip-split f (suc n) m (x ∷ xs) (y ∷ ys) =
    sum_by-cons f (x, y) (zip xs (take n ys ++ take m (drop n ys)))
    ∙ omega (arith, sum_by-zip-split f n m xs ys, sum_by-cons f (x, y) (zip xs (take n ys)))

-- numbers of either kind add up
cond-add : (b : Bool) (p q x y s t : ℕ) → p ≡ x + s → q ≡ y + t → cond b p q ≡ cond b x y + cond b s t
cond-add true p q x y s t first second = first
cond-add false p q x y s t first second = second

-- the same number either way
cond-same : (b : Bool) (x : ℕ) → cond b x x ≡ x
cond-same true x = refl
cond-same false x = refl

-- the load of the first n + m nets is that of the first n and that of the next m
pub load_on-split : (g : Grid) (nets : List NetSpec) (trees : List (List Piece)) (n m r : ℕ)
    → load_on g nets (take (n + m) trees) r ≡ load_on g nets (take n trees) r
    + load_on g (take m (drop n nets)) (take m (drop n trees)) r
load_on-split g nets trees n m r =
    let loads : load g nets (take (n + m) trees) r
    ≡ load g nets (take n trees) r + load g (take m (drop n nets)) (take m (drop n trees)) r =
    ap (λ first. load g nets first r) (take-add n m trees)
    ∙ sum_by-zip-split (λ x. net_load g x.0.width x.1 r) n m nets trees in
    let lengths : wirelength (take (n + m) trees) ≡ wirelength (take n trees) + wirelength (take m (drop n trees)) =
    ap wirelength (take-add n m trees) ∙ sum_by-append length (take n trees) (take m (drop n trees)) in
    cond-add (r == edge_numbers g) (wirelength (take (n + m) trees)) (load g nets (take (n + m) trees) r)
    (wirelength (take n trees))
    (load g nets (take n trees) r) (wirelength (take m (drop n trees)))
    (load g (take m (drop n nets)) (take m (drop n trees)) r) lengths loads

-- the load of the first nets, up to a position, is that up to an earlier one and that of the nets between
pub load_on-between : (g : Grid) (nets : List NetSpec) (trees : List (List Piece)) (from to r : ℕ)
    → from ≤ to → load_on g nets (take to trees) r ≡ load_on g nets (take from trees) r + load_between g nets trees from to r
load_on-between g nets trees from to r before =
    let whole : to ≡ from + (to - from) = omega arith in
    ap (λ end. load_on g nets (take end trees) r) whole ∙ load_on-split g nets trees from (to - from) r

-- no net has no load
pub load_on-none : (g : Grid) (nets : List NetSpec) (r : ℕ) → load_on g nets [] r ≡ 0
load_on-none g nets r =
    ap (λ load. cond (r == edge_numbers g) 0 load) (ap (λ ps. sum_by (λ x. net_load g x.0.width x.1 r) ps) (zip-none nets))
    ∙ cond-same (r == edge_numbers g) 0

-- that of the first nets is that of the nets from the first on
pub load_on-first : (g : Grid) (nets : List NetSpec) (trees : List (List Piece)) (to r : ℕ)
    → load_on g nets (take to trees) r ≡ load_between g nets trees 0 to r
load_on-first g nets trees to r =
    let split : load_on g nets (take to trees) r ≡ load_on g nets [] r + load_between g nets trees 0 to r =
    load_on-between g nets trees 0 to r (omega arith) in
    omega (arith, split, load_on-none g nets r)

-- one of two numbers, by their values
cond-values : (b : Bool) (x y p q : ℕ) → x ≡ p → y ≡ q → cond b x y ≡ cond b p q
cond-values true x y p q first second = first
cond-values false x y p q first second = second

-- the load of a single net is that of its set
load_on-one : (g : Grid) (n : NetSpec) (tree : List Piece) (r : ℕ)
    → load_on g (n ∷ []) (tree ∷ []) r ≡ tree_load g n.width tree r
load_on-one g n tree r =
    cond-values (r == edge_numbers g) (wirelength (tree ∷ [])) (load g (n ∷ []) (tree ∷ []) r) (length tree)
    (net_load g n.width tree r)
    (omega arith) (omega arith)

-- the element that stands at a place comes first behind those before it
take_one : {X : Type 0} (xs : List X) (k : ℕ) (x : X) → slice_get xs k ≡ Some x → take 1 (drop k xs) ≡ x ∷ []
take_one xs k x at =
    ap (take 1) (drop-cons xs k x (slice_get_within xs k x at)) ∙ ap (λ y. y ∷ []) (get_or_from_slice_get xs k x x at)

-- the load of one net more is that of the nets before and that of its set
pub load_on-push : (g : Grid) (nets : List NetSpec) (trees : List (List Piece)) (n : NetSpec) (tree : List Piece) (r : ℕ)
    → slice_get nets (length trees) ≡ Some n
    → load_on g nets (trees ++ tree ∷ []) r ≡ load_on g nets trees r + tree_load g n.width tree r
load_on-push g nets trees n tree r at =
    let k : ℕ = length trees in
    let all : List (List Piece) = trees ++ tree ∷ [] in
    let whole : take (k + 1) all ≡ all = take_all (k + 1) all (omega (arith, length-append trees (tree ∷ []))) in
    let before : take k all ≡ trees = take-append_seam trees (tree ∷ []) in
    let behind : drop k all ≡ tree ∷ [] = drop-append_seam trees (tree ∷ []) in
    let here : take 1 (drop k nets) ≡ n ∷ [] = take_one nets k n at in
    ap (λ sets. load_on g nets sets r) (sym whole)
    ∙ load_on-split g nets all k 1 r
    ∙ ap (λ sets. load_on g nets sets r + load_on g (take 1 (drop k nets)) (take 1 (drop k all)) r) before
    ∙ ap (λ sets. load_on g nets trees r + load_on g (take 1 (drop k nets)) (take 1 sets) r) behind
    ∙ ap (λ ns. load_on g nets trees r + load_on g ns (tree ∷ []) r) here
    ∙ ap (λ load. load_on g nets trees r + load) (load_on-one g n tree r)

-- an entry of a list of loads
pub load_list-at : (g : Grid) (nets : List NetSpec) (trees : List (List Piece)) (r : ℕ) → r < entries g
    → slice_index (load_list g nets trees) r ≡ load_on g nets trees r
load_list-at g nets trees r within = get_or-map-range_with_len (load_on g nets trees) 0 (entries g) r r 0 within (omega arith)

-- there is an entry for each resource
pub load_list-long : (g : Grid) (nets : List NetSpec) (trees : List (List Piece)) → length (load_list g nets trees) ≡ entries g
load_list-long g nets trees = length-map-range_with_len (load_on g nets trees) 0 (entries g)

-- a list of loads that are all 0 is that of no net
pub load_list-none : (g : Grid) (nets : List NetSpec) (loads : List ℕ) → length loads ≡ entries g
    → ((r : ℕ) → slice_index loads r ≡ 0) → loads ≡ load_list g nets []
load_list-none g nets loads long blank =
    ext_get_or 0 loads (load_list g nets []) (long ∙ sym (load_list-long g nets []))
    (λ r short. blank r ∙ sym (load_list-at g nets [] r (omega (arith, short, long)) ∙ load_on-none g nets r))

-- a list to which the load of one net more was added
pub load_list-push : (g : Grid) (nets : List NetSpec) (trees : List (List Piece)) (n : NetSpec) (tree : List Piece)
    (old new : List ℕ)
    → slice_get nets (length trees) ≡ Some n → old ≡ load_list g nets trees → length new ≡ entries g
    → ((r : ℕ) → slice_index new r ≡ slice_index old r + tree_load g n.width tree r)
    → new ≡ load_list g nets (trees ++ tree ∷ [])
load_list-push g nets trees n tree old new at before long added =
    ext_get_or 0 new (load_list g nets (trees ++ tree ∷ [])) (long ∙ sym (load_list-long g nets (trees ++ tree ∷ [])))
    (λ r short.
    let within : r < entries g = omega (arith, short, long) in
    added r
    ∙ ap (λ first. slice_index first r + tree_load g n.width tree r) before
    ∙ ap (λ load. load + tree_load g n.width tree r) (load_list-at g nets trees r within)
    ∙ sym (load_list-at g nets (trees ++ tree ∷ []) r within ∙ load_on-push g nets trees n tree r at))
