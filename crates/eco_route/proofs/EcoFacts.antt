-- An eco, as a net comes, changes or goes.
use Rattle.std.proofs.Common.{◌≡◌, ℕ, zero, suc, ◌+◌, ◌-◌, ◌*◌, ◌<◌, ◌≤◌, List, [], ◌∷◌, ◌++◌, length, get_or, All, refl, sym, ◌∙◌, ap, subst, ⊎_elim, arith}
use Rattle.std.specs.Prelude.{is_err, is_ok, is_some, map, slice_index, slice_set, true, false, Err, IfNone, None, OnErr, OnOk, Ok, Option, Result, Some}
use Rattle.std.specs.List.{remove}
use Rattle.std.proofs.lemmas.List.{length_push, length-set, map_push, ext_get_or, get_or-set_same}
use Rattle.std.proofs.lemmas.List.Elements.{All-push}
use Rattle.std.proofs.lemmas.List.Sums.{sum_by-remove, sum_by_push}
use Rattle.std.proofs.lemmas.Option.{same_Some, slice_get_within, slice_get-get_or, get_or_from_slice_get}
use Rattle.std.proofs.lemmas.Bool.{false≢true}
use Rattle.grid_base.specs.declared.piece.Piece.{Piece}
use Rattle.grid_base.specs.Lists.{At, HasNoRepeats}
use Rattle.grid_base.proofs.Lists.{At-pushed, At-push_cases}
use Rattle.grid_graph.specs.declared.design.Design.{Design}
use Rattle.grid_graph.specs.declared.grid.Grid.{Grid}
use Rattle.grid_graph.specs.declared.net_spec.NetSpec.{NetSpec}
use Rattle.grid_graph.specs.Grids.{entries, size_of, IsNetWidth}
use Rattle.grid_graph.specs.Limits.{max_load, max_nets, max_pins}
use Rattle.grid_graph.specs.Nets.{IdsDiffer, IsDesign, IsNet}
use Rattle.price_workers.specs.TreeLoads.{GainsTree, without_tree}
use Rattle.price_workers.proofs.Taken.{without_tree-at}
use Rattle.routing_passes.proofs.TreeLimits.{tree_load-within}
use Rattle.price_workers.proofs.TurnFacts.{read_at}
use Rattle.sharing_runs.proofs.Between.{load_list-at, load_list-long, load_on-none}
use Rattle.tree_set.specs.Loads.{load_list, load_on, max_tree_load, tree_load}
use Rattle.tree_set.specs.Order.{IsRising}
use Rattle.tree_set.specs.Routings.{ArePieces}
use Rattle.eco_route.specs.declared.net_index.NetIndex.{NetIndex}
use Rattle.eco_route.specs.declared.net_router.NetRouter.{NetRouter}
use Rattle.eco_route.specs.EcoStates.{AreSetsOf, IsEco}
use Rattle.eco_route.specs.EcoSteps.{IsDropStep}
use Rattle.eco_route.specs.EditRefusals.{HasNoNet, terminals_of}
use Rattle.eco_route.specs.NetIndices.{ids_of, IsIndexOf}
use Rattle.eco_route.specs.RoutedDesigns.{RoutedDesign}
use Rattle.eco_route.specs.Routers.{IsRouterOn, router_loads}
use Rattle.eco_route.proofs.NetLoads.{load_on-without}
use Rattle.eco_route.proofs.Removed.{place_before, place_before-once, At-removed, length-removed, map-removed, remove-set, remove-pushed}

-- what is true of each element is true at each place, and the other way round
pub each_at : {X : Type 0} (P : X → Type 0) (xs : List X) → All P xs → (k : ℕ) (x : X) → At xs k x → P x
each_at P xs all k x at = subst P (get_or_from_slice_get xs k x x at) (all k x (slice_get_within xs k x at))

pub all_from : {X : Type 0} (P : X → Type 0) (xs : List X) → ((k : ℕ) (x : X) → At xs k x → P x) → All P xs
all_from P xs each k d within = each k (get_or xs k d) (slice_get-get_or xs k d within)

All-removed : {X : Type 0} (P : X → Type 0) (xs : List X) (p : ℕ) → All P xs → All P (remove xs p)
All-removed P xs p all = all_from P (remove xs p) (λ k x at. each_at P xs all (place_before p k) x (At-removed xs p k x at))

-- what stands in a list with another element
At-set : {X : Type 0} (xs : List X) (p : ℕ) (y : X) → p < length xs → At (slice_set xs p y) p y
At-set [] p y within = absurd (omega (arith, within))
At-set (x ∷ xs) zero y within = refl
At-set (x ∷ xs) (suc p) y within = At-set xs p y (omega (arith, within))

data_set : {X : Type 0} (P : ℕ → X → Type 0) (xs : List X) (p : ℕ) (y : X) → P p y → ((k : ℕ) (x : X) → At xs k x → P k x) → (k : ℕ) (x : X) → At (slice_set xs p y) k x → P k x
data_set P [] p y new each k x at = absurd (omega (arith, slice_get_within (slice_set [] p y) k x at, length-set [] p y))
data_set P (z ∷ xs) zero y new each zero x at = subst (P zero) (same_Some y x at) new
data_set P (z ∷ xs) zero y new each (suc k) x at = each (suc k) x at
data_set P (z ∷ xs) (suc p) y new each zero x at = each zero x at
data_set P (z ∷ xs) (suc p) y new each (suc k) x at = data_set (λ j. P (suc j)) xs p y new (λ j. each (suc j)) k x at

map-set_same : {X Y : Type 0} (f : X → Y) (xs : List X) (p : ℕ) (y : X) → ((x : X) → At xs p x → f x ≡ f y) → map f (slice_set xs p y) ≡ map f xs
map-set_same f [] zero y same = refl
map-set_same f [] (suc p) y same = refl
map-set_same f (x ∷ xs) zero y same = ap (λ z. z ∷ map f xs) (sym (same x refl))
map-set_same f (x ∷ xs) (suc p) y same = ap (λ zs. f x ∷ zs) (map-set_same f xs p y same)

-- no sets have a greater load than so much for each net
pub load_on-most : (g : Grid) (nets : List NetSpec) (trees : List (List Piece)) (r : ℕ) → length trees ≤ length nets
    → ((k : ℕ) (n : NetSpec) → At nets k n → IsNetWidth g n.width) → ((k : ℕ) (t : List Piece) → At trees k t → IsRising t)
    → ((k : ℕ) (t : List Piece) → At trees k t → ArePieces (size_of g) t) → load_on g nets trees r ≤ length nets * max_tree_load
load_on-most g [] [] r long widths rising pieces = omega (arith, load_on-none g [] r)
load_on-most g [] (t ∷ trees) r long widths rising pieces = absurd (omega (arith, long))
load_on-most g (n ∷ nets) [] r long widths rising pieces = omega (arith, load_on-none g (n ∷ nets) r)
load_on-most g (n ∷ nets) (t ∷ trees) r long widths rising pieces =
    omega (
      arith,
      load_on-without g (n ∷ nets) (t ∷ trees) zero n t r refl refl,
      tree_load-within g n.width t r (widths zero n refl) (rising zero t refl) (pieces zero t refl),
      load_on-most g nets trees r (omega (arith, long)) (λ k. widths (suc k)) (λ k. rising (suc k)) (λ k. pieces (suc k)),
    )

-- so there is room for one more
pub room_of : (g : Grid) (nets : List NetSpec) (trees : List (List Piece)) (loads : List ℕ) → IsDesign g nets → length trees ≤ length nets
    → ((k : ℕ) (t : List Piece) → At trees k t → IsRising t) → ((k : ℕ) (t : List Piece) → At trees k t → ArePieces (size_of g) t)
    → ((r : ℕ) → slice_index loads r ≡ load_on g nets trees r) → (r : ℕ) → slice_index loads r + max_tree_load ≤ max_load
room_of g nets trees loads limits long rising pieces loaded r =
    omega (arith, loaded r, limits.count, load_on-most g nets trees r long (λ k n at. (limits.net k n at).width) rising pieces)

pub has_room : (g : Grid) (nets : List NetSpec) (trees : List (List Piece)) (loads : List ℕ) → IsDesign g nets → AreSetsOf g nets trees → All IsRising trees
    → ((r : ℕ) → slice_index loads r ≡ load_on g nets trees r) → (r : ℕ) → slice_index loads r + max_tree_load ≤ max_load
has_room g nets trees loads limits sets rising loaded r =
    room_of g nets trees loads limits (omega (arith, sets.one_each)) (each_at IsRising trees rising) (each_at (ArePieces (size_of g)) trees sets.pieces) loaded r

-- loads that are those of the sets are the list of them
pub loads_are : (g : Grid) (nets : List NetSpec) (trees : List (List Piece)) (loads : List ℕ) → length loads ≡ entries g → ((r : ℕ) → slice_index loads r ≡ load_on g nets trees r)
    → loads ≡ load_list g nets trees
loads_are g nets trees loads long loaded =
    ext_get_or 0 loads (load_list g nets trees) (long ∙ sym (load_list-long g nets trees))
    (λ r short. loaded r ∙ sym (load_list-at g nets trees r (omega (arith, short, long))))

-- the net that has the id at a place
pub net_of_id : (ns : List NetSpec) (k x : ℕ) → At (ids_of ns) k x → (n : NetSpec) × At ns k n × (n.id ≡ x)
net_of_id [] k x at = absurd (omega (arith, slice_get_within [] k x at))
net_of_id (n ∷ ns) zero x at = (n, refl, same_Some n.id x at)
net_of_id (n ∷ ns) (suc k) x at = net_of_id ns k x at

pub id_of_net : (ns : List NetSpec) (k : ℕ) (n : NetSpec) → At ns k n → At (ids_of ns) k n.id
id_of_net [] k n at = absurd (omega (arith, slice_get_within [] k n at))
id_of_net (m ∷ ns) zero n at = ap (λ x. Some x) (ap (λ (x : NetSpec). x.id) (same_Some m n at))
id_of_net (m ∷ ns) (suc k) n at = id_of_net ns k n at

-- ids that differ are a list without repeats
pub once-ids : (nets : List NetSpec) → IdsDiffer nets → HasNoRepeats (ids_of nets)
once-ids nets differ i j id at_i at_j =
    let one = net_of_id nets i id at_i in
    let two = net_of_id nets j id at_j in
    differ i j one.0 two.0 one.1 two.1 (one.2 ∙ sym two.2)

-- a net comes
pub IdsDiffer-pushed : (nets : List NetSpec) (n : NetSpec) → IdsDiffer nets → HasNoNet nets n.id → IdsDiffer (nets ++ n ∷ [])
IdsDiffer-pushed nets n differ free i j a b at_i at_j same =
    ⊎_elim
    (λ first. ⊎_elim
    (λ second. differ i j a b first second same)
    (λ last. absurd (free i a first (same ∙ ap (λ (x : NetSpec). x.id) last.1)))
    (At-push_cases nets n b j at_j))
    (λ come. ⊎_elim
    (λ second. absurd (free j b second (sym same ∙ ap (λ (x : NetSpec). x.id) come.1)))
    (λ last. come.0 ∙ sym last.0)
    (At-push_cases nets n b j at_j))
    (At-push_cases nets n a i at_i)

pub IsDesign-pushed : (g : Grid) (nets : List NetSpec) (n : NetSpec) → IsDesign g nets → IsNet g n → HasNoNet nets n.id → length nets + 1 ≤ max_nets
    → terminals_of nets + length n.terminals ≤ max_pins → IsDesign g (nets ++ n ∷ [])
IsDesign-pushed g nets n was fits free count pins = record {
  count = omega (arith, length_push nets n, count);
  pins = omega (arith, sum_by_push (λ (m : NetSpec). length m.terminals) nets n, pins);
  ids = IdsDiffer-pushed nets n was.ids free;
  net = λ k m at. ⊎_elim (λ old. was.net k m old) (λ last. subst (IsNet g) (sym last.1) fits) (At-push_cases nets n m k at);
}

pub IsEco-pushed : (g : Grid) (nets : List NetSpec) (trees : List (List Piece)) (index index' : NetIndex) (terminals : ℕ) (router router' : NetRouter) (n : NetSpec) (tree : List Piece)
    → IsEco g nets trees index terminals router → ArePieces (size_of g) tree → IsRising tree → IsIndexOf (ids_of nets ++ n.id ∷ []) index' → IsRouterOn g router'
    → GainsTree g n.width tree (router_loads router) (router_loads router') → IsEco g (nets ++ n ∷ []) (trees ++ tree ∷ []) index' (terminals + length n.terminals) router'
IsEco-pushed g nets trees index index' terminals router router' n tree was pieces rising indexed routed gains =
    let one : length trees ≡ length nets = was.sets.one_each in
    let stands : At (trees ++ tree ∷ []) (length nets) tree = subst (λ k. At (trees ++ tree ∷ []) k tree) one (At-pushed trees tree) in
    let others : remove (trees ++ tree ∷ []) (length nets) ≡ trees = ap (remove (trees ++ tree ∷ [])) (sym one) ∙ remove-pushed trees tree in
    record {
      sets = record { one_each = omega (arith, length_push trees tree, length_push nets n, one); pieces = All-push (ArePieces (size_of g)) trees tree was.sets.pieces pieces };
      rising = All-push IsRising trees tree was.rising rising;
      indexed = subst (λ ids. IsIndexOf ids index') (sym (map_push (λ (m : NetSpec). m.id) nets n)) indexed;
      counted = omega (arith, was.counted, sum_by_push (λ (m : NetSpec). length m.terminals) nets n);
      routed = routed;
      loaded = λ r.
          gains r ∙ ap (λ x. x + tree_load g n.width tree r) (was.loaded r)
          ∙ ap (λ ns. load_on g ns trees r + tree_load g n.width tree r) (sym (remove-pushed nets n))
          ∙ ap (λ ts. load_on g (remove (nets ++ n ∷ []) (length nets)) ts r + tree_load g n.width tree r) (sym others)
          ∙ sym (load_on-without g (nets ++ n ∷ []) (trees ++ tree ∷ []) (length nets) n tree r (At-pushed nets n) stands);
    }

-- a net goes
pub IdsDiffer-removed : (nets : List NetSpec) (p : ℕ) → IdsDiffer nets → IdsDiffer (remove nets p)
IdsDiffer-removed nets p differ i j a b at_i at_j same =
    place_before-once p i j (differ (place_before p i) (place_before p j) a b (At-removed nets p i a at_i) (At-removed nets p j b at_j) same)

pub terminals-removed : (nets : List NetSpec) (p : ℕ) (n : NetSpec) → At nets p n → terminals_of (remove nets p) + length n.terminals ≡ terminals_of nets
terminals-removed nets p n at =
    ap (λ (m : NetSpec). terminals_of (remove nets p) + length m.terminals) (sym (get_or_from_slice_get nets p n n at))
    ∙ sum_by-remove (λ (m : NetSpec). length m.terminals) nets p n (slice_get_within nets p n at)

pub IsDesign-removed : (g : Grid) (nets : List NetSpec) (p : ℕ) (n : NetSpec) → IsDesign g nets → At nets p n → IsDesign g (remove nets p)
IsDesign-removed g nets p n was at = record {
  count = omega (arith, length-removed nets p (slice_get_within nets p n at), was.count);
  pins = omega (arith, terminals-removed nets p n at, was.pins);
  ids = IdsDiffer-removed nets p was.ids;
  net = λ k m stands. was.net (place_before p k) m (At-removed nets p k m stands);
}

-- the loads of all others
pub loads-without : (g : Grid) (nets : List NetSpec) (trees : List (List Piece)) (p : ℕ) (n : NetSpec) (tree : List Piece) (loads : List ℕ) → At nets p n → At trees p tree
    → ((r : ℕ) → slice_index loads r ≡ load_on g nets trees r) → (r : ℕ) → slice_index (without_tree g n.width tree loads) r ≡ load_on g (remove nets p) (remove trees p) r
loads-without g nets trees p n tree loads at stands loaded r =
    omega (arith, without_tree-at g n.width tree loads r, loaded r, load_on-without g nets trees p n tree r at stands)

-- a net's load is in that of all
pub load-had : (g : Grid) (nets : List NetSpec) (trees : List (List Piece)) (p : ℕ) (n : NetSpec) (tree : List Piece) (loads : List ℕ) → At nets p n → At trees p tree
    → ((r : ℕ) → slice_index loads r ≡ load_on g nets trees r) → (r : ℕ) → tree_load g n.width tree r ≤ slice_index loads r
load-had g nets trees p n tree loads at stands loaded r = omega (arith, loaded r, load_on-without g nets trees p n tree r at stands)

pub IsEco-removed : (g : Grid) (nets : List NetSpec) (trees : List (List Piece)) (index index' : NetIndex) (terminals : ℕ) (router router' : NetRouter) (p : ℕ) (n : NetSpec) (tree : List Piece)
    → IsEco g nets trees index terminals router → At nets p n → At trees p tree → IsIndexOf (remove (ids_of nets) p) index' → IsRouterOn g router'
    → router_loads router' ≡ without_tree g n.width tree (router_loads router) → IsEco g (remove nets p) (remove trees p) index' (terminals - length n.terminals) router'
IsEco-removed g nets trees index index' terminals router router' p n tree was at stands indexed routed loads = record {
  sets = record {
    one_each = omega (arith, length-removed nets p (slice_get_within nets p n at), length-removed trees p (slice_get_within trees p tree stands), was.sets.one_each);
    pieces = All-removed (ArePieces (size_of g)) trees p was.sets.pieces;
  };
  rising = All-removed IsRising trees p was.rising;
  indexed = subst (λ ids. IsIndexOf ids index') (sym (map-removed (λ (m : NetSpec). m.id) nets p)) indexed;
  counted = omega (arith, was.counted, terminals-removed nets p n at);
  routed = routed;
  loaded = λ r. ap (λ ls. slice_index ls r) loads ∙ loads-without g nets trees p n tree (router_loads router) at stands was.loaded r;
}

-- a net changes
pub IsDesign-set : (g : Grid) (nets : List NetSpec) (p : ℕ) (m n : NetSpec) → IsDesign g nets → At nets p m → m.id ≡ n.id → IsNet g n
    → terminals_of (remove nets p) + length n.terminals ≤ max_pins → IsDesign g (slice_set nets p n)
IsDesign-set g nets p m n was at same fits pins =
    let within : p < length nets = slice_get_within nets p m at in
    let named : ids_of (slice_set nets p n) ≡ ids_of nets = map-set_same (λ (x : NetSpec). x.id) nets p n (λ x stands. ap (λ (y : NetSpec). y.id) (same_Some x m (sym stands ∙ at)) ∙ same) in
    record {
      count = omega (arith, length-set nets p n, was.count);
      pins = omega (
        arith,
        sum_by-remove (λ (x : NetSpec). length x.terminals) (slice_set nets p n) p n (omega (arith, within, length-set nets p n)),
        ap terminals_of (remove-set nets p n),
        ap (λ (x : NetSpec). length x.terminals) (get_or-set_same nets p n n within),
        pins,
      );
      ids = λ i j a b at_i at_j alike.
          once-ids nets was.ids i j b.id
          (subst (λ ids. At ids i b.id) named (subst (λ x. At (ids_of (slice_set nets p n)) i x) alike (id_of_net (slice_set nets p n) i a at_i)))
          (subst (λ ids. At ids j b.id) named (id_of_net (slice_set nets p n) j b at_j));
      net = data_set (λ _ x. IsNet g x) nets p n fits was.net;
    }

pub IsEco-set : (g : Grid) (nets : List NetSpec) (trees : List (List Piece)) (index : NetIndex) (terminals : ℕ) (router router' : NetRouter) (loads : List ℕ) (p : ℕ) (m n : NetSpec) (old tree : List Piece)
    → IsEco g nets trees index terminals router → At nets p m → At trees p old → m.id ≡ n.id → ArePieces (size_of g) tree → IsRising tree → IsRouterOn g router'
    → loads ≡ without_tree g m.width old (router_loads router) → GainsTree g n.width tree loads (router_loads router')
    → IsEco g (slice_set nets p n) (slice_set trees p tree) index (terminals - length m.terminals + length n.terminals) router'
IsEco-set g nets trees index terminals router router' loads p m n old tree was at stands same pieces rising routed taken gains =
    let in_nets : p < length nets = slice_get_within nets p m at in
    let in_trees : p < length trees = slice_get_within trees p old stands in
    let named : ids_of (slice_set nets p n) ≡ ids_of nets = map-set_same (λ (x : NetSpec). x.id) nets p n (λ x here. ap (λ (y : NetSpec). y.id) (same_Some x m (sym here ∙ at)) ∙ same) in
    record {
      sets = record {
        one_each = omega (arith, length-set nets p n, length-set trees p tree, was.sets.one_each);
        pieces = all_from (ArePieces (size_of g)) (slice_set trees p tree) (data_set (λ _ t. ArePieces (size_of g) t) trees p tree pieces (each_at (ArePieces (size_of g)) trees was.sets.pieces));
      };
      rising = all_from IsRising (slice_set trees p tree) (data_set (λ _ t. IsRising t) trees p tree rising (each_at IsRising trees was.rising));
      indexed = subst (λ ids. IsIndexOf ids index) (sym named) was.indexed;
      counted = omega (
        arith,
        was.counted,
        terminals-removed nets p m at,
        terminals-removed (slice_set nets p n) p n (At-set nets p n in_nets),
        ap terminals_of (remove-set nets p n),
      );
      routed = routed;
      loaded = λ r. omega (
        arith,
        gains r,
        ap (λ ls. slice_index ls r) taken,
        loads-without g nets trees p m old (router_loads router) at stands was.loaded r,
        load_on-without g (slice_set nets p n) (slice_set trees p tree) p n tree r (At-set nets p n in_nets) (At-set trees p tree in_trees),
        ap (λ ns. load_on g ns (remove (slice_set trees p tree) p) r) (remove-set nets p n),
        ap (λ ts. load_on g (remove nets p) ts r) (remove-set trees p tree),
      );
    }

-- with an index of the same ids
pub IsEco-kept : (g : Grid) (nets nets' : List NetSpec) (trees trees' : List (List Piece)) (index index' : NetIndex) (terminals : ℕ) (router : NetRouter)
    → IsEco g nets trees index terminals router → nets' ≡ nets → trees' ≡ trees → IsIndexOf (ids_of nets) index' → IsEco g nets' trees' index' terminals router
IsEco-kept g nets nets' trees trees' index index' terminals router was same sets indexed =
    subst (λ ns. IsEco g ns trees' index' terminals router) (sym same)
    (subst (λ ts. IsEco g nets ts index' terminals router) (sym sets)
    (record { sets = was.sets; rising = was.rising; indexed = indexed; counted = was.counted; routed = was.routed; loaded = was.loaded }))

-- an answer that is known, or is not
pub on_either : {X E : Type 0} (P : List NetSpec → Type 0) (r : Result X E) (new pushed old : List NetSpec) → OnOk r (new ≡ pushed) → OnErr r (new ≡ old) → P pushed → P old → P new
on_either P (Ok x) new pushed old ok err come stay = subst P (sym ok) come
on_either P (Err e) new pushed old ok err come stay = subst P (sym err) stay

pub on_err : {X E T : Type 0} (r : Result X E) → is_err r ≡ true → OnErr r T → T
on_err (Ok x) failed kept = cc
on_err (Err e) failed kept = kept

pub on_ok : {X E T : Type 0} (r : Result X E) → is_err r ≡ false → OnOk r T → T
on_ok (Ok x) fine given = given
on_ok (Err e) fine given = cc

-- no net has the id
pub free_id : (nets : List NetSpec) (id : ℕ) → HasNoNet nets id → (k : ℕ) → ¬ At (ids_of nets) k id
free_id nets id free k at = let found = net_of_id nets k id at in free k found.0 found.1 found.2

pub no_net : (nets : List NetSpec) (id : ℕ) → ((k : ℕ) → ¬ At (ids_of nets) k id) → HasNoNet nets id
no_net nets id none k n at same = none k (subst (At (ids_of nets) k) same (id_of_net nets k n at))

-- what is said where there is none, of an answer that is known where there is one
pub where_none : {X E P Q : Type 0} (o : Option X) (r : Result X E) → is_ok r ≡ is_some o → IfNone o P → (P → Q) → OnErr r Q
where_none None (Ok x) same none so = cc
where_none None (Err e) same none so = so none
where_none (Some y) (Ok x) same none so = cc
where_none (Some y) (Err e) same none so = absurd (false≢true same)

-- the place of an id is that of a net, which has it
pub id_within : (nets : List NetSpec) (p id : ℕ) → At (ids_of nets) p id → p < length nets
id_within nets p id at = let found = net_of_id nets p id at in slice_get_within nets p found.0 found.1

pub has_id : (nets : List NetSpec) (p id : ℕ) (n : NetSpec) → At (ids_of nets) p id → At nets p n → n.id ≡ id
has_id nets p id n at stands = let found = net_of_id nets p id at in ap (λ (m : NetSpec). m.id) (same_Some n found.0 (sym stands ∙ found.1)) ∙ found.2

-- in the design that it holds, which is the one that is seen
pub id_here : (held seen : RoutedDesign) (p id : ℕ) → held ≡ seen → At (ids_of seen.design.nets) p id → At (ids_of held.design.nets) p id
id_here held seen p id same at = subst (λ (x : RoutedDesign). At (ids_of x.design.nets) p id) (sym same) at

-- the net that was read
pub net_read : (nets list : List NetSpec) (p : ℕ) (n : NetSpec) → list ≡ nets → p < length nets → n ≡ get_or list p n → At nets p n
net_read nets list p n same within is = subst (At nets p) (sym is) (read_at nets list p n same (omega (arith, ap length same, within)))

pub drop_step : (held seen : RoutedDesign) (id p : ℕ) (n : NetSpec) (d' : Design) (trees' : List (List Piece)) → held ≡ seen → At held.design.nets p n → n.id ≡ id
    → d'.nets ≡ remove held.design.nets p → d'.grid ≡ held.design.grid → trees' ≡ remove held.sets p → IsDropStep id seen.design seen.sets d' trees'
drop_step held seen id p n d' trees' same at named nets grid sets =
    subst (λ (x : RoutedDesign). IsDropStep id x.design x.sets d' trees') same (record {
      edited = record { place = p; net = n; stands = at; identified = named; nets = nets; grid = grid };
      sets = sets;
    })

-- the loads without a set, and with it again
pub room_without : (g : Grid) (width : ℕ) (tree : List Piece) (loads left : List ℕ) → left ≡ without_tree g width tree loads
    → ((r : ℕ) → slice_index loads r + max_tree_load ≤ max_load) → (r : ℕ) → slice_index left r + max_tree_load ≤ max_load
room_without g width tree loads left taken room r = omega (arith, ap (λ ls. slice_index ls r) taken, without_tree-at g width tree loads r, room r)

pub put_again : (g : Grid) (width : ℕ) (tree : List Piece) (loads left new : List ℕ) → left ≡ without_tree g width tree loads → ((r : ℕ) → tree_load g width tree r ≤ slice_index loads r)
    → GainsTree g width tree left new → (r : ℕ) → slice_index new r ≡ slice_index loads r
put_again g width tree loads left new taken had gains r =
    omega (arith, gains r, ap (λ ls. slice_index ls r) taken, without_tree-at g width tree loads r, had r)

-- with a router of the same loads
pub IsEco-rerouted : (g : Grid) (nets : List NetSpec) (trees : List (List Piece)) (index : NetIndex) (terminals : ℕ) (router router' : NetRouter)
    → IsEco g nets trees index terminals router → IsRouterOn g router' → ((r : ℕ) → slice_index (router_loads router') r ≡ slice_index (router_loads router) r) → IsEco g nets trees index terminals router'
IsEco-rerouted g nets trees index terminals router router' was routed loads =
    record { sets = was.sets; rising = was.rising; indexed = was.indexed; counted = was.counted; routed = routed; loaded = λ r. loads r ∙ was.loaded r }
