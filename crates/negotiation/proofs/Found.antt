-- What searches find, net after net.
use Rattle.std.proofs.Common.{◌≡◌, ℕ, zero, suc, ◌+◌, ◌<◌, ◌≤◌, Bool, true, false, cond, slice_set, length-append, Option, Some, None, List, [], ◌∷◌, ◌++◌, length, get_or, Result, Ok, Err, IfOk, IfSome, refl, sym, ◌∙◌, ap, subst, arith}
use Rattle.std.specs.List.{AllZip}
use Rattle.std.proofs.lemmas.Option.{slice_get-get_or, same_Some}
use Rattle.std.proofs.lemmas.List.Elements.{All-append, All-cons, All-nil}
use Rattle.grid_base.specs.declared.piece.Piece.{Piece}
use Rattle.grid_base.specs.Lists.{At}
use Rattle.grid_base.specs.Walks.{JoinsList}
use Rattle.grid_base.proofs.Lists.{AllZip-at}
use Rattle.grid_graph.specs.declared.design.Design.{Design}
use Rattle.grid_graph.specs.declared.ground.Ground.{Ground}
use Rattle.grid_graph.specs.declared.net_spec.NetSpec.{NetSpec}
use Rattle.grid_graph.specs.Grids.{size_of}
use Rattle.grid_graph.specs.Grounds.{AreGrounds, IsGround}
use Rattle.tree_set.specs.Routings.{IsRoute, KeepsTo}
use Rattle.grid_graph.specs.declared.ground.Ground.TheVariants.{WithChoked}
use Rattle.negotiation.specs.Searches.{AreFound, ArePlaces, IsFoundFor}
use Rattle.negotiation.proofs.Changes.{KeepsTo-no_wall}

-- both lists are as long
pub AllZip-long : {A B : Type 0} (R : A → B → Type 0) (xs : List A) (ys : List B) → AllZip R xs ys → length ys ≡ length xs
AllZip-long R [] [] all = refl
AllZip-long R [] (y ∷ ys) all = absurd all
AllZip-long R (x ∷ xs) [] all = absurd all
AllZip-long R (x ∷ xs) (y ∷ ys) all = ap suc (AllZip-long R xs ys all.1)

-- two such pairs of lists, one behind the other
pub AllZip-behind : {A B : Type 0} (R : A → B → Type 0) (xs us : List A) (ys vs : List B) → AllZip R xs ys → AllZip R us vs → AllZip R (xs ++ us) (ys ++ vs)
AllZip-behind R [] us [] vs front back = back
AllZip-behind R [] us (y ∷ ys) vs front back = absurd front
AllZip-behind R (x ∷ xs) us [] vs front back = absurd front
AllZip-behind R (x ∷ xs) us (y ∷ ys) vs front back = (front.0, AllZip-behind R xs us ys vs front.1 back)

-- what was read at a place stands there
pub At-read_of : {X : Type 0} (xs list : List X) (k : ℕ) (x : X) → list ≡ xs → x ≡ get_or list k x → k < length xs → At xs k x
At-read_of xs list k x same is within =
    subst (λ ys. At ys k x) same (subst (λ y. At list k y) (sym is) (slice_get-get_or list k x (subst (λ ys. k < length ys) (sym same) within)))

-- one thing stands at a place
pub At-same : {X : Type 0} (xs : List X) (k : ℕ) (x y : X) → At xs k x → At xs k y → x ≡ y
At-same xs k x y one other = same_Some x y (sym one ∙ other)

-- a set that keeps to the net's ground and joins its terminals is a route of the net
pub found_route : {E : Type 0} (d : Design) (grounds : List Ground) (k : ℕ) (n : NetSpec) (over : Ground) (r : Result (Option (List Piece)) E)
    → AreGrounds d.grid d.nets grounds → At d.nets k n → At grounds k over
    → IfOk r (λ found. IfSome found (λ tree. KeepsTo d.grid over tree))
    → IfOk r (λ found. IfSome found (λ tree. JoinsList (size_of d.grid) tree n.terminals))
    → IfOk r (IsFoundFor d k)
found_route d grounds k n over (Ok None) are at at_ground keeps joins = λ m at_m. tt
found_route d grounds k n over (Ok (Some tree)) are at at_ground keeps joins =
    λ m at_m. subst (λ (x : NetSpec). IsRoute d.grid x tree) (At-same d.nets k n m at at_m) (record {
      over = over;
      is_ground = AllZip-at (λ (x : NetSpec) (found : Ground). IsGround d.grid x.terminals found) d.nets grounds k n over are at at_ground;
      inside = keeps;
      joined = joins;
    })
found_route d grounds k n over (Err e) are at at_ground keeps joins = tt

-- at each place of a list something stands
pub stands : {X : Type 0} (xs : List X) (k : ℕ) → k < length xs → (x : X) × At xs k x
stands [] k within = absurd (omega (arith, within))
stands (x ∷ xs) k within = (get_or (x ∷ xs) k x, slice_get-get_or (x ∷ xs) k x within)

-- what is found at a place is found for the net there
pub found_at : (d : Design) (nets : List ℕ) (found : List (Option (List Piece))) (i : ℕ) (x : Option (List Piece)) → AreFound d nets found → i < length nets → x ≡ get_or found i x → IsFoundFor d (get_or nets i 0) x
found_at d nets found i x are within is =
    AllZip-at (IsFoundFor d) nets found i (get_or nets i 0) x are (slice_get-get_or nets i 0 within)
    (At-read_of found found i x refl is (omega (arith, within, AllZip-long (IsFoundFor d) nets found are)))

-- what is taken out was found all the same
pub found_set : (d : Design) (nets : List ℕ) (found : List (Option (List Piece))) (i : ℕ) (x : Option (List Piece)) → x ≡ None → AreFound d nets found → AreFound d nets (slice_set found i x)
found_set d [] [] i x none are = are
found_set d [] (f ∷ found) i x none are = absurd are
found_set d (n ∷ nets) [] i x none are = absurd are
found_set d (n ∷ nets) (f ∷ found) zero x none are = (subst (λ (o : Option (List Piece)). IsFoundFor d n o) (sym none) (λ m at. tt), are.1)
found_set d (n ∷ nets) (f ∷ found) (suc i) x none are = (are.0, found_set d nets found i x none are.1)

-- a route holds no wall
pub found_no_wall : (d : Design) (k : ℕ) (tree : List Piece) → k < length d.nets → ((n : NetSpec) → At d.nets k n → IsRoute d.grid n tree) → KeepsTo d.grid WithChoked tree
found_no_wall d k tree within route =
    let n = stands d.nets k within in
    KeepsTo-no_wall d.grid (route n.0 n.1).over tree (route n.0 n.1).inside

-- a list of places with one more or without
pub places_if : (d : Design) (nets : List ℕ) (k : ℕ) (b : Bool) → ArePlaces d nets → k < length d.nets → ArePlaces d (nets ++ cond b (k ∷ []) [])
places_if d nets k true are within = All-append (λ (i : ℕ). i < length d.nets) nets (k ∷ []) are (All-cons (λ (i : ℕ). i < length d.nets) k [] within (All-nil (λ (i : ℕ). i < length d.nets)))
places_if d nets k false are within = All-append (λ (i : ℕ). i < length d.nets) nets [] are (All-nil (λ (i : ℕ). i < length d.nets))

pub length_if : (nets : List ℕ) (k : ℕ) (b : Bool) → length (nets ++ cond b (k ∷ []) []) ≤ length nets + 1
length_if nets k true = omega (arith, length-append nets (k ∷ []))
length_if nets k false = omega (arith, length-append {A = ℕ} nets [])
