-- Lists of pieces with their weights, and how much some of them weigh together.
use Rattle.std.proofs.Common.{◌≡◌, ℕ, ◌≤◌, List, [], ◌∷◌, map, option_map, refl, sym, ◌∙◌, ap, subst, ⊎_elim, arith}
use Rattle.std.specs.List.{Contains, sum_by}
use Rattle.std.proofs.lemmas.Option.{same_Some, slice_get-map}
use Rattle.grid_base.specs.declared.piece.Piece.{Piece}
use Rattle.grid_base.specs.Lists.{At, HasNoRepeats}
use Rattle.grid_base.proofs.Lists.{At-from_member, member_from_place, head_or_rest, Contains-rest}
use Rattle.grid_base.proofs.NoRepeats.{sum_by-within}
use Rattle.grid_graph.specs.Weighed.{Weighs, IsAllowed, NoPieceTwice}

-- the list has these pieces in their order, each with the weight of an allowed one
pub record IsWeighed (pieces : List (Piece × ℕ)) (tree : List Piece) (set : List (Piece × ℕ)) : Type 0 where
  pub of : map (λ x. x.0) set ≡ tree
  pub allowed : (x : Piece × ℕ) → Contains set x → Contains pieces x

pub weighed-none : (pieces : List (Piece × ℕ)) → IsWeighed pieces [] []
weighed-none pieces = record { of = refl; allowed = λ x at. absurd (omega (arith, at.1)) }

pub weighed-more : (pieces set : List (Piece × ℕ)) (tree : List Piece) (p : Piece) (k : ℕ) → IsWeighed pieces tree set → Weighs pieces p k → IsWeighed pieces (p ∷ tree) ((p, k) ∷ set)
weighed-more pieces set tree p k is weighs = record {
  of = ap (λ (ps : List Piece). p ∷ ps) is.of;
  allowed = λ x at. ⊎_elim (λ here. subst (Contains pieces) (sym here) weighs) (λ rest. is.allowed x rest) (head_or_rest (p, k) set x at);
}

-- allowed pieces with their weights
pub weighed : (pieces : List (Piece × ℕ)) (tree : List Piece) → ((p : Piece) → Contains tree p → IsAllowed pieces p) → (set : List (Piece × ℕ)) × IsWeighed pieces tree set
weighed pieces [] allowed = ([], weighed-none pieces)
weighed pieces (p ∷ tree) allowed =
    let rest = weighed pieces tree (λ q at. allowed q (Contains-rest p tree q at)) in
    let own = allowed p (0, omega arith, refl) in
    ((p, own.0) ∷ rest.0, weighed-more pieces rest.0 tree p own.0 rest.1 own.1)

pub piece_at : (set : List (Piece × ℕ)) (i : ℕ) (x : Piece × ℕ) → At set i x → At (map (λ x. x.0) set) i x.0
piece_at set i x at = slice_get-map (λ x. x.0) set i ∙ ap (option_map (λ (y : Piece × ℕ). y.0)) at

-- the piece of each entry is one of the pieces
pub piece_of_member : (set : List (Piece × ℕ)) (x : Piece × ℕ) → Contains set x → Contains (map (λ x. x.0) set) x.0
piece_of_member set x member =
    let at = At-from_member set x member in
    member_from_place (map (λ x. x.0) set) at.0 x.0 (piece_at set at.0 x at.2)

-- and each piece of the list has a weight there
pub allowed_of_piece : (set : List (Piece × ℕ)) (p : Piece) → Contains (map (λ x. x.0) set) p → IsAllowed set p
allowed_of_piece [] p at = absurd (omega (arith, at.1))
allowed_of_piece (x ∷ set) p at = ⊎_elim
    (λ here. (x.1, (0, omega arith, ap (λ (q : Piece). (q, x.1)) (sym here))))
    (λ rest. let found = allowed_of_piece set p rest in (found.0, Contains-rest x set (p, found.0) found.1))
    (head_or_rest x.0 (map (λ x. x.0) set) p at)

-- a piece of the tree is one of the list, with some weight
pub allowed_of_tree : (set : List (Piece × ℕ)) (tree : List Piece) → map (λ x. x.0) set ≡ tree → (p : Piece) → Contains tree p → IsAllowed set p
allowed_of_tree set tree of p at = allowed_of_piece set p (subst (λ (ps : List Piece). Contains ps p) (sym of) at)

pub member_of_tree : (set : List (Piece × ℕ)) (tree : List Piece) (x : Piece × ℕ) → map (λ x. x.0) set ≡ tree → Contains set x → Contains tree x.0
member_of_tree set tree x of at = subst (λ (ps : List Piece). Contains ps x.0) of (piece_of_member set x at)

-- a piece has one weight
pub one_weight : (pieces : List (Piece × ℕ)) (p : Piece) (k m : ℕ) → NoPieceTwice pieces → Weighs pieces p k → Weighs pieces p m → k ≡ m
one_weight pieces p k m once first second =
    let at_k = At-from_member pieces (p, k) first in
    let at_m = At-from_member pieces (p, m) second in
    let same : at_k.0 ≡ at_m.0 = once at_k.0 at_m.0 p (piece_at pieces at_k.0 (p, k) at_k.2) (piece_at pieces at_m.0 (p, m) at_m.2) in
    ap (λ (x : Piece × ℕ). x.1) (same_Some (p, k) (p, m) (sym (subst (λ i. At pieces i (p, k)) same at_k.2) ∙ at_m.2))

-- no entry stands in a list twice whose pieces don't
pub entries_once : (set : List (Piece × ℕ)) → NoPieceTwice set → HasNoRepeats set
entries_once set once i j x first second = once i j x.0 (piece_at set i x first) (piece_at set j x second)

-- a set of these pieces weighs no more than a list of them that has each
pub weighs_no_more : (pieces set listed : List (Piece × ℕ)) → NoPieceTwice pieces → NoPieceTwice set → ((x : Piece × ℕ) → Contains set x → Contains pieces x) → ((x : Piece × ℕ) → Contains listed x → Contains pieces x) →
    ((x : Piece × ℕ) → Contains set x → IsAllowed listed x.0) → sum_by (λ x. x.1) set ≤ sum_by (λ x. x.1) listed
weighs_no_more pieces set listed once apart in_set in_list has =
    sum_by-within (λ (x : Piece × ℕ). x.1) set listed (entries_once set apart) (λ x at.
    let found = has x at in
    let equal : found.0 ≡ x.1 = one_weight pieces x.0 found.0 x.1 once (in_list (x.0, found.0) found.1) (in_set x at) in
    subst (λ k. Contains listed (x.0, k)) equal found.1)
