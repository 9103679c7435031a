-- Sets that join a vertex and the terminals of a mask: of a terminal alone, with one more piece, and of two parts.
use Rattle.std.proofs.Common.{◌≡◌, ℕ, suc, ◌+◌, ◌≤◌, ◌⊎◌, List, [], ◌∷◌, refl, sym, ◌∙◌, ap, subst, inl, inr, ⊎_elim, arith}
use Rattle.std.specs.List.{Contains}
use Rattle.std.proofs.lemmas.Bool.{cases_eq}
use Rattle.std.proofs.lemmas.List.Sums.{sum_by-cons}
use Rattle.std.proofs.lemmas.Option.{same_Some}
use Rattle.grid_base.specs.declared.piece.Piece.{Piece}
use Rattle.grid_base.specs.declared.size.Size.{Size}
use Rattle.grid_base.specs.declared.vertex.Vertex.{Vertex}
use Rattle.grid_base.specs.Lists.{At}
use Rattle.grid_base.specs.Numbers.{IsVertex, Connects}
use Rattle.grid_base.specs.Walks.{WalkBetween}
use Rattle.grid_base.proofs.Joined.{Joins-from_one, Joins-alone}
use Rattle.grid_base.proofs.Walks.{WalkBetween-piece, WalkBetween-superset}
use Rattle.grid_base.proofs.Lists.{head_or_rest}
use Rattle.grid_graph.specs.Weighed.{Weighs, IsAllowed}
use Rattle.steiner_tables.specs.Masks.{bit, single, AreParts, IsInMask, WithVertex}
use Rattle.label_search.specs.Sets.{IsSetOf, weight}
use Rattle.steiner_tables.specs.Tables.{HasTree}
use Rattle.steiner_tables.proofs.Masks.{bit-single, bit-small}
use Rattle.label_search.proofs.Sets.{extended, no_pieces}

-- a terminal alone is joined without a piece
pub has_alone : (s : Size) (pieces : List (Piece × ℕ)) (terminals : List Vertex) (place : ℕ) (v : Vertex) → At terminals place v
    → IsVertex s v.0 → HasTree s pieces terminals (single place) v.0 0
has_alone s pieces terminals place v at vertex = record {
  set = [];
  is_set = no_pieces pieces;
  joins = Joins-alone s (IsAllowed []) (WithVertex terminals (single place) v.0) v.0 vertex
      (λ w is. ⊎_elim (λ same. same) (λ in_mask.
      let here : in_mask.place ≡ place = bit-single place in_mask.place in_mask.has in
      ap (λ (x : Vertex). x.0) (same_Some (record { 0 = w }) v
      (sym in_mask.terminal ∙ subst (λ i. At terminals i v) (sym here) at))) is);
  light = omega arith;
}

-- the greater the limit, the more sets are within it
pub has_more : (s : Size) (pieces : List (Piece × ℕ)) (terminals : List Vertex) (mask v x y : ℕ)
    → HasTree s pieces terminals mask v x → x ≤ y → HasTree s pieces terminals mask v y
has_more s pieces terminals mask v x y tree more =
    record { set = tree.set; is_set = tree.is_set; joins = tree.joins; light = omega (arith, tree.light) }

-- one piece leads on to a neighbour
pub has_step : (s : Size) (pieces : List (Piece × ℕ)) (terminals : List Vertex) (mask v u x k : ℕ) (p : Piece)
    → HasTree s pieces terminals mask v x → Weighs pieces p k → Connects s p v u → HasTree s pieces terminals mask u (x + k)
has_step s pieces terminals mask v u x k p tree weighs connects =
    let more = extended pieces tree.set p k tree.is_set weighs in
    record {
      set = more.new;
      is_set = more.is_set;
      joins = Joins-from_one s (IsAllowed more.new) (WithVertex terminals mask u) v
          (λ w is. ⊎_elim
          (λ same. subst (WalkBetween s (IsAllowed more.new) v) (sym same)
          (WalkBetween-piece s (IsAllowed more.new) p v u more.has connects))
          (λ in_mask. WalkBetween-superset s (IsAllowed tree.set) (IsAllowed more.new) more.kept v w
          (tree.joins v w (inl refl) (inr in_mask)))
          is);
      light = omega (arith, more.light, tree.light);
    }

-- a set of the pieces of two sets
pub record IsUnion (pieces one other : List (Piece × ℕ)) : Type 0 where
  pub new : List (Piece × ℕ)
  pub is_set : IsSetOf pieces new
  pub first : (q : Piece) → IsAllowed one q → IsAllowed new q
  pub second : (q : Piece) → IsAllowed other q → IsAllowed new q
  pub light : weight new ≤ weight one + weight other

pub united : (pieces one other : List (Piece × ℕ)) → ((x : Piece × ℕ) → Contains one x → Contains pieces x)
    → IsSetOf pieces other → IsUnion pieces one other
united pieces [] other allowed is = record {
  new = other;
  is_set = is;
  first = λ q at. absurd (omega (arith, at.1.1));
  second = λ q at. at;
  light = omega arith;
}
united pieces (x ∷ one) other allowed is =
    let rest = united pieces one other (λ y at. allowed y (suc at.0, omega (arith, at.1), at.2)) is in
    let more = extended pieces rest.new x.0 x.1 rest.is_set (allowed x (0, omega arith, refl)) in
    record {
      new = more.new;
      is_set = more.is_set;
      first = λ q at. ⊎_elim
          (λ same. subst (IsAllowed more.new) (sym (ap (λ (y : Piece × ℕ). y.0) same)) more.has)
          (λ in_rest. more.kept q (rest.first q (at.0, in_rest)))
          (head_or_rest x one (q, at.0) at.1);
      second = λ q at. more.kept q (rest.second q at);
      light = omega (arith, sum_by-cons (λ (y : Piece × ℕ). y.1) x one, more.light, rest.light);
    }

-- a terminal of a mask is one of a part
pub in_part : (terminals : List Vertex) (one other mask w : ℕ) → AreParts one other mask → IsInMask terminals mask w
    → IsInMask terminals one w ⊎ IsInMask terminals other w
in_part terminals one other mask w parts is = ⊎_elim
    (λ has. inl (record { place = is.place; terminal = is.terminal; has = has }))
    (λ not. inr (record {
      place = is.place;
      terminal = is.terminal;
      has = omega (arith, parts.shared is.place, is.has, bit-small one is.place, bit-small other is.place);
    }))
    (cases_eq (bit one is.place) 1)

-- two parts of a mask that meet in a vertex
pub has_union : (s : Size) (pieces : List (Piece × ℕ)) (terminals : List Vertex) (one other mask v x y : ℕ)
    → AreParts one other mask → HasTree s pieces terminals one v x → HasTree s pieces terminals other v y
    → HasTree s pieces terminals mask v (x + y)
has_union s pieces terminals one other mask v x y parts first second =
    let both = united pieces first.set second.set first.is_set.allowed second.is_set in
    record {
      set = both.new;
      is_set = both.is_set;
      joins = Joins-from_one s (IsAllowed both.new) (WithVertex terminals mask v) v
          (λ w is. ⊎_elim
          (λ same. WalkBetween-superset s (IsAllowed first.set) (IsAllowed both.new) both.first v w
          (first.joins v w (inl refl) (inl same)))
          (λ in_mask. ⊎_elim
          (λ in_one. WalkBetween-superset s (IsAllowed first.set) (IsAllowed both.new) both.first v w
          (first.joins v w (inl refl) (inr in_one)))
          (λ in_other. WalkBetween-superset s (IsAllowed second.set) (IsAllowed both.new) both.second v w
          (second.joins v w (inl refl) (inr in_other)))
          (in_part terminals one other mask w parts in_mask))
          is);
      light = omega (arith, both.light, first.light, second.light);
    }
