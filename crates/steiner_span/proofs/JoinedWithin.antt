-- Vertices that a light set joins: in the other order, put together, and by one piece.
use Rattle.std.proofs.Common.{ℕ, ◌+◌, ◌≤◌, List, [], ◌∷◌, refl, sym, ap, subst, ⊎_elim, arith}
use Rattle.std.specs.List.{Contains}
use Rattle.std.proofs.lemmas.List.Sums.{sum_by-cons}
use Rattle.grid_base.specs.declared.piece.Piece.{Piece}
use Rattle.grid_base.specs.declared.size.Size.{Size}
use Rattle.grid_base.specs.Numbers.{IsVertex, Connects}
use Rattle.grid_base.proofs.Lists.{head_or_rest, Contains-rest}
use Rattle.grid_base.proofs.Walks.{WalkBetween-refl, WalkBetween-sym, WalkBetween-trans, WalkBetween-superset, WalkBetween-piece}
use Rattle.grid_graph.specs.Weighed.{Weighs, IsAllowed}
use Rattle.label_search.specs.Sets.{IsSetOf, weight}
use Rattle.label_search.proofs.Sets.{extended, no_pieces}
use Rattle.steiner_span.specs.SpanningLinks.{AreJoinedWithin}

pub joined_here : (s : Size) (pieces : List (Piece × ℕ)) (a n : ℕ) → IsVertex s a → AreJoinedWithin s pieces a a n
joined_here s pieces a n vertex = record { set = []; is_set = no_pieces pieces; walk = WalkBetween-refl s (IsAllowed []) a vertex; light = omega arith }

pub joined_back : (s : Size) (pieces : List (Piece × ℕ)) (a b n : ℕ) → AreJoinedWithin s pieces a b n → AreJoinedWithin s pieces b a n
joined_back s pieces a b n is = record { set = is.set; is_set = is.is_set; walk = WalkBetween-sym s (IsAllowed is.set) a b is.walk; light = is.light }

-- a set that has all pieces of two
record HasBoth (pieces one other : List (Piece × ℕ)) : Type 0 where
  both : List (Piece × ℕ)
  is_set : IsSetOf pieces both
  has_one : (q : Piece) → IsAllowed one q → IsAllowed both q
  has_other : (q : Piece) → IsAllowed other q → IsAllowed both q
  light : weight both ≤ weight one + weight other

has_both : (pieces one other : List (Piece × ℕ)) → ((x : Piece × ℕ) → Contains one x → Contains pieces x) → IsSetOf pieces other → HasBoth pieces one other
has_both pieces [] other allowed is = record { both = other; is_set = is; has_one = λ q at. absurd (omega (arith, at.1.1)); has_other = λ q at. at; light = omega arith }
has_both pieces (x ∷ one) other allowed is =
    let rest = has_both pieces one other (λ y at. allowed y (Contains-rest x one y at)) is in
    let more = extended pieces rest.both x.0 x.1 rest.is_set (allowed x (0, omega arith, refl)) in
    record {
      both = more.new;
      is_set = more.is_set;
      has_one = λ q at. ⊎_elim (λ here. subst (IsAllowed more.new) (sym (ap (λ (y : Piece × ℕ). y.0) here)) more.has)
          (λ later. more.kept q (rest.has_one q (at.0, later)))
          (head_or_rest x one (q, at.0) at.1);
      has_other = λ q at. more.kept q (rest.has_other q at);
      light = omega (arith, more.light, rest.light, sum_by-cons (λ (y : Piece × ℕ). y.1) x one);
    }

pub joined_on : (s : Size) (pieces : List (Piece × ℕ)) (a b c m n most : ℕ) → AreJoinedWithin s pieces a b m → AreJoinedWithin s pieces b c n → m + n ≤ most → AreJoinedWithin s pieces a c most
joined_on s pieces a b c m n most first second within =
    let all = has_both pieces first.set second.set first.is_set.allowed second.is_set in
    record {
      set = all.both;
      is_set = all.is_set;
      walk = WalkBetween-trans s (IsAllowed all.both) a b c
          (WalkBetween-superset s (IsAllowed first.set) (IsAllowed all.both) all.has_one a b first.walk)
          (WalkBetween-superset s (IsAllowed second.set) (IsAllowed all.both) all.has_other b c second.walk);
      light = omega (arith, all.light, first.light, second.light, within);
    }

pub joined_by : (s : Size) (pieces : List (Piece × ℕ)) (a b k : ℕ) (p : Piece) → Weighs pieces p k → Connects s p a b → AreJoinedWithin s pieces a b k
joined_by s pieces a b k p weighs connects =
    let one = extended pieces [] p k (no_pieces pieces) weighs in
    record { set = one.new; is_set = one.is_set; walk = WalkBetween-piece s (IsAllowed one.new) p a b one.has connects; light = omega (arith, one.light) }
