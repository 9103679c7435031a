-- Of the pieces of a set those that join what the ones before left apart: as much is joined by them, and they are less
-- than the vertices, so they are light.
use Rattle.std.proofs.Common.{◌≡◌, ◌≢◌, ℕ, suc, ◌+◌, ◌-◌, ◌^◌, ◌<◌, ◌≤◌, ◌==◌, ◌⊎◌, List, [], ◌∷◌, length, cond, refl, sym, ◌∙◌}
use Rattle.std.proofs.Common.{ap, subst, inl, inr, ⊎_elim, arith}
use Rattle.std.specs.List.{Contains}
use Rattle.std.proofs.lemmas.Bool.{cases_eq, cases_lt}
use Rattle.std.proofs.lemmas.Bool.Decides.{nat_tests}
use Rattle.grid_base.specs.declared.piece.Piece.{Piece}
use Rattle.grid_base.specs.declared.size.Size.{Size}
use Rattle.grid_base.specs.Numbers.{vertices, cols, rows, layers, IsVertex, IsPiece, Connects, start_of, end_of, end_place}
use Rattle.grid_base.specs.Walks.{WalkBetween}
use Rattle.grid_base.proofs.Pieces.{end_of-vertex}
use Rattle.grid_base.proofs.Walks.{WalkBetween-refl, WalkBetween-sym, WalkBetween-trans, WalkBetween-piece}
use Rattle.grid_base.proofs.Walks.{WalkBetween-superset, closed_under_walks, walk_vertices}
use Rattle.grid_base.proofs.Lists.{head_or_rest}
use Rattle.grid_graph.specs.Weighed.{IsAllowed, NoPieceTwice, AreWithinLimit}
use Rattle.label_search.specs.Sets.{IsSetOf, weight}
use Rattle.label_search.proofs.Pigeons.{closed}
use Rattle.label_search.proofs.Sets.{once_more, weighs_at_most}

-- pieces of a set with marks of the vertices: of each piece the two ends have one mark, vertices of one mark are joined by
-- the kept pieces, and there are no more marks than vertices less the kept pieces
pub record IsForest (s : Size) (set : List (Piece × ℕ)) : Type 0 where
  pub kept : List (Piece × ℕ)
  pub mark : ℕ → ℕ
  pub left : ℕ
  pub count : length kept + left ≡ vertices s
  pub below : (v : ℕ) → IsVertex s v → mark v < left
  pub within : (x : Piece × ℕ) → Contains kept x → Contains set x
  pub once : NoPieceTwice kept
  pub alike : (a b : ℕ) → IsVertex s a → IsVertex s b → mark a ≡ mark b → WalkBetween s (IsAllowed kept) a b
  pub linked : (p : Piece) (a b : ℕ) → IsAllowed set p → Connects s p a b → mark a ≡ mark b

-- the marks after two of them became one: `near` is gone, and those above it are one less
met : ℕ → ℕ → ℕ → ℕ
met near far m = closed near (cond (m == near) far m)

met-below : (near far m left : ℕ) → near ≢ far → near < left → far < left → m < left → met near far m < left - 1
unfolding met closed
met-below near far m left other at_near at_far at_m = grind (arith, nat_tests)

met-ends : (near far : ℕ) → met near far near ≡ met near far far
unfolding met closed
met-ends near far = grind (arith, nat_tests)

met-alike : (near far a b : ℕ) → near ≢ far → met near far a ≡ met near far b
    → (a ≡ b) ⊎ (((a ≡ near) × (far ≡ b)) ⊎ ((b ≡ near) × (far ≡ a)))
unfolding met closed
met-alike near far a b other same = ⊎_elim
    (λ a_near. ⊎_elim (λ b_near. inl (a_near ∙ sym b_near)) (λ b_other. inr (inl (a_near, grind (arith, nat_tests))))
    (cases_eq b near))
    (λ a_other. ⊎_elim (λ b_near. inr (inr (b_near, grind (arith, nat_tests)))) (λ b_other. inl (grind (arith, nat_tests)))
    (cases_eq b near))
    (cases_eq a near)

piece_or_none : (s : Size) (p : Piece) → IsPiece s p ⊎ (¬ IsPiece s p)
piece_or_none s p =
    let end = end_place s p in
    ⊎_elim (λ start. ⊎_elim (λ col. ⊎_elim (λ row. ⊎_elim
    (λ layer. inl (start, (col, row, layer)))
    (λ out. inr (λ is. absurd (omega (arith, out, is.1.2)))) (cases_lt end.layer (layers s)))
    (λ out. inr (λ is. absurd (omega (arith, out, is.1.1)))) (cases_lt end.row (rows s)))
    (λ out. inr (λ is. absurd (omega (arith, out, is.1.0)))) (cases_lt end.col (cols s)))
    (λ out. inr (λ is. absurd (omega (arith, out, is.0)))) (cases_lt (start_of p) (vertices s))

-- what holds of the two ends of a piece in order
by_ends : (s : Size) (p : Piece) (mark : ℕ → ℕ) → (IsPiece s p → mark (start_of p) ≡ mark (end_of s p)) → (a b : ℕ)
    → Connects s p a b → mark a ≡ mark b
by_ends s p mark ends a b connects = ⊎_elim
    (λ goes. ap mark (sym goes.1) ∙ ends goes.0 ∙ ap mark goes.2)
    (λ goes. ap mark (sym goes.2) ∙ sym (ends goes.0) ∙ ap mark goes.1)
    connects

-- a piece that joins nothing new is left out
left_out : (s : Size) (x : Piece × ℕ) (set : List (Piece × ℕ)) (rest : IsForest s set)
    → (IsPiece s x.0 → rest.mark (start_of x.0) ≡ rest.mark (end_of s x.0)) → IsForest s (x ∷ set)
left_out s x set rest ends = record {
  kept = rest.kept;
  mark = rest.mark;
  left = rest.left;
  count = rest.count;
  below = rest.below;
  within = λ y at. let old = rest.within y at in (suc old.0, omega (arith, old.1), old.2);
  once = rest.once;
  alike = rest.alike;
  linked = λ q a b at connects. ⊎_elim
      (λ same. by_ends s x.0 rest.mark ends a b (subst (λ r. Connects s r a b) (ap (λ (y : Piece × ℕ). y.0) same) connects))
      (λ in_rest. rest.linked q a b (at.0, in_rest) connects)
      (head_or_rest x set (q, at.0) at.1);
}

-- a piece between two marks is kept
taken_in : (s : Size) (x : Piece × ℕ) (set : List (Piece × ℕ)) (rest : IsForest s set) → IsPiece s x.0
    → rest.mark (start_of x.0) ≢ rest.mark (end_of s x.0) → IsForest s (x ∷ set)
taken_in s x set rest piece other =
    let p = x.0 in
    let near = rest.mark (start_of p) in
    let far = rest.mark (end_of s p) in
    let kept = x ∷ rest.kept in
    let far_vertex = end_of-vertex s p piece in
    let at_near = rest.below (start_of p) piece.0 in
    let at_far = rest.below (end_of s p) far_vertex in
    let greater : (q : Piece) → IsAllowed rest.kept q → IsAllowed kept q =
    λ q at. (at.0, (suc at.1.0, omega (arith, at.1.1), at.1.2)) in
    let more = WalkBetween-superset s (IsAllowed rest.kept) (IsAllowed kept) greater in
    let over : WalkBetween s (IsAllowed kept) (start_of p) (end_of s p) =
    WalkBetween-piece s (IsAllowed kept) p (start_of p) (end_of s p) (x.1, (0, omega arith, refl))
    (inl (piece, refl, refl)) in
    let across : (a b : ℕ) → IsVertex s a → IsVertex s b → rest.mark a ≡ near → far ≡ rest.mark b
    → WalkBetween s (IsAllowed kept) a b =
    λ a b at_a at_b is_near is_far. WalkBetween-trans s (IsAllowed kept) a (start_of p) b
    (more a (start_of p) (rest.alike a (start_of p) at_a piece.0 is_near))
    (WalkBetween-trans s (IsAllowed kept) (start_of p) (end_of s p) b over
    (more (end_of s p) b (rest.alike (end_of s p) b far_vertex at_b is_far))) in
    record {
      kept = kept;
      mark = λ v. met near far (rest.mark v);
      left = rest.left - 1;
      count = omega (arith, rest.count, at_near);
      below = λ v is. met-below near far (rest.mark v) rest.left other at_near at_far (rest.below v is);
      within = λ y at. ⊎_elim
          (λ same. (0, omega arith, sym same))
          (λ in_rest. let old = rest.within y in_rest in (suc old.0, omega (arith, old.1), old.2))
          (head_or_rest x rest.kept y at);
      once = once_more x rest.kept rest.once (λ at. other
          (rest.linked p (start_of p) (end_of s p) (at.0, rest.within (p, at.0) at.1) (inl (piece, refl, refl))));
      alike = λ a b at_a at_b same. ⊎_elim
          (λ alike. more a b (rest.alike a b at_a at_b alike))
          (λ apart. ⊎_elim
          (λ is. across a b at_a at_b is.0 is.1)
          (λ is. WalkBetween-sym s (IsAllowed kept) b a (across b a at_b at_a is.0 is.1))
          apart)
          (met-alike near far (rest.mark a) (rest.mark b) other same);
      linked = λ q a b at connects. ⊎_elim
          (λ same. by_ends s p (λ v. met near far (rest.mark v)) (λ is. met-ends near far) a b
          (subst (λ r. Connects s r a b) (ap (λ (y : Piece × ℕ). y.0) same) connects))
          (λ in_rest. ap (met near far) (rest.linked q a b (at.0, in_rest) connects))
          (head_or_rest x set (q, at.0) at.1);
    }

pub forest : (s : Size) (set : List (Piece × ℕ)) → IsForest s set
forest s [] = record {
  kept = [];
  mark = λ v. v;
  left = vertices s;
  count = omega arith;
  below = λ v is. is;
  within = λ x at. at;
  once = λ i j q first second. cc;
  alike = λ a b at_a at_b same. subst (WalkBetween s (IsAllowed []) a) same (WalkBetween-refl s (IsAllowed []) a at_a);
  linked = λ p a b at connects. absurd (omega (arith, at.1.1));
}
forest s (x ∷ set) =
    let rest = forest s set in
    ⊎_elim
    (λ same. left_out s x set rest (λ is. same))
    (λ other. ⊎_elim
    (λ piece. taken_in s x set rest piece other)
    (λ none. left_out s x set rest (λ is. absurd (none is)))
    (piece_or_none s x.0))
    (cases_eq (rest.mark (start_of x.0)) (rest.mark (end_of s x.0)))

-- a walk stays within one mark
pub one_mark : (s : Size) (set : List (Piece × ℕ)) (f : IsForest s set) (a b : ℕ) → WalkBetween s (IsAllowed set) a b
    → f.mark a ≡ f.mark b
one_mark s set f a b walk = closed_under_walks s (IsAllowed set) (λ w. f.mark a ≡ f.mark w)
    (λ u w so_far link. so_far ∙ f.linked link.piece u w link.in_set link.connects) a b refl walk

-- vertices of one mark are joined
pub mark_joins : (s : Size) (set : List (Piece × ℕ)) (f : IsForest s set) (a b : ℕ) → IsVertex s a → IsVertex s b
    → f.mark a ≡ f.mark b → WalkBetween s (IsAllowed set) a b
mark_joins s set f a b at_a at_b same =
    WalkBetween-superset s (IsAllowed f.kept) (IsAllowed set) (λ q at. (at.0, f.within (q, at.0) at.1)) a b
    (f.alike a b at_a at_b same)

-- a part of a set that joins as much, and weighs less than 2^61
pub record IsLightPart (s : Size) (pieces set : List (Piece × ℕ)) : Type 0 where
  pub part : List (Piece × ℕ)
  pub is_set : IsSetOf pieces part
  pub within : (x : Piece × ℕ) → Contains part x → Contains set x
  pub joins : (a b : ℕ) → WalkBetween s (IsAllowed set) a b → WalkBetween s (IsAllowed part) a b
  pub light : weight part ≤ 2 ^ 61 - 1

pub light_part : (s : Size) (pieces set : List (Piece × ℕ)) (v : ℕ) → AreWithinLimit pieces → IsSetOf pieces set → IsVertex s v
    → IsLightPart s pieces set
light_part s pieces set v small is vertex =
    let f = forest s set in
    record {
      part = f.kept;
      is_set = record { allowed = λ x at. is.allowed x (f.within x at); once = f.once };
      within = f.within;
      joins = λ a b walk. let ends = walk_vertices s (IsAllowed set) a b walk in f.alike a b ends.0 ends.1
          (one_mark s set f a b walk);
      light = omega (
        arith,
        weighs_at_most f.kept (λ x at. small x.0 x.1 (is.allowed x (f.within x at))),
        f.count,
        f.below v vertex,
        s.within.vertex_limit,
      );
    }
