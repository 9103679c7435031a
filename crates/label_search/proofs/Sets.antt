-- Sets of allowed pieces: one piece more, how much they weigh at most, and what the least of them is.
use Rattle.std.proofs.Common.{◌≡◌, ◌≢◌, ℕ, zero, suc, ◌+◌, ◌*◌, ◌/◌, ◌^◌, ◌<◌, ◌≤◌, ◌⊎◌, List, [], ◌∷◌, length, map, get_or}
use Rattle.std.proofs.Common.{option_map, refl, sym, ◌∙◌, ap, subst, inl, inr, ⊎_elim, arith}
use Rattle.std.specs.List.{Contains}
use Rattle.std.proofs.lemmas.Bool.{cases_eq}
use Rattle.std.proofs.lemmas.List.Sums.{sum_by-cons}
use Rattle.std.proofs.lemmas.List.Elements.{Contains-get_or}
use Rattle.std.proofs.lemmas.Option.{same_Some, slice_get-map, slice_get-get_or}
use Rattle.grid_base.specs.declared.piece.Piece.{Piece}
use Rattle.grid_base.specs.declared.piece.Piece.TheVariants.{Edge, Via}
use Rattle.grid_base.specs.declared.size.Size.{Size}
use Rattle.grid_base.specs.Numbers.{vertices, IsPiece}
use Rattle.grid_base.specs.Walks.{WalkBetween, Joins}
use Rattle.grid_base.proofs.Walks.{WalkBetween-refl, walk_vertices}
use Rattle.grid_base.proofs.Joined.{Joins-from_one}
use Rattle.grid_base.specs.Lists.{At}
use Rattle.grid_base.proofs.Lists.{head_or_rest}
use Rattle.grid_graph.specs.Weighed.{Weighs, IsAllowed, NoPieceTwice, WeighsOnlyPieces, AreWithinLimit}
use Rattle.label_search.specs.Sets.{IsSetOf, IsLeastWeight, IsEither, weight}
use Rattle.label_search.proofs.Pigeons.{at_most}

pub piece_cases : (p q : Piece) → (p ≡ q) ⊎ (p ≢ q)
piece_cases (Edge e) (Edge f) = ⊎_elim (λ same. inl (ap (λ n. Edge (record { 0 = n })) same))
    (λ other. inr (λ same. other (cc same))) (cases_eq e.0 f.0)
piece_cases (Via e) (Via f) = ⊎_elim (λ same. inl (ap (λ n. Via (record { 0 = n })) same))
    (λ other. inr (λ same. other (cc same))) (cases_eq e.0 f.0)
piece_cases (Edge e) (Via f) = inr (λ same. cc)
piece_cases (Via e) (Edge f) = inr (λ same. cc)

-- a piece is in a set or isn't
member_cases : (set : List (Piece × ℕ)) (p : Piece) → IsAllowed set p ⊎ (¬ IsAllowed set p)
member_cases [] p = inr (λ at. absurd (omega (arith, at.1.1)))
member_cases (x ∷ set) p = ⊎_elim
    (λ here. inl (x.1, (0, omega arith, ap (λ (q : Piece). (q, x.1)) here)))
    (λ other. ⊎_elim
    (λ at. inl (at.0, (suc at.1.0, omega (arith, at.1.1), at.1.2)))
    (λ none. inr (λ at. ⊎_elim (λ same. other (sym (ap (λ (y : Piece × ℕ). y.0) same))) (λ rest. none (at.0, rest))
    (head_or_rest x set (p, at.0) at.1)))
    (member_cases set p))
    (piece_cases x.0 p)

allowed_at : (set : List (Piece × ℕ)) (j : ℕ) (p : Piece) → At (map (λ x. x.0) set) j p → IsAllowed set p
allowed_at [] j p at = cc
allowed_at (x ∷ set) zero p at = (x.1, (0, omega arith, ap (λ (q : Piece). (q, x.1)) (same_Some _ _ at)))
allowed_at (x ∷ set) (suc j) p at = let rest =
    allowed_at set j p at in (rest.0, (suc rest.1.0, omega (arith, rest.1.1), rest.1.2))

pub once_more : (x : Piece × ℕ) (set : List (Piece × ℕ)) → NoPieceTwice set → ¬ IsAllowed set x.0 → NoPieceTwice (x ∷ set)
once_more x set once new zero zero q first second = refl
once_more x set once new zero (suc j) q first second =
    absurd (new (subst (IsAllowed set) (sym (same_Some _ _ first)) (allowed_at set j q second)))
once_more x set once new (suc i) zero q first second =
    absurd (new (subst (IsAllowed set) (sym (same_Some _ _ second)) (allowed_at set i q first)))
once_more x set once new (suc i) (suc j) q first second = ap suc (once i j q first second)

-- a set that has all pieces of another, and one more
pub record IsExtended (pieces set : List (Piece × ℕ)) (p : Piece) (k : ℕ) : Type 0 where
  pub new : List (Piece × ℕ)
  pub is_set : IsSetOf pieces new
  pub kept : (q : Piece) → IsAllowed set q → IsAllowed new q
  pub has : IsAllowed new p
  pub light : weight new ≤ weight set + k

pub extended : (pieces set : List (Piece × ℕ)) (p : Piece) (k : ℕ) → IsSetOf pieces set → Weighs pieces p k
    → IsExtended pieces set p k
extended pieces set p k is at = ⊎_elim
    (λ old. record { new = set; is_set = is; kept = λ q in_set. in_set; has = old; light = omega arith })
    (λ other. record {
      new = (p, k) ∷ set;
      is_set = record {
        allowed = λ y in_new. ⊎_elim (λ here. subst (Contains pieces) (sym here) at) (λ rest. is.allowed y rest)
            (head_or_rest (p, k) set y in_new);
        once = once_more (p, k) set is.once other;
      };
      kept = λ q in_set. (in_set.0, (suc in_set.1.0, omega (arith, in_set.1.1), in_set.1.2));
      has = (k, (0, omega arith, refl));
      light = omega (arith, sum_by-cons (λ (y : Piece × ℕ). y.1) (p, k) set);
    })
    (member_cases set p)

pub no_pieces : (pieces : List (Piece × ℕ)) → IsSetOf pieces []
no_pieces pieces = record { allowed = λ x at. absurd (omega (arith, at.1)); once = λ i j q first second. cc }

-- pieces have different numbers
piece_number : ℕ → Piece → ℕ
piece_number n (Edge e) = e.0
piece_number n (Via v) = 2 * n + v.0

number_below : (s : Size) (p : Piece) → IsPiece s p → piece_number (vertices s) p < 3 * vertices s
unfolding piece_number
number_below s (Edge e) is = let n = vertices s in let half : e.0 / 2 < n = is.0 in omega arith
number_below s (Via v) is = let n = vertices s in let low : v.0 < n = is.0 in omega arith

numbers_differ : (s : Size) (p q : Piece) → IsPiece s p → IsPiece s q
    → piece_number (vertices s) p ≡ piece_number (vertices s) q → p ≡ q
unfolding piece_number
numbers_differ s (Edge e) (Edge f) p_is q_is same = ap (λ n. Edge (record { 0 = n })) same
numbers_differ s (Via v) (Via w) p_is q_is same = let n = vertices s in let back : v.0 ≡ w.0 =
    omega arith in ap (λ n. Via (record { 0 = n })) back
numbers_differ s (Edge e) (Via w) p_is q_is same = let n = vertices s in let half : e.0 / 2 < n = p_is.0 in absurd (omega arith)
numbers_differ s (Via v) (Edge f) p_is q_is same = let n = vertices s in let half : f.0 / 2 < n = q_is.0 in absurd (omega arith)

nothing : Piece × ℕ
nothing = (Via (record { 0 = 0 }), 0)

piece_at : List (Piece × ℕ) → ℕ → Piece
piece_at set j = (get_or set j nothing).0

piece_at-is : (s : Size) (pieces set : List (Piece × ℕ)) (j : ℕ) → WeighsOnlyPieces s pieces → IsSetOf pieces set
    → j < length set → IsPiece s (piece_at set j)
unfolding piece_at
piece_at-is s pieces set j are is high =
    let x = get_or set j nothing in are x.0 (x.1, is.allowed x (Contains-get_or set j nothing high))

piece_at-at : (set : List (Piece × ℕ)) (j : ℕ) → j < length set → At (map (λ x. x.0) set) j (piece_at set j)
unfolding piece_at
piece_at-at set j high = slice_get-map (λ x. x.0) set j
    ∙ ap (option_map (λ (x : Piece × ℕ). x.0)) (slice_get-get_or set j nothing high)

-- a set has at most three pieces for each vertex
set_count : (s : Size) (pieces set : List (Piece × ℕ)) → WeighsOnlyPieces s pieces → IsSetOf pieces set
    → length set ≤ 3 * vertices s
set_count s pieces set are is = at_most (3 * vertices s) (length set) (λ j. piece_number (vertices s) (piece_at set j))
    (λ j high. number_below s (piece_at set j) (piece_at-is s pieces set j are is high))
    (λ i j low high same.
    let one = numbers_differ s (piece_at set i) (piece_at set j) (piece_at-is s pieces set i are is low)
    (piece_at-is s pieces set j are is high) same in
    is.once i j (piece_at set j) (subst (At (map (λ x. x.0) set) i) one (piece_at-at set i low)) (piece_at-at set j high))

pub weighs_at_most : (set : List (Piece × ℕ)) → ((x : Piece × ℕ) → Contains set x → x.1 ≤ 2 ^ 38)
    → weight set ≤ length set * 2 ^ 38
weighs_at_most [] small = omega arith
weighs_at_most (x ∷ set) small =
    omega (
      arith,
      sum_by-cons (λ (y : Piece × ℕ). y.1) x set,
      small x (0, omega arith, refl),
      weighs_at_most set (λ y at. small y (suc at.0, omega (arith, at.1), at.2)),
    )

-- all pieces of a grid together have a weight below 2^63
pub weight-most : (s : Size) (pieces set : List (Piece × ℕ)) → WeighsOnlyPieces s pieces → AreWithinLimit pieces
    → IsSetOf pieces set → weight set ≤ 3 * 2 ^ 61
weight-most s pieces set are small is =
    omega (
      arith,
      weighs_at_most set (λ x at. small x.0 x.1 (is.allowed x at)),
      set_count s pieces set are is,
      s.within.vertex_limit,
    )

-- a walk joins its two ends
pub joins_ends : (s : Size) (F : Piece → Type 0) (a b : ℕ) → WalkBetween s F a b → Joins s F (IsEither a b)
joins_ends s F a b walk = Joins-from_one s F (IsEither a b) a
    (λ v is. ⊎_elim (λ first. subst (WalkBetween s F a) (sym first) (WalkBetween-refl s F a (walk_vertices s F a b walk).0))
    (λ second. subst (WalkBetween s F a) (sym second) walk) is)

pub ends_joined : (s : Size) (F : Piece → Type 0) (a b : ℕ) → Joins s F (IsEither a b) → WalkBetween s F a b
ends_joined s F a b joins = joins a b (inl refl) (inr refl)

-- a set was found, and none is lighter
pub least_found : (s : Size) (pieces set : List (Piece × ℕ)) (a b d : ℕ) → IsSetOf pieces set
    → WalkBetween s (IsAllowed set) a b → weight set ≤ d →
    ((other : List (Piece × ℕ)) → IsSetOf pieces other → WalkBetween s (IsAllowed other) a b → d ≤ weight other)
    → IsLeastWeight s pieces (IsEither a b) d
least_found s pieces set a b d is walk light least = record {
  set = set;
  is_set = is;
  joins = joins_ends s (IsAllowed set) a b walk;
  weighs = omega (arith, least set is walk);
  lightest = λ other other_is joins. least other other_is (ends_joined s (IsAllowed other) a b joins);
}
