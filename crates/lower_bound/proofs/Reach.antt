-- How far two vertices are apart within a set of pieces, by the pieces in turn: a way uses the first one nowhere, or once in
-- one of its directions.
use Rattle.std.proofs.Common.{◌≡◌, ℕ, suc, ◌+◌, ◌≤◌, ◌==◌, ◌⊎◌, List, [], ◌∷◌, cond, min, refl, sym, ◌∙◌, ap, subst, inl, inr, ⊎_elim, arith}
use Rattle.std.specs.List.{Contains}
use Rattle.std.proofs.lemmas.Bool.{cases_eq, cases_lt}
use Rattle.std.proofs.lemmas.Bool.Decides.{nat_tests}
use Rattle.grid_base.specs.declared.piece.Piece.{Piece}
use Rattle.grid_base.specs.declared.size.Size.{Size}
use Rattle.grid_base.specs.Numbers.{IsVertex, IsPiece, Connects, start_of, end_of}
use Rattle.grid_base.specs.Walks.{WalkBetween}
use Rattle.grid_base.proofs.Pieces.{end_of-vertex}
use Rattle.grid_base.proofs.Walks.{WalkBetween-refl, WalkBetween-trans, WalkBetween-piece, WalkBetween-superset}
use Rattle.grid_base.proofs.Lists.{head_or_rest}
use Rattle.grid_graph.specs.Weighed.{IsAllowed, WeighsOnlyPieces}
use Rattle.label_search.specs.Searches.{HasSet}
use Rattle.label_search.proofs.Sets.{extended, no_pieces}
use Rattle.steiner_tables.proofs.Trees.{united}

-- the least of three
abbrev least : ℕ → ℕ → ℕ → ℕ
least a b c = min a (min b c)

-- the distance within a list of pieces, and `far` where there is none
unfoldable pub within : Size → ℕ → List (Piece × ℕ) → ℕ → ℕ → ℕ
within s far [] a b = cond (a == b) 0 far
within s far (x ∷ set) a b =
    let u = start_of x.0 in
    let v = end_of s x.0 in
    min (within s far set a b) (min (within s far set a u + x.1 + within s far set v b) (within s far set a v + x.1 + within s far set u b))

pub within-refl : (s : Size) (far : ℕ) (set : List (Piece × ℕ)) (a : ℕ) → within s far set a a ≡ 0
unfolding within
within-refl s far [] a = grind (arith, nat_tests)
within-refl s far (x ∷ set) a = omega (arith, within-refl s far set a)

pub within-sym : (s : Size) (far : ℕ) (set : List (Piece × ℕ)) (a b : ℕ) → within s far set a b ≡ within s far set b a
unfolding within
within-sym s far [] a b = ⊎_elim (λ same. ap (λ c. within s far [] c b) same ∙ ap (λ c. within s far [] b c) (sym same)) (λ other. grind (arith, nat_tests)) (cases_eq a b)
within-sym s far (x ∷ set) a b =
    let u = start_of x.0 in
    let v = end_of s x.0 in
    omega (arith, within-sym s far set a b, within-sym s far set a u, within-sym s far set a v, within-sym s far set v b, within-sym s far set u b)

-- a sum of three
by_three : (ab bc ac au ub av vb bu uc bv vc k : ℕ) → ac ≤ ab + bc → au ≤ ab + bu → av ≤ ab + bv → vc ≤ vb + bc → uc ≤ ub + bc → ac ≤ au + uc → ac ≤ av + vc →
    least ac (au + k + vc) (av + k + uc) ≤ least ab (au + k + vb) (av + k + ub) + least bc (bu + k + vc) (bv + k + uc)
by_three ab bc ac au ub av vb bu uc bv vc k one two three four five six seven = omega arith

pub within-triangle : (s : Size) (far : ℕ) (set : List (Piece × ℕ)) (a b c : ℕ) → within s far set a c ≤ within s far set a b + within s far set b c
unfolding within
within-triangle s far [] a b c = ⊎_elim
    (λ first. ⊎_elim (λ second. grind (arith, nat_tests)) (λ other. grind (arith, nat_tests)) (cases_eq b c))
    (λ other. grind (arith, nat_tests))
    (cases_eq a b)
within-triangle s far (x ∷ set) a b c =
    let u = start_of x.0 in
    let v = end_of s x.0 in
    let d = within s far set in
    let t = within-triangle s far set in
    by_three (d a b) (d b c) (d a c) (d a u) (d u b) (d a v) (d v b) (d b u) (d u c) (d b v) (d v c) x.1
    (t a b c) (t a b u) (t a b v) (t v b c) (t u b c) (t a u c) (t a v c)

-- a piece of the set is no longer than its weight
within-head : (s : Size) (far : ℕ) (set : List (Piece × ℕ)) (p : Piece) (k a b : ℕ) → Connects s p a b → within s far ((p, k) ∷ set) a b ≤ k
unfolding within
within-head s far set p k a b connects = ⊎_elim
    (λ goes.
    let first : within s far set a (start_of p) ≡ 0 = ap (within s far set a) goes.1 ∙ within-refl s far set a in
    let second : within s far set (end_of s p) b ≡ 0 = ap (λ c. within s far set c b) goes.2 ∙ within-refl s far set b in
    omega (arith, first, second))
    (λ goes.
    let first : within s far set a (end_of s p) ≡ 0 = ap (within s far set a) goes.2 ∙ within-refl s far set a in
    let second : within s far set (start_of p) b ≡ 0 = ap (λ c. within s far set c b) goes.1 ∙ within-refl s far set b in
    omega (arith, first, second))
    connects

within-tail : (s : Size) (far : ℕ) (x : Piece × ℕ) (set : List (Piece × ℕ)) (a b : ℕ) → within s far (x ∷ set) a b ≤ within s far set a b
unfolding within
within-tail s far x set a b = omega arith

pub within-piece : (s : Size) (far : ℕ) (set : List (Piece × ℕ)) (p : Piece) (k a b : ℕ) → Contains set (p, k) → Connects s p a b → within s far set a b ≤ k
within-piece s far [] p k a b at connects = absurd (omega (arith, at.1))
within-piece s far (x ∷ set) p k a b at connects = ⊎_elim
    (λ here. subst (λ (y : Piece × ℕ). within s far (y ∷ set) a b ≤ k) here (within-head s far set p k a b connects))
    (λ rest. omega (arith, within-tail s far x set a b, within-piece s far set p k a b rest connects))
    (head_or_rest x set (p, k) at)

-- two sets with a piece between their ends
over_piece : (s : Size) (pieces : List (Piece × ℕ)) (p : Piece) (k a u v b m n : ℕ) → Contains pieces (p, k) → Connects s p u v → HasSet s pieces a u m → HasSet s pieces v b n → HasSet s pieces a b (m + k + n)
over_piece s pieces p k a u v b m n at connects first second =
    let both = united pieces first.set second.set first.is_set.allowed second.is_set in
    let more = extended pieces both.new p k both.is_set at in
    let grown = WalkBetween-superset s (IsAllowed both.new) (IsAllowed more.new) more.kept in
    let before = grown a u (WalkBetween-superset s (IsAllowed first.set) (IsAllowed both.new) both.first a u first.walk) in
    let behind = grown v b (WalkBetween-superset s (IsAllowed second.set) (IsAllowed both.new) both.second v b second.walk) in
    record {
      set = more.new;
      is_set = more.is_set;
      walk = WalkBetween-trans s (IsAllowed more.new) a u b before (WalkBetween-trans s (IsAllowed more.new) u v b (WalkBetween-piece s (IsAllowed more.new) p u v more.has connects) behind);
      light = omega (arith, more.light, both.light, first.light, second.light);
    }

has_more : (s : Size) (pieces : List (Piece × ℕ)) (a b m n : ℕ) → m ≤ n → HasSet s pieces a b m → HasSet s pieces a b n
has_more s pieces a b m n more has = record { set = has.set; is_set = has.is_set; walk = has.walk; light = omega (arith, has.light, more) }

-- a distance that isn't far is the weight of a set, or more
pub within_is_set : (s : Size) (pieces : List (Piece × ℕ)) (far : ℕ) (set : List (Piece × ℕ)) (a b : ℕ) → WeighsOnlyPieces s pieces → ((x : Piece × ℕ) → Contains set x → Contains pieces x) → IsVertex s a → IsVertex s b → (far ≤ within s far set a b) ⊎ HasSet s pieces a b (within s far set a b)
unfolding within
within_is_set s pieces far [] a b are allowed at_a at_b = ⊎_elim
    (λ same. inr (record { set = []; is_set = no_pieces pieces; walk = subst (WalkBetween s (IsAllowed []) a) same (WalkBetween-refl s (IsAllowed []) a at_a); light = omega arith }))
    (λ other. inl (grind (arith, nat_tests)))
    (cases_eq a b)
within_is_set s pieces far (x ∷ set) a b are allowed at_a at_b =
    let p = x.0 in
    let k = x.1 in
    let u = start_of p in
    let v = end_of s p in
    let at = allowed x (0, omega arith, refl) in
    let is : IsPiece s p = are p (k, at) in
    let at_v = end_of-vertex s p is in
    let rest = λ (c d : ℕ) (at_c : IsVertex s c) (at_d : IsVertex s d). within_is_set s pieces far set c d are (λ y in_set. allowed y (suc in_set.0, omega (arith, in_set.1), in_set.2)) at_c at_d in
    let goes : Connects s p u v = inl (is, refl, refl) in
    let back : Connects s p v u = inr (is, refl, refl) in
    let whole = within s far (x ∷ set) a b in
    let straight = within s far set a b in
    let there = within s far set a u + k + within s far set v b in
    let turned = within s far set a v + k + within s far set u b in
    ⊎_elim
    (λ (is_straight : whole ≡ straight). ⊎_elim (λ high. inl (omega (arith, high, is_straight))) (λ has. inr (has_more s pieces a b straight whole (omega (arith, is_straight)) has)) (rest a b at_a at_b))
    (λ others. ⊎_elim
    (λ (is_there : whole ≡ there). ⊎_elim (λ high. inl (omega (arith, high, is_there)))
    (λ first. ⊎_elim (λ high. inl (omega (arith, high, is_there)))
    (λ second. inr (has_more s pieces a b there whole (omega (arith, is_there)) (over_piece s pieces p k a u v b (within s far set a u) (within s far set v b) at goes first second)))
    (rest v b at_v at_b))
    (rest a u at_a is.0))
    (λ (is_turned : whole ≡ turned). ⊎_elim (λ high. inl (omega (arith, high, is_turned)))
    (λ first. ⊎_elim (λ high. inl (omega (arith, high, is_turned)))
    (λ second. inr (has_more s pieces a b turned whole (omega (arith, is_turned)) (over_piece s pieces p k a v u b (within s far set a v) (within s far set u b) at back first second)))
    (rest u b is.0 at_b))
    (rest a v at_a at_v))
    others)
    (one_of straight there turned)
  where
    one_of : (i j l : ℕ) → (least i j l ≡ i) ⊎ ((least i j l ≡ j) ⊎ (least i j l ≡ l))
    one_of i j l = ⊎_elim (λ low. ⊎_elim (λ first. inl (omega arith)) (λ other. inr (inr (omega arith))) (cases_lt i l))
        (λ high. ⊎_elim (λ first. inr (inl (omega arith))) (λ other. inr (inr (omega arith))) (cases_lt j l))
        (cases_lt i j)
