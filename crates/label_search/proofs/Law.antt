-- A function on the vertices that rises along an allowed piece by at most its weight, rises between two vertices by at most
-- the weight of each set that joins them.
use Rattle.std.proofs.Common.{◌≡◌, ℕ, zero, suc, ◌+◌, ◌≤◌, ◌⊎◌, List, ◌∷◌, length, refl, sym, ◌∙◌, ap, subst, inl, inr, ⊎_elim}
use Rattle.std.proofs.Common.{arith}
use Rattle.std.specs.List.{Contains, remove}
use Rattle.std.proofs.lemmas.List.Sums.{sum_by-cons}
use Rattle.std.proofs.lemmas.List.Edits.{length-remove}
use Rattle.std.proofs.lemmas.List.Sorted.{IsPermutation-remove, IsPermutation-sym, Contains-permutation, sum_by-IsPermutation}
use Rattle.grid_base.specs.declared.piece.Piece.{Piece}
use Rattle.grid_base.specs.declared.size.Size.{Size}
use Rattle.grid_base.specs.Numbers.{Connects}
use Rattle.grid_base.specs.Walks.{AreLinked, WalkBetween}
use Rattle.grid_base.proofs.Lists.{head_or_rest}
use Rattle.grid_base.proofs.Walks.{AreLinked-sym, WalkBetween-refl, WalkBetween-step, WalkBetween-sym, WalkBetween-trans}
use Rattle.grid_base.proofs.Walks.{WalkBetween-link, closed_under_walks, walk_vertices, linked_vertex}
use Rattle.grid_graph.specs.Weighed.{IsAllowed}
use Rattle.label_search.specs.Sets.{RisesSlowly, weight}

-- the ends of a piece are two
pub one_end : (s : Size) (p : Piece) (x y v w : ℕ) → Connects s p x y → Connects s p v w → (w ≡ x) ⊎ (w ≡ y)
one_end s p x y v w first second = ⊎_elim
    (λ there. ⊎_elim (λ goes. inr (sym goes.2 ∙ there.2)) (λ goes. inl (sym goes.1 ∙ there.1)) second)
    (λ back. ⊎_elim (λ goes. inl (sym goes.2 ∙ back.2)) (λ goes. inr (sym goes.1 ∙ back.1)) second)
    first

-- a walk that uses the piece between two walks that don't
pub record UsesBetween (s : Size) (F : Piece → Type 0) (p : Piece) (a b : ℕ) : Type 0 where
  pub enters : ℕ
  pub leaves : ℕ
  pub connects : Connects s p enters leaves
  pub before : WalkBetween s F a enters
  pub behind : WalkBetween s F leaves b

-- one more piece at the end
by_other : (s : Size) (F : Piece → Type 0) (p : Piece) (a w v : ℕ) → AreLinked s F w v
    → WalkBetween s F a w ⊎ UsesBetween s F p a w → WalkBetween s F a v ⊎ UsesBetween s F p a v
by_other s F p a w v link parted = ⊎_elim
    (λ walk. inl (WalkBetween-trans s F a w v walk (WalkBetween-link s F w v link)))
    (λ uses. inr (record {
      enters = uses.enters;
      leaves = uses.leaves;
      connects = uses.connects;
      before = uses.before;
      behind = WalkBetween-trans s F uses.leaves w v uses.behind (WalkBetween-link s F w v link);
    }))
    parted

by_piece : (s : Size) (F : Piece → Type 0) (p : Piece) (a w v : ℕ) → Connects s p w v → WalkBetween s F v v
    → WalkBetween s F a w ⊎ UsesBetween s F p a w → WalkBetween s F a v ⊎ UsesBetween s F p a v
by_piece s F p a w v connects alone parted = ⊎_elim
    (λ walk. inr (record { enters = w; leaves = v; connects = connects; before = walk; behind = alone }))
    (λ uses. ⊎_elim
    (λ back. inl (subst (WalkBetween s F a) (sym back) uses.before))
    (λ again. inr (record {
      enters = uses.enters;
      leaves = v;
      connects = subst (Connects s p uses.enters) (sym again) uses.connects;
      before = uses.before;
      behind = alone;
    }))
    (one_end s p uses.enters uses.leaves w v uses.connects connects))
    parted

-- a walk with one piece more uses it nowhere, or once between two walks without it
pub parted : (s : Size) (F G : Piece → Type 0) (p : Piece) → ((q : Piece) → G q → (q ≡ p) ⊎ F q) → (a b : ℕ)
    → WalkBetween s G a b → WalkBetween s F a b ⊎ UsesBetween s F p a b
parted s F G p without a b walk = closed_under_walks s G (λ w. WalkBetween s F a w ⊎ UsesBetween s F p a w)
    (λ w v before link. ⊎_elim
    (λ same. by_piece s F p a w v (subst (λ q. Connects s q w v) same link.connects)
    (WalkBetween-refl s F v (linked_vertex s G v w (AreLinked-sym s G w v link))) before)
    (λ other. by_other s F p a w v (record { piece = link.piece; in_set = other; connects = link.connects }) before)
    (without link.piece link.in_set))
    a b (inl (WalkBetween-refl s F a (walk_vertices s G a b walk).0)) walk

-- a walk is at its end, or goes on from a linked vertex
pub record GoesBy (s : Size) (F : Piece → Type 0) (a b : ℕ) : Type 0 where
  pub next : ℕ
  pub link : AreLinked s F a next
  pub rest : WalkBetween s F next b

pub first_step : (s : Size) (F : Piece → Type 0) (a b : ℕ) → WalkBetween s F a b → (a ≡ b) ⊎ GoesBy s F a b
first_step s F a b walk =
    let M : ℕ → Type 0 = λ w. WalkBetween s F w b × ((w ≡ b) ⊎ GoesBy s F w b) in
    let back = WalkBetween-sym s F a b walk in
    (closed_under_walks s F M
    (λ w v at link.
    let step = AreLinked-sym s F w v link in
    (WalkBetween-step s F v w b step at.0, inr (record { next = w; link = step; rest = at.0 })))
    b a (WalkBetween-refl s F b (walk_vertices s F b a back).0, inl refl) back).1

-- a piece of a set and the rest of the set
pub record Splits (set : List (Piece × ℕ)) (x : Piece × ℕ) : Type 0 where
  pub rest : List (Piece × ℕ)
  pub shorter : length rest + 1 ≡ length set
  pub weighs : weight set ≡ x.1 + weight rest
  pub kept : (y : Piece × ℕ) → Contains rest y → Contains set y
  pub only : (y : Piece × ℕ) → Contains set y → (y ≡ x) ⊎ Contains rest y

pub splits : (set : List (Piece × ℕ)) (x : Piece × ℕ) → Contains set x → Splits set x
splits set x at =
    let moved = IsPermutation-remove set at.0 x at.1 (sym at.2) in
    let rest = remove set at.0 in
    record {
      rest = rest;
      shorter = length-remove set at.0 at.1;
      weighs = sym (sum_by-IsPermutation (λ y. y.1) set (x ∷ rest) moved) ∙ sum_by-cons (λ y. y.1) x rest;
      kept = λ y in_rest. Contains-permutation (x ∷ rest) set y (IsPermutation-sym set (x ∷ rest) moved)
          (suc in_rest.0, omega (arith, in_rest.1), in_rest.2);
      only = λ y in_set. head_or_rest x rest y (Contains-permutation set (x ∷ rest) y moved in_set);
    }

-- what a smaller set is known to do
abbrev KnownFor : Size → (ℕ → ℕ) → List (Piece × ℕ) → Type 0
KnownFor s D set = (a b : ℕ) → WalkBetween s (IsAllowed set) a b → D b ≤ D a + weight set

rises_by : (s : Size) (pieces set : List (Piece × ℕ)) (D : ℕ → ℕ) → RisesSlowly s pieces D → (a c b k : ℕ) (p : Piece)
    → Contains pieces (p, k) → Connects s p a c → (split : Splits set (p, k)) → KnownFor s D split.rest →
    WalkBetween s (IsAllowed set) a b → D b ≤ D a + weight set
rises_by s pieces set D slow a c b k p allowed connects split known walk = ⊎_elim
    (λ without. omega (arith, split.weighs, known a b without))
    (λ uses. ⊎_elim
    (λ at_a. omega (arith, split.weighs, known a b (subst (λ v. WalkBetween s (IsAllowed split.rest) v b) at_a uses.behind)))
    (λ at_c. omega (
      arith,
      split.weighs,
      slow p k a c allowed connects,
      known c b (subst (λ v. WalkBetween s (IsAllowed split.rest) v b) at_c uses.behind),
    ))
    (one_end s p a c uses.enters uses.leaves connects uses.connects))
    (parted s (IsAllowed split.rest) (IsAllowed set) p
    (λ q in_set. ⊎_elim (λ same. inl (ap (λ (x : Piece × ℕ). x.0) same)) (λ other. inr (in_set.0, other))
    (split.only (q, in_set.0) in_set.1))
    a b walk)

rises_within : (s : Size) (pieces : List (Piece × ℕ)) (D : ℕ → ℕ) → RisesSlowly s pieces D → (n : ℕ) (set : List (Piece × ℕ))
    → length set ≤ n → ((x : Piece × ℕ) → Contains set x → Contains pieces x) → KnownFor s D set
rises_within s pieces D slow zero set few allowed a b walk = ⊎_elim
    (λ same. omega (arith, ap D same))
    (λ goes. let at = goes.link.in_set.1 in absurd (omega (arith, at.1)))
    (first_step s (IsAllowed set) a b walk)
rises_within s pieces D slow (suc n) set few allowed a b walk = ⊎_elim
    (λ same. omega (arith, ap D same))
    (λ goes.
    let p = goes.link.piece in
    let k = goes.link.in_set.0 in
    let split = splits set (p, k) goes.link.in_set.1 in
    rises_by s pieces set D slow a goes.next b k p (allowed (p, k) goes.link.in_set.1) goes.link.connects split
    (rises_within s pieces D slow n split.rest (omega (arith, split.shorter)) (λ x in_rest. allowed x (split.kept x in_rest)))
    walk)
    (first_step s (IsAllowed set) a b walk)

pub rises_by_weight : (s : Size) (pieces : List (Piece × ℕ)) (D : ℕ → ℕ) → RisesSlowly s pieces D → (set : List (Piece × ℕ))
    → ((x : Piece × ℕ) → Contains set x → Contains pieces x) → (a b : ℕ) → WalkBetween s (IsAllowed set) a b
    → D b ≤ D a + weight set
rises_by_weight s pieces D slow set allowed = rises_within s pieces D slow (length set) set (omega arith) allowed
