-- Reading a path back from the numbers.
use Rattle.std.proofs.Common.{◌≡◌, ℕ, ◌+◌, ◌<◌, List, Option, [], ◌∷◌, ◌++◌, reverse, Some, None, get_or, refl, sym, ◌∙◌, ap}
use Rattle.std.proofs.Common.{subst, ⊎_elim, arith}
use Rattle.std.proofs.lemmas.Bool.{cases_eq}
use Rattle.std.proofs.lemmas.List.{reverse-append}
use Rattle.std.proofs.lemmas.Option.{get_or_from_slice_get, same_Some}
use Rattle.grid_base.specs.declared.piece.Piece.{Piece}
use Rattle.grid_base.specs.declared.size.Size.{Size}
use Rattle.grid_base.specs.declared.vertex.Vertex.{Vertex}
use Rattle.grid_base.specs.Numbers.{IsVertex}
use Rattle.grid_base.specs.Walks.{WalkBetween}
use Rattle.grid_base.proofs.Walks.{WalkBetween-refl, WalkBetween-trans, WalkBetween-piece, WalkBetween-superset}
use Rattle.grid_graph.specs.Weighed.{IsAllowed}
use Rattle.grid_base.specs.Neighbours.{steps}
use Rattle.grid_base.proofs.Neighbours.{connects_step}
use Rattle.grid_base.proofs.Pieces.{connects_back}
use Rattle.label_search.specs.Paths.{IsArc, IsPath, IsPieceBack}
use Rattle.label_search.specs.Searches.{HasSet, IsBehind}
use Rattle.label_search.proofs.Sets.{extended, no_pieces}

-- a step that was read from a table of the steps
pub read_step : (s : Size) (from k : ℕ) (table : List (Option (Vertex × Piece))) (x : Option (Vertex × Piece))
    → table ≡ steps s from → get_or table k None ≡ x → get_or (steps s from) k None ≡ x
read_step s from k table x is read = ap (λ (xs : List (Option (Vertex × Piece))). get_or xs k None) (sym is) ∙ read

-- none of the steps below this place leads back
abbrev pub NoneReachesBelow : Size → List (Piece × ℕ) → (ℕ → ℕ) → ℕ → ℕ → ℕ → Type 0
NoneReachesBelow s pieces num here number n =
    (i : ℕ) (w : Vertex) (p : Piece) → i < n → get_or (steps s here) i None ≡ Some (w, p)
    → ¬ IsPieceBack pieces p (num w.0) number

pub none_more : (s : Size) (pieces : List (Piece × ℕ)) (num : ℕ → ℕ) (here number n : ℕ) (to : Vertex) (by : Piece)
    → NoneReachesBelow s pieces num here number n → get_or (steps s here) n None ≡ Some (to, by)
    → ¬ IsPieceBack pieces by (num to.0) number → NoneReachesBelow s pieces num here number (n + 1)
none_more s pieces num here number n to by below at none i w p low is = ⊎_elim
    (λ last.
    let same : (to, by) ≡ (w, p) = same_Some (to, by) (w, p)
    (sym at ∙ ap (λ j. get_or (steps s here) j None) (sym last) ∙ is) in
    subst (λ (x : Vertex × Piece). ¬ IsPieceBack pieces x.1 (num x.0.0) number) same none)
    (λ before. below i w p (omega arith) is)
    (cases_eq i n)

pub none_past : (s : Size) (pieces : List (Piece × ℕ)) (num : ℕ → ℕ) (here number n : ℕ)
    → NoneReachesBelow s pieces num here number n → get_or (steps s here) n None ≡ None
    → NoneReachesBelow s pieces num here number (n + 1)
none_past s pieces num here number n below none i w p low is = ⊎_elim
    (λ last. let clash : None ≡ Some (w, p) = sym none ∙ ap (λ j. get_or (steps s here) j None) (sym last)
    ∙ is in absurd (cc clash))
    (λ before. below i w p (omega arith) is)
    (cases_eq i n)

-- one of the six leads back
pub some_reaches : (s : Size) (pieces : List (Piece × ℕ)) (num : ℕ → ℕ) (here : ℕ) → IsBehind s pieces num here
    → NoneReachesBelow s pieces num here (num here) 6 → ⊥
some_reaches s pieces num here is none =
    let found = connects_step s is.piece here is.before (connects_back s is.piece is.before here is.connects) in
    none found.0 (record { 0 = is.before }) is.piece found.1
    (get_or_from_slice_get (steps s here) found.0 (Some (record { 0 = is.before }, is.piece)) None found.2)
    (record { weight = is.by; weighs = is.weighs; within = is.less })

-- a path with one step more at its end
pub path_more : (s : Size) (pieces : List (Piece × ℕ)) (a b d weight : ℕ) (p : Piece) (path : List Piece) (total : ℕ)
    → IsPath s pieces a b total path → IsArc s pieces p b d weight → IsPath s pieces a d (total + weight) (path ++ p ∷ [])
path_more s pieces a b d weight p [] total (here, nothing) step =
    (d, weight, 0, subst (λ v. IsArc s pieces p v d weight) (sym here) step, (refl, refl), omega (arith, nothing))
path_more s pieces a b d weight p (q ∷ path) total (next, first, left, is, rest, sum) step =
    (next, first, left + weight, is, path_more s pieces next b d weight p path left rest step, omega (arith, sum))

step_back : (s : Size) (pieces : List (Piece × ℕ)) (a b weight : ℕ) (p : Piece) → IsArc s pieces p a b weight
    → IsArc s pieces p b a weight
step_back s pieces a b weight p is = record { connects = connects_back s p a b is.connects; weighs = is.weighs }

-- a path can be turned round
pub path_back : (s : Size) (pieces : List (Piece × ℕ)) (a b : ℕ) (path : List Piece) (total : ℕ)
    → IsPath s pieces a b total path → IsPath s pieces b a total (reverse path)
path_back s pieces a b [] total (here, nothing) = (sym here, nothing)
path_back s pieces a b (p ∷ path) total (next, first, left, is, rest, sum) =
    let longer = path_more s pieces b next a first p (reverse path) left (path_back s pieces next b path left rest)
    (step_back s pieces a next first p is) in
    let same : left + first ≡ total = omega (arith, sum) in
    subst (λ n. IsPath s pieces b a n (reverse (p ∷ path))) same
    (subst (λ (ps : List Piece). IsPath s pieces b a (left + first) ps) (sym (reverse-append (p ∷ []) path)) longer)

-- the pieces of a path, each once, are a set that joins its ends and weighs no more
pub path_set : (s : Size) (pieces : List (Piece × ℕ)) (a b : ℕ) (path : List Piece) (total : ℕ) → IsVertex s b
    → IsPath s pieces a b total path → HasSet s pieces a b total
path_set s pieces a b [] total vertex (here, nothing) = record {
  set = [];
  is_set = no_pieces pieces;
  walk = subst (λ v. WalkBetween s (IsAllowed []) v b) (sym here) (WalkBetween-refl s (IsAllowed []) b vertex);
  light = omega arith;
}
path_set s pieces a b (p ∷ path) total vertex (next, weight, left, is, rest, sum) =
    let on = path_set s pieces next b path left vertex rest in
    let more = extended pieces on.set p weight on.is_set is.weighs in
    record {
      set = more.new;
      is_set = more.is_set;
      walk = WalkBetween-trans s (IsAllowed more.new) a next b
          (WalkBetween-piece s (IsAllowed more.new) p a next more.has is.connects)
          (WalkBetween-superset s (IsAllowed on.set) (IsAllowed more.new) more.kept next b on.walk);
      light = omega (arith, more.light, on.light, sum);
    }
