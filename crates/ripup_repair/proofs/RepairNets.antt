-- Overfull edges, and the positions of the nets that are to be repaired.
use Rattle.std.proofs.Common.{◌≡◌, ℕ, ◌≤◌, ◌<◌, Bool, ◌||◌, cond, List, [], ◌∷◌, length, slice_index_or, refl, ◌∙◌, ap, arith}
use Rattle.std.proofs.Common.{ne_eqb}
use Rattle.std.proofs.lemmas.List.Kept.{AllPairs-filter}
use Rattle.ripup_repair.proofs.Common.{count_by-le-length, length-filter, list_any, range_with_len, All-filter, All-head}
use Rattle.ripup_repair.proofs.Common.{All-tail, get_or-range_with_len, length-range_with_len, Piece, IsPiece, Design, Grid}
use Rattle.ripup_repair.proofs.Common.{NetSpec, capacity, edge_numbers, kind, size_of, load, load_on, wirelength, ArePieces}
use Rattle.ripup_repair.proofs.Common.{holds_overfull, is_overfull, is_overfull_edge, nets_to_repair, AreWithin}
use Rattle.grid_base.specs.declared.piece.Piece.TheVariants.{Edge, Via}
use Rattle.ripup_repair.proofs.Positions.{AreRising}

-- the load of a routing on an edge
pub load_on-edge : (g : Grid) (nets : List NetSpec) (trees : List (List Piece)) (e : ℕ) → e < edge_numbers g
    → load_on g nets trees e ≡ load g nets trees e
load_on-edge g nets trees e within =
    ap (λ (b : Bool). cond b (wirelength trees) (load g nets trees e))
    (ne_eqb e (edge_numbers g) (λ same. omega (arith, same, within)))

-- a piece is overfull at the same loads
same_edge : (g : Grid) (f h : ℕ → ℕ) (p : Piece) → IsPiece (size_of g) p → ((e : ℕ) → e < edge_numbers g → f e ≡ h e)
    → is_overfull_edge g f p ≡ is_overfull_edge g h p
same_edge g f h (Edge e) piece same = ap (λ l. is_overfull (kind g e.0) l (capacity g e.0)) (same e.0 (omega (arith, piece.0)))
same_edge g f h (Via v) piece same = refl

-- and so is a set
pub holds_overfull-same : (g : Grid) (f h : ℕ → ℕ) (ps : List Piece) → ArePieces (size_of g) ps
    → ((e : ℕ) → e < edge_numbers g → f e ≡ h e)
    → holds_overfull g f ps ≡ holds_overfull g h ps
holds_overfull-same g f h [] pieces same = refl
holds_overfull-same g f h (p ∷ ps) pieces same =
    ap (λ b. b || list_any (is_overfull_edge g f) ps) (same_edge g f h p (All-head (IsPiece (size_of g)) p ps pieces) same)
    ∙ ap (λ b. is_overfull_edge g h p || b) (holds_overfull-same g f h ps (All-tail (IsPiece (size_of g)) p ps pieces) same)

-- the net at this position is to be repaired
abbrev pub is_due : Design → List (List Piece) → ℕ → Bool
is_due d trees position = holds_overfull d.grid (load d.grid d.nets trees) (slice_index_or trees position [])

-- the positions are those of nets, in rising order, and no more than the nets
pub repair-within : (d : Design) (trees : List (List Piece)) → AreWithin trees (nets_to_repair d trees)
repair-within d trees =
    All-filter (is_due d trees) (λ k. k < length trees) (range_with_len 0 (length trees))
    (λ k e short. omega (
      arith,
      get_or-range_with_len 0 (length trees) k e
          (omega (arith, short, length-range_with_len 0 (length trees))),
      short,
      length-range_with_len 0 (length trees),
    ))

pub repair-rising : (d : Design) (trees : List (List Piece)) → AreRising (nets_to_repair d trees)
repair-rising d trees =
    AllPairs-filter (λ k later. k < later) (is_due d trees) (range_with_len 0 (length trees))
    (λ i j e before short.
    let inside : j < length trees = omega (arith, short, length-range_with_len 0 (length trees)) in
    omega (
      arith,
      before,
      get_or-range_with_len 0 (length trees) i e (omega (arith, before, inside)),
      get_or-range_with_len 0 (length trees) j e inside,
    ))

pub repair-few : (d : Design) (trees : List (List Piece)) → length (nets_to_repair d trees) ≤ length trees
repair-few d trees =
    let all : List ℕ = range_with_len 0 (length trees) in
    let due : ℕ → Bool = is_due d trees in
    omega (arith, length-filter due all, count_by-le-length due all, length-range_with_len 0 (length trees))
