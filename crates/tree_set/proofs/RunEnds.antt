-- Where runs of edges along one axis begin and end in a rising set.
use Rattle.std.proofs.Common.{◌≡◌, ℕ, zero, suc, ◌+◌, ◌-◌, ◌*◌, ◌<◌, ◌≤◌, ◌==◌, ◌≢◌, Bool, true, false, not, List, [], ◌∷◌, length, get_or, Contains, All, refl, sym, ◌∙◌, ap, subst, arith, eq-eqb, eqb-true}
use Rattle.std.specs.Prelude.{filter, ◌↔◌}
use Rattle.std.specs.Cmp.{ranked}
use Rattle.std.specs.declared.cmp.Ordering.TheVariants.{Less}
use Rattle.std.proofs.lemmas.Bool.{false_from_ne_true}
use Rattle.std.proofs.lemmas.List.Elements.{All-contains_itself, All-filter, filter_passes}
use Rattle.std.proofs.lemmas.List.Folds.{list_any_at, list_any_none}
use Rattle.std.proofs.lemmas.List.Kept.{IsStrictlySortedBy-filter}
use Rattle.std.proofs.lemmas.Map.Keys.{Less-from_sorted}
use Rattle.grid_base.specs.declared.axis.Axis.{Axis}
use Rattle.grid_base.specs.declared.axis.Axis.TheVariants.{X, Y}
use Rattle.grid_base.specs.declared.piece.Piece.{Piece}
use Rattle.grid_base.specs.declared.size.Size.{Size}
use Rattle.grid_base.specs.Lines.{is_along, edge_from, stride}
use Rattle.grid_base.specs.Numbers.{start_of, end_of}
use Rattle.grid_base.proofs.Chosen.{Contains-filter}
use Rattle.grid_base.proofs.Lines.{start_of-edge_from, end_of-edge_from, is_along-edge_from, edge_from-start_of, end_of-along}
use Rattle.grid_base.proofs.Pieces.{start_of-below}
use Rattle.tree_set.specs.Order.{piece_cmp, IsRising}
use Rattle.tree_set.specs.Runs.{begins_run, run_end}

-- where an edge along an axis ends at a vertex, it is the one from a step before
ends_at : (s : Size) (axis : Axis) (p : Piece) (v : ℕ) → is_along axis p ≡ true → (end_of s p == v) ≡ true → start_of p + stride axis s ≡ v
ends_at s axis p v along ends = sym (end_of-along s axis p along) ∙ eqb-true _ _ ends

-- no edge along an axis ends at a vertex that is less than a step above 0
pub begins_run-low : (s : Size) (axis : Axis) (ps : List Piece) (v : ℕ) → v < stride axis s → begins_run s (filter (is_along axis) ps) v ≡ true
begins_run-low s axis ps v low =
    ap not (list_any_none (λ p. end_of s p == v) (filter (is_along axis) ps)
    (λ k d below. false_from_ne_true _ (λ ends.
    let along = filter_passes (is_along axis) ps k d below in
    absurd (omega (arith, ends_at s axis (get_or (filter (is_along axis) ps) k d) v along ends, low)))))

-- a run begins at a vertex where the set doesn't hold the edge from a step before
pub begins_run-tested : (s : Size) (axis : Axis) (ps : List Piece) (v : ℕ) (held : Bool) → stride axis s ≤ v → (held ≡ true) ↔ Contains ps (edge_from axis (v - stride axis s)) → not held ≡ begins_run s (filter (is_along axis) ps) v
begins_run-tested s axis ps v true high member =
    let edges = filter (is_along axis) ps in
    let before = edge_from axis (v - stride axis s) in
    let at = Contains-filter (is_along axis) ps before (is_along-edge_from axis (v - stride axis s)) (member.0 refl) in
    let ends : (end_of s (get_or edges at.0 before) == v) ≡ true = rw at.2 (eq-eqb _ _ (end_of-edge_from s axis (v - stride axis s) ∙ omega (arith, high))) in
    ap not (sym (list_any_at (λ p. end_of s p == v) edges at.0 before at.1 ends))
begins_run-tested s axis ps v false high member =
    let edges = filter (is_along axis) ps in
    ap not (sym (list_any_none (λ p. end_of s p == v) edges
    (λ k d below. false_from_ne_true _ (λ ends.
    let edge = get_or edges k d in
    let along = filter_passes (is_along axis) ps k d below in
    let near : start_of edge ≡ v - stride axis s = omega (arith, ends_at s axis edge v along ends) in
    let held : Contains ps edge = All-filter (is_along axis) (Contains ps) ps (All-contains_itself ps) k d below in
    let is : edge ≡ edge_from axis (v - stride axis s) = edge_from-start_of axis edge along ∙ ap (edge_from axis) near in
    let yes : false ≡ true = member.1 (subst (Contains ps) is held) in
    cc))))

-- of two edges along one axis the one of the smaller number begins at the smaller vertex
start_of-rises : (axis : Axis) (u v : ℕ) → piece_cmp (edge_from axis u) (edge_from axis v) ≡ Less → u < v
start_of-rises X u v less = omega (arith, ranked (2 * u) (2 * v) Less (sym less))
start_of-rises Y u v less = omega (arith, ranked (2 * u + 1) (2 * v + 1) Less (sym less))

-- the edges of a rising set along one axis begin at rising vertices
abbrev StartsRise : List Piece → Type 0
StartsRise es = (i j : ℕ) (d : Piece) → i < j → j < length es → start_of (get_or es i d) < start_of (get_or es j d)

starts_rise : (axis : Axis) (ps : List Piece) → IsRising ps → StartsRise (filter (is_along axis) ps)
starts_rise axis ps up i j d before below =
    let edges = filter (is_along axis) ps in
    let p = get_or edges i d in
    let q = get_or edges j d in
    let p_is : p ≡ edge_from axis (start_of p) = edge_from-start_of axis p (filter_passes (is_along axis) ps i d (omega (arith, before, below))) in
    let q_is : q ≡ edge_from axis (start_of q) = edge_from-start_of axis q (filter_passes (is_along axis) ps j d below) in
    let less : piece_cmp p q ≡ Less = Less-from_sorted piece_cmp edges i j d (IsStrictlySortedBy-filter piece_cmp (is_along axis) ps up) before below in
    start_of-rises axis (start_of p) (start_of q) (sym (ap (λ r. piece_cmp r q) p_is ∙ ap (piece_cmp (edge_from axis (start_of p))) q_is) ∙ less)

-- a run that no edge carries on ends where it stands
run_end-stops : (s : Size) (es : List Piece) (v : ℕ) → All (λ e. start_of e ≢ v) es → run_end s es v ≡ v
run_end-stops s [] v none = refl
run_end-stops s (e ∷ es) v none =
    let off : (start_of e == v) ≡ false = false_from_ne_true _ (λ test. none 0 e (omega arith) (eqb-true _ _ test)) in
    rw off (run_end-stops s es v (λ k d below. none (suc k) d (omega (arith, below))))

-- an edge that begins where a run stands carries it on
run_end-goes : (s : Size) (es : List Piece) (v : ℕ) → StartsRise es → (k : ℕ) (d : Piece) → k < length es → start_of (get_or es k d) ≡ v → run_end s es v ≡ run_end s es (end_of s (get_or es k d))
run_end-goes s [] v up k d below is = absurd (omega arith)
run_end-goes s (e ∷ es) v up zero d below is =
    let on : (start_of e == v) ≡ true = eq-eqb _ _ is in
    let past : (start_of e == end_of s e) ≡ false = false_from_ne_true _ (λ test. let same = eqb-true _ _ test in omega (arith, start_of-below s e, same)) in
    rw (on, past) refl
run_end-goes s (e ∷ es) v up (suc k) d below is =
    let next = get_or es k d in
    let before : start_of e < start_of next = up 0 (suc k) d (omega arith) below in
    let off : (start_of e == v) ≡ false = false_from_ne_true _ (λ test. let same = eqb-true _ _ test in omega (arith, before, is, same)) in
    let past : (start_of e == end_of s next) ≡ false = false_from_ne_true _ (λ test. let same = eqb-true _ _ test in omega (arith, before, start_of-below s next, same)) in
    rw (off, past) (run_end-goes s es v (λ i j a first last. up (suc i) (suc j) a (omega (arith, first)) (omega (arith, last))) k d (omega (arith, below)) is)

-- a run that stands at a vertex goes on where the set holds the edge from it
pub run_end-held : (s : Size) (axis : Axis) (ps : List Piece) (v : ℕ) → IsRising ps → Contains ps (edge_from axis v) → run_end s (filter (is_along axis) ps) v ≡ run_end s (filter (is_along axis) ps) (v + stride axis s)
run_end-held s axis ps v up held =
    let edges = filter (is_along axis) ps in
    let edge = edge_from axis v in
    let at = Contains-filter (is_along axis) ps edge (is_along-edge_from axis v) held in
    run_end-goes s edges v (starts_rise axis ps up) at.0 edge at.1 (ap start_of at.2 ∙ start_of-edge_from axis v)
    ∙ ap (λ (p : Piece). run_end s edges (end_of s p)) at.2 ∙ ap (run_end s edges) (end_of-edge_from s axis v)

-- and ends there where it doesn't
pub run_end-done : (s : Size) (axis : Axis) (ps : List Piece) (v : ℕ) → (Contains ps (edge_from axis v) → ⊥) → run_end s (filter (is_along axis) ps) v ≡ v
run_end-done s axis ps v missing =
    run_end-stops s (filter (is_along axis) ps) v
    (λ k d below near.
    let edge = get_or (filter (is_along axis) ps) k d in
    let held : Contains ps edge = All-filter (is_along axis) (Contains ps) ps (All-contains_itself ps) k d below in
    let is : edge ≡ edge_from axis v = edge_from-start_of axis edge (filter_passes (is_along axis) ps k d below) ∙ ap (edge_from axis) near in
    missing (subst (Contains ps) is held))
