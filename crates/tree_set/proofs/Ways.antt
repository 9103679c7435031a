-- The edges of a set along one axis, one behind the other: on to the end of a run, and back to where it begins.
use Rattle.std.proofs.Common.{◌≡◌, ℕ, zero, suc, ◌+◌, ◌-◌, ◌*◌, ◌<◌, ◌≤◌, ◌⊎◌, true, false, List, [], ◌∷◌, Contains, sym, ◌∙◌, ap, subst, inl, inr, ⊎_elim, arith, below_more}
use Rattle.std.specs.Prelude.{filter}
use Rattle.std.proofs.lemmas.Bool.{cases_eq, cases_lt}
use Rattle.std.proofs.lemmas.List.Elements.{All-contains}
use Rattle.std.proofs.lemmas.Map.Made.{Contains-tail}
use Rattle.grid_base.specs.declared.axis.Axis.{Axis}
use Rattle.grid_base.specs.declared.piece.Piece.{Piece}
use Rattle.grid_base.specs.declared.piece.Piece.TheVariants.{Edge, Via}
use Rattle.grid_base.specs.declared.size.Size.{Size}
use Rattle.grid_base.specs.Lines.{is_along, edge_from, stride}
use Rattle.grid_base.specs.Numbers.{IsPiece, IsVertex, vertices}
use Rattle.grid_base.proofs.Lines.{no_steps, one_step_on, stride-positive, start_of-edge_from}
use Rattle.tree_set.specs.Order.{IsRising}
use Rattle.tree_set.specs.Routings.{ArePieces}
use Rattle.tree_set.specs.Runs.{begins_run, run_end}
use Rattle.tree_set.proofs.RunEnds.{begins_run-low, begins_run-tested, run_end-held, run_end-done}

same_or_not : (p q : Piece) → (p ≡ q) ⊎ (p ≡ q → ⊥)
same_or_not (Edge a) (Edge b) = ⊎_elim (λ same. inl (ap (λ n. Edge (record { 0 = n })) same)) (λ other. inr (λ same. other (cc))) (cases_eq a.0 b.0)
same_or_not (Edge a) (Via b) = inr (λ same. cc)
same_or_not (Via a) (Edge b) = inr (λ same. cc)
same_or_not (Via a) (Via b) = ⊎_elim (λ same. inl (ap (λ n. Via (record { 0 = n })) same)) (λ other. inr (λ same. other (cc))) (cases_eq a.0 b.0)

held_or_not : (ps : List Piece) (p : Piece) → Contains ps p ⊎ (Contains ps p → ⊥)
held_or_not [] p = inr (λ held. absurd (omega (arith, held.1)))
held_or_not (q ∷ ps) p =
    ⊎_elim
    (λ same. inl (0, omega arith, same))
    (λ other. ⊎_elim
    (λ (later : Contains ps p). inl (suc later.0, omega (arith, later.1), later.2))
    (λ (missing : Contains ps p → ⊥). inr (λ (held : Contains (q ∷ ps) p). missing (Contains-tail q ps p other held)))
    (held_or_not ps p))
    (same_or_not q p)

-- an edge of a set begins at a vertex
pub held-vertex : (s : Size) (axis : Axis) (tree : List Piece) (v : ℕ) → ArePieces s tree → Contains tree (edge_from axis v) → IsVertex s v
held-vertex s axis tree v pieces held = subst (IsVertex s) (start_of-edge_from axis v) (All-contains (IsPiece s) tree (edge_from axis v) pieces held).0

-- the set holds this many edges along an axis, one behind the other from a vertex on
pub record Way (s : Size) (axis : Axis) (tree : List Piece) (v long : ℕ) : Type 0 where
  pub held : (i : ℕ) → i < long → Contains tree (edge_from axis (v + i * stride axis s))

one_step_first : (v i k : ℕ) → v + k + i * k ≡ v + suc i * k
one_step_first v i k = omega arith

-- the way with one edge more in front
way-before : (s : Size) (axis : Axis) (tree : List Piece) (v long : ℕ) → Contains tree (edge_from axis v) → Way s axis tree (v + stride axis s) long → Way s axis tree v (suc long)
way-before s axis tree v long first way = record { held = at }
  where
    at : (i : ℕ) → i < suc long → Contains tree (edge_from axis (v + i * stride axis s))
    at zero below = rw no_steps first
    at (suc i) below = subst (λ u. Contains tree (edge_from axis u)) (one_step_first v i (stride axis s)) (way.held i (omega arith))

-- and with one more at the end
pub way-behind : (s : Size) (axis : Axis) (tree : List Piece) (v long : ℕ) → Way s axis tree v long → Contains tree (edge_from axis (v + long * stride axis s)) → Way s axis tree v (suc long)
way-behind s axis tree v long way last = record {
  held = λ i below. below_more (λ k. Contains tree (edge_from axis (v + k * stride axis s))) long way.held last i (omega arith);
}

-- the way from a vertex to the end of the run that stands there
pub record WholeWay (s : Size) (axis : Axis) (tree : List Piece) (v : ℕ) : Type 0 where
  pub long : ℕ
  pub way : Way s axis tree v long
  pub end : run_end s (filter (is_along axis) tree) v ≡ v + long * stride axis s
  pub done : Contains tree (edge_from axis (v + long * stride axis s)) → ⊥

whole_way-none : (s : Size) (axis : Axis) (tree : List Piece) (v : ℕ) → (Contains tree (edge_from axis v) → ⊥) → WholeWay s axis tree v
whole_way-none s axis tree v missing =
    let here : v ≡ v + 0 * stride axis s = sym (no_steps v (stride axis s)) in
    record {
      long = 0;
      way = record { held = λ i below. absurd (omega (arith, below)) };
      end = run_end-done s axis tree v missing ∙ here;
      done = subst (λ u. Contains tree (edge_from axis u) → ⊥) here missing;
    }

whole_way-more : (s : Size) (axis : Axis) (tree : List Piece) (v : ℕ) → IsRising tree → Contains tree (edge_from axis v) → WholeWay s axis tree (v + stride axis s) → WholeWay s axis tree v
whole_way-more s axis tree v up first rest =
    let on : v + stride axis s + rest.long * stride axis s ≡ v + suc rest.long * stride axis s = one_step_first v rest.long (stride axis s) in
    record {
      long = suc rest.long;
      way = way-before s axis tree v rest.long first rest.way;
      end = run_end-held s axis tree v up first ∙ rest.end ∙ on;
      done = subst (λ u. Contains tree (edge_from axis u) → ⊥) on rest.done;
    }

whole_way-within : (s : Size) (axis : Axis) (tree : List Piece) → IsRising tree → ArePieces s tree → (n v : ℕ) → vertices s ≤ v + n → WholeWay s axis tree v
whole_way-within s axis tree up pieces zero v within =
    whole_way-none s axis tree v (λ held. let vertex = held-vertex s axis tree v pieces held in absurd (omega (arith, vertex, within)))
whole_way-within s axis tree up pieces (suc n) v within =
    let fewer : vertices s ≤ v + stride axis s + n = omega (arith, within, stride-positive s axis) in
    ⊎_elim
    (λ held. whole_way-more s axis tree v up held (whole_way-within s axis tree up pieces n (v + stride axis s) fewer))
    (λ missing. whole_way-none s axis tree v missing)
    (held_or_not tree (edge_from axis v))

pub whole_way : (s : Size) (axis : Axis) (tree : List Piece) → IsRising tree → ArePieces s tree → (v : ℕ) → WholeWay s axis tree v
whole_way s axis tree up pieces v = whole_way-within s axis tree up pieces (vertices s) v (omega arith)

-- the way to a vertex from where the run begins that passes or ends there
pub record WayTo (s : Size) (axis : Axis) (tree : List Piece) (v : ℕ) : Type 0 where
  pub start : ℕ
  pub long : ℕ
  pub way : Way s axis tree start long
  pub back : start + long * stride axis s ≡ v
  pub begins : begins_run s (filter (is_along axis) tree) start ≡ true

way_to-start : (s : Size) (axis : Axis) (tree : List Piece) (v : ℕ) → begins_run s (filter (is_along axis) tree) v ≡ true → WayTo s axis tree v
way_to-start s axis tree v begins = record {
  start = v;
  long = 0;
  way = record { held = λ i below. absurd (omega (arith, below)) };
  back = no_steps v (stride axis s);
  begins = begins;
}

way_to-more : (s : Size) (axis : Axis) (tree : List Piece) (v : ℕ) → stride axis s ≤ v → Contains tree (edge_from axis (v - stride axis s)) → WayTo s axis tree (v - stride axis s) → WayTo s axis tree v
way_to-more s axis tree v high last to = record {
  start = to.start;
  long = suc to.long;
  way = way-behind s axis tree to.start to.long to.way (rw to.back last);
  back = sym (one_step_on to.start to.long (stride axis s)) ∙ omega (arith, to.back, high);
  begins = to.begins;
}

-- a run begins where the set doesn't hold the edge from a step before
begins_after_gap : (s : Size) (axis : Axis) (tree : List Piece) (v : ℕ) → stride axis s ≤ v → (Contains tree (edge_from axis (v - stride axis s)) → ⊥) → begins_run s (filter (is_along axis) tree) v ≡ true
begins_after_gap s axis tree v high missing = sym (begins_run-tested s axis tree v false high (λ is. cc, λ held. absurd (missing held)))

way_to-within : (s : Size) (axis : Axis) (tree : List Piece) (n v : ℕ) → v ≤ n → WayTo s axis tree v
way_to-within s axis tree zero v within =
    way_to-start s axis tree v (begins_run-low s axis tree v (omega (arith, within, stride-positive s axis)))
way_to-within s axis tree (suc n) v within =
    ⊎_elim
    (λ (low : v < stride axis s). way_to-start s axis tree v (begins_run-low s axis tree v low))
    (λ (high : stride axis s ≤ v). ⊎_elim
    (λ held. way_to-more s axis tree v high held (way_to-within s axis tree n (v - stride axis s) (omega (arith, within, high, stride-positive s axis))))
    (λ missing. way_to-start s axis tree v (begins_after_gap s axis tree v high missing))
    (held_or_not tree (edge_from axis (v - stride axis s))))
    (cases_lt v (stride axis s))

pub way_to : (s : Size) (axis : Axis) (tree : List Piece) (v : ℕ) → WayTo s axis tree v
way_to s axis tree v = way_to-within s axis tree v v (omega arith)
