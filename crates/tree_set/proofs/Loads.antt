-- Loads as one more piece, or one more net, is counted.
use Rattle.std.proofs.Common.{◌≡◌, ℕ, ◌+◌, ◌<◌, Bool, true, false, cond, ◌||◌, List, length, get_or, take, slice_index, slice_set, refl, sym, ◌∙◌, ap, subst, ⊎_elim, arith, ◌≤◌, ◌*◌, eq-eqb, ne_eqb, eqb-true}
use Rattle.grid_base.specs.declared.via.Via.{Via as ViaNumber}
use Rattle.grid_base.specs.declared.size.Size.{Size}
use Rattle.grid_base.specs.Lists.{At, HasNoRepeats}
use Rattle.grid_base.specs.Numbers.{vertices, IsPiece}
use Rattle.tree_set.specs.Routings.{ArePieces}
use Rattle.std.specs.List.{sum_by, zip}
use Rattle.std.proofs.lemmas.Bool.{cases_Bool, cases_eq}
use Rattle.std.proofs.lemmas.List.{get_or-set_same, get_or-set_other, get_or-take, length-take}
use Rattle.std.proofs.lemmas.List.Folds.{list_any_more, list_any_none}
use Rattle.std.proofs.lemmas.List.Sums.{sum_by_more}
use Rattle.std.proofs.lemmas.Option.{slice_get-get_or}
use Rattle.std.proofs.lemmas.Slice.Zip.{get_or-zip, length-zip}
use Rattle.grid_base.specs.declared.edge.Edge.{Edge as EdgeNumber}
use Rattle.grid_base.specs.declared.piece.Piece.{Piece}
use Rattle.grid_base.specs.declared.piece.Piece.TheVariants.{Edge, Via}
use Rattle.grid_graph.specs.declared.grid.Grid.{Grid}
use Rattle.grid_graph.specs.declared.net_spec.NetSpec.{NetSpec}
use Rattle.grid_graph.specs.Grids.{demand_on}
use Rattle.tree_set.specs.Loads.{is_edge_of, holds, net_load}
use Rattle.tree_set.specs.Order.{IsRising}
use Rattle.tree_set.proofs.Order.{rising_once}
use Rattle.grid_graph.specs.Limits.{max_demand}

or_false : (b : Bool) → (b || false) ≡ b
or_false true = refl
or_false false = refl

or_true : (b : Bool) → (b || true) ≡ true
or_true true = refl
or_true false = refl

edge_of : (e : ℕ) (p : Piece) → is_edge_of e p ≡ true → p ≡ Edge (record { 0 = e })
edge_of e (Edge x) is = ap (λ n. Edge (record { 0 = n })) (eqb-true x.0 e is)
edge_of e (Via v) is = cc

-- an edge doesn't stand before itself in a list without repeats
not_before : (ps : List Piece) (i : ℕ) (d : Piece) (x : EdgeNumber) → HasNoRepeats ps → i < length ps → get_or ps i d ≡ Edge x → holds (take i ps) x.0 ≡ false
not_before ps i d x once within is =
    list_any_none (is_edge_of x.0) (take i ps) (λ k e low.
    let early : k < i = omega (arith, length-take i ps) in
    ⊎_elim
    (λ (same : is_edge_of x.0 (get_or (take i ps) k e) ≡ true).
    let first : get_or ps k e ≡ Edge x = sym (get_or-take i ps k e early) ∙ edge_of x.0 (get_or (take i ps) k e) same in
    let twice : k ≡ i = once k i (Edge x) (subst (At ps k) first (slice_get-get_or ps k e (omega (arith, early, within)))) (subst (At ps i) is (slice_get-get_or ps i d within)) in
    absurd (omega (arith, twice, early)))
    (λ other. other)
    (cases_Bool (is_edge_of x.0 (get_or (take i ps) k e))))

-- one more piece is looked at
holds_more : (ps : List Piece) (i e : ℕ) (d p : Piece) → i < length ps → get_or ps i d ≡ p → holds (take (i + 1) ps) e ≡ (holds (take i ps) e || is_edge_of e p)
holds_more ps i e d p within is = list_any_more (is_edge_of e) ps i d within ∙ ap (λ (q : Piece). holds (take i ps) e || is_edge_of e q) is

-- a piece that isn't the edge changes nothing
pub net_load-other : (g : Grid) (width : ℕ) (ps : List Piece) (i e : ℕ) (d p : Piece) → i < length ps → get_or ps i d ≡ p → is_edge_of e p ≡ false → net_load g width (take (i + 1) ps) e ≡ net_load g width (take i ps) e
net_load-other g width ps i e d p within is other =
    ap (λ (b : Bool). cond b (demand_on g width e) 0)
    (holds_more ps i e d p within is ∙ ap (λ (b : Bool). holds (take i ps) e || b) other ∙ or_false (holds (take i ps) e))

-- the edge counts from now on
net_load-new : (g : Grid) (width : ℕ) (ps : List Piece) (i e : ℕ) (d p : Piece) → i < length ps → get_or ps i d ≡ p → is_edge_of e p ≡ true → net_load g width (take (i + 1) ps) e ≡ demand_on g width e
net_load-new g width ps i e d p within is same =
    ap (λ (b : Bool). cond b (demand_on g width e) 0)
    (holds_more ps i e d p within is ∙ ap (λ (b : Bool). holds (take i ps) e || b) same ∙ or_true (holds (take i ps) e))

-- before, it didn't
net_load-none : (g : Grid) (width : ℕ) (ps : List Piece) (i : ℕ) (d : Piece) (x : EdgeNumber) → HasNoRepeats ps → i < length ps → get_or ps i d ≡ Edge x → net_load g width (take i ps) x.0 ≡ 0
net_load-none g width ps i d x once within is = ap (λ (b : Bool). cond b (demand_on g width x.0) 0) (not_before ps i d x once within is)

-- what was counted of a net's load so far, and that no edge has more than the greatest demand
pub record IsCounted (g : Grid) (width : ℕ) (ps : List Piece) (i : ℕ) (first loads : List ℕ) : Type 0 where
  pub value : (e : ℕ) → slice_index loads e ≡ slice_index first e + net_load g width (take i ps) e
  pub limit : (e : ℕ) → net_load g width (take i ps) e ≤ max_demand

put_together : (loads first before demand after : ℕ) → loads ≡ first + before → before ≡ 0 → after ≡ demand → loads + demand ≡ first + after
put_together loads first before demand after is none new = omega arith

-- an edge's demand is added to its load
pub IsCounted-once : (g : Grid) (width : ℕ) (ps : List Piece) (i : ℕ) (d : Piece) (x : EdgeNumber) (first loads : List ℕ) → HasNoRepeats ps → i < length ps → get_or ps i d ≡ Edge x → x.0 < length loads → demand_on g width x.0 ≤ max_demand → IsCounted g width ps i first loads → IsCounted g width ps (i + 1) first (slice_set loads x.0 (slice_index loads x.0 + demand_on g width x.0))
IsCounted-once g width ps i d x first loads once within is inside small before =
    let new = net_load-new g width ps i x.0 d (Edge x) within is (eq-eqb x.0 x.0 refl) in
    let off : (e : ℕ) → (x.0 ≡ e → ⊥) → net_load g width (take (i + 1) ps) e ≡ net_load g width (take i ps) e =
    λ e other. net_load-other g width ps i e d (Edge x) within is (ne_eqb x.0 e other) in
    record {
      value = λ e. ⊎_elim
          (λ (here : x.0 ≡ e). subst (λ (y : ℕ). slice_index (slice_set loads x.0 (slice_index loads x.0 + demand_on g width x.0)) y ≡ slice_index first y + net_load g width (take (i + 1) ps) y) here
          (get_or-set_same loads x.0 (slice_index loads x.0 + demand_on g width x.0) 0 inside
          ∙ put_together _ _ _ _ _ (before.value x.0) (net_load-none g width ps i d x once within is) new))
          (λ (other : x.0 ≡ e → ⊥). get_or-set_other loads x.0 e (slice_index loads x.0 + demand_on g width x.0) 0 (λ at. other (sym at))
          ∙ before.value e ∙ ap (λ (y : ℕ). slice_index first e + y) (sym (off e other)))
          (cases_eq x.0 e);
      limit = λ e. ⊎_elim
          (λ (here : x.0 ≡ e). subst (λ (y : ℕ). net_load g width (take (i + 1) ps) y ≤ max_demand) here (subst (λ (y : ℕ). y ≤ max_demand) (sym new) small))
          (λ (other : x.0 ≡ e → ⊥). subst (λ (y : ℕ). y ≤ max_demand) (sym (off e other)) (before.limit e))
          (cases_eq x.0 e);
    }

-- the same in a set, which is a rising list
pub IsCounted-edge : (g : Grid) (width : ℕ) (ps : List Piece) (i : ℕ) (d : Piece) (x : EdgeNumber) (first loads : List ℕ) → IsRising ps → i < length ps → get_or ps i d ≡ Edge x → x.0 < length loads → demand_on g width x.0 ≤ max_demand → IsCounted g width ps i first loads → IsCounted g width ps (i + 1) first (slice_set loads x.0 (slice_index loads x.0 + demand_on g width x.0))
IsCounted-edge g width ps i d x first loads rising within is inside small before = IsCounted-once g width ps i d x first loads (rising_once ps rising) within is inside small before

-- a via changes no load
pub IsCounted-via : (g : Grid) (width : ℕ) (ps : List Piece) (i : ℕ) (d : Piece) (v : ViaNumber) (first loads : List ℕ) → i < length ps → get_or ps i d ≡ Via v → IsCounted g width ps i first loads → IsCounted g width ps (i + 1) first loads
IsCounted-via g width ps i d v first loads within is before =
    let same : (e : ℕ) → net_load g width (take (i + 1) ps) e ≡ net_load g width (take i ps) e = λ e. net_load-other g width ps i e d (Via v) within is refl in
    record {
      value = λ e. before.value e ∙ ap (λ (y : ℕ). slice_index first e + y) (sym (same e));
      limit = λ e. subst (λ (y : ℕ). y ≤ max_demand) (sym (same e)) (before.limit e);
    }

-- the number of an edge of the size is one of the table's
pub edge_number : (s : Size) (ps : List Piece) (i : ℕ) (d : Piece) (x : EdgeNumber) → ArePieces s ps → i < length ps → get_or ps i d ≡ Edge x → x.0 < 2 * vertices s
edge_number s ps i d x pieces within is =
    let piece : IsPiece s (Edge x) = subst (IsPiece s) is (pieces i d within) in
    omega (arith, piece.0)

-- one more net
pub load_more : (g : Grid) (nets : List NetSpec) (trees : List (List Piece)) (k e : ℕ) (n : NetSpec) (tree : List Piece) (before after : ℕ) → k < length nets → k < length trees → n ≡ get_or nets k n → tree ≡ get_or trees k tree → before ≡ sum_by (λ x. net_load g x.0.width x.1 e) (take k (zip nets trees)) → after ≡ before + net_load g n.width tree e → after ≡ sum_by (λ x. net_load g x.0.width x.1 e) (take (k + 1) (zip nets trees))
load_more g nets trees k e n tree before after in_nets in_trees net_is tree_is so_far more =
    let f : NetSpec × List Piece → ℕ = λ x. net_load g x.0.width x.1 e in
    let within : k < length (zip nets trees) = omega (arith, length-zip nets trees) in
    let at : get_or (zip nets trees) k (n, tree) ≡ (n, tree) =
    get_or-zip nets trees k (n, tree) in_nets in_trees ∙ ap (λ (x : NetSpec). (x, get_or trees k tree)) (sym net_is) ∙ ap (λ (t : List Piece). (n, t)) (sym tree_is) in
    let step = sum_by_more f (zip nets trees) k (n, tree) within ∙ ap (λ (y : NetSpec × List Piece). sum_by f (take k (zip nets trees)) + f y) at in
    more ∙ ap (λ (y : ℕ). y + net_load g n.width tree e) so_far ∙ sym step
