-- Keepers of prices, and edges that are none.
use Rattle.std.proofs.Common.{◌≡◌, ◌≤◌, ℕ, ◌+◌, ◌*◌, List, Bool, false, cond, length, get_or, slice_index, slice_set, refl, sym}
use Rattle.std.proofs.Common.{◌∙◌, ap, subst, ⊎_elim, arith, eq-eqb, ne_eqb}
use Rattle.std.proofs.lemmas.Bool.{cases_eq}
use Rattle.std.proofs.lemmas.List.{get_or-set_same, get_or-set_other}
use Rattle.std.proofs.lemmas.List.Folds.{list_any_none}
use Rattle.grid_base.specs.declared.piece.Piece.{Piece}
use Rattle.grid_base.specs.declared.piece.Piece.TheVariants.{Edge, Via}
use Rattle.grid_base.specs.declared.size.Size.{Size}
use Rattle.grid_base.specs.Numbers.{vertices, IsPiece}
use Rattle.grid_graph.specs.declared.grid.Grid.{Grid}
use Rattle.grid_graph.specs.Grids.{size_of, demand_on, edge_numbers, entries}
use Rattle.edge_prices.specs.declared.kept_prices.KeptPrices.{KeptPrices}
use Rattle.edge_prices.specs.KeptLists.{KeepsSetting}
use Rattle.tree_set.specs.Loads.{is_edge_of, net_load, tree_load}
use Rattle.tree_set.specs.Routings.{ArePieces}

pub KeepsSetting-trans : (a b d : KeptPrices) → KeepsSetting a b → KeepsSetting b d → KeepsSetting a d
KeepsSetting-trans a b d first next =
    record { grid = next.grid ∙ first.grid; scale = next.scale ∙ first.scale; budget = next.budget ∙ first.budget }

-- a piece isn't the edge of a number that belongs to none
is_no_edge : (s : Size) (p : Piece) (e : ℕ) → IsPiece s p → 2 * vertices s ≤ e → is_edge_of e p ≡ false
is_no_edge s (Edge x) e piece beyond = ne_eqb x.0 e (λ same. omega (arith, piece.0, beyond, same))
is_no_edge s (Via v) e piece beyond = refl

-- no net has a load on such a number
pub net_load-beyond : (g : Grid) (width : ℕ) (ps : List Piece) (e : ℕ) → ArePieces (size_of g) ps → 2 * vertices (size_of g) ≤ e
    → net_load g width ps e ≡ 0
net_load-beyond g width ps e pieces beyond =
    ap (λ (b : Bool). cond b (demand_on g width e) 0)
    (list_any_none (is_edge_of e) ps (λ k d short. is_no_edge (size_of g) (get_or ps k d) e (pieces k d short) beyond))

-- the load of the edges and that of the wirelength
pub tree_load-added : (g : Grid) (width : ℕ) (ps : List Piece) (first loads : List ℕ) (r : ℕ) → ArePieces (size_of g) ps
    → length loads ≡ entries g
    → ((e : ℕ) → slice_index loads e ≡ slice_index first e + net_load g width ps e)
    → slice_index (slice_set loads (edge_numbers g) (slice_index loads (edge_numbers g) + length ps)) r
    ≡ slice_index first r + tree_load g width ps r
tree_load-added g width ps first loads r pieces long edges =
    let last : ℕ = edge_numbers g in
    let new : ℕ = slice_index loads last + length ps in
    let none : net_load g width ps last ≡ 0 = net_load-beyond g width ps last pieces (omega arith) in
    ⊎_elim
    (λ (here : last ≡ r).
    let set : slice_index (slice_set loads last new) last ≡ new = get_or-set_same loads last new 0 (omega (arith, long)) in
    let load : tree_load g width ps last ≡ length ps = ap (λ (b : Bool). cond b (length ps) (net_load g width ps last))
    (eq-eqb last last refl) in
    subst (λ (e : ℕ). slice_index (slice_set loads last new) e ≡ slice_index first e + tree_load g width ps e) here
    (omega (arith, set, load, edges last, none)))
    (λ (other : last ≡ r → ⊥).
    let load : tree_load g width ps r ≡ net_load g width ps r = ap (λ (b : Bool). cond b (length ps) (net_load g width ps r))
    (ne_eqb r last (λ same. other (sym same))) in
    get_or-set_other loads last r new 0 (λ same. other (sym same)) ∙ edges r
    ∙ ap (λ (y : ℕ). slice_index first r + y) (sym load))
    (cases_eq last r)
