-- The table's number of all terminals but the root, at the root, speaks of the sets that join the terminals.
use Rattle.std.proofs.Common.{◌≡◌, ℕ, suc, ◌-◌, ◌^◌, ◌*◌, Some, None, slice_get, ◌<◌, ◌≤◌, List, length, refl, sym, ◌∙◌, ap}
use Rattle.std.proofs.Common.{subst, inl, inr, ⊎_elim, arith}
use Rattle.std.specs.List.{Contains}
use Rattle.std.proofs.Math.Nat.{pow-succ'}
use Rattle.std.proofs.lemmas.Bool.{cases_eq}
use Rattle.std.proofs.lemmas.Nat.{pow_pos}
use Rattle.std.proofs.lemmas.Option.{same_Some, slice_get-get_or, slice_get_within, get_or_from_slice_get}
use Rattle.grid_base.specs.declared.piece.Piece.{Piece}
use Rattle.grid_base.specs.declared.size.Size.{Size}
use Rattle.grid_base.specs.declared.vertex.Vertex.{Vertex}
use Rattle.grid_base.specs.Lists.{At}
use Rattle.grid_base.specs.Walks.{Joins, InVertices}
use Rattle.grid_base.proofs.Walks.{walk_vertices}
use Rattle.grid_graph.specs.Weighed.{IsAllowed, AreWithinLimit}
use Rattle.steiner_tables.specs.Masks.{single, all_of, all_but_root, WithVertex}
use Rattle.label_search.specs.Sets.{IsSetOf, IsLeastWeight, AreApart, weight}
use Rattle.steiner_tables.specs.Tables.{IsHoldingTable, IsFamily, IsPrunedLabel, rest_of}
use Rattle.label_search.proofs.Forests.{light_part}
use Rattle.steiner_tables.proofs.Masks.{bit_of_first}
use Rattle.steiner_tables.proofs.Tables.{holds_for_sets}

stands_in : (xs : List Vertex) (i : ℕ) (x : Vertex) → At xs i x → Contains xs x
stands_in xs i x at = (i, slice_get_within xs i x at, get_or_from_slice_get xs i x x at)

-- there are terminals beside the root, and they are some of all
pub root_mask : (terminals : List Vertex) → 2 ≤ length terminals
    → (0 < all_but_root terminals) × (all_but_root terminals < all_of terminals)
root_mask terminals two =
    let n = length terminals - 2 in
    let before : length terminals - 1 ≡ suc n = omega (arith, two) in
    let whole : length terminals ≡ suc (suc n) = omega (arith, two) in
    let small : 2 ^ (length terminals - 1) ≡ 2 * 2 ^ n = ap (λ i. 2 ^ i) before ∙ pow-succ' 2 n in
    let great : 2 ^ length terminals ≡ 2 * 2 ^ suc n = ap (λ i. 2 ^ i) whole ∙ pow-succ' 2 (suc n) in
    let positive = pow_pos n in
    let twice = pow-succ' 2 n in
    (omega (arith, small, positive), omega (arith, small, great, twice, positive))

-- a vertex of the other terminals or the root is a terminal, and the other way round
pub terminal_of_root : (terminals : List Vertex) (root : Vertex) (w : ℕ) → At terminals (length terminals - 1) root
    → WithVertex terminals (all_but_root terminals) root.0 w → InVertices terminals w
terminal_of_root terminals root w at is = ⊎_elim
    (λ same. subst (InVertices terminals) (sym same) (stands_in terminals (length terminals - 1) root at))
    (λ in_mask. stands_in terminals in_mask.place (record { 0 = w }) in_mask.terminal)
    is

pub root_of_terminal : (terminals : List Vertex) (root : Vertex) (w : ℕ) → At terminals (length terminals - 1) root
    → InVertices terminals w → WithVertex terminals (all_but_root terminals) root.0 w
root_of_terminal terminals root w at is =
    let stands : At terminals is.0 (record { 0 = w }) =
    slice_get-get_or terminals is.0 (record { 0 = w }) is.1 ∙ ap (λ (x : Vertex). Some x) is.2 in
    ⊎_elim
    (λ last. inl (ap (λ (x : Vertex). x.0) (same_Some (record { 0 = w }) root
    (sym stands ∙ ap (slice_get terminals) last ∙ at))))
    (λ before. inr (record {
      place = is.0;
      terminal = stands;
      has = bit_of_first (length terminals - 1) is.0 (omega (arith, is.1, before));
    }))
    (cases_eq is.0 (length terminals - 1))

-- a set joins the terminals where it joins the root with the others
pub joins_at_root : (s : Size) (F : Piece → Type 0) (terminals : List Vertex) (root : Vertex)
    → At terminals (length terminals - 1) root → Joins s F (InVertices terminals)
    → Joins s F (WithVertex terminals (all_but_root terminals) root.0)
joins_at_root s F terminals root at joins a b at_a at_b =
    joins a b (terminal_of_root terminals root a at at_a) (terminal_of_root terminals root b at at_b)

pub joins_terminals : (s : Size) (F : Piece → Type 0) (terminals : List Vertex) (root : Vertex)
    → At terminals (length terminals - 1) root → Joins s F (WithVertex terminals (all_but_root terminals) root.0)
    → Joins s F (InVertices terminals)
joins_terminals s F terminals root at joins a b at_a at_b =
    joins a b (root_of_terminal terminals root a at at_a) (root_of_terminal terminals root b at at_b)

-- the least weight at the root is that of the terminals
pub least_at_root : (s : Size) (pieces : List (Piece × ℕ)) (terminals : List Vertex) (root : Vertex) (x : ℕ)
    → At terminals (length terminals - 1) root → IsLeastWeight s pieces (WithVertex terminals (all_but_root terminals) root.0) x
    → IsLeastWeight s pieces (InVertices terminals) x
least_at_root s pieces terminals root x at least = record {
  set = least.set;
  is_set = least.is_set;
  joins = joins_terminals s (IsAllowed least.set) terminals root at least.joins;
  weighs = least.weighs;
  lightest = λ other is joins. least.lightest other is (joins_at_root s (IsAllowed other) terminals root at joins);
}

-- a table's number at the root is at most every set that joins the terminals
pub holds_at_root : (s : Size) (pieces : List (Piece × ℕ)) (terminals : List Vertex) (number : ℕ → ℕ → ℕ)
    (set : List (Piece × ℕ)) (root : Vertex) → IsHoldingTable s pieces terminals (all_but_root terminals) number
    → 2 ≤ length terminals → At terminals (length terminals - 1) root →
    IsSetOf pieces set → Joins s (IsAllowed set) (InVertices terminals) → number (all_but_root terminals) root.0 ≤ weight set
holds_at_root s pieces terminals number set root holds two at is joins =
    let mask = root_mask terminals two in
    holds_for_sets s pieces terminals (all_but_root terminals) number holds (omega (arith, mask.1)) set is
    (all_but_root terminals) root.0 mask.0 (omega arith) (joins_at_root s (IsAllowed set) terminals root at joins)

-- what the root leaves is the root, where nothing is left to go
rest_at_root : (s : Size) (pieces : List (Piece × ℕ)) (terminals : List Vertex) (low : ℕ → ℕ → ℕ) (root : Vertex)
    → IsFamily s pieces terminals low → 2 ≤ length terminals → At terminals (length terminals - 1) root
    → rest_of terminals low (all_but_root terminals) root.0 ≡ 0
rest_at_root s pieces terminals low root family two at =
    let whole : length terminals ≡ suc (length terminals - 1) = omega (arith, two) in
    let great : 2 ^ length terminals ≡ 2 * 2 ^ (length terminals - 1) =
    ap (λ i. 2 ^ i) whole ∙ pow-succ' 2 (length terminals - 1) in
    let positive = pow_pos (length terminals - 1) in
    let mask = root_mask terminals two in
    let left : all_of terminals - all_but_root terminals ≡ single (length terminals - 1) = omega (arith, great, positive) in
    ap (λ m. low m root.0) left ∙ family.own (length terminals - 1) root at (omega (arith, great, positive, mask.0))

-- a number at the root is the least weight of a set that joins the terminals
pub root_found : (s : Size) (pieces : List (Piece × ℕ)) (terminals : List Vertex) (low : ℕ → ℕ → ℕ) (limit : ℕ) (root : Vertex)
    (x : ℕ) → At terminals (length terminals - 1) root
    → IsPrunedLabel s pieces terminals low limit (all_but_root terminals) root.0 (Some x) →
    IsLeastWeight s pieces (InVertices terminals) x
root_found s pieces terminals low limit root x at is = least_at_root s pieces terminals root x at is.0

-- none at the root: every set that joins the terminals is above the limit
pub root_none : (s : Size) (pieces : List (Piece × ℕ)) (terminals : List Vertex) (low : ℕ → ℕ → ℕ) (limit : ℕ) (root : Vertex)
    → IsFamily s pieces terminals low → 2 ≤ length terminals → At terminals (length terminals - 1) root →
    IsPrunedLabel s pieces terminals low limit (all_but_root terminals) root.0 None → (set : List (Piece × ℕ))
    → IsSetOf pieces set → Joins s (IsAllowed set) (InVertices terminals) → limit < weight set
root_none s pieces terminals low limit root family two at is set is_set joins =
    omega (
      arith,
      rest_at_root s pieces terminals low root family two at,
      is set is_set (joins_at_root s (IsAllowed set) terminals root at joins),
    )

-- and where the limit is above all least weights no set joins them
pub root_apart : (s : Size) (pieces : List (Piece × ℕ)) (terminals : List Vertex) (low : ℕ → ℕ → ℕ) (limit : ℕ) (root : Vertex)
    → AreWithinLimit pieces → 2 ^ 61 - 1 ≤ limit → IsFamily s pieces terminals low → 2 ≤ length terminals
    → At terminals (length terminals - 1) root →
    IsPrunedLabel s pieces terminals low limit (all_but_root terminals) root.0 None → AreApart s pieces (InVertices terminals)
root_apart s pieces terminals low limit root small enough family two at is set is_set joins =
    let in_root : InVertices terminals root.0 = terminal_of_root terminals root root.0 at (inl refl) in
    let vertex = (walk_vertices s (IsAllowed set) root.0 root.0 (joins root.0 root.0 in_root in_root)).0 in
    let light = light_part s pieces set root.0 small is_set vertex in
    omega (
      arith,
      enough,
      light.light,
      root_none s pieces terminals low limit root family two at is light.part light.is_set
          (λ a b at_a at_b. light.joins a b (joins a b at_a at_b)),
    )
