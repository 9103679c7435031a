-- Labels of all sets of terminals, as a table, hold and bound least weights.
use Rattle.std.proofs.Common.{◌≡◌, ◌<◌, ◌≤◌, ◌+◌, ◌-◌, ℕ, List, [], All, Option, Some, None, length, get_or, refl, sym}
use Rattle.std.proofs.Common.{◌∙◌, ap, subst, ⊎_elim, arith}
use Rattle.std.proofs.lemmas.Bool.{cases_lt}
use Rattle.std.proofs.lemmas.List.FromFn.{length-map-range_with_len, get_or-map-range_with_len}
use Rattle.std.proofs.lemmas.Nat.{pow_pos}
use Rattle.std.proofs.lemmas.Option.{slice_get_within, get_or_from_slice_get}
use Rattle.grid_base.specs.declared.piece.Piece.{Piece}
use Rattle.grid_base.specs.declared.size.Size.{Size}
use Rattle.grid_base.specs.declared.vertex.Vertex.{Vertex}
use Rattle.grid_base.specs.Numbers.{vertices, IsVertex}
use Rattle.grid_base.specs.Walks.{Joins, InVertices}
use Rattle.grid_base.proofs.Pieces.{connects_back, end_vertex}
use Rattle.grid_graph.specs.Weighed.{IsAllowed, NoPieceTwice, AreWithinLimit}
use Rattle.label_search.specs.Sets.{IsLeastWeight}
use Rattle.label_search.specs.Stamped.{most, far}
use Rattle.shortest_paths.specs.declared.labels.Labels.{Labels}
use Rattle.shortest_paths.specs.LabelWords.{labels_size, label_of}
use Rattle.steiner_tables.specs.Masks.{single, all_but_root}
use Rattle.steiner_tables.specs.NoFamilies.{nothing_holds}
use Rattle.steiner_tables.specs.Tables.{IsHoldingTable, IsPrunedTable, answer_at}
use Rattle.steiner_tables.proofs.Masks.{parts_sum}
use Rattle.steiner_tables.proofs.Roots.{root_mask}
use Rattle.steiner_exact.specs.Roots.{root_of, IsAttempt}
use Rattle.steiner_exact.proofs.Attempts.{attempted}
use Rattle.brought_bounds.specs.TableWords.{table_number, IsRow, IsFilled, IsTableThatHolds}
use Rattle.bound_climb.specs.LabelRows.{label_row, label_rows}
use Rattle.bound_climb.specs.NetProofs.{table_bound}

-- numbers of which nothing was left out
abbrev pub AreLabels : Size → List (Piece × ℕ) → List Vertex → (ℕ → ℕ → ℕ) → Type 0
AreLabels s pieces terminals number = IsPrunedTable s pieces terminals (all_but_root terminals) (λ _ _. 0) most far number

-- such numbers hold themselves: where there is none, the one that stands for it is above all
labels_hold : (s : Size) (pieces : List (Piece × ℕ)) (terminals : List Vertex) (number : ℕ → ℕ → ℕ)
    → AreLabels s pieces terminals number → IsHoldingTable s pieces terminals (all_but_root terminals) number
labels_hold s pieces terminals number are = record {
  own = λ place v at low. ⊎_elim (λ own. own) (λ above. absurd (omega (arith, above))) (are.own place v at low);
  steps = λ mask some low p k a b weighs connects. ⊎_elim
      (λ has. ⊎_elim (λ step. step) (λ above. omega (arith, above, are.above mask b))
      (are.steps mask p k a b some low weighs connects has))
      (λ none. omega (arith, none, are.above mask b))
      (cases_lt (number mask a) far);
  splits = λ one other mask v parts low vertex. ⊎_elim
      (λ has_one. ⊎_elim
      (λ has_other. ⊎_elim (λ split. split) (λ above. omega (arith, above, are.above mask v))
      (are.splits one other mask v parts low vertex has_one has_other))
      (λ none. omega (arith, none, are.above mask v))
      (cases_lt (number other v) far))
      (λ none. omega (arith, none, are.above mask v))
      (cases_lt (number one v) far);
}

-- a table that agrees with one that holds, on all masks and vertices, holds too
agreeing_holds : (s : Size) (pieces : List (Piece × ℕ)) (terminals : List Vertex) (last : ℕ) (number other : ℕ → ℕ → ℕ)
    → All (λ v. IsVertex s v.0) terminals → IsHoldingTable s pieces terminals last number
    → ((mask v : ℕ) → 0 < mask → mask ≤ last → v < vertices s → other mask v ≡ number mask v)
    → IsHoldingTable s pieces terminals last other
agreeing_holds s pieces terminals last number other inside holds same = record {
  own = λ place v at low.
      let d : Vertex = record { 0 = 0 } in
      let vertex : IsVertex s v.0 = subst (λ (w : Vertex). IsVertex s w.0) (get_or_from_slice_get terminals place v d at)
      (inside place d (slice_get_within terminals place v at)) in
      same (single place) v.0 (pow_pos place) low vertex ∙ holds.own place v at low;
  steps = λ mask some low p k a b weighs connects.
      omega (
        arith,
        holds.steps mask some low p k a b weighs connects,
        same mask a some low (end_vertex s p b a (connects_back s p a b connects)),
        same mask b some low (end_vertex s p a b connects),
      );
  splits = λ one two mask v parts low vertex.
      let sum = parts_sum one two mask parts in
      omega (
        arith,
        holds.splits one two mask v parts low vertex,
        same mask v (omega (arith, sum, parts.some)) low vertex,
        same one v parts.some (omega (arith, sum, low)) vertex,
        same two v parts.others (omega (arith, sum, low)) vertex,
      );
}

-- the row of a mask
row_at : (l : Labels) (count place : ℕ) (d : List ℕ) → place < count
    → get_or (label_rows l count) place d ≡ label_row l (place + 1)
row_at l count place d low =
    get_or-map-range_with_len (λ k. label_row l (k + 1)) 0 count place place d low (omega arith)

-- and the number at a vertex
number_at : (l : Labels) (mask v : ℕ) → v < vertices (labels_size l) → get_or (label_row l mask) v 0 ≡ label_of l mask v
number_at l mask v low =
    get_or-map-range_with_len (label_of l mask) 0 (vertices (labels_size l)) v v 0 low (omega arith)

rows_number : (l : Labels) (count mask v : ℕ) → 0 < mask → mask ≤ count → v < vertices (labels_size l)
    → table_number (label_rows l count) mask v ≡ label_of l mask v
rows_number l count mask v some low inside =
    ap (λ row. get_or row v 0) (row_at l count (mask - 1) [] (omega (arith, some, low)))
    ∙ ap (λ m. get_or (label_row l m) v 0) (before mask some) ∙ number_at l mask v inside
  where
    before : (m : ℕ) → 0 < m → m - 1 + 1 ≡ m
    before m positive = omega arith

rows_filled : (s : Size) (l : Labels) (count : ℕ) → labels_size l ≡ s → ((mask v : ℕ) → label_of l mask v ≤ far)
    → IsFilled s (label_rows l count)
rows_filled s l count same above k d low =
    let n = vertices (labels_size l) in
    let inside : k < count = omega (arith, low, length-map-range_with_len (λ place. label_row l (place + 1)) 0 count) in
    subst (IsRow (vertices s)) (sym (row_at l count k d inside)) (record {
      each = length-map-range_with_len (label_of l (k + 1)) 0 n ∙ ap vertices same;
      within = λ v x under.
          let is = get_or-map-range_with_len (label_of l (k + 1)) 0 n v v x
          (omega (arith, under, length-map-range_with_len (label_of l (k + 1)) 0 n)) (omega arith) in
          omega (arith, is, above (k + 1) v);
    })

-- the rows of all sets of terminals are a table that holds
pub rows_hold : (s : Size) (pieces : List (Piece × ℕ)) (terminals : List Vertex) (l : Labels) → labels_size l ≡ s
    → All (λ v. IsVertex s v.0) terminals → AreLabels s pieces terminals (label_of l)
    → IsTableThatHolds s pieces terminals (label_rows l (all_but_root terminals))
rows_hold s pieces terminals l same inside are =
    let last = all_but_root terminals in
    record {
      table = record {
        each = length-map-range_with_len (λ place. label_row l (place + 1)) 0 last;
        filled = rows_filled s l last same are.above;
      };
      holds = agreeing_holds s pieces terminals last (label_of l) (table_number (label_rows l last)) inside
          (labels_hold s pieces terminals (label_of l) are)
          (λ mask v some low under. rows_number l last mask v some low (omega (arith, under, ap vertices same)));
    }

-- what was found without a limit is least
found_least : (s : Size) (pieces : List (Piece × ℕ)) (terminals : List Vertex) (number : ℕ → ℕ → ℕ) (o : Option ℕ)
    → IsAttempt s pieces terminals most number o
    → IsLeastWeight s pieces (InVertices terminals) (number (all_but_root terminals) (root_of terminals).0)
found_least s pieces terminals number (Some x) is = subst (IsLeastWeight s pieces (InVertices terminals)) (sym is.kept) is.lightest
found_least s pieces terminals number None is = absurd (omega (arith, is))

-- and the table's bound is the least weight of its terminals
pub rows_least : (s : Size) (pieces : List (Piece × ℕ)) (terminals : List Vertex) (l : Labels) → labels_size l ≡ s
    → NoPieceTwice pieces → AreWithinLimit pieces → 2 ≤ length terminals → All (λ v. IsVertex s v.0) terminals
    → Joins s (IsAllowed pieces) (InVertices terminals) → AreLabels s pieces terminals (label_of l)
    → IsLeastWeight s pieces (InVertices terminals) (table_bound terminals (label_rows l (all_but_root terminals)))
rows_least s pieces terminals l same once small two inside joins are =
    let last = all_but_root terminals in
    let root = root_of terminals in
    let d : Vertex = record { 0 = 0 } in
    let vertex : IsVertex s root.0 = inside (length terminals - 1) d (omega (arith, two)) in
    let number : table_number (label_rows l last) last root.0 ≡ label_of l last root.0 =
    rows_number l last last root.0 (root_mask terminals two).0 (omega arith) (omega (arith, vertex, ap vertices same)) in
    subst (IsLeastWeight s pieces (InVertices terminals)) (sym number)
    (found_least s pieces terminals (label_of l) (answer_at far (label_of l last root.0))
    (attempted s pieces terminals (λ _ _. 0) most (label_of l) (answer_at far (label_of l last root.0)) once small
    (nothing_holds s pieces terminals) two (omega arith) joins are refl))
