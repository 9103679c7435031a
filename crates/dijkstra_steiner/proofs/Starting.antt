-- What a search over masks begins with: each terminal but the root has 0 for itself, and waits.
use Rattle.std.proofs.Common.{ℕ, ◌≡◌, ◌+◌, ◌-◌, ◌^◌, ◌<◌, ◌≤◌, List, All, length, slice_get, sym, ◌∙◌, ap, subst, ⊎_elim, arith}
use Rattle.std.proofs.lemmas.Bool.{cases_eq, cases_lt}
use Rattle.std.proofs.lemmas.Nat.{pow_pos, pow_below}
use Rattle.std.proofs.Math.Pow.{pow_mono}
use Rattle.std.proofs.lemmas.Option.{same_Some, slice_get_within, get_or_from_slice_get}
use Rattle.grid_base.specs.declared.piece.Piece.{Piece}
use Rattle.grid_base.specs.declared.size.Size.{Size}
use Rattle.grid_base.specs.declared.vertex.Vertex.{Vertex}
use Rattle.grid_base.specs.Lists.{At}
use Rattle.grid_base.specs.Numbers.{IsVertex}
use Rattle.label_search.specs.declared.row.Row.{Row}
use Rattle.label_search.specs.Rows.{size_in, number_in, Waits}
use Rattle.label_search.specs.Runs.{IsSearch, TakesOffer}
use Rattle.label_search.specs.Stamped.{far, max_key}
use Rattle.steiner_tables.specs.Masks.{few_terminals, rooted_masks, single, all_but_root}
use Rattle.steiner_tables.specs.Tables.{HasTree}
use Rattle.steiner_tables.proofs.Trees.{has_alone}
use Rattle.dijkstra_steiner.specs.Stacks.{IsStackOf, on_stack, mask_of, rest_on}
use Rattle.dijkstra_steiner.specs.MaskSearches.{IsMaskSearch, AreStarted, mask_number}
use Rattle.dijkstra_steiner.proofs.OnStack.{vertex_on, mask_on, same_on}

-- the vertex of the stack for a terminal alone, which isn't the root
pub record IsSeed (flat : Size) (terminals : List Vertex) (w : ℕ) : Type 0 where
  pub place : ℕ
  pub terminal : Vertex
  pub at : At terminals place terminal
  pub before : place < length terminals - 1
  pub is : w ≡ on_stack flat (single place) terminal.0

-- what has a number is such a vertex, waits, and has 0; and those of the places before this one have a number
pub record AreSeeded (flat : Size) (terminals : List Vertex) (n : ℕ) (r : Row) : Type 0 where
  pub seeds : (w : ℕ) → number_in r w < far → IsSeed flat terminals w
  pub waits : (w : ℕ) → number_in r w < far → Waits r w
  pub zero : (w : ℕ) → number_in r w < far → number_in r w ≡ 0
  pub own : (place : ℕ) (v : Vertex) → place < n → At terminals place v → mask_number flat r (single place) v.0 ≡ 0

pub none_seeded : (flat : Size) (terminals : List Vertex) (r : Row) → ((w : ℕ) → number_in r w ≡ far)
    → AreSeeded flat terminals 0 r
none_seeded flat terminals r none = record {
  seeds = λ w has. absurd (omega (arith, has, none w));
  waits = λ w has. absurd (omega (arith, has, none w));
  zero = λ w has. absurd (omega (arith, has, none w));
  own = λ place v low at. absurd (omega (arith, low));
}

-- where the mask of a terminal was put
pub seed_number : (flat : Size) (mask place u v w : ℕ) → w ≡ on_stack flat mask u → mask ≡ single place → u ≡ v
    → w ≡ on_stack flat (single place) v
seed_number flat mask place u v w is alone here = is ∙ ap (λ m. on_stack flat m u) alone ∙ ap (on_stack flat (single place)) here

-- one more terminal was offered 0
pub seeded_more : (flat : Size) (terminals : List Vertex) (n to : ℕ) (t : Vertex) (old new : Row) → At terminals n t
    → n < length terminals - 1 → to ≡ on_stack flat (single n) t.0 → TakesOffer old new to 0 → number_in new to ≤ 0
    → AreSeeded flat terminals n old → AreSeeded flat terminals (n + 1) new
seeded_more flat terminals n to t old new at before is taken free seeded = record {
  seeds = λ w has. ⊎_elim
      (λ same. seeded.seeds w (omega (arith, same, has)))
      (λ here. record { place = n; terminal = t; at = at; before = before; is = here.0 ∙ is })
      (taken.changed w);
  waits = λ w has. ⊎_elim
      (λ same. taken.kept w (seeded.waits w (omega (arith, same, has))))
      (λ here. here.2)
      (taken.changed w);
  zero = λ w has. ⊎_elim
      (λ same. same ∙ seeded.zero w (omega (arith, same, has)))
      (λ here. here.1)
      (taken.changed w);
  own = λ place v low at_v. ⊎_elim
      (λ last.
      let same : t ≡ v = same_Some t v (sym at ∙ ap (slice_get terminals) (sym last) ∙ at_v) in
      let there : to ≡ on_stack flat (single place) v.0 =
      is ∙ ap (λ i. on_stack flat (single i) t.0) (sym last) ∙ ap (λ (x : Vertex). on_stack flat (single place) x.0) same in
      omega (arith, free, ap (number_in new) there))
      (λ earlier. omega (
        arith,
        seeded.own place v (omega (arith, low, earlier)) at_v,
        taken.falls (on_stack flat (single place) v.0),
      ))
      (cases_eq place n);
}

-- the stack has room for the masks up to that of all but the root
pub last_room : (terminals : List Vertex) → length terminals ≤ few_terminals → all_but_root terminals ≤ rooted_masks
last_room terminals few =
    let most : 2 ^ (length terminals - 1) ≤ 2 ^ 4 = pow_mono {i = length terminals - 1} {j = 4} (omega (arith, few)) in
    omega (arith, most)

-- of which each terminal but the root is one
seed_last : (terminals : List Vertex) (place : ℕ) → place < length terminals - 1 → single place ≤ all_but_root terminals
seed_last terminals place before = omega (arith, pow_below place (length terminals - 1) before)

pub seed_room : (terminals : List Vertex) (place : ℕ) → length terminals ≤ few_terminals → place < length terminals - 1
    → single place ≤ rooted_masks
seed_room terminals place few before = omega (arith, last_room terminals few, seed_last terminals place before)

-- a search that begins so
pub seeded_masks : (stack flat : Size) (pieces : List (Piece × ℕ)) (terminals : List Vertex) (low : ℕ → ℕ → ℕ) (n root : ℕ)
    (r : Row) → IsStackOf stack flat → size_in r ≡ stack → length terminals ≤ few_terminals
    → All (λ (v : Vertex). IsVertex flat v.0) terminals → IsSearch (rest_on stack terminals low) max_key r
    → AreSeeded flat terminals n r → IsMaskSearch flat pieces terminals low (all_but_root terminals) root r
seeded_masks stack flat pieces terminals low n root r is size few vertices search seeded =
    let some : (place : ℕ) → 0 < single place = λ place. pow_pos place in
    let inside : (place : ℕ) (t : Vertex) → At terminals place t → IsVertex flat t.0 =
    λ place t at. subst (λ (v : Vertex). IsVertex flat v.0) (get_or_from_slice_get terminals place t t at)
    (vertices place t (slice_get_within terminals place t at)) in
    record {
      search = subst (λ (s : Size). IsSearch (rest_on s terminals low) max_key r) (sym size) search;
      used = λ w has.
          let seed = seeded.seeds w has in
          let mask = single seed.place in
          let v = seed.terminal.0 in
          let vertex = inside seed.place seed.terminal seed.at in
          let room = seed_room terminals seed.place few seed.before in
          let in_stack : IsVertex stack w =
          subst (IsVertex stack) (sym seed.is) (vertex_on stack flat mask v is (some seed.place) room vertex) in
          let small : mask_of stack w ≤ all_but_root terminals =
          omega (
            arith,
            ap (mask_of stack) seed.is,
            mask_on stack flat mask v is (some seed.place) room vertex,
            seed_last terminals seed.place seed.before,
          ) in
          subst (λ (s : Size). IsVertex s w × (mask_of s w ≤ all_but_root terminals)) (sym size) (in_stack, small);
      trees = λ mask v positive less vertex has.
          let w = on_stack flat mask v in
          let seed = seeded.seeds w has in
          let same = same_on stack flat mask v (single seed.place) seed.terminal.0 is positive
          (omega (arith, less, last_room terminals few)) vertex (some seed.place)
          (seed_room terminals seed.place few seed.before) (inside seed.place seed.terminal seed.at) seed.is in
          let alone : HasTree flat pieces terminals (single seed.place) seed.terminal.0 0 =
          has_alone flat pieces terminals seed.place seed.terminal seed.at (inside seed.place seed.terminal seed.at) in
          subst (HasTree flat pieces terminals mask v) (sym (seeded.zero w has))
          (subst (λ u. HasTree flat pieces terminals mask u 0) (sym same.1)
          (subst (λ m. HasTree flat pieces terminals m seed.terminal.0 0) (sym same.0) alone));
      waits = seeded.waits root;
    }

-- each terminal but the root has 0 for itself
pub seeded_started : (flat : Size) (terminals : List Vertex) (n : ℕ) (r : Row) → length terminals - 1 ≤ n
    → AreSeeded flat terminals n r → AreStarted flat terminals (all_but_root terminals) r
seeded_started flat terminals n r all seeded place v at small = ⊎_elim
    (λ before. seeded.own place v (omega (arith, before, all)) at)
    (λ past.
    let most : 2 ^ (length terminals - 1) ≤ 2 ^ place = pow_mono {i = length terminals - 1} {j = place} past in
    absurd (omega (arith, small, most, pow_pos (length terminals - 1))))
    (cases_lt place (length terminals - 1))
