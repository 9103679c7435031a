-- The row of a terminal alone.
use Rattle.std.proofs.Common.{◌≡◌, ◌≢◌, ℕ, zero, suc, ◌+◌, ◌-◌, ◌^◌, ◌<◌, ◌≤◌, List, length, refl, sym, ap, subst, ⊎_elim, arith}
use Rattle.std.proofs.lemmas.Bool.{cases_eq}
use Rattle.std.proofs.Math.Nat.{pow-succ'}
use Rattle.std.proofs.lemmas.Nat.{pow_pos}
use Rattle.std.proofs.lemmas.Option.{slice_get_within}
use Rattle.grid_base.specs.declared.piece.Piece.{Piece}
use Rattle.grid_base.specs.declared.size.Size.{Size}
use Rattle.grid_base.specs.declared.vertex.Vertex.{Vertex}
use Rattle.grid_base.specs.Numbers.{IsVertex}
use Rattle.steiner_tables.specs.declared.kept_rows.KeptRows.{KeptRows}
use Rattle.label_search.specs.declared.row.Row.{Row}
use Rattle.label_search.specs.Rows.{size_in, number_in, IsWaiting, Waits}
use Rattle.label_search.specs.Runs.{IsSearch, IsRelaxedWithin, FallsFrom}
use Rattle.label_search.specs.Sets.{RisesSlowly}
use Rattle.steiner_tables.specs.LoneRows.{IsLoneRow}
use Rattle.steiner_tables.specs.Masks.{single, all_of, AreParts}
use Rattle.steiner_tables.specs.RowWork.{IsSeeded, AreOffered}
use Rattle.steiner_tables.specs.Tables.{IsFamily, HasTree, rest_of}
use Rattle.label_search.proofs.LeastNumbers.{known_slow, RisesSlowly-as}
use Rattle.label_search.proofs.Relaxing.{still_answered}
use Rattle.steiner_tables.proofs.Masks.{bit-single, bit-small, parts_sum, some_bit}
use Rattle.steiner_tables.proofs.RowTables.{alone_tree, path_tree}
use Rattle.steiner_tables.proofs.Trees.{has_more}

-- a mask of one terminal has no two parts
pub single_whole : (place one other : ℕ) → ¬ AreParts one other (single place)
single_whole place one other parts =
    let sum = parts_sum one other (single place) parts in
    let less : one < 2 ^ place = omega (arith, sum, parts.others) in
    let bit = some_bit place one parts.some less in
    let here : bit.place ≡ place =
    bit-single place bit.place (omega (arith, parts.shared bit.place, bit.has, bit-small (single place) bit.place)) in
    omega (arith, here, bit.inside)

-- the masks of two terminals alone are two masks
pub single_same : (i j : ℕ) → single i ≡ single j → i ≡ j
single_same zero zero is = refl
single_same zero (suc j) is = absurd (omega (arith, is, pow-succ' 2 j))
single_same (suc i) zero is = absurd (omega (arith, is, pow-succ' 2 i))
single_same (suc i) (suc j) is = ap suc (single_same i j (omega (arith, is, pow-succ' 2 i, pow-succ' 2 j)))

-- one of several terminals alone leaves others
pub single_below : (n place : ℕ) → 2 ≤ n → place < n → single place + 1 < 2 ^ n
single_below zero place several inside = absurd (omega (arith, inside))
single_below (suc zero) place several inside = absurd (omega (arith, several))
single_below (suc (suc n)) zero several inside = omega (arith, pow-succ' 2 (suc n), pow-succ' 2 n, pow_pos n)
single_below (suc (suc zero)) (suc zero) several inside = omega arith
single_below (suc (suc zero)) (suc (suc place)) several inside = absurd (omega (arith, inside))
single_below (suc (suc (suc n))) (suc place) several inside =
    omega (arith, single_below (suc (suc n)) place (omega arith) (omega (arith, inside)), pow-succ' 2 place, pow-succ' 2 (suc (suc n)))

-- there is room for the mask of one of five terminals
pub single_room : (place : ℕ) → place < 5 → single place ≤ 16
single_room zero few = omega arith
single_room (suc zero) few = omega arith
single_room (suc (suc zero)) few = omega arith
single_room (suc (suc (suc zero))) few = omega arith
single_room (suc (suc (suc (suc zero)))) few = omega arith
single_room (suc (suc (suc (suc (suc place))))) few = absurd (omega (arith, few))

-- the bound of a family for the other terminals rises slowly
pub rest_slow : (s t : Size) (pieces others : List (Piece × ℕ)) (terminals family : List Vertex) (low : ℕ → ℕ → ℕ) (left : ℕ)
    → t ≡ s → others ≡ pieces → family ≡ terminals → IsFamily t others family low → 0 < left → left < all_of terminals
    → RisesSlowly s pieces (low left)
rest_slow s t pieces others terminals family low left size same are holds some less =
    let whole : all_of family ≡ all_of terminals = ap all_of are in
    RisesSlowly-as s t pieces others (low left) size same (holds.steps left some (omega (arith, whole, less)))

-- the row that a search makes of its seed
pub lone_row : (s : Size) (pieces : List (Piece × ℕ)) (terminals : List Vertex) (low new : ℕ → ℕ → ℕ)
    (limit place mask left : ℕ) (rows : KeptRows) (begun done : Row) → mask ≡ single place → left ≡ all_of terminals - single place
    → RisesSlowly s pieces (low left) → size_in begun ≡ s → IsSeeded rows terminals mask (low left) limit begun
    → AreOffered terminals mask (low left) limit (number_in begun) (length terminals) → FallsFrom s pieces begun done
    → IsSearch (low left) limit done → ((v key : ℕ) → ¬ IsWaiting done v key)
    → ((v : ℕ) → IsRelaxedWithin s pieces (low left) limit (number_in done) v)
    → ((v : ℕ) → new (single place) v ≡ number_in done v) → IsLoneRow s pieces terminals low limit new place
lone_row s pieces terminals low new limit place mask left rows begun done own others slow size seeded alone fell search idle relaxed here =
    let rest : (v : ℕ) → low left v ≡ rest_of terminals low (single place) v = λ v. ap (λ m. low m v) others in
    record {
      trees = λ v has.
          let from = fell.from v (omega (arith, has, here v)) in
          let number = number_in begun from.before in
          let seed : HasTree s pieces terminals mask from.before number = ⊎_elim
          (alone_tree s pieces terminals mask from.before number
          (subst (λ (x : Size). IsVertex x from.before) size (seeded.vertices from.before from.numbered)))
          (λ sum. absurd (single_whole place sum.one sum.other (subst (AreParts sum.one sum.other) own sum.parts)))
          (seeded.reasons from.before from.numbered) in
          subst (λ m. HasTree s pieces terminals m v (new (single place) v)) own
          (has_more s pieces terminals mask v (number + from.length) (new (single place) v)
          (path_tree s pieces terminals mask from.before v number from.length from.path from.is_path seed)
          (omega (arith, from.light, here v)));
      leads = record {
        within = λ v has. omega (arith, search.within v (omega (arith, has, here v)), here v, rest v);
        own = λ v at. ⊎_elim
            (λ taken. omega (arith, taken, here v.0))
            (λ refused. omega (arith, refused, rest v.0))
            (still_answered (number_in begun) (number_in done) (low left) limit v.0 0 fell.falls
            (alone place v (slice_get_within terminals place v at) at (sym own)));
        slow = λ p k a b weighs connects. omega (
          arith,
          known_slow s pieces (number_in done) (low left) limit (Waits done) (limit + 1) slow (λ v still. relaxed v)
              (λ v waits. absurd (idle v waits.0 waits.1)) (omega arith) p k a b weighs connects,
          here a,
          here b,
          rest a,
          rest b,
        );
      };
    }

-- the same row in another table
pub IsLoneRow-as : (s : Size) (pieces : List (Piece × ℕ)) (terminals : List Vertex) (low number new : ℕ → ℕ → ℕ) (limit place : ℕ)
    → ((v : ℕ) → new (single place) v ≡ number (single place) v) → IsLoneRow s pieces terminals low limit number place
    → IsLoneRow s pieces terminals low limit new place
IsLoneRow-as s pieces terminals low number new limit place same is = record {
  trees = λ v has. subst (HasTree s pieces terminals (single place) v) (sym (same v)) (is.trees v (omega (arith, has, same v)));
  leads = record {
    within = λ v has. omega (arith, is.leads.within v (omega (arith, has, same v)), same v);
    own = λ v at. omega (arith, is.leads.own v at, same v.0);
    slow = λ p k a b weighs connects. omega (arith, is.leads.slow p k a b weighs connects, same a, same b);
  };
}

-- rows of the places before one and its own
pub more_lone_rows : (s : Size) (pieces : List (Piece × ℕ)) (terminals : List Vertex) (low number new : ℕ → ℕ → ℕ)
    (limit first place : ℕ) → ((p : ℕ) → first ≤ p → p < place → IsLoneRow s pieces terminals low limit number p)
    → ((m v : ℕ) → 0 < m → m ≢ single place → new m v ≡ number m v) → IsLoneRow s pieces terminals low limit new place
    → (p : ℕ) → first ≤ p → p < place + 1 → IsLoneRow s pieces terminals low limit new p
more_lone_rows s pieces terminals low number new limit first place before others here p from inside = ⊎_elim
    (λ last. subst (IsLoneRow s pieces terminals low limit new) (sym last) here)
    (λ earlier. IsLoneRow-as s pieces terminals low number new limit p
    (λ v. others (single p) v (pow_pos p) (λ same. earlier (single_same p place same)))
    (before p from (omega (arith, inside, earlier))))
    (cases_eq p place)
