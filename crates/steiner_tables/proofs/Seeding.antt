-- What a row is after offers for its mask.
use Rattle.std.proofs.Common.{◌≡◌, ℕ, zero, suc, ◌+◌, ◌-◌, ◌*◌, ◌^◌, ◌%◌, ◌<◌, ◌≤◌, ◌⊎◌, List, refl, sym, ◌∙◌, ap, subst, inl, inr, ⊎_elim, arith}
use Rattle.std.proofs.lemmas.Bool.{cases_lt}
use Rattle.std.proofs.Math.Nat.{pow-succ'}
use Rattle.std.proofs.lemmas.Nat.{pow_pos}
use Rattle.std.proofs.lemmas.List.{get_or_past}
use Rattle.grid_base.specs.declared.piece.Piece.{Piece}
use Rattle.grid_base.specs.declared.size.Size.{Size}
use Rattle.grid_base.specs.declared.vertex.Vertex.{Vertex}
use Rattle.grid_base.specs.Numbers.{IsVertex}
use Rattle.steiner_tables.specs.declared.kept_rows.KeptRows.{KeptRows}
use Rattle.label_search.specs.declared.found.Found.{Found}
use Rattle.label_search.specs.declared.row.Row.{Row}
use Rattle.label_search.specs.Founds.{index_in, FindsMore}
use Rattle.steiner_tables.specs.Kept.{kept_in, kept_len}
use Rattle.steiner_tables.specs.Keeping.{numbers_of}
use Rattle.steiner_tables.specs.Masks.{single}
use Rattle.label_search.specs.Rows.{size_in, number_in, IsWaiting}
use Rattle.steiner_tables.specs.RowWork.{table_of, IsSum, IsSeeded, IsSumOffered}
use Rattle.label_search.specs.Runs.{IsSettled, IsSearch, IsAnswered, TakesOffer}
use Rattle.label_search.specs.Stamped.{far}
use Rattle.steiner_tables.specs.Tables.{IsAlone}
use Rattle.label_search.proofs.Relaxing.{still_answered}

-- a kept row has no number beyond its length
kept_past : (rows : KeptRows) (mask i : ℕ) → kept_len rows mask ≤ i → kept_in rows mask i ≡ far
kept_past rows mask i past = get_or_past (numbers_of rows.rows.items (mask - 1)) i far past

pub kept_cases : (rows : KeptRows) (mask i : ℕ) → kept_in rows mask i < far → i < kept_len rows mask
kept_cases rows mask i has = ⊎_elim (λ inside. inside) (λ past. absurd (omega (arith, has, kept_past rows mask i past))) (cases_lt i (kept_len rows mask))

-- kept numbers stay where more vertices are found
pub kept_same : (rows : KeptRows) (f g : Found) (mask v : ℕ) → FindsMore f g → kept_len rows mask ≤ f.len → kept_in rows mask (index_in g v) ≡ kept_in rows mask (index_in f v)
kept_same rows f g mask v more few = ⊎_elim
    (λ found. ap (kept_in rows mask) (more.kept v found))
    (λ past. kept_past rows mask (index_in g v) (omega (arith, few, more.others v past)) ∙ sym (kept_past rows mask (index_in f v) (omega (arith, few, past))))
    (cases_lt (index_in f v) f.len)

-- the same sum by labels that are the same
pub sum_as : (label other : ℕ → ℕ → ℕ) (mask v number : ℕ) → ((m u : ℕ) → other m u ≡ label m u) → IsSum label mask v number → IsSum other mask v number
sum_as label other mask v number same is = record {
  one = is.one;
  other = is.other;
  parts = is.parts;
  has_one = omega (arith, same is.one v, is.has_one);
  has_other = omega (arith, same is.other v, is.has_other);
  less = omega (arith, same is.one v, same is.other v, is.less);
}

-- a row stays seeded where a vertex is offered a number for a reason
pub seeded_offer : (rows : KeptRows) (terminals : List Vertex) (mask : ℕ) (rest : ℕ → ℕ) (limit : ℕ) (old new : Row) (to offered : ℕ) → TakesOffer old new to offered → IsSearch rest limit new → IsVertex (size_in old) to →
    IsAlone terminals mask to ⊎ IsSum (table_of rows old) mask to offered → IsSeeded rows terminals mask rest limit old → IsSeeded rows terminals mask rest limit new
seeded_offer rows terminals mask rest limit old new to offered taken search vertex reason is =
    let same : (m v : ℕ) → table_of rows new m v ≡ table_of rows old m v = λ m v. kept_same rows old.found new.found m v taken.found (is.kept m) in
    record {
      search = search;
      kept = λ m. omega (arith, is.kept m, taken.found.more);
      waits = λ v has. ⊎_elim
          (λ still. taken.kept v (is.waits v (omega (arith, still, has))))
          (λ new. new.2)
          (taken.changed v);
      vertices = λ v has. subst (λ (x : Size). IsVertex x v) (sym taken.found.size) (⊎_elim
          (λ still. is.vertices v (omega (arith, still, has)))
          (λ new. subst (IsVertex (size_in old)) (sym new.0) vertex)
          (taken.changed v));
      reasons = λ v has. ⊎_elim
          (λ still. ⊎_elim
          (λ alone. inl alone)
          (λ sum. inr (sum_as (table_of rows old) (table_of rows new) mask v (number_in new v) same (subst (IsSum (table_of rows old) mask v) (sym still) sum)))
          (is.reasons v (omega (arith, still, has))))
          (λ here. ⊎_elim
          (λ alone. inl (subst (IsAlone terminals mask) (sym here.0) alone))
          (λ sum. inr (sum_as (table_of rows old) (table_of rows new) mask v (number_in new v) same
          (subst (IsSum (table_of rows old) mask v) (sym here.1) (subst (λ u. IsSum (table_of rows old) mask u offered) (sym here.0) sum))))
          reason)
          (taken.changed v);
    }

-- a sum stays offered where numbers fall and more is found
pub sum_offered_on : (rows : KeptRows) (old new : Row) (one other : ℕ) (rest : ℕ → ℕ) (limit v : ℕ) → FindsMore old.found new.found → ((m : ℕ) → kept_len rows m ≤ old.found.len) → ((u : ℕ) → number_in new u ≤ number_in old u) →
    IsSumOffered (table_of rows old) one other rest limit (number_in old) v → IsSumOffered (table_of rows new) one other rest limit (number_in new) v
sum_offered_on rows old new one other rest limit v found kept falls is has_one has_other =
    let first = kept_same rows old.found new.found one v found (kept one) in
    let second = kept_same rows old.found new.found other v found (kept other) in
    let sum : table_of rows old one v + table_of rows old other v ≡ table_of rows new one v + table_of rows new other v = omega (arith, first, second) in
    still_answered (number_in old) (number_in new) rest limit v (table_of rows new one v + table_of rows new other v) falls
    (subst (IsAnswered (number_in old) rest limit v) sum (is (omega (arith, first, has_one)) (omega (arith, second, has_other))))

-- nothing has a number yet
pub seeded_none : (rows : KeptRows) (terminals : List Vertex) (mask : ℕ) (rest : ℕ → ℕ) (limit : ℕ) (r : Row) → ((m : ℕ) → kept_len rows m ≤ r.found.len) → ((v : ℕ) → number_in r v ≡ far) → ((v key : ℕ) → ¬ IsWaiting r v key) → IsSeeded rows terminals mask rest limit r
seeded_none rows terminals mask rest limit r kept none idle = record {
  search = record { keys = λ v key waits. absurd (idle v key waits); numbered = λ v key waits. absurd (idle v key waits); within = λ v has. absurd (omega (arith, has, none v)) };
  kept = kept;
  waits = λ v has. absurd (omega (arith, has, none v));
  vertices = λ v has. absurd (omega (arith, has, none v));
  reasons = λ v has. absurd (omega (arith, has, none v));
}

-- what has a number waits, so all that doesn't is relaxed
pub seeded_settled : (s : Size) (pieces : List (Piece × ℕ)) (rows : KeptRows) (terminals : List Vertex) (mask : ℕ) (rest : ℕ → ℕ) (limit : ℕ) (r : Row) → IsSeeded rows terminals mask rest limit r → IsSettled s pieces rest limit r
seeded_settled s pieces rows terminals mask rest limit r is v still p k u weighs connects = ⊎_elim
    (λ has. absurd (still (is.waits v has)))
    (λ none. inl (omega (arith, none, r.parts.limits (index_in r.found u))))
    (cases_lt (number_in r v) far)

-- the mask of one of five terminals, and that of all of them and one more
pub single_of : (place : ℕ) → place ≤ 5 → 1 * 2 ^ place % 4294967296 ≡ single place
single_of zero few = refl
single_of (suc zero) few = refl
single_of (suc (suc zero)) few = refl
single_of (suc (suc (suc zero))) few = refl
single_of (suc (suc (suc (suc zero)))) few = refl
single_of (suc (suc (suc (suc (suc zero))))) few = refl
single_of (suc (suc (suc (suc (suc (suc place)))))) few = absurd (omega (arith, few))

-- the mask of all but the root is below that of all
pub root_below : (n : ℕ) → 1 ≤ n → 2 ^ (n - 1) - 1 < 2 ^ n - 1
root_below zero some = absurd (omega (arith, some))
root_below (suc n) some =
    let back : suc n - 1 ≡ n = omega arith in
    omega (arith, ap (λ m. 2 ^ m) back, pow-succ' 2 n, pow_pos n)
