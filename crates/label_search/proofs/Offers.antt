-- What a search knows after a vertex was offered a number.
use Rattle.std.proofs.Common.{◌≡◌, ◌≢◌, ℕ, ◌+◌, ◌<◌, ◌≤◌, ◌⊎◌, List, [], ◌∷◌, refl, sym, ap, subst, inl, inr, ⊎_elim, arith}
use Rattle.std.proofs.lemmas.Bool.{cases_eq}
use Rattle.grid_base.specs.declared.piece.Piece.{Piece}
use Rattle.grid_base.specs.declared.size.Size.{Size}
use Rattle.grid_base.specs.Numbers.{Connects}
use Rattle.grid_graph.specs.Weighed.{Weighs}
use Rattle.label_search.specs.declared.row.Row.{Row}
use Rattle.label_search.specs.Founds.{FindsMore}
use Rattle.label_search.specs.Rows.{number_in, IsWaiting, total}
use Rattle.label_search.specs.Runs.{IsSearch, TakesOffer, Advances}
use Rattle.label_search.specs.Stamped.{far}

-- one vertex got a lower number, and waits with it
pub record IsLowered (old new : Row) (to number key : ℕ) : Type 0 where
  pub found : FindsMore old.found new.found
  pub less : number < number_in old to
  pub there : number_in new to ≡ number
  pub others : (v : ℕ) → v ≢ to → number_in new v ≡ number_in old v
  pub total : total new + number_in old to ≡ total old + number
  pub count : new.heap.len ≤ old.heap.len + 1
  pub placed : IsWaiting new to key
  pub kept : (u k : ℕ) → u ≢ to → IsWaiting old u k → IsWaiting new u k
  pub only : (u k : ℕ) → IsWaiting new u k → ((u ≡ to) × (k ≡ key)) ⊎ ((u ≢ to) × IsWaiting old u k)

pub lowered : (old new : Row) (to number key : ℕ) → FindsMore old.found new.found → number < number_in old to
    → number_in new to ≡ number → ((v : ℕ) → v ≢ to → number_in new v ≡ number_in old v)
    → total new + number_in old to ≡ total old + number → new.heap.len ≤ old.heap.len + 1 → IsWaiting new to key
    → ((u k : ℕ) → u ≢ to → IsWaiting old u k → IsWaiting new u k)
    → ((u k : ℕ) → IsWaiting new u k → ((u ≡ to) × (k ≡ key)) ⊎ ((u ≢ to) × IsWaiting old u k)) → IsLowered old new to number key
lowered old new to number key a b c d e f g h i = record {
  found = a;
  less = b;
  there = c;
  others = d;
  total = e;
  count = f;
  placed = g;
  kept = h;
  only = i;
}

pub lowered_falls : (old new : Row) (to number key : ℕ) → IsLowered old new to number key → (v : ℕ)
    → number_in new v ≤ number_in old v
lowered_falls old new to number key is v = ⊎_elim
    (λ here. omega (arith, is.less, is.there, ap (number_in old) here, ap (number_in new) here))
    (λ other. omega (arith, is.others v other))
    (cases_eq v to)

pub lowered_search : (old new : Row) (rest : ℕ → ℕ) (limit to number key : ℕ) → IsSearch rest limit old
    → IsLowered old new to number key → number_in old to ≤ far → key ≡ number + rest to → key ≤ limit → IsSearch rest limit new
lowered_search old new rest limit to number key before is small is_key within = record {
  keys = λ v k waits. ⊎_elim
      (λ here. omega (arith, here.1, is_key, is.there, ap (number_in new) here.0, ap rest here.0))
      (λ other. omega (arith, before.keys v k other.1, is.others v other.0))
      (is.only v k waits);
  numbered = λ v k waits. ⊎_elim
      (λ here. omega (arith, is.less, small, is.there, ap (number_in new) here.0))
      (λ other. omega (arith, before.numbered v k other.1, is.others v other.0))
      (is.only v k waits);
  within = λ v numbered. ⊎_elim
      (λ here. omega (arith, is.there, is_key, within, ap (number_in new) here, ap rest here))
      (λ other. omega (arith, before.within v (omega (arith, numbered, is.others v other)), is.others v other))
      (cases_eq v to);
}

pub lowered_taken : (old new : Row) (to number key : ℕ) → IsLowered old new to number key → TakesOffer old new to number
lowered_taken old new to number key is = record {
  found = is.found;
  falls = lowered_falls old new to number key is;
  changed = λ v. ⊎_elim
      (λ here. inr (
        here,
        omega (arith, is.there, ap (number_in new) here),
        (key, subst (λ u. IsWaiting new u key) (sym here) is.placed),
      ))
      (λ other. inl (is.others v other))
      (cases_eq v to);
  kept = λ v waits. ⊎_elim
      (λ here. (key, subst (λ u. IsWaiting new u key) (sym here) is.placed))
      (λ other. (waits.0, is.kept v waits.0 other waits.1))
      (cases_eq v to);
  less = omega (arith, is.total, is.less, is.count);
}

-- an offer by a piece from a vertex that has a number
pub offered_goes_on : (s : Size) (pieces : List (Piece × ℕ)) (old new : Row) (from to reached k : ℕ) (p : Piece)
    → TakesOffer old new to (reached + k) → number_in old from ≡ reached → reached < far → Weighs pieces p k
    → Connects s p from to →
    Advances s pieces old new
offered_goes_on s pieces old new from to reached k p is at numbered weighs connects = record {
  fell = record {
    found = is.found;
    falls = is.falls;
    from = λ v has. ⊎_elim
        (λ same. record {
          before = v;
          path = [];
          length = 0;
          is_path = (refl, refl);
          numbered = omega (arith, same, has);
          light = omega (arith, same);
        })
        (λ taken. record {
          before = from;
          path = p ∷ [];
          length = k;
          is_path = (
            v,
            k,
            0,
            record { connects = subst (Connects s p from) (sym taken.0) connects; weighs = weighs },
            (refl, refl),
            omega arith,
          );
          numbered = omega (arith, at, numbered);
          light = omega (arith, at, taken.1);
        })
        (is.changed v);
    behind = λ v has. ⊎_elim
        (λ same. inl same)
        (λ taken. inr (record {
          before = from;
          piece = p;
          by = k;
          connects = subst (Connects s p from) (sym taken.0) connects;
          weighs = weighs;
          less = omega (arith, is.falls from, at, taken.1);
        }))
        (is.changed v);
  };
  changed = λ v. ⊎_elim (λ same. inl same) (λ taken. inr taken.2) (is.changed v);
  kept = is.kept;
  less = is.less;
}

-- the vertex that offers keeps its number
pub offered_from : (old new : Row) (from to reached k : ℕ) → TakesOffer old new to (reached + k) → number_in old from ≡ reached
    → number_in new from ≡ reached
offered_from old new from to reached k is at = ⊎_elim
    (λ same. omega (arith, same, at))
    (λ taken. omega (arith, taken.1, is.falls from, at))
    (is.changed from)
