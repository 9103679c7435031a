-- The next terminal among the first ones.
use Rattle.std.proofs.Common.{◌≡◌, ℕ, ◌+◌, ◌<◌, ◌≤◌, List, length, sym, ◌∙◌, ap, subst, ⊎_elim, arith}
use Rattle.std.proofs.lemmas.Bool.{cases_eq}
use Rattle.std.proofs.lemmas.Option.{same_Some, slice_get_within}
use Rattle.grid_base.specs.declared.size.Size.{Size}
use Rattle.grid_base.specs.declared.vertex.Vertex.{Vertex}
use Rattle.grid_base.specs.Lists.{At}
use Rattle.lower_bound.specs.Spread.{nearest, IsNext}

-- the next one among the first n, by its reach
pub record IsFarthest (s : Size) (terminals chosen : List Vertex) (n reach : ℕ) (t : Vertex) : Type 0 where
  pub place : ℕ
  pub stands : At terminals place t
  pub reaches : reach ≡ nearest s chosen t.0
  pub greatest : (i : ℕ) (u : Vertex) → i < n → At terminals i u → nearest s chosen u.0 ≤ reach
  pub earliest : (i : ℕ) (u : Vertex) → i < place → At terminals i u → nearest s chosen u.0 < reach

pub farthest_first : (s : Size) (terminals chosen : List Vertex) (reach : ℕ) (t : Vertex) → At terminals 0 t → reach ≡ nearest s chosen t.0 → IsFarthest s terminals chosen 1 reach t
farthest_first s terminals chosen reach t at is = record {
  place = 0;
  stands = at;
  reaches = is;
  greatest = λ i u low at_u.
      let first : i ≡ 0 = omega (arith, low) in
      let same : u ≡ t = same_Some u t (sym (subst (λ j. At terminals j u) first at_u) ∙ at) in
      omega (arith, is, ap (λ (v : Vertex). nearest s chosen v.0) same);
  earliest = λ i u low at_u. absurd (omega (arith, low));
}

-- another one stays behind
pub farthest_stays : (s : Size) (terminals chosen : List Vertex) (n reach other : ℕ) (t w : Vertex) → IsFarthest s terminals chosen n reach t → At terminals n w → other ≡ nearest s chosen w.0 → other ≤ reach → IsFarthest s terminals chosen (n + 1) reach t
farthest_stays s terminals chosen n reach other t w is at its low = record {
  place = is.place;
  stands = is.stands;
  reaches = is.reaches;
  greatest = λ i u below at_u. ⊎_elim
      (λ here. let same : u ≡ w = same_Some u w (sym (subst (λ j. At terminals j u) here at_u) ∙ at) in omega (arith, its, low, ap (λ (v : Vertex). nearest s chosen v.0) same))
      (λ before. is.greatest i u (omega (arith, below, before)) at_u)
      (cases_eq i n);
  earliest = is.earliest;
}

-- or is farther than all before
pub farthest_changes : (s : Size) (terminals chosen : List Vertex) (n reach other : ℕ) (t w : Vertex) → IsFarthest s terminals chosen n reach t → At terminals n w → other ≡ nearest s chosen w.0 → reach < other → IsFarthest s terminals chosen (n + 1) other w
farthest_changes s terminals chosen n reach other t w is at its high = record {
  place = n;
  stands = at;
  reaches = its;
  greatest = λ i u below at_u. ⊎_elim
      (λ here. let same : u ≡ w = same_Some u w (sym (subst (λ j. At terminals j u) here at_u) ∙ at) in omega (arith, its, ap (λ (v : Vertex). nearest s chosen v.0) same))
      (λ before. omega (arith, high, is.greatest i u (omega (arith, below, before)) at_u))
      (cases_eq i n);
  earliest = λ i u below at_u. omega (arith, high, is.greatest i u below at_u);
}

pub farthest_all : (s : Size) (terminals chosen : List Vertex) (n reach : ℕ) (t : Vertex) → IsFarthest s terminals chosen n reach t → length terminals ≤ n → IsNext s terminals chosen t
farthest_all s terminals chosen n reach t is all = record {
  place = is.place;
  stands = is.stands;
  greatest = λ i u at. omega (arith, is.reaches, is.greatest i u (omega (arith, all, slice_get_within terminals i u at)) at);
  earliest = λ i u low at. omega (arith, is.reaches, is.earliest i u low at);
}
