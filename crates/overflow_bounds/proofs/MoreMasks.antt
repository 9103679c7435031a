-- Tables of one mask more.
use Rattle.std.proofs.Common.{◌≡◌, ◌≢◌, ℕ, ◌+◌, ◌-◌, ◌<◌, ◌≤◌, List, [], length, set, get_or, sym, ◌∙◌, ap, subst, ⊎_elim, arith}
use Rattle.std.proofs.lemmas.Bool.{cases_eq}
use Rattle.std.proofs.lemmas.List.{get_or-set_other}
use Rattle.std.proofs.lemmas.Grind.{get_or-set_at}
use Rattle.std.proofs.lemmas.List.Elements.{All-contains}
use Rattle.std.proofs.lemmas.Nat.{pow_pos}
use Rattle.steiner_tables.specs.Masks.{AreParts, single}
use Rattle.steiner_tables.proofs.Masks.{parts_sum}
use Rattle.overflow_bounds.specs.declared.link.Link.{Link}
use Rattle.overflow_bounds.specs.Links.{AreEnds}
use Rattle.overflow_bounds.specs.NodeTables.{IsNodeTable}
use Rattle.overflow_bounds.specs.NodeRows.{AreBefore, IsNodeRow, RisesAlongLink, number_of_mask, numbers_of_mask}

-- a table of no masks
pub table_none : (nodes : ℕ) (links : List Link) (ends : List ℕ) (number : ℕ → ℕ → ℕ) → IsNodeTable nodes links ends 0 number
table_none nodes links ends number = record {
  own = λ place n at none. absurd (omega (arith, none, pow_pos place));
  steps = λ mask a b l some none listed joins. absurd (omega (arith, some, none));
  splits = λ one other mask n parts none low. absurd (omega (arith, none, parts_sum one other mask parts, parts.some));
}

-- a row that was put in the place of an old one
row_put : (rows : List (List ℕ)) (made : ℕ) (row : List ℕ) → made < length rows → numbers_of_mask (set rows made row) (made + 1) ≡ row
row_put rows made row low = get_or-set_at rows made (made + 1 - 1) row [] (omega arith) low

-- the other rows stay
row_kept : (rows : List (List ℕ)) (made m : ℕ) (row : List ℕ) → 0 < m → m ≢ made + 1
    → numbers_of_mask (set rows made row) m ≡ numbers_of_mask rows m
row_kept rows made m row some other = get_or-set_other rows made (m - 1) row [] (λ same. other (omega (arith, same, some)))

-- along a link in either direction
rises_either : (row : List ℕ) (l : Link) (a b : ℕ) → AreEnds l a b → RisesAlongLink row l → get_or row b 0 ≤ get_or row a 0 + l.cost
rises_either row l a b joins rises = ⊎_elim
    (λ ends. omega (arith, rises.forth, ap (λ n. get_or row n 0) ends.0, ap (λ n. get_or row n 0) ends.1))
    (λ ends. omega (arith, rises.back, ap (λ n. get_or row n 0) ends.0, ap (λ n. get_or row n 0) ends.1))
    joins

-- each row up to a mask's is long, if the mask's is
pub long_more : (nodes : ℕ) (rows : List (List ℕ)) (made : ℕ) (row : List ℕ) → made < length rows → length row ≡ nodes
    → AreBefore nodes (made + 1) rows → AreBefore nodes (made + 1 + 1) (set rows made row)
long_more nodes rows made row low long before m some within = ⊎_elim
    (λ last. ap (λ k. length (numbers_of_mask (set rows made row) k)) last ∙ ap length (row_put rows made row low) ∙ long)
    (λ other. ap length (row_kept rows made m row some other) ∙ before m some (omega (arith, within, other)))
    (cases_eq m (made + 1))

-- a table of some masks, and the row of the next one
pub table_more : (nodes : ℕ) (links : List Link) (ends : List ℕ) (rows : List (List ℕ)) (made : ℕ) (row : List ℕ)
    → made < length rows → IsNodeTable nodes links ends made (number_of_mask rows) → IsNodeRow nodes links ends rows (made + 1) row
    → IsNodeTable nodes links ends (made + 1) (number_of_mask (set rows made row))
table_more nodes links ends rows made row low table is = record {
  own = λ place n at within. ⊎_elim
      (λ last. ap (λ m. number_of_mask new m n) last ∙ here n ∙ is.own place n at last)
      (λ other. kept (single place) n (pow_pos place) other ∙ table.own place n at (omega (arith, within, other)))
      (cases_eq (single place) (made + 1));
  steps = λ mask a b l some within listed joins. ⊎_elim
      (λ last. subst (λ m. number_of_mask new m b ≤ number_of_mask new m a + l.cost) (sym last)
      (omega (arith, here a, here b, rises_either row l a b joins (All-contains (RisesAlongLink row) links l is.rises listed))))
      (λ other. omega (
        arith,
        kept mask a some other,
        kept mask b some other,
        table.steps mask a b l some (omega (arith, within, other)) listed joins,
      ))
      (cases_eq mask (made + 1));
  splits = λ one other mask n parts within inside.
      let sum = parts_sum one other mask parts in
      let first = kept one n parts.some (λ same. omega (arith, same, sum, within, parts.others)) in
      let second = kept other n parts.others (λ same. omega (arith, same, sum, within, parts.some)) in
      ⊎_elim
      (λ last. omega (
        arith,
        first,
        second,
        here n,
        ap (λ m. number_of_mask new m n) last,
        is.splits one other (subst (λ m. AreParts one other m) last parts) n (omega (arith, inside, is.long)),
      ))
      (λ before. omega (
        arith,
        first,
        second,
        kept mask n (omega (arith, sum, parts.some)) before,
        table.splits one other mask n parts (omega (arith, within, before)) inside,
      ))
      (cases_eq mask (made + 1));
}
  where
    new : List (List ℕ)
    new = set rows made row

    here : (n : ℕ) → number_of_mask new (made + 1) n ≡ get_or row n 0
    here n = ap (λ xs. get_or xs n 0) (row_put rows made row low)

    kept : (m n : ℕ) → 0 < m → m ≢ made + 1 → number_of_mask new m n ≡ number_of_mask rows m n
    kept m n some other = ap (λ xs. get_or xs n 0) (row_kept rows made m row some other)
