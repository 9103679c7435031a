use Rattle.std.proofs.Common.{ℕ, ◌≡◌, ◌++◌, ◌∙◌, List, Result, Ok, Err, [], ap, drop, fold, take, length, rules, arith}
use Rattle.std.specs.Prelude.{OnOk}
use Rattle.std.proofs.Math.ListN.{drop_of_length-le}
use Rattle.std.proofs.Math.Seq.{take-length}
use Rattle.std.proofs.lemmas.List.{append-nil}
use Rattle.tile_graphs.specs.declared.part.HotEdge.{HotEdge}
use Rattle.tile_graphs.specs.Links.{with_hot_edge, with_numbers}
use Rattle.tile_graphs.proofs.part.Part.make_links.Goals as goal

on_both : {T E : Type 0} (P Q R : Type 0) (r : Result T E) → (P → Q → R) → OnOk r P → OnOk r Q → OnOk r R
on_both P Q R (Ok x) both one other = both one other
on_both P Q R (Err e) both one other = tt

-- a whole list that was written back
whole : (xs ys : List HotEdge) (n : ℕ) → length xs ≡ length ys → n ≡ length ys → take n (xs ++ drop (length xs) ys) ≡ xs
whole xs ys n long all =
    let past : drop (length xs) ys ≡ [] = drop_of_length-le ys (omega arith) in
    let count : n ≡ length xs = omega arith in
    ap (λ zs. take n (xs ++ zs)) past ∙ ap (take n) (append-nil xs) ∙ ap (λ m. take m xs) count ∙ take-length xs

pub returns-clause-links : goal.returns-clause-links
returns-clause-links c =
    let items = c.sort_unstable.new.self.items in
    let value = c.as_mut_slice.ensures.value in
    let made = c.link_all.new.edges in
    let long : length made ≡ length items = c.link_all.auto.edges ∙ ap (λ (xs : List HotEdge). length xs) value in
    let count : c.sort_unstable.new.self.len ≡ length items = first_of (cc, search rules) in
    let totals = c.args.totals.now in
    let before = c.args.self.now.links.items in
    let lent = c.as_mut_slice.result.now in
    on_both (c.link_all.new.links.items ≡ fold (with_hot_edge totals) before lent) (made ≡ with_numbers totals before lent) _ c.link_all.result
    (λ links numbers. record {
      sorted = items;
      same = c.sort_unstable.ensures.permutation;
      rising = c.sort_unstable.ensures.sorted;
      made = links ∙ ap (λ (xs : List HotEdge). fold (with_hot_edge totals) before xs) value;
      numbers = whole made items c.sort_unstable.new.self.len long count ∙ numbers
          ∙ ap (λ (xs : List HotEdge). with_numbers totals before xs) value;
    })
    c.link_all.ensures.links c.link_all.ensures.numbers
