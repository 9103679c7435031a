use Rattle.std.proofs.Common.{ℕ, ◌≡◌, ◌<◌, ◌+◌, ◌++◌, ◌∷◌, ◌∙◌, [], List, suc, ap, sym, drop, take, get_or, length, slice_set, append_assoc, rules, arith}
use Rattle.std.proofs.Math.Seq.{drop-cons}
use Rattle.std.proofs.lemmas.Grind.{common_steps}
use Rattle.std.proofs.lemmas.List.{take_more_set}
use Rattle.tile_graphs.specs.declared.part.HotEdge.{HotEdge}
use Rattle.tile_graphs.specs.declared.part.Link.{Link}
use Rattle.tile_graphs.specs.declared.tile_use.TileTotal.{TileTotal}
use Rattle.tile_graphs.specs.Links.{last_number, with_hot_edge, with_numbers}
use Rattle.tile_graphs.proofs.part.link_all.Goals as goal

number_step : (totals : List TileTotal) (links after : List Link) (edges initial whole : List HotEdge) (i : ℕ) (d : HotEdge) (n : ℕ) → i < length edges
    → i < length initial → drop i edges ≡ drop i initial → after ≡ with_hot_edge totals links (get_or edges i d) → n ≡ last_number after
    → take i edges ++ with_numbers totals links (drop i initial) ≡ whole
    → take (i + 1) (slice_set edges i (record (get_or edges i d) { link = n })) ++ with_numbers totals after (drop (i + 1) initial) ≡ whole
number_step totals links after edges initial whole i d n within inside left is number before =
    let edge = get_or edges i d in
    let next : i + 1 ≡ suc i = omega arith in
    let rest = drop (suc i) initial in
    let pair : get_or initial i d ∷ rest ≡ edge ∷ drop (suc i) edges = sym (drop-cons initial i d inside) ∙ sym left ∙ drop-cons edges i d within in
    let first : get_or initial i d ≡ edge = ap (λ xs. get_or xs 0 d) pair in
    let split : drop i initial ≡ edge ∷ rest = drop-cons initial i d inside ∙ ap (λ e. e ∷ rest) first in
    let made : record edge { link = n } ∷ with_numbers totals after rest ≡ with_numbers totals links (edge ∷ rest) =
    ap (λ m. record edge { link = m } ∷ with_numbers totals after rest) number
    ∙ ap (λ a. record edge { link = last_number a } ∷ with_numbers totals a rest) is in
    ap (λ xs. xs ++ with_numbers totals after (drop (i + 1) initial)) (take_more_set edges i (record edge { link = n }) within)
    ∙ append_assoc (take i edges) (record edge { link = n } ∷ []) (with_numbers totals after (drop (i + 1) initial))
    ∙ ap (λ m. take i edges ++ record edge { link = n } ∷ with_numbers totals after (drop m initial)) next
    ∙ ap (λ xs. take i edges ++ xs) (made ∙ ap (with_numbers totals links) (sym split)) ∙ before

pub loop-edge-preserved : goal.loop-edge-preserved
loop-edge-preserved c =
    let totals = c.args.totals.now in
    let i = c.loop-edge.edge-index in
    let none : HotEdge = record { one = 0; other = 0; tile_edge = 0; link = 0 } in
    record {
      left = first_of (search rules, grind (arith, common_steps));
      links = first_of (search rules, grind (arith, common_steps));
      numbers =
          let within : i < length c.loop-edge.edges = omega (arith, c.loop-edge.auto.edges) in
          let step : c.add_to_links.new.links.items ≡ with_hot_edge totals c.loop-edge.links.items (get_or c.loop-edge.edges i none) = first_of (search rules, cc) in
          let number : c.unwrap_or-edge.result ≡ last_number c.add_to_links.new.links.items = first_of (search rules, grind (arith, common_steps)) in
          number_step totals c.loop-edge.links.items c.add_to_links.new.links.items c.loop-edge.edges c.args.edges.now _ i none c.unwrap_or-edge.result
          within c.loop-edge-test.true c.loop-edge.invariant.left step number c.loop-edge.invariant.numbers;
    }
