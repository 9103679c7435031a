use Rattle.std.proofs.Common.{◌≡◌, ◌+◌, ◌-◌, ◌<◌, length, get_or, true, false, sym, ◌∙◌, subst, arith}
use Rattle.std.proofs.lemmas.Bool.{true_from_ne_false}
use Rattle.std.proofs.lemmas.List.{get_or_default}
use Rattle.grid_base.specs.declared.piece.Piece.TheVariants.{Edge}
use Rattle.route_text.specs.Standing.{IsBelow, IsBehind}
use Rattle.route_text.proofs.Apart.{else_below, first_edge, none_at_front, none_between, not_shown, numbered_is}
use Rattle.route_text.proofs.nearby.+holds_before.Goals as goal

pub returns-then-at-eq0 : goal.returns-then-at-eq0
returns-then-at-eq0 t c = (
  λ (no : false ≡ true). absurd (cc no),
  λ held. absurd (none_at_front c.args.tree.now c.args.edge c.pieces-pieces.ensures.rising (λ other. subst (λ k. IsBehind c.args.edge.0 (get_or c.args.tree.now k other)) c.if-at-eq0.true (c.requires.behind other)) held),
)

pub returns : goal.returns
returns t c =
    let ps = c.args.tree.now in
    let e = c.args.edge in
    let k = c.args.at - 1 in
    let near = get_or ps k first_edge in
    let before : k + 1 ≡ c.args.at = omega (arith, c.if-at-eq0.false) in
    let within : k < length ps = omega (arith, c.requires.within, before) in
    let behind = rw c.pieces-pieces.ensures.listed at c.is_behind.ensures in
    let is = rw c.pieces-pieces.ensures.listed at c.is_edge.ensures in (
      λ yes. (k, within, get_or_default ps k (Edge e) first_edge within ∙ numbered_is e near (is.0 yes)),
      λ held. true_from_ne_false _ (λ off. none_between ps k e c.pieces-pieces.ensures.rising (omega (arith, c.requires.within, before))
          (λ other. subst (IsBelow e.0) (sym (get_or_default ps k other first_edge within)) (else_below e.0 near (not_shown c.is_behind.result c.if-is_behind.false behind.1) (not_shown c.is_edge.result off is.1)))
          (λ other. subst (λ i. IsBehind e.0 (get_or ps i other)) (sym before) (c.requires.behind other)) held),
    )
