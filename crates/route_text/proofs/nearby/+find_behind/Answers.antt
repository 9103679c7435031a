use Rattle.std.proofs.Common.{◌+◌, ◌<◌, List, length, get_or, sym, ◌∙◌, ap, subst, arith}
use Rattle.std.proofs.lemmas.List.{get_or_default}
use Rattle.grid_base.specs.declared.piece.Piece.{Piece}
use Rattle.grid_base.specs.declared.piece.Piece.TheVariants.{Edge}
use Rattle.route_text.specs.Standing.{IsBehind}
use Rattle.route_text.proofs.Apart.{else_behind, first_edge, none_at_end, none_between, not_shown, numbered_is}
use Rattle.route_text.proofs.nearby.+find_behind.Goals as goal

pub returns-then-at-pieces-clause-missing : goal.returns-then-at-pieces-clause-missing
returns-then-at-pieces-clause-missing t c =
    none_at_end c.args.tree.now c.args.at c.args.edge c.pieces-pieces.ensures.rising (omega (arith, c.if-at-pieces.true, ap (λ (ps : List Piece). length ps) c.pieces-pieces.ensures.listed)) c.requires.below

pub returns-then-is_edge-clause-held : goal.returns-then-is_edge-clause-held
returns-then-is_edge-clause-held t c =
    let ps = c.args.tree.now in
    let e = c.args.edge in
    let k = c.args.at + 1 in
    let within : k < length ps = omega (arith, c.requires.within, c.if-at-pieces.false, ap (λ (qs : List Piece). length qs) c.pieces-pieces.ensures.listed) in
    let is = rw c.pieces-pieces.ensures.listed at c.is_edge.ensures in
    (k, within, get_or_default ps k (Edge e) first_edge within ∙ numbered_is e (get_or ps k first_edge) (is.0 c.if-is_edge.true))

pub returns-clause-missing : goal.returns-clause-missing
returns-clause-missing t c =
    let ps = c.args.tree.now in
    let e = c.args.edge in
    let k = c.args.at + 1 in
    let near = get_or ps k first_edge in
    let within : k < length ps = omega (arith, c.requires.within, c.if-at-pieces.false, ap (λ (qs : List Piece). length qs) c.pieces-pieces.ensures.listed) in
    let below = rw c.pieces-pieces.ensures.listed at c.is_below.ensures in
    let is = rw c.pieces-pieces.ensures.listed at c.is_edge.ensures in
    none_between ps c.args.at e c.pieces-pieces.ensures.rising within c.requires.below
    (λ other. subst (IsBehind e.0) (sym (get_or_default ps k other first_edge within))
    (else_behind e.0 near (not_shown c.is_below.result c.if-is_below.false below.1) (not_shown c.is_edge.result c.if-is_edge.false is.1)))
