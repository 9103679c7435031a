use Rattle.std.proofs.Common.{◌≡◌, List, All, take, ◌∙◌, subst, arith}
use Rattle.std.proofs.lemmas.List.{take_all}
use Rattle.std.proofs.lemmas.List.Elements.{All-contains, All-more}
use Rattle.grid_base.specs.declared.piece.Piece.{Piece}
use Rattle.routing_state.specs.Overfull.{IsOverfull}
use Rattle.routing_state.proofs.overfull.holds_overfull.Goals as goal

pub loop-p-preserved : goal.loop-p-preserved
loop-p-preserved c =
    All-more (λ p. ¬ IsOverfull c.args.grid.now c.args.rooms.now p) c.pieces-p-items.result.now c.loop-p.p-index _ c.loop-p-test.true c.loop-p.invariant
    (λ over. let is = c.is_overfull.ensures.1 over in let no = c.if-is_overfull.false in cc)

pub returns : goal.returns
returns c =
    let ps = c.pieces-p-items.result.now in
    let whole : take c.loop-p.p-index ps ≡ c.args.tree.now = take_all c.loop-p.p-index ps (omega (arith, c.loop-p-test.false)) ∙ c.pieces-p-items.ensures.listed in
    let none = subst (λ (qs : List Piece). All (λ p. ¬ IsOverfull c.args.grid.now c.args.rooms.now p) qs) whole c.loop-p.invariant in
    (λ is. cc, λ some. absurd (All-contains (λ p. ¬ IsOverfull c.args.grid.now c.args.rooms.now p) c.args.tree.now some.0 none some.1 some.2))
