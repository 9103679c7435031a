use Rattle.std.proofs.Common.{◌≡◌, ◌+◌, get_or, sym, ◌∙◌, ap, subst, slice_set, arith}
use Rattle.std.proofs.lemmas.Option.{get_or_from_slice_get}
use Rattle.std.proofs.lemmas.List.Elements.{All-get_or}
use Rattle.grid_base.specs.declared.size.Size.{Size}
use Rattle.grid_base.specs.declared.spot.Spot.{Spot}
use Rattle.grid_base.specs.declared.vertex.Vertex.{Vertex}
use Rattle.grid_base.specs.Lists.{At}
use Rattle.grid_base.specs.Numbers.{IsVertex}
use Rattle.grid_base.specs.Spots.{IsSpot, spot_at}
use Rattle.grid_base.proofs.Spots.{spot_at-is}
use Rattle.shortest_paths.specs.LabelWords.{labels_size}
use Rattle.terminal_balls.specs.Balls.{widest}
use Rattle.terminal_balls.proofs.Lowering.{put_below, lowered_kept, begun_more}
use Rattle.terminal_balls.proofs.terminal_balls.TerminalBalls.begin_ball.Goals as goal
use Rattle.terminal_balls.proofs.terminal_balls.TerminalBalls.begin_ball.Goals.{After-of-at}

is_spot : (c : After-of-at) → IsSpot (labels_size c.args.self.now.labels) c.of-at.result
is_spot c =
    let s = labels_size c.args.self.now.labels in
    let terminals = c.args.terminals.now in
    let v : Vertex = get_or terminals c.args.place (record { 0 = 0 }) in
    let vertex : IsVertex s v.0 = All-get_or (λ (w : Vertex). IsVertex s w.0) terminals c.args.place (record { 0 = 0 }) c.requires.terminal c.requires.vertices in
    subst (λ (x : Spot). IsSpot s x) (sym (c.of-at.ensures ∙ ap (λ (x : Size). spot_at x v.0) c.size.ensures)) (spot_at-is s v.0 vertex)

is_at : (c : After-of-at) → (v : Vertex) → At c.args.terminals.now c.args.place v → v.0 ≡ c.of-at.result.vertex.0
is_at c v at =
    let found : get_or c.args.terminals.now c.args.place (record { 0 = 0 }) ≡ v = get_or_from_slice_get c.args.terminals.now c.args.place v (record { 0 = 0 }) at in
    sym (ap (λ (x : Spot). x.vertex.0) c.of-at.ensures ∙ ap (λ (w : Vertex). w.0) found)

pub lower-requires-clause-spot : goal.lower-requires-clause-spot
lower-requires-clause-spot c = is_spot (goal.at.lower-requires-clause-spot c).After-of-at

pub returns-then-number-gt0-clause-kept : goal.returns-then-number-gt0-clause-kept
returns-then-number-gt0-clause-kept c =
    let old = c.args.self.now in
    let radii = slice_set old.radii c.args.place 72057594037927936 in
    lowered_kept old c.lower.new.self radii c.of-at.result.vertex.0 c.args.place 0 c.requires.kept
    (λ place. (let low = put_below old.radii c.args.place 72057594037927936 (widest + 1) place (omega arith) (omega (arith, c.requires.kept.small place)) in omega (arith, low)))
    c.requires.few c.lower.ensures

pub returns-then-number-gt0-clause-begun : goal.returns-then-number-gt0-clause-begun
returns-then-number-gt0-clause-begun c =
    let at = (goal.at.returns-then-number-gt0-clause-begun c).After-of-at in
    begun_more c.args.terminals.now c.args.place c.of-at.result.vertex.0 72057594037927936 c.args.self.now c.lower.new.self
    c.requires.begun (is_at at) (omega (arith, c.if-number-gt0.true, c.number.ensures.number))
    (omega (arith, (is_spot at).vertex, c.requires.kept.owners)) c.lower.ensures
