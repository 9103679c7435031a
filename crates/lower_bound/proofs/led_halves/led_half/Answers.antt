use Rattle.std.proofs.Common.{◌/◌, false, get_or, unwrap_or, refl, ap, subst}
use Rattle.std.specs.Bool.{IsTrue}
use Rattle.std.proofs.lemmas.Option.{slice_get-get_or, get_or_from_slice_get}
use Rattle.grid_base.specs.declared.vertex.Vertex.{Vertex}
use Rattle.grid_base.specs.Numbers.{IsVertex}
use Rattle.lower_bound.specs.HalfWords.{HasTwin}
use Rattle.lower_bound.proofs.HalvesOf.{twin_least, least_to_other}
use Rattle.lower_bound.proofs.led_halves.led_half.Goals as goal

pub returns-then-has_twin-clause-half : goal.returns-then-has_twin-clause-half
returns-then-has_twin-clause-half g c =
    let s = g.W.Weights.size c.args.weights.now in
    let pieces = g.W.Weights.pieces c.args.weights.now in
    let terminals = c.args.terminals.now in
    let place = c.args.place in
    let twin : HasTwin terminals place = c.has_twin.ensures.0 c.if-has_twin.true in
    let vertex : IsVertex s twin.vertex.0 = subst (λ (v : Vertex). IsVertex s v.0)
    (get_or_from_slice_get terminals place twin.vertex twin.vertex twin.stands) (c.requires.vertices place twin.vertex c.requires.place) in
    (0, twin_least s pieces terminals place twin vertex, refl)

pub returns-clause-half : goal.returns-clause-half
returns-clause-half g c =
    let s = g.W.Weights.size c.args.weights.now in
    let pieces = g.W.Weights.pieces c.args.weights.now in
    let terminals = c.args.terminals.now in
    let place = c.args.place in
    let nowhere : Vertex = record { 0 = 0 } in
    let alone : ¬ HasTwin terminals place = λ twin. let yes : IsTrue false = subst IsTrue c.if-has_twin.false (c.has_twin.ensures.1 twin) in cc in
    let o = c.in_ok-least.least in
    let is = least_to_other s pieces terminals place (get_or terminals place nowhere) o (g.met.W.Weights.once c.args.weights.now)
    c.requires.joined c.requires.two
    (slice_get-get_or terminals place nowhere c.requires.place) alone c.in_ok-least.ensures.nearest in
    (unwrap_or o 0, is, ap (λ n. n / 2) c.unwrap_or.ensures)
