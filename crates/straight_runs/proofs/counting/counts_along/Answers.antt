use Rattle.std.proofs.Common.{◌≡◌, ◌∙◌, ◌+◌, ◌-◌, ◌<◌, Bool, true, false, cond, length, slice_index, refl, ap, arith}
use Rattle.std.proofs.lemmas.List.{get_or_default}
use Rattle.grid_base.specs.Numbers.{vertices}
use Rattle.grid_graph.specs.Grids.{size_of}
use Rattle.straight_runs.specs.Lines.{rise}
use Rattle.straight_runs.specs.LineCounts.{is_of_kind}
use Rattle.straight_runs.proofs.Counts.{counted, one_more}
use Rattle.straight_runs.proofs.counting.counts_along.Goals as goal
use mir.Val.{bool_byte}

byte_is : (b : Bool) → bool_byte b ≡ cond b 1 0
byte_is true = refl
byte_is false = refl

pub loop-v-preserved : goal.loop-v-preserved
loop-v-preserved c =
    let g = c.args.grid.now in
    let k = c.args.kind in
    let d = c.args.direction in
    let items = c.loop-v.counts.items in
    let before = c.loop-v.v - c.rise-rise.result in
    let by : c.rise-rise.result ≡ rise d (size_of g) = c.rise-rise.ensures.value ∙ ap (rise d) c.size-2.ensures in
    let is : c.loop-v.v ≡ before + rise d (size_of g) = omega (arith, by) in
    let all : c.vertices-vertices.result ≡ vertices (size_of g) = c.vertices-vertices.ensures ∙ ap vertices c.size.ensures in
    let within : c.loop-v.v < vertices (size_of g) = omega (arith, all) in
    let inside : before < length items = omega (arith, within, c.loop-v.invariant.long) in
    let read : c.index.result.now ≡ slice_index items before = c.index.ensures ∙ get_or_default items before c.index.result.now 0 inside in
    let one : c.from.result ≡ one_more g k d before =
    c.from.ensures ∙ byte_is c.is_of_kind.result ∙ ap (λ b. cond b 1 0) (c.is_of_kind.ensures ∙ ap (is_of_kind g k) c.piece_from-edge.ensures) in
    let more : c.index.result.now + c.from.result ≡ slice_index items before + one_more g k d before = omega (arith, read, one) in
    rw more (counted g k d before c.loop-v.v items is within c.loop-v.invariant)
