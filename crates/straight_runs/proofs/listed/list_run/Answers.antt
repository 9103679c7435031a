use Rattle.std.proofs.Common.{◌≡◌, ◌∙◌, ◌+◌, ◌*◌, ◌++◌, ◌∷◌, [], ap, append_assoc, sym, arith}
use Rattle.std.specs.List.{range_with_len}
use Rattle.std.proofs.Common.{map}
use Rattle.std.proofs.lemmas.List.FromFn.{map-range_with_len_more}
use Rattle.straight_runs.specs.Lines.{piece_towards}
use Rattle.straight_runs.specs.Runs.{run_piece}
use Rattle.straight_runs.proofs.Lines.{vertex_on_run}
use Rattle.straight_runs.proofs.listed.list_run.Goals as goal

pub overflow_mul-start : goal.overflow_mul-start
overflow_mul-start c =
    omega (arith, vertex_on_run c.args.size c.args.run c.loop-i.i c.requires (omega (arith, c.loop-i-test.true)), ap (λ n. c.loop-i.i * n) c.rise-rise.ensures.value, c.args.size.within.vertex_limit)

pub overflow_add-start : goal.overflow_add-start
overflow_add-start c =
    omega (arith, vertex_on_run c.args.size c.args.run c.loop-i.i c.requires (omega (arith, c.loop-i-test.true)), ap (λ n. c.loop-i.i * n) c.rise-rise.ensures.value, c.args.size.within.vertex_limit)

pub piece_from-requires : goal.piece_from-requires
piece_from-requires c =
    omega (arith, vertex_on_run c.args.size c.args.run c.loop-i.i c.requires (omega (arith, c.loop-i-test.true)), ap (λ n. c.loop-i.i * n) c.rise-rise.ensures.value, c.args.size.within.vertex_limit)

pub loop-i-preserved : goal.loop-i-preserved
loop-i-preserved c =
    let f = run_piece c.args.size c.args.run in
    let i = c.loop-i.i in
    let old = c.args.pieces.now.items in
    let piece : c.piece_from.result ≡ f i = c.piece_from.ensures ∙ ap (λ n. piece_towards c.args.run.direction (c.args.run.first.0 + i * n)) c.rise-rise.ensures.value in
    let more = map-range_with_len_more f 0 i i (omega arith) in
    c.in_ok-push.ensures.items ∙ ap (λ p. c.loop-i.pieces.items ++ p ∷ []) piece ∙ ap (λ ps. ps ++ f i ∷ []) c.loop-i.invariant
    ∙ append_assoc old (map f (range_with_len 0 i)) (f i ∷ []) ∙ ap (λ ps. old ++ ps) (sym more)
