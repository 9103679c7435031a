use Rattle.std.proofs.Common.{◌≡◌, ◌∙◌, ◌++◌, get_or, take, ap, sym, subst, List, Contains}
use Rattle.std.proofs.lemmas.List.{take_all, take_more}
use Rattle.grid_base.specs.declared.piece.Piece.{Piece}
use Rattle.straight_runs.specs.Runs.{pieces_of, run_pieces}
use Rattle.straight_runs.specs.Touching.{no_run}
use Rattle.straight_runs.proofs.Merges.{pieces_of-push}
use Rattle.straight_runs.proofs.listed.set_of_runs.Goals as goal

pub loop-run-preserved : goal.loop-run-preserved
loop-run-preserved c =
    let s = c.args.size in
    let runs = c.args.runs.now in
    let i = c.loop-run.run-index in
    let run = get_or runs i no_run in
    c.in_ok-list_run.ensures ∙ ap (λ ps. ps ++ run_pieces s run) c.loop-run.invariant
    ∙ sym (ap (pieces_of s) (take_more runs i no_run c.loop-run-test.true) ∙ pieces_of-push s (take i runs) run)

pub returns-clause-same : goal.returns-clause-same
returns-clause-same c p =
    let all : c.loop-run.pieces.items ≡ pieces_of c.args.size c.args.runs.now =
    c.loop-run.invariant ∙ ap (pieces_of c.args.size) (take_all c.loop-run.run-index c.args.runs.now c.loop-run-test.false) in (
      λ held. subst (λ (ps : List Piece). Contains ps p) all ((c.of.ensures.same p).0 held),
      λ held. (c.of.ensures.same p).1 (subst (λ (ps : List Piece). Contains ps p) (sym all) held),
    )
