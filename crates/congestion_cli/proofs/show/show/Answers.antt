use Rattle.std.proofs.Common.{true}
use Rattle.command_runs.specs.declared.refusal.Refusal.TheVariants.{NoMemory}
use Rattle.command_runs.proofs.LeftOutcomes.{leaves-text}
use Rattle.command_runs.proofs.ReadFiles.{sources-memory}
use Rattle.command_words.specs.MapLine.{map_task_of}
use Rattle.judge_cli.specs.AnswerLines.{reason_text}
use Rattle.congestion_cli.specs.declared.outcome.Outcome.TheVariants.{Drawn, NoLayer, Objected}
use Rattle.congestion_cli.specs.MapHeadline.{IsDrawableOutcome}
use Rattle.congestion_cli.specs.MapSources.{map_sources}
use Rattle.congestion_cli.specs.NoLayers.{no_layer_text}
use Rattle.congestion_cli.proofs.WholeMaps.{run-drawn, run-undrawn}
use Rattle.congestion_cli.proofs.show.show.Goals as goal

pub finish-requires : goal.finish-requires
finish-requires g c =
    let is : IsDrawableOutcome (Drawn c.in-Ok-Drawn.drawing c.in-Ok-Drawn.report) = rw c.in-Ok-Drawn.field-0-is at c.in-Ok-Drawn.ensures.drawable in
    is

pub returns-in-Ok-Drawn : goal.returns-in-Ok-Drawn
returns-in-Ok-Drawn g c =
    let told = g.D.Desk.told in
    let r = c.in-Ok.read in
    let read = c.in-Ok.ensures in
    run-drawn (map_task_of c.args.request.now) (told c.args.desk.now) (told c.read_map_input.new.desk) (told c.finish.new.desk)
    c.finish.result (Drawn c.in-Ok-Drawn.drawing c.in-Ok-Drawn.report)
    (record {
      design = r.routed.grounded.design;
      grounds = r.routed.grounded.grounds.items;
      blocks = r.routed.blocks;
      cert = r.cert;
      are_read = read.are_read;
      cert_read = read.cert;
      comes = rw c.in-Ok-Drawn.field-0-is at c.in-Ok-Drawn.ensures.outcome;
    })
    read.reads c.finish.ensures

pub returns-in-Ok-Objected : goal.returns-in-Ok-Objected
returns-in-Ok-Objected g c =
    let told = g.D.Desk.told in
    let b = told c.read_map_input.new.desk in
    let r = c.in-Ok.read in
    let read = c.in-Ok.ensures in
    let reason = c.in-Ok-Objected.reason in
    run-drawn (map_task_of c.args.request.now) (told c.args.desk.now) b (told c.say.new.desk) c.say.result (Objected reason)
    (record {
      design = r.routed.grounded.design;
      grounds = r.routed.grounded.grounds.items;
      blocks = r.routed.blocks;
      cert = r.cert;
      are_read = read.are_read;
      cert_read = read.cert;
      comes = rw c.in-Ok-Objected.field-0-is at c.in-Ok-Objected.ensures.outcome;
    })
    read.reads (leaves-text (reason_text reason) true b (told c.say.new.desk) c.say.result c.say.ensures)

pub returns-in-Ok-NoLayer : goal.returns-in-Ok-NoLayer
returns-in-Ok-NoLayer g c =
    let told = g.D.Desk.told in
    let b = told c.read_map_input.new.desk in
    let r = c.in-Ok.read in
    let read = c.in-Ok.ensures in
    let missing = c.in-Ok-NoLayer.missing in
    run-drawn (map_task_of c.args.request.now) (told c.args.desk.now) b (told c.say-in-Ok-NoLayer.new.desk) c.say-in-Ok-NoLayer.result (NoLayer missing)
    (record {
      design = r.routed.grounded.design;
      grounds = r.routed.grounded.grounds.items;
      blocks = r.routed.blocks;
      cert = r.cert;
      are_read = read.are_read;
      cert_read = read.cert;
      comes = rw c.in-Ok-NoLayer.field-0-is at c.in-Ok-NoLayer.ensures.outcome;
    })
    read.reads (leaves-text (no_layer_text missing) true b (told c.say-in-Ok-NoLayer.new.desk) c.say-in-Ok-NoLayer.result c.say-in-Ok-NoLayer.ensures)

pub returns-in-Err-outcome_of : goal.returns-in-Err-outcome_of
returns-in-Err-outcome_of g c =
    let told = g.D.Desk.told in
    let q = map_task_of c.args.request.now in
    run-undrawn q (told c.args.desk.now) (told c.read_map_input.new.desk)
    (told c.refuse.new.desk) c.refuse.result NoMemory (sources-memory {sources = map_sources q} c.in-Ok.ensures.reads) c.refuse.ensures.status
    c.refuse.ensures.says

pub returns-in-Err : goal.returns-in-Err
returns-in-Err g c =
    let told = g.D.Desk.told in
    run-undrawn (map_task_of c.args.request.now) (told c.args.desk.now) (told c.read_map_input.new.desk)
    (told c.refuse-in-Err.new.desk) c.refuse-in-Err.result c.in-Err.refusal c.in-Err.ensures.reads c.refuse-in-Err.ensures.status
    c.refuse-in-Err.ensures.says
