use Rattle.std.proofs.Common.{length, refl, sym, ◌∙◌, ap}
use Rattle.ripup_repair.proofs.Common.{load_list, load_list-long, routing_overflow}
use Rattle.ripup_repair.proofs.RoundRuns.{is_repaired, is_result, whole_load, whole_words}
use Rattle.ripup_repair.proofs.repairing.repair.Goals as goal

pub overflow_of-rounded-requires-clause-long : goal.overflow_of-rounded-requires-clause-long
overflow_of-rounded-requires-clause-long g c =
    let d = c.args.design.now in
    ap length (c.deref.ensures.value ∙ c.requires.whole.loads) ∙ load_list-long d.grid d.nets c.args.chosen.trees

pub repair_rounds-requires-clause-words : goal.repair_rounds-requires-clause-words
repair_rounds-requires-clause-words g c κs within = whole_words c.requires.whole c.allotment.ensures.share

pub repair_rounds-requires-clause-share : goal.repair_rounds-requires-clause-share
repair_rounds-requires-clause-share g c κs within = rw c.into_list.ensures (whole_load c.requires.whole)

pub repair_rounds-requires-clause-overflow : goal.repair_rounds-requires-clause-overflow
repair_rounds-requires-clause-overflow g c κs within =
    c.overflow_of-rounded.ensures c.args.chosen.trees (c.deref.ensures.value ∙ c.requires.whole.loads)
    ∙ ap (routing_overflow c.args.design.now) (sym c.into_list.ensures)

pub returns : goal.returns
returns g c =
    let d = c.args.design.now in
    let whole = c.requires.whole in
    let workers = rw c.size.ensures at c.workers_in_use-workers.ensures.value in
    let done = rw workers at c.in_ok-done.ensures.done in
    let is = c.overflow_of-rounded.ensures c.args.chosen.trees (c.deref.ensures.value ∙ whole.loads) in
    let from = c.into_list.ensures in
    let result = is_result done (rw from is) (rw from whole.loads) (rw from whole.routing) in
    record {
      repaired = is_repaired _ done from result.0 c.allotment-2.ensures.share (whole_words whole c.allotment.ensures.share)
          refl refl refl c.of.ensures;
      routing = rw c.of.ensures result.2;
      rounded = is;
      loads = result.1 ∙ ap (load_list d.grid d.nets) (sym c.of.ensures);
      table = done.table;
      prices = refl;
    }
