use Rattle.std.proofs.Common.{refl, sym, ◌∙◌}
use Rattle.std.proofs.lemmas.Result.{err_from_is_err_and}
use Rattle.std.specs.BTreeSet.{contains}
use Rattle.std.specs.Ordering.{nat_cmp}
use Rattle.grid_graph.specs.Grids.{layout_of}
use Rattle.ispd_reader.specs.declared.net_stage.NetStage.TheVariants as stages
use Rattle.ispd_reader.specs.declared.nets_reader.NetsReader.{NetsReader}
use Rattle.ispd_reader.specs.Nets.{id_at}
use Rattle.ispd_reader.specs.NetsLeft.{nets_left_at_id}
use Rattle.ispd_reader.specs.Views.{header_of}
use Rattle.ispd_reader.proofs.NetTokens.{took, refused_there, id_next}
use Rattle.ispd_reader.proofs.NetFits.{done_at, id_done}
use Rattle.ispd_reader.proofs.nets_reader.NetsReader.take_id.Goals as goal

pub returns-in_err-id : goal.returns-in_err-id
returns-in_err-id c = λ grid fits.
    let n = c.args.self.now in
    let p = err_from_is_err_and c.from_residual.result c.from_residual.ensures.1 in
    rw (p.1, p.2) (refused_there grid c.args.token.now stages.Id n _ (id_at (contains nat_cmp n.taken)) c.in_err-id.field-0.0 nets_left_at_id c.requires (λ r. refl) (λ fault. refl) c.in_err-id.ensures.id)

pub returns : goal.returns
returns c = λ grid fits.
    let n = c.args.self.now in
    let id = c.in_ok-id.id in
    let with : NetsReader = record n { taken = c.id.new.taken } in
    let done = done_at grid n stages.Id c.requires fits in
    took grid c.args.token.now stages.Id n _ (id_at (contains nat_cmp n.taken)) id nets_left_at_id c.requires (λ r. refl) (λ after. id_next (header_of (layout_of grid)) n with id after c.in_ok-id.ensures.taken) c.in_ok-id.ensures.id
    (record {
      done = id_done grid n.spacing n.nets.items (contains nat_cmp n.taken) (contains nat_cmp c.id.new.taken) n.pins _ id c.in_ok-id.ensures.taken done;
      present = record { small = c.in_ok-id.ensures.limit; free = sym (done.taken_ids id) ∙ c.in_ok-id.ensures.free };
    })
