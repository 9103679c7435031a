use Rattle.std.proofs.Common.{◌∙◌, ℕ, Err, refl, sym, ap}
use Rattle.grid_graph.specs.Grids.{size_of, layout_of}
use Rattle.design_tokens.specs.declared.input_fault.InputFault.TheVariants.{Syntax}
use Rattle.ispd_reader.specs.Views.{extent_of_size, header_of, nets_of}
use Rattle.ispd_reader.proofs.MachineSteps.{nets_fault, adjustments_fault, body_ends}
use Rattle.ispd_reader.proofs.NetsEnds.{nets_done, nets_differ}
use Rattle.ispd_reader.proofs.body.Body.end.Goals as goal

pub returns-then-not-is_done-clause-refusal : goal.returns-then-not-is_done-clause-refusal
returns-then-not-is_done-clause-refusal c =
    let b = c.args.self in
    λ made r none long. nets_fault b made r _ (c.wanted.ensures (header_of (layout_of b.grid)) r none) ∙ ap (λ (at : ℕ). Err (Syntax at c.wanted.result)) long

pub returns-in-Some-clause-refusal : goal.returns-in-Some-clause-refusal
returns-in-Some-clause-refusal c =
    let b = c.args.self in
    let all = nets_done b.nets (sym c.is_done.ensures ∙ c.if-not-is_done.false) in
    λ made r none long. adjustments_fault b made all.0 r _ (all.1 (header_of (layout_of b.grid)) r) (c.in-Some.ensures.some (extent_of_size (size_of b.grid)) r none) ∙ ap (λ (at : ℕ). Err (Syntax at c.in-Some.wanted)) long

pub into_nets-requires-clause-ids : goal.into_nets-requires-clause-ids
into_nets-requires-clause-ids c = nets_differ c.args.self.grid c.args.self.nets c.requires.0

pub returns-in-None-clause-design : goal.returns-in-None-clause-design
returns-in-None-clause-design c =
    let b = c.args.self in
    let header = header_of (layout_of b.grid) in
    let nets = nets_of c.into_nets.result in
    λ made capacities. (
      record { header = header; nets = nets; adjustments = made },
      record { header = refl; capacities = capacities; nets = refl },
      λ r none. body_ends b made nets r (c.into_nets.ensures.left header r) (c.in-None.ensures.none refl (extent_of_size (size_of b.grid)) r none),
    )
