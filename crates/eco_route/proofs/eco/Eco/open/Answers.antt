use Rattle.std.proofs.Common.{List, sym, ◌∙◌, ap, subst}
use Rattle.std.specs.Prelude.{All}
use Rattle.grid_base.specs.declared.piece.Piece.{Piece}
use Rattle.grid_base.specs.Lists.{HasNoRepeats}
use Rattle.grid_graph.specs.declared.net_spec.NetSpec.{NetSpec}
use Rattle.tree_set.specs.Loads.{load_on}
use Rattle.tree_set.specs.Order.{IsRising}
use Rattle.eco_route.specs.EditRefusals.{terminals_of}
use Rattle.eco_route.specs.NetIndices.{ids_of, IsIndexOf}
use Rattle.eco_route.proofs.EcoFacts.{once-ids}
use Rattle.eco_route.proofs.eco.Eco.open.Goals as goal

pub of-requires : goal.of-requires
of-requires c = subst (λ (ns : List NetSpec). HasNoRepeats (ids_of ns)) (sym c.list-2.ensures.items) (once-ids c.args.design.nets c.args.design.limits.ids)

pub invariant_of-result : goal.invariant_of-result
invariant_of-result c =
    let d = c.args.design in
    let made = c.in-Ok-loaded_router.ensures in
    record {
      sets = record { one_each = c.requires.one_each; pieces = c.requires.pieces };
      rising = subst (λ (ts : List (List Piece)). All IsRising ts) c.as_slice.ensures.value made.rising;
      indexed = subst (λ (ns : List NetSpec). IsIndexOf (ids_of ns) c.in-Ok.index) c.list-2.ensures.items c.in-Ok.ensures;
      counted = c.count_terminals-terminals.ensures ∙ ap terminals_of c.list.ensures.items;
      routed = made.router;
      loaded = λ r. made.loads r ∙ ap (λ (ts : List (List Piece)). load_on d.grid d.nets ts r) c.as_slice.ensures.value;
    }
