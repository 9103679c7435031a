use Rattle.std.proofs.Common.{◌≡◌, ◌∙◌, List, take, get_or, subst, arith}
use Rattle.std.specs.List.{AllZip}
use Rattle.std.proofs.lemmas.List.{take_all, take_more}
use Rattle.std.proofs.lemmas.Slice.Zip.{all_zipped_more, AllZip-long}
use Rattle.grid_base.specs.declared.size.Size.{Size}
use Rattle.grid_base.specs.declared.vertex.Vertex.{Vertex}
use Rattle.grid_graph.specs.declared.grid.Grid.{Grid}
use Rattle.grid_graph.specs.declared.net_spec.NetSpec.{NetSpec}
use Rattle.net_extents.specs.declared.extent.Extent.{Extent}
use Rattle.net_extents.specs.Extents.{AreExtents, IsExtentOf}
use Rattle.net_extents.specs.Spreads.{IsSpreadOf}
use Rattle.net_extents.proofs.extents.extents_of.Goals as goal

-- the extent is that of a net
abbrev IsOwn : Grid → NetSpec → Extent → Type 0
IsOwn g n e = IsExtentOf g n.terminals e

pub loop-net-preserved : goal.loop-net-preserved
loop-net-preserved c =
    let g = c.args.design.now.grid in
    let nets = c.list-nets.result.now in
    let i = c.loop-net.net-index in
    let n = c.net-item.result in
    let spread = c.take.new.self in
    let of_terminals : IsSpreadOf c.size-size.result n.terminals spread =
    subst (λ (ts : List Vertex). IsSpreadOf c.size-size.result ts spread) c.list.ensures.items c.in_ok-take.ensures in
    let here : IsOwn g n c.extent.result = record {
      spread = spread;
      lowest = c.of-lowest.result;
      is_spread = subst (λ (s : Size). IsSpreadOf s n.terminals spread) c.size-size.ensures of_terminals;
      are_lowest = record { along_x = c.of-lowest.ensures.along_x; along_y = c.of-lowest.ensures.along_y };
      says = record { half_perimeter = c.extent.ensures.half_perimeter; tile = c.extent.ensures.tile; least = c.extent.ensures.least };
    } in
    rw (take_more nets i n c.loop-net-test.true, c.in_ok-push.ensures.items)
    (all_zipped_more (IsOwn g) (take i nets) c.loop-net.extents.items (get_or nets i n) c.extent.result
    c.loop-net.invariant (subst (λ (m : NetSpec). IsOwn g m c.extent.result) c.net-item.is here))

pub returns : goal.returns
returns c =
    let d = c.args.design.now in
    let whole : take c.loop-net.net-index c.list-nets.result.now ≡ d.nets =
    take_all c.loop-net.net-index c.list-nets.result.now (omega (arith, c.loop-net-test.false)) ∙ c.list-nets.ensures.items in
    let own : AreExtents d c.loop-net.extents.items = subst (λ (ns : List NetSpec). AllZip (IsOwn d.grid) ns c.loop-net.extents.items) whole c.loop-net.invariant in
    record { one_each = AllZip-long (IsOwn d.grid) d.nets c.loop-net.extents.items own; own = own }
