use Rattle.std.proofs.Common.{refl, None}
use Rattle.eco_route.specs.declared.net_index.NetIndex.{NetIndex}
use Rattle.eco_route.proofs.Indices.{IsIndexOf-removed, Changes-tied}
use Rattle.eco_route.proofs.net_index.NetIndex.remove.Goals as goal

pub returns : goal.returns
returns c ids is once stands =
    let old = c.args.self.now in
    let new : NetIndex = record { by_id = c.remove.new.self; numbers = c.remove-2.new.self; next = old.next } in
    IsIndexOf-removed ids old new c.args.id is c.args.place once stands c.remove-2.ensures.items refl (Changes-tied old new c.args.id None c.remove.ensures.updates.0)
