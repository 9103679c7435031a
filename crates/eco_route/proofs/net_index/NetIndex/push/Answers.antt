use Rattle.std.proofs.Common.{◌++◌, ◌∷◌, [], refl, Some, ◌∙◌, ap, rules}
use Rattle.std.proofs.lemmas.Result.{err_from_is_err_and}
use Rattle.eco_route.specs.declared.net_index.NetIndex.{NetIndex}
use Rattle.eco_route.proofs.Indices.{IsIndexOf-pushed, IsIndexOf-same, Changes-tied}
use Rattle.eco_route.proofs.net_index.NetIndex.push.Goals as goal

pub returns-in_err-insert-clause-no_memory : goal.returns-in_err-insert-clause-no_memory
returns-in_err-insert-clause-no_memory c ids is =
    let p = err_from_is_err_and c.from_residual-in_err-insert.result c.from_residual-in_err-insert.ensures.1 in
    let new : NetIndex = record { by_id = c.insert.new.self; numbers = c.reserve.new.self; next = c.args.self.now.next } in
    rw p.1 (IsIndexOf-same ids c.args.self.now new is c.reserve.ensures.items c.in_err-insert.ensures.err refl)

pub returns-clause-pushed : goal.returns-clause-pushed
returns-clause-pushed c ids is free =
    let old = c.args.self.now in
    let new : NetIndex = record { by_id = c.insert.new.self; numbers = c.push_reserved.new.self; next = c.in_ok-next.next } in
    IsIndexOf-pushed ids old new c.args.id is free
    (c.push_reserved.ensures.items ∙ ap (λ ns. ns ++ old.next ∷ []) c.reserve.ensures.items)
    (search rules)
    (Changes-tied old new c.args.id (Some old.next) c.in_ok-insert.ensures.updates.0)
