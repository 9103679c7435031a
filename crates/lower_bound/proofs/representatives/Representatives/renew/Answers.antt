use Rattle.std.proofs.Common.{sym, ◌∙◌, arith}
use Rattle.groups.specs.Joined.{IsParent}
use Rattle.lower_bound.proofs.Represented.{free_up, joined_freely, own_representatives}
use Rattle.lower_bound.proofs.representatives.Representatives.renew.Goals as goal

pub join_free-requires-clause-leads : goal.join_free-requires-clause-leads
join_free-requires-clause-leads g c =
    own_representatives c.args.size (g.W.Weights.pieces c.args.weights.now) c.reset.new.self.parents.items (c.reset.ensures.long ∙ c.requires.long)
    (λ v within. c.reset.ensures.own v (omega (arith, within, c.reset.ensures.long)))

pub returns-clause-leads : goal.returns-clause-leads
returns-clause-leads g c =
    let s = c.args.size in
    let pieces = g.W.Weights.pieces c.args.weights.now in
    let joined = c.join_free.new.groups.parents.items in
    let are = c.join_free.ensures in
    joined_freely s pieces (IsParent joined) joined c.flatten.new.self.parents.items are c.flatten.ensures.long (free_up s pieces joined are) c.flatten.ensures.stay

pub returns-clause-long : goal.returns-clause-long
returns-clause-long g c = c.flatten.ensures.long ∙ c.join_free.ensures.long ∙ sym c.requires.long
