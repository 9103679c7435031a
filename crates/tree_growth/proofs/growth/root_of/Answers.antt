use Rattle.std.proofs.Common.{◌%◌, ◌<◌, length, arith}
use Rattle.std.proofs.lemmas.List.Elements.{All-contains_itself}
use Rattle.std.proofs.lemmas.Grind.{common_steps}
use Rattle.tree_growth.proofs.growth.root_of.Goals as goal

pub returns-clause-root : goal.returns-clause-root
returns-clause-root c =
    let terminals = c.args.terminals.now in
    let within : c.args.turn % length terminals < length terminals = grind (arith, common_steps, c.if-is_empty.ensures) in
    All-contains_itself terminals (c.args.turn % length terminals) _ within
