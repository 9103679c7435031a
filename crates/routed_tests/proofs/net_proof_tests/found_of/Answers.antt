use Rattle.std.proofs.Common.{get_or}
use Rattle.std.proofs.lemmas.Option.{slice_get-get_or}
use Rattle.grid_graph.proofs.Grounds.{ground_joins}
use Rattle.routed_tests.proofs.net_proof_tests.found_of.Goals as goal

pub prove_net-requires-clause-width : goal.prove_net-requires-clause-width
prove_net-requires-clause-width c = c.requires.net.width

pub prove_net-requires-clause-vertices : goal.prove_net-requires-clause-vertices
prove_net-requires-clause-vertices c k d low =
    let terminals = c.args.net.now.terminals in
    c.requires.net.vertices k (get_or terminals k d) (slice_get-get_or terminals k d low)

pub prove_net-requires-clause-ground : goal.prove_net-requires-clause-ground
prove_net-requires-clause-ground c = ground_joins c.args.grid.now c.args.net.now.terminals c.args.ground c.requires.ground

pub check_net-requires-clause-width : goal.check_net-requires-clause-width
check_net-requires-clause-width c = c.requires.net.width

pub check_net-requires-clause-vertices : goal.check_net-requires-clause-vertices
check_net-requires-clause-vertices c k d low =
    let terminals = c.args.net.now.terminals in
    c.requires.net.vertices k (get_or terminals k d) (slice_get-get_or terminals k d low)

pub check_net-requires-clause-ground : goal.check_net-requires-clause-ground
check_net-requires-clause-ground c = ground_joins c.args.grid.now c.args.net.now.terminals c.args.ground c.requires.ground
