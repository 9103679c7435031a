use Rattle.std.proofs.Common.{arith}
use Rattle.load_core.proofs.Fitness.{has-place}
use Rattle.load_core.proofs.Soundness.{room-in-word}
use Rattle.load_core.proofs.core_state.Core.add.Goals as goal

pub overflow_add-found : goal.overflow_add-found
overflow_add-found c =
    let core = c.args.self.now in
    let low = has-place core c.args.party c.requires.lawful.live in
    omega (arith, c.get-found.ensures, room-in-word core.words core.parties c.args.party c.args.word c.args.amount low c.requires.fit.sound c.requires.lawful.room)
