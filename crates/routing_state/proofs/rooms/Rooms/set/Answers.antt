use Rattle.std.proofs.Common.{arith, ap, w64, ◌∙◌, ℤ, of_z, to_z}
use Rattle.std.specs.Prelude.{slice_set}
use Rattle.std.specs.Int.{w16}
use Rattle.std.proofs.lemmas.Int.{to_z-of_z}
use Rattle.routing_state.specs.Lacks.{lack}
use Rattle.routing_state.proofs.Lacking.{lack-size, lacking-limit}
use Rattle.routing_state.proofs.Narrow.{clipped-set}
use Rattle.routing_state.proofs.rooms.Rooms.set.Goals as goal

pub overflow_add-self : goal.overflow_add-self
overflow_add-self c = omega (
  arith,
  c.args.self.now.sum,
  lacking-limit c.args.self.now.rooms.items c.requires.limit,
  c.requires.few,
  c.lack-2.ensures ∙ ap lack (to_z-of_z w64 c.args.room c.ranges.room),
  lack-size c.args.room,
  c.requires.room,
)

pub invariant_of-self-clause-same : goal.invariant_of-self-clause-same
invariant_of-self-clause-same c =
    let narrow = c.args.self.now.narrow.items in
    let rooms = c.args.self.now.rooms.items in
    let e = c.args.e.0 in
    ap (λ (z : ℤ). slice_set narrow e z) (to_z-of_z w16 c.clip.result (record { sfits = c.clip.type_inv }) ∙ c.clip.ensures)
    ∙ clipped-set narrow rooms e (to_z w64 (of_z w64 c.args.room)) c.args.self.now.same
