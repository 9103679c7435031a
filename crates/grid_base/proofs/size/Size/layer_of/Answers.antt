-- The layer is the one of the vertex's place.
use Rattle.std.proofs.Common.{sym}
use Rattle.std.proofs.Math.Nat.{div-div-eq-div-mul}
use Rattle.grid_base.specs.Numbers.{cols, rows}
use Rattle.grid_base.proofs.Places.{place_at-inside}
use Rattle.grid_base.proofs.size.Size.layer_of.Goals as goal

pub returns-clause-layer : goal.returns-clause-layer
returns-clause-layer c = let s = c.args.self.now in sym (div-div-eq-div-mul c.args.v.0 (cols s) (rows s))

pub returns-clause-inside : goal.returns-clause-inside
returns-clause-inside c vertex =
    let s = c.args.self.now in
    rw (sym (div-div-eq-div-mul c.args.v.0 (cols s) (rows s))) (place_at-inside s c.args.v.0 vertex).2
