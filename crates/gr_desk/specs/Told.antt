-- What a desk tells of itself. Where a part is None, the desk says nothing of it.
use Rattle.std.specs.Prelude.{ℕ, List, Bool}
use Rattle.std.specs.declared.option.Option.{Option}
use Rattle.gr_desk.specs.declared.port.Port.{Port}
use Rattle.gr_desk.specs.declared.state.State.{State}

-- what a desk tells of one port: the bytes left to be read, the bytes written, the name that they go under,
-- the one name that may be opened or created there, and what the port has been through
pub record PortTold : Type 0 where
  pub rest : Option (List ℕ)
  pub written : Option (List ℕ)
  pub target : Option (Option (List ℕ))
  pub expected : Option (Option (List ℕ))
  pub state : Option State

-- what a desk tells: the bytes under each name, each port, whether some call came out of order,
-- and two counts of faults, which rise where an open or a read fails, and where a create or a write does
pub record Told : Type 0 where
  pub files : List ℕ → Option (List ℕ)
  pub ports : Port → PortTold
  pub strayed : Option Bool
  pub in_faults : ℕ
  pub out_faults : ℕ
