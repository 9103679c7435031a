-- One port of a desk in memory.
use Rattle.std.specs.Prelude.{◌≡◌, ℕ, List, [], Some, None, String, string_bytes, option_map}
use Rattle.std.specs.declared.option.Option.{Option}
use Rattle.gr_desk.specs.declared.slot.Slot.{Slot}
use Rattle.gr_desk.specs.declared.state.State.TheVariants.{Fresh, Ready, Refused}
use Rattle.gr_desk.specs.Files.{File, left_of}
use Rattle.gr_desk.specs.Told.{PortTold}
use Rattle.std.specs.declared.alloc.Global.{Global}

-- nothing was done at the port
pub record IsUntouched (slot : Slot) : Type 0 where
  pub reading : slot.reading ≡ record { file = None; at = 0 }
  pub written : slot.written.items ≡ []
  pub target : slot.target ≡ None
  pub state : slot.state ≡ Fresh

-- what a port tells that expects this name; a port that is not there tells nothing
abbrev pub port_told : List File → Option (List ℕ) → Option Slot → PortTold
port_told files expected slot = record {
  rest = option_map (λ (s : Slot). left_of files s.reading) slot;
  written = option_map (λ (s : Slot). s.written.items) slot;
  target = option_map (λ (s : Slot). option_map string_bytes s.target) slot;
  expected = option_map (λ (s : Slot). expected) slot;
  state = option_map (λ (s : Slot). s.state) slot;
}

-- the port after an open of that file, or of none
abbrev pub opened_slot : Slot → Option ℕ → Slot
opened_slot slot None = record slot { state = Refused }
opened_slot slot (Some i) = record slot { reading = record { file = Some i; at = 0 }; state = Ready }

-- the port after a create that was done
pub record IsCreated (old new : Slot) (name : String Global) : Type 0 where
  pub only : new ≡ record old { written = new.written; target = Some name; state = Ready }
  pub written : new.written.items ≡ []
