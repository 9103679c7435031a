-- What a run does to the desk before its report, and how the faults of its steps become refusals.
use Rattle.std.specs.Prelude.{◌≡◌, ◌≢◌, ◌⊎◌, ◌≤◌, ℕ, List, [], ◌∷◌, Contains, Result, Err, IsErrOf, IsOk}
use Rattle.gr_desk.specs.declared.port.Port.{Port}
use Rattle.gr_desk.specs.declared.port.Port.TheVariants.{In}
use Rattle.gr_desk.specs.Told.{Told}
use Rattle.grid_graph.specs.declared.ground_error.GroundError.{GroundError}
use Rattle.grid_graph.specs.declared.ground_error.GroundError.TheVariants as ground_errors
use Rattle.design_tokens.specs.declared.input_error.InputError.{InputError}
use Rattle.design_tokens.specs.declared.input_error.InputError.TheVariants as input_errors
use Rattle.design_tokens.specs.declared.input_fault.InputFault.{InputFault}
use Rattle.design_tokens.specs.declared.input_fault.InputFault.TheVariants as input_faults
use Rattle.command_runs.specs.declared.refusal.Refusal.{Refusal}
use Rattle.command_runs.specs.declared.refusal.Refusal.TheVariants.{NoCommand, Input, Unreachable, Text, Unread, NoMemory}
use Rattle.command_runs.specs.declared.text_fault.TextFault.TheVariants as text_faults
use Rattle.command_runs.specs.Refusals.{HaveAcceptedBytes, IsCause, IsCauseAt, IsRefusedAt}
use Rattle.command_runs.specs.Sources.{Source, ports_of, AreOrderlyOpens}

-- nothing but these files was read: what is left to be read at their ports, the ports' states, and the count of faults
pub record OnlyReads (sources : List Source) (before after : Told) : Type 0 where
  pub files : after.files ≡ before.files
  pub inputs : (p : Port) → Contains (ports_of sources) p
      → after.ports p ≡ record (before.ports p) { rest = (after.ports p).rest; state = (after.ports p).state }
  pub others : (p : Port) → ¬ Contains (ports_of sources) p → after.ports p ≡ before.ports p
  pub in_order : AreOrderlyOpens before sources → after.strayed ≡ before.strayed
  pub later : before.in_faults ≤ after.in_faults
  pub still : after.out_faults ≡ before.out_faults

-- a step that reads one file and writes nothing; its refusal has its cause
pub record ReadsFile {T : Type 0} (s : Source) (before after : Told) (result : Result T Refusal) : Type 0 where
  pub refused : (r : Refusal) → IsErrOf result r → IsCauseAt s before after r
  pub reads : OnlyReads (s ∷ []) before after
  pub quiet : result ≢ Err Unread → after.in_faults ≡ before.in_faults

-- a step that reads these files and writes nothing; its refusal has its cause, and where it has none their bytes are accepted
pub record ReadsSources {T : Type 0} (sources : List Source) (before after : Told) (result : Result T Refusal) : Type 0 where
  pub refused : (r : Refusal) → IsErrOf result r → IsCause sources before after r
  pub accepted : IsOk result → HaveAcceptedBytes before.files sources
  pub reads : OnlyReads sources before after
  pub quiet : result ≢ Err Unread → after.in_faults ≡ before.in_faults

-- a step was refused for what the text says that it read at the port, or for want of memory
abbrev pub IsRefusedFor : Port → List ℕ → Refusal → Type 0
IsRefusedFor port text NoCommand = ⊥
IsRefusedFor port text Unread = ⊥
IsRefusedFor port text NoMemory = Unit {0}
IsRefusedFor port text refusal = IsRefusedAt port text refusal

-- what a text of too many bytes is refused for, by the port at which it is read
abbrev pub too_long_at : Port → Refusal
too_long_at In = Input input_faults.TooLong
too_long_at _ = Text text_faults.TooLong

-- a file is refused before its text is looked at: it is too long or can't be read, or memory is wanting
abbrev pub IsBeforeText : Port → Refusal → Type 0
IsBeforeText port r = (r ≡ too_long_at port) ⊎ ((r ≡ Unread) ⊎ (r ≡ NoMemory))

-- a file is refused for what is read of it: its text has a fault, it can't be read, or memory is wanting
abbrev pub IsOfReading : Refusal → Type 0
IsOfReading r = ((fault : InputFault) × (r ≡ Input fault)) ⊎ ((r ≡ Unread) ⊎ (r ≡ NoMemory))

-- what an error of the text is
abbrev pub of_input_error : InputError → Refusal
of_input_error (input_errors.Input fault) = Input fault
of_input_error input_errors.NoMemory = NoMemory

-- what an error of the grounds is
abbrev pub of_ground_error : GroundError → Refusal
of_ground_error (ground_errors.Unreachable net) = Unreachable net
of_ground_error ground_errors.NoMemory = NoMemory
