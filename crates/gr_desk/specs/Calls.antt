-- What each call of a desk does to what the desk tells.
use Rattle.std.specs.Prelude.{◌≡◌, ◌≢◌, ℕ, List, [], Bool, true, IsTrue, Result, OnOk, OnErr, Some, option_map}
use Rattle.std.specs.declared.option.Option.{Option}
use Rattle.std.specs.Io.KnownBytes.{ReadConsumes, WriteAppends}
use Rattle.gr_desk.specs.declared.port.Port.{Port}
use Rattle.gr_desk.specs.declared.port.Port.TheVariants.{Report}
use Rattle.gr_desk.specs.declared.state.State.TheVariants.{Fresh, Ready, Refused}
use Rattle.gr_desk.specs.Ports.{is_input, is_output}
use Rattle.gr_desk.specs.Causes.{HasCause}
use Rattle.gr_desk.specs.Told.{Told, PortTold}

-- an open in order: the first at an input port, with the name that is expected there
pub record IsOrderlyOpen (t : Told) (port : Port) (name : List ℕ) : Type 0 where
  pub input : IsTrue (is_input port)
  pub fresh : (t.ports port).state ≡ Some Fresh
  pub expected : (t.ports port).expected ≡ Some (Some name)

-- a create in order: the first at an output port, with the name that is expected there
pub record IsOrderlyCreate (t : Told) (port : Port) (name : List ℕ) : Type 0 where
  pub output : IsTrue (is_output port)
  pub fresh : (t.ports port).state ≡ Some Fresh
  pub expected : (t.ports port).expected ≡ Some (Some name)

-- a read in order: at an input port that is ready
pub record IsOrderlyRead (t : Told) (port : Port) : Type 0 where
  pub input : IsTrue (is_input port)
  pub ready : (t.ports port).state ≡ Some Ready

-- a write in order: to the report, or at an output port that is ready
abbrev pub IsOrderlyWrite : Told → Port → Type 0
IsOrderlyWrite t port = port ≢ Report → IsTrue (is_output port) × ((t.ports port).state ≡ Some Ready)

-- a call that is out of order sets the flag, no other call does, and the flag never falls
pub record Strays (Orderly : Type 0) (before after : Option Bool) : Type 0 where
  pub kept : Orderly → after ≡ before
  pub stays : before ≡ Some true → after ≡ Some true
  pub set : (Orderly → ⊥) → after ≡ option_map (λ _. true) before

-- a port after an open that was done, where the name has these bytes
abbrev pub opened : PortTold → Option (List ℕ) → PortTold
opened p bytes = record p { rest = bytes; state = option_map (λ _. Ready) p.state }

-- a port after a create that was done
abbrev pub created : PortTold → List ℕ → PortTold
created p name = record p {
  written = option_map (λ _. []) p.written;
  target = option_map (λ _. Some name) p.target;
  state = option_map (λ _. Ready) p.state;
}

-- a port after an open or a create that failed
abbrev pub refused : PortTold → PortTold
refused p = record p { state = option_map (λ _. Refused) p.state }

-- what no call changes, and what no call at this port does
pub record KeepsOthers (before after : Told) (port : Port) : Type 0 where
  pub files : after.files ≡ before.files
  pub ports : (p : Port) → p ≢ port → after.ports p ≡ before.ports p

-- an open
pub record Opens {T E : Type 0} (before after : Told) (port : Port) (name : List ℕ) (result : Result T E) : Type 0 where
  pub ok : OnOk result (after.ports port ≡ opened (before.ports port) (before.files name))
  pub err : OnErr result (after.ports port ≡ refused (before.ports port))
  pub others : KeepsOthers before after port
  pub stray : Strays (IsOrderlyOpen before port name) before.strayed after.strayed
  pub cause : HasCause before.in_faults after.in_faults result
  pub still : after.out_faults ≡ before.out_faults

-- a create
pub record Creates {T E : Type 0} (before after : Told) (port : Port) (name : List ℕ) (result : Result T E) : Type 0 where
  pub ok : OnOk result (after.ports port ≡ created (before.ports port) name)
  pub err : OnErr result (after.ports port ≡ refused (before.ports port))
  pub others : KeepsOthers before after port
  pub stray : Strays (IsOrderlyCreate before port name) before.strayed after.strayed
  pub cause : HasCause before.out_faults after.out_faults result
  pub still : after.in_faults ≡ before.in_faults

-- a read, which leaves buf
pub record Reads {E : Type 0} (before after : Told) (port : Port) (result : Result ℕ E) (buf : List ℕ) : Type 0 where
  pub bytes : ReadConsumes (before.ports port).rest (after.ports port).rest result buf
  pub only : after.ports port ≡ record (before.ports port) { rest = (after.ports port).rest }
  pub others : KeepsOthers before after port
  pub stray : Strays (IsOrderlyRead before port) before.strayed after.strayed
  pub cause : HasCause before.in_faults after.in_faults result
  pub still : after.out_faults ≡ before.out_faults

-- a write of the front of some bytes
pub record Writes {E : Type 0} (before after : Told) (port : Port) (result : Result ℕ E) (bytes : List ℕ) : Type 0 where
  pub appended : WriteAppends (before.ports port).written (after.ports port).written result bytes
  pub only : after.ports port ≡ record (before.ports port) { written = (after.ports port).written }
  pub others : KeepsOthers before after port
  pub stray : Strays (IsOrderlyWrite before port) before.strayed after.strayed
  pub cause : HasCause before.out_faults after.out_faults result
  pub still : after.in_faults ≡ before.in_faults
