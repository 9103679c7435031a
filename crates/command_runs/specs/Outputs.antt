-- Files that a run creates and writes.
use Rattle.std.specs.Prelude.{◌≡◌, ◌⊎◌, ℕ, List, take, Result, OnOk, OnErr}
use Rattle.std.specs.Io.KnownBytes.{Appends}
use Rattle.gr_desk.specs.declared.port.Port.{Port}
use Rattle.gr_desk.specs.Calls.{created, refused, KeepsOthers, IsOrderlyCreate}
use Rattle.gr_desk.specs.Causes.{HasCause}
use Rattle.gr_desk.specs.Runs.{MayStray}
use Rattle.gr_desk.specs.Told.{Told, PortTold}

-- a port where a file was created under the name, and these bytes and nothing else were written to it
pub record HasFile (before after : PortTold) (name text : List ℕ) : Type 0 where
  pub only : after ≡ record (created before name) { written = after.written }
  pub written : Appends (created before name).written after.written text

-- a port where the file could not be created, and what was written there before stays; or where a part of the text from its
-- front was written
abbrev pub HasPart : PortTold → PortTold → List ℕ → List ℕ → Type 0
HasPart before after name text = (after ≡ refused before) ⊎ ((n : ℕ) × HasFile before after name (take n text))

-- a file was to be created under the name, and the text to be written to it; nothing else was touched
pub record Makes {T E : Type 0} (before after : Told) (port : Port) (name text : List ℕ) (result : Result T E) : Type 0 where
  pub all : OnOk result (HasFile (before.ports port) (after.ports port) name text)
  pub part : OnErr result (HasPart (before.ports port) (after.ports port) name text)
  pub others : KeepsOthers before after port
  pub stray : MayStray (IsOrderlyCreate before port name) before.strayed after.strayed
  pub cause : HasCause before.out_faults after.out_faults result
  pub still : after.in_faults ≡ before.in_faults
