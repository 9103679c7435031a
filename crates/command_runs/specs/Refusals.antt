-- Why a run is refused.
use Rattle.std.specs.Prelude.{◌≡◌, ◌⊎◌, ℕ, All, List, [], ◌∷◌, Contains, Option, Some, Ok, Err}
use Rattle.std.specs.List.{AllByRecursion}
use Rattle.cert_text.specs.declared.stated.Stated.{Stated}
use Rattle.edit_text.specs.declared.edit.Edit.{Edit}
use Rattle.gr_desk.specs.declared.port.Port.{Port}
use Rattle.gr_desk.specs.declared.port.Port.TheVariants.{In, RoutesIn, CertIn, EditsIn}
use Rattle.gr_desk.specs.Told.{Told}
use Rattle.grid_graph.specs.declared.design.Design.{Design}
use Rattle.grid_graph.specs.declared.ground.Ground.TheVariants.{WithChoked}
use Rattle.grid_graph.specs.Grounds.{JoinsTerminals, IsFirstCutOff}
use Rattle.ispd_reader.specs.Designs.{contents_of, IsDesignOfText}
use Rattle.route_text.specs.declared.block.Block.{Block}
use Rattle.command_runs.specs.declared.refusal.Refusal.{Refusal}
use Rattle.command_runs.specs.declared.refusal.Refusal.TheVariants.{NoCommand, Input, Unreachable, Unread, NoMemory}
use Rattle.command_runs.specs.JudgedTexts.{blocks_or_refusal, stated_or_refusal, edits_or_refusal}
use Rattle.command_runs.specs.Lines.{status_of}
use Rattle.command_runs.specs.Sources.{Source, HasBytes, ports_of}
use Rattle.command_runs.specs.Traces.{ReportsRefusal, InputFailed}

-- ---- what is wrong with a text

-- the text that is read at the port is refused for this: that of a design for a fault of its format, or for the first of its nets
-- that is cut off, at the first of that net's terminals that is; no other refusal is for what the text of a design says
abbrev pub IsRefusedAt : Port → List ℕ → Refusal → Type 0
IsRefusedAt In text (Input fault) = contents_of text ≡ Err fault
IsRefusedAt In text (Unreachable net) = (d : Design) × IsDesignOfText text d × IsFirstCutOff d.grid d.nets net.id net.terminal
IsRefusedAt RoutesIn text refusal = blocks_or_refusal text ≡ Err refusal
IsRefusedAt CertIn text refusal = stated_or_refusal text ≡ Err refusal
IsRefusedAt EditsIn text refusal = edits_or_refusal text ≡ Err refusal
IsRefusedAt _ text refusal = ⊥

-- the text that is read at the port is one: of a design of which open and choked edges with vias join each net's terminals, of
-- blocks, of a certificate, of edits
abbrev pub IsAcceptedAt : Port → List ℕ → Type 0
IsAcceptedAt In text = (d : Design) × IsDesignOfText text d × All (λ n. JoinsTerminals d.grid WithChoked n.terminals) d.nets
IsAcceptedAt RoutesIn text = (blocks : List Block) × (blocks_or_refusal text ≡ Ok blocks)
IsAcceptedAt CertIn text = (stated : Stated) × (stated_or_refusal text ≡ Ok stated)
IsAcceptedAt EditsIn text = (edits : List Edit) × (edits_or_refusal text ≡ Ok edits)
IsAcceptedAt _ text = ⊥

-- ---- in which order texts are read

-- the desk tells the bytes up to the first text that is refused, which is so for this
abbrev pub HasToBeRefused : (List ℕ → Option (List ℕ)) → List Source → Refusal → Type 0
HasToBeRefused files [] refusal = ⊥
HasToBeRefused files (s ∷ later) refusal =
    (bytes : List ℕ) × (files s.name ≡ Some bytes)
    × (IsRefusedAt s.port bytes refusal ⊎ (IsAcceptedAt s.port bytes × HasToBeRefused files later refusal))

-- the desk tells the bytes of all of them, and none is refused
abbrev pub AreAccepted : (List ℕ → Option (List ℕ)) → List Source → Type 0
AreAccepted files sources =
    AllByRecursion (λ s. (bytes : List ℕ) × (files s.name ≡ Some bytes) × IsAcceptedAt s.port bytes) sources

-- each of them has bytes that are accepted, those under its name where the desk tells these
abbrev pub HaveAcceptedBytes : (List ℕ → Option (List ℕ)) → List Source → Type 0
HaveAcceptedBytes files sources = AllByRecursion (λ s. HasBytes files s.name (IsAcceptedAt s.port)) sources

-- ---- why a run ends that reads files in this order

-- the cause of a refusal that came while this file was read: a failed open or read, or what its bytes say, which are those under
-- the name where the desk tells these; want of memory has none
abbrev pub IsCauseAt : Source → Told → Told → Refusal → Type 0
IsCauseAt s before after NoCommand = ⊥
IsCauseAt s before after Unread = InputFailed before after
IsCauseAt s before after NoMemory = Unit {0}
IsCauseAt s before after refusal = HasBytes before.files s.name (λ bytes. IsRefusedAt s.port bytes refusal)

-- none of these files was opened: their ports are as they were
abbrev pub AreUnopened : List Source → Told → Told → Type 0
AreUnopened sources before after = (p : Port) → Contains (ports_of sources) p → after.ports p ≡ before.ports p

-- the cause of a refusal, where the words are a command: the run ended at one of the files, the bytes of those before it are
-- accepted, and none behind it was opened; or it had read them all, and memory was wanting
abbrev pub IsCause : List Source → Told → Told → Refusal → Type 0
IsCause [] before after refusal = refusal ≡ NoMemory
IsCause (s ∷ later) before after refusal =
    IsCauseAt s before after refusal × AreUnopened later before after
    ⊎ HasBytes before.files s.name (IsAcceptedAt s.port) × IsCause later before after refusal

-- ---- what a refused run leaves

-- the run, which reads these files, was refused: for a cause, with the status of the refusal, and it said so
pub record IsRefused (sources : List Source) (before after : Told) (status : ℕ) : Type 0 where
  pub refusal : Refusal
  pub status_is : status ≡ status_of refusal
  pub cause : IsCause sources before after refusal
  pub says : ReportsRefusal before after refusal
