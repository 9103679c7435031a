-- The promise of a command: what a run of it leaves on each status.
--
-- A command reads some files, makes others, and then says something on the report. What its files and its report have to say is
-- a predicate of its own; how a run can end is the same for all of them.
use Rattle.std.specs.Prelude.{◌≡◌, ◌≢◌, ◌⊎◌, ◌++◌, ℕ, Bool, true, false, List, [], ◌∷◌, take, Contains, Some, None}
use Rattle.std.specs.List.{AllZip}
use Rattle.gr_desk.specs.declared.port.Port.{Port}
use Rattle.gr_desk.specs.declared.state.State.TheVariants.{Fresh}
use Rattle.gr_desk.specs.Told.{Told}
use Rattle.command_runs.specs.declared.refusal.Refusal.{Refusal}
use Rattle.command_runs.specs.declared.refusal.Refusal.TheVariants.{Unread, NoMemory}
use Rattle.command_runs.specs.Lines.{done_status, objected_status, unwritten_status, status_of}
use Rattle.command_runs.specs.Outputs.{HasFile, HasPart}
use Rattle.command_runs.specs.Refusals.{HasToBeRefused, AreAccepted, AreUnopened, IsRefused}
use Rattle.command_runs.specs.Sources.{Source, ports_of}
use Rattle.command_runs.specs.Traces.{ReportGains, ReportsRefusal, ReportsUnwritten, TouchesOnly, InputFailed, OutputFailed}

-- what a run has to leave: the texts of the files that it makes, what it then says on the report, and whether that is an
-- objection to what it read
pub record RunOutcome : Type 0 where
  pub texts : List (List ℕ)
  pub report : List ℕ
  pub objects : Bool

-- ---- how a run ends

-- each file was created, and has its text
abbrev pub AreMade : List Source → List (List ℕ) → Told → Told → Type 0
AreMade made texts before after = AllZip (λ f text. HasFile (before.ports f.port) (after.ports f.port) f.name text) made texts

-- how far a run came: the first of the files failed, those behind it are untouched, and the report says so as far as it can; or
-- it is whole, and one behind it failed so; or all of them are whole, and the report failed
abbrev pub EndsEarly : List Source → List (List ℕ) → List ℕ → Told → Told → Type 0
EndsEarly [] texts report before after = (n : ℕ) × ReportGains before after (take n report)
EndsEarly (f ∷ later) [] report before after = ⊥
EndsEarly (f ∷ later) (text ∷ texts) report before after =
    HasPart (before.ports f.port) (after.ports f.port) f.name text
    × AreUnopened later before after
    × ReportsUnwritten before after
    ⊎ HasFile (before.ports f.port) (after.ports f.port) f.name text × EndsEarly later texts report before after

-- a right outcome was left whole, and no create or write failed
pub record IsWhole (made : List Source) (IsRight : RunOutcome → Type 0) (objects : Bool) (before after : Told) : Type 0 where
  pub outcome : RunOutcome
  pub is_right : IsRight outcome
  pub objects_is : outcome.objects ≡ objects
  pub files : AreMade made outcome.texts before after
  pub report : ReportGains before after outcome.report
  pub quiet : after.out_faults ≡ before.out_faults

-- a create or a write failed, and what was left until then is from the front of a right outcome
pub record IsCutShort (made : List Source) (IsRight : RunOutcome → Type 0) (objects : Bool) (before after : Told) : Type 0 where
  pub outcome : RunOutcome
  pub is_right : IsRight outcome
  pub objects_is : outcome.objects ≡ objects
  pub early : EndsEarly made outcome.texts outcome.report before after
  pub failed : OutputFailed before after

-- every port is fresh, and the desk expects the names of these files where they belong and no name elsewhere
pub record ExpectsNames (files : List Source) (told : Told) : Type 0 where
  pub fresh : (p : Port) → (told.ports p).state ≡ Some Fresh
  pub names : (f : Source) → Contains files f → (told.ports f.port).expected ≡ Some (Some f.name)
  pub others : (p : Port) → ¬ Contains (ports_of files) p → (told.ports p).expected ≡ Some None

-- ---- the promise

-- a run that reads files and makes others, in this order, and leaves an outcome that is right
pub record IsCommandRun (read made : List Source) (IsRight : RunOutcome → Type 0) (before after : Told) (status : ℕ) : Type 0 where
  -- a run that is done has made the files whole, and said so
  pub done : status ≡ done_status → IsWhole made IsRight false before after
  -- a run that has an objection makes no file and says it; where that fails the status stays
  pub objected : status ≡ objected_status → IsWhole [] IsRight true before after ⊎ IsCutShort [] IsRight true before after
  -- a run that is unwritten could not make or say all of it
  pub cut_short : status ≡ unwritten_status → IsCutShort made IsRight false before after
  -- every other status is that of a refusal, which has its cause and is said on the report
  pub refused : status ≢ done_status → status ≢ objected_status → status ≢ unwritten_status → IsRefused read before after status
  -- where a text has to be refused, the first that has to be is, for that very cause, where no open or read failed and memory
  -- sufficed
  pub tested : (r : Refusal)
      → HasToBeRefused before.files read r
      → ¬ InputFailed before after
      → ((status ≡ status_of r) × ReportsRefusal before after r) ⊎ (status ≡ status_of NoMemory)
  -- where no text has to be, and no call of the desk failed, only want of memory keeps the run from its end
  pub complete : AreAccepted before.files read
      → ¬ InputFailed before after
      → ¬ OutputFailed before after
      → (status ≡ done_status) ⊎ (status ≡ objected_status) ⊎ (status ≡ status_of NoMemory)
  -- nothing but the files is opened or read, created or written, and nothing else changes but the report
  pub touches : TouchesOnly (ports_of read) (ports_of made) before after
  -- a file is created only by a run that has all it will write
  pub uncreated : status ≢ done_status → status ≢ unwritten_status → TouchesOnly (ports_of read) [] before after
  -- where an open or a read failed, the status says so
  pub unread : status ≢ status_of Unread → after.in_faults ≡ before.in_faults
  -- it opens and creates the names where they belong and no others, and reads and writes what it opened and created
  pub in_order : ExpectsNames (read ++ made) before → after.strayed ≡ before.strayed
