-- What a run does to the desk.
use Rattle.std.specs.Prelude.{◌≡◌, ◌≢◌, ◌≤◌, ℕ, List, take, Contains}
use Rattle.std.specs.Io.KnownBytes.{Appends}
use Rattle.gr_desk.specs.declared.port.Port.{Port}
use Rattle.gr_desk.specs.declared.port.Port.TheVariants.{Report}
use Rattle.gr_desk.specs.Causes.{Rose}
use Rattle.gr_desk.specs.Told.{Told, PortTold}
use Rattle.command_runs.specs.declared.refusal.Refusal.{Refusal}
use Rattle.command_runs.specs.Lines.{lines_of, unwritten_line}

-- an open or a read failed in the run
abbrev pub InputFailed : Told → Told → Type 0
InputFailed before after = Rose before.in_faults after.in_faults

-- a create or a write failed in the run
abbrev pub OutputFailed : Told → Told → Type 0
OutputFailed before after = Rose before.out_faults after.out_faults

-- the report gained these bytes
abbrev pub ReportGains : Told → Told → List ℕ → Type 0
ReportGains before after bytes = Appends (before.ports Report).written (after.ports Report).written bytes

-- the report gained a part of the text from its front, and all of it where no create or write failed since the count of these
-- stood at so many
pub record ReportsSince (since : ℕ) (before after : Told) (text : List ℕ) : Type 0 where
  pub count : ℕ
  pub part : ReportGains before after (take count text)
  pub whole : ¬ Rose since after.out_faults → ReportGains before after text

-- the run said why it is refused
abbrev pub ReportsRefusal : Told → Told → Refusal → Type 0
ReportsRefusal before after refusal = ReportsSince before.out_faults before after (lines_of refusal)

-- a create or a write of a file failed, and then the run said so
abbrev pub ReportsUnwritten : Told → Told → Type 0
ReportsUnwritten before after =
    (since : ℕ) × Rose before.out_faults since × ReportsSince since before after unwritten_line

-- a port but for what may have become of a file that was created there
abbrev pub but_for_output : PortTold → PortTold → PortTold
but_for_output before after = record before { written = after.written; target = after.target; state = after.state }

-- the run read at some ports at most, created and wrote files at others, and wrote the report
pub record TouchesOnly (read made : List Port) (before after : Told) : Type 0 where
  pub files : after.files ≡ before.files
  -- where it may read, what is left to be read changed, and the state
  pub inputs : (p : Port) → Contains read p
      → after.ports p ≡ record (before.ports p) { rest = (after.ports p).rest; state = (after.ports p).state }
  -- where it may create files, what was written, its name, and the state
  pub outputs : (p : Port) → Contains made p → after.ports p ≡ but_for_output (before.ports p) (after.ports p)
  -- at the report what was written
  pub report : after.ports Report ≡ record (before.ports Report) { written = (after.ports Report).written }
  -- at all other ports nothing
  pub others : (p : Port) → ¬ Contains read p → ¬ Contains made p → p ≢ Report → after.ports p ≡ before.ports p
  -- the counts of faults never fall
  pub in_count : before.in_faults ≤ after.in_faults
  pub out_count : before.out_faults ≤ after.out_faults
