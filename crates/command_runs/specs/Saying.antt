-- What it does to the desk to leave an outcome, or to say a text with which a run ends.
use Rattle.std.specs.Prelude.{◌≡◌, ◌⊎◌, ℕ, Bool, true, false, List, [], take}
use Rattle.gr_desk.specs.declared.port.Port.TheVariants.{Report}
use Rattle.gr_desk.specs.Runs.{Adds}
use Rattle.gr_desk.specs.Told.{Told}
use Rattle.command_runs.specs.CommandRun.{RunOutcome, AreMade, EndsEarly}
use Rattle.command_runs.specs.Lines.{done_status, objected_status, unwritten_status}
use Rattle.command_runs.specs.Sources.{Source, ports_of, AreOrderlyCreates}
use Rattle.command_runs.specs.Traces.{ReportGains, TouchesOnly, OutputFailed}

-- the status of a run that left its outcome whole
abbrev pub whole_status : Bool → ℕ
whole_status false = done_status
whole_status true = objected_status

-- and that of one that was cut short; an objection stands all the same
abbrev pub cut_status : Bool → ℕ
cut_status false = unwritten_status
cut_status true = objected_status

-- some part of the text from its front was written on the report, and all of it where no write failed
pub record TriesToSay (text : List ℕ) (before after : Told) : Type 0 where
  pub count : ℕ
  pub part : Adds before after Report (take count text)
  pub whole : ¬ OutputFailed before after → Adds before after Report text

-- the outcome was left, whole or as far as it could be; nothing else was touched
pub record Leaves (made : List Source) (outcome : RunOutcome) (before after : Told) (status : ℕ) : Type 0 where
  pub ends : (status ≡ whole_status outcome.objects)
      × AreMade made outcome.texts before after
      × ReportGains before after outcome.report
      × (after.out_faults ≡ before.out_faults)
      ⊎ (status ≡ cut_status outcome.objects)
      × EndsEarly made outcome.texts outcome.report before after
      × OutputFailed before after
  pub touches : TouchesOnly [] (ports_of made) before after
  pub in_order : AreOrderlyCreates before made → after.strayed ≡ before.strayed
  pub still : after.in_faults ≡ before.in_faults

-- the text was written whole, and the status is that of a whole outcome; or a write failed, some part of it from its front was
-- written, and the status is that of an outcome cut short
abbrev pub Says : List ℕ → Bool → Told → Told → ℕ → Type 0
Says text objects before after status =
    (status ≡ whole_status objects) × Adds before after Report text × (after.out_faults ≡ before.out_faults)
    ⊎ (status ≡ cut_status objects) × ((n : ℕ) × Adds before after Report (take n text)) × OutputFailed before after
