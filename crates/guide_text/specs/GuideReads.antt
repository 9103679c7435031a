-- What reading a part of a text of guides answers.
use Rattle.std.specs.Prelude.{ℕ, Result}
use Rattle.text_scan.specs.Parts as parts
use Rattle.text_scan.specs.Reading.{Reading}
use Rattle.guide_text.specs.declared.guide_error.GuideError.{GuideError}
use Rattle.guide_text.specs.GuideFaults.{guide_refused_at}

-- the value of the part and what is left of the text, or the place of the token at which the part can't be read
abbrev pub GuideRead : Type 0 → Type 0
GuideRead A = parts.Read Reading ℕ A

-- an error is the refusal that reading gives, or want of memory
abbrev pub RefusesGuides : {Y : Type 0} → GuideError → Result Y ℕ → Type 0
RefusesGuides e read = parts.Refuses guide_refused_at e read

-- what a call answered, seen by view, is what reading a part gives, and this is left of the text then, unless memory ran out
abbrev pub IsGuideReadAs : {X Y : Type 0} → (X → Y) → Result X GuideError → Reading → GuideRead Y → Type 0
IsGuideReadAs view answer left read = parts.IsReadAs guide_refused_at view answer left read
