-- What an error of a text of guides says.
use Rattle.std.specs.Prelude.{ℕ, Option, None, Some}
use Rattle.guide_text.specs.declared.guide_error.GuideError.{GuideError}
use Rattle.guide_text.specs.declared.guide_error.GuideError.TheVariants.{Syntax, NoMemory}

-- the number of its refusal; none for want of memory
abbrev pub guide_error_number : GuideError → Option ℕ
guide_error_number (Syntax at) = Some 71
guide_error_number NoMemory = None

-- the place that it says; none for want of memory
abbrev pub guide_refused_at : GuideError → Option ℕ
guide_refused_at (Syntax at) = Some at
guide_refused_at NoMemory = None
