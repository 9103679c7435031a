-- Texts that may end before they are whole.
use Rattle.std.proofs.Common.{ℕ, List, length, Ok, Err, inl, inr, sym, subst}
use Rattle.std.specs.Prelude.{Bool, Result}
use Rattle.std.proofs.Math.Seq.{take-length}
use Rattle.gr_desk.specs.declared.port.Port.TheVariants.{Report}
use Rattle.gr_desk.specs.Pens.{Ends}
use Rattle.gr_desk.specs.Runs.{Adds}
use Rattle.gr_desk.specs.Told.{Told}
use Rattle.command_runs.specs.Saying.{Says, TriesToSay}

-- a text that ended, whole or not, was said as far as it could be
pub tries-to_say : {T E : Type 0} (text : List ℕ) (a b : Told) (r : Result T E) → Ends a b Report text r → TriesToSay text a b
tries-to_say text a b (Ok v) ends = record {
  count = length text;
  part = subst (λ (bytes : List ℕ). Adds a b Report bytes) (sym (take-length text)) ends.all;
  whole = λ calm. ends.all;
}
tries-to_say text a b (Err e) ends = record {
  count = ends.part.0;
  part = ends.part.1;
  whole = λ calm. absurd (calm ends.cause);
}

-- so was one that was said with a status
pub tries-of_said : (text : List ℕ) (objects : Bool) (a b : Told) (status : ℕ) → Says text objects a b status → TriesToSay text a b
tries-of_said text objects a b status (inl whole) = record {
  count = length text;
  part = subst (λ (bytes : List ℕ). Adds a b Report bytes) (sym (take-length text)) whole.1;
  whole = λ calm. whole.1;
}
tries-of_said text objects a b status (inr cut) = record {
  count = cut.1.0;
  part = cut.1.1;
  whole = λ calm. absurd (calm cut.2);
}
