-- What is passed over of a text that is read byte by byte.
use Rattle.std.specs.Prelude.{◌≡◌, ℕ, ◌+◌, ◌≤◌, length}
use Rattle.text_scan.specs.Reading.{Reading}

-- at least n bytes of the text were passed over
pub record Moves (n : ℕ) (old new : Reading) : Type 0 where
  pub text : new.text ≡ old.text
  pub forward : old.place + n ≤ new.place
  pub within : new.place ≤ length new.text
