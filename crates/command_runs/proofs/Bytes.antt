-- The bytes of files, where the desk tells them and where it doesn't.
use Rattle.std.proofs.Common.{◌≡◌, ℕ, List, Some, None, refl, ap, subst}
use Rattle.std.specs.Prelude.{Option, unwrap_or}
use Rattle.command_runs.specs.Sources.{HasBytes, IfTold}

-- what is said of a file's bytes is so of those that are told
pub of_told : {files : List ℕ → Option (List ℕ)} {name : List ℕ} (IsSo : List ℕ → Type 0) → HasBytes files name IsSo
    → IfTold files name IsSo
of_told IsSo has told under = subst IsSo (has.are_told told under) has.is_so

-- and of the file on a desk that tells the same of its names
pub has-since : {files others : List ℕ → Option (List ℕ)} {name : List ℕ} {IsSo : List ℕ → Type 0} → others ≡ files
    → HasBytes others name IsSo → HasBytes files name IsSo
has-since same has = rw same at has

-- what follows from it is said too
pub has-weaker : {files : List ℕ → Option (List ℕ)} {name : List ℕ} (IsSo IsToo : List ℕ → Type 0)
    → ((bytes : List ℕ) → IsSo bytes → IsToo bytes) → HasBytes files name IsSo → HasBytes files name IsToo
has-weaker IsSo IsToo follows has = record { bytes = has.bytes; is_so = follows has.bytes has.is_so; are_told = has.are_told }

either : (IsSo : List ℕ → Type 0) (other : List ℕ) (o : Option (List ℕ)) → IsSo other → ((told : List ℕ) → o ≡ Some told → IsSo told)
    → IsSo (unwrap_or o other)
either IsSo other None is so = is
either IsSo other (Some told) is so = so told refl

-- what is so of these bytes, and of those that may be told, is said of a file
pub has-either : (files : List ℕ → Option (List ℕ)) (name : List ℕ) (IsSo : List ℕ → Type 0) (other : List ℕ) → IsSo other
    → IfTold files name IsSo → HasBytes files name IsSo
has-either files name IsSo other is if_told = record {
  bytes = unwrap_or (files name) other;
  is_so = either IsSo other (files name) is if_told;
  are_told = λ told under. ap (λ (o : Option (List ℕ)). unwrap_or o other) under;
}
