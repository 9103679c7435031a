use Rattle.std.proofs.Common.{◌≡◌, length, map}
use Rattle.std.specs.Prelude.{string_bytes}
use Rattle.std.specs.List.{list_any}
use Rattle.std.specs.Str.{bytes_eq}
use Rattle.command_words.specs.CommandLine.{in_pairs}
use Rattle.command_words.proofs.shape.is_given.Given as goal

abbrev pub invariant-loop-left : goal.invariant-loop-left
invariant-loop-left l = list_any (bytes_eq l.option) (map (λ given. given.0) (in_pairs (map string_bytes l.words)))
    ≡ list_any (bytes_eq l.option) (map (λ given. given.0) (in_pairs (map string_bytes l.left)))

abbrev pub decreases-loop-left : goal.decreases-loop-left
decreases-loop-left l = length l.left
