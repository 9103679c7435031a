use Rattle.std.proofs.Common.{◌≡◌, length, map}
use Rattle.std.specs.Prelude.{string_bytes}
use Rattle.command_words.specs.CommandLine.{are_options}
use Rattle.command_words.specs.Kinds.{form_of}
use Rattle.command_words.proofs.shape.are_options.Given as goal

abbrev pub invariant-loop-left : goal.invariant-loop-left
invariant-loop-left l = are_options (form_of l.kind) (map string_bytes l.words) ≡ are_options (form_of l.kind) (map string_bytes l.left)

abbrev pub decreases-loop-left : goal.decreases-loop-left
decreases-loop-left l = length l.left
