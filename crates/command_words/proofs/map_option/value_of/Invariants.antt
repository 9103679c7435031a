use Rattle.std.proofs.Common.{◌≡◌, length, map}
use Rattle.std.specs.Prelude.{string_bytes}
use Rattle.command_words.specs.MapLine.{given_for, map_options}
use Rattle.command_words.proofs.map_option.value_of.Given as goal

abbrev pub invariant-loop-given : goal.invariant-loop-given
invariant-loop-given l = given_for l.option (map_options (map string_bytes l.words)) ≡ given_for l.option (map_options (map string_bytes l.left))

abbrev pub decreases-loop-given : goal.decreases-loop-given
decreases-loop-given l = length l.left
