use Rattle.std.proofs.Common.{◌≡◌, length, map}
use Rattle.std.specs.Prelude.{string_bytes}
use Rattle.command_words.specs.MapLine.{are_map_options, map_options}
use Rattle.command_words.proofs.map_option.are_map_options.Given as goal

abbrev pub invariant-loop-given : goal.invariant-loop-given
invariant-loop-given l = are_map_options (map_options (map string_bytes l.words)) ≡ are_map_options (map_options (map string_bytes l.left))

abbrev pub decreases-loop-given : goal.decreases-loop-given
decreases-loop-given l = length l.left
