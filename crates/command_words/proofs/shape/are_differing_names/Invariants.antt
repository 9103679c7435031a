use Rattle.std.proofs.Common.{◌≡◌, ◌&&◌, length, map}
use Rattle.std.specs.Prelude.{string_bytes}
use Rattle.std.specs.List.{list_all}
use Rattle.command_words.specs.CommandLine.{all_differ}
use Rattle.command_words.specs.Kinds.{name_test}
use Rattle.command_words.proofs.shape.are_differing_names.Given as goal

abbrev pub invariant-loop-left : goal.invariant-loop-left
invariant-loop-left l = (list_all (name_test l.form) (map string_bytes l.words) && all_differ (map string_bytes l.words))
    ≡ (list_all (name_test l.form) (map string_bytes l.left) && all_differ (map string_bytes l.left))

abbrev pub decreases-loop-left : goal.decreases-loop-left
decreases-loop-left l = length l.left
