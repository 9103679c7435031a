use Rattle.std.proofs.Common.{◌≡◌, drop, map}
use Rattle.std.specs.Prelude.{string_bytes}
use Rattle.std.specs.List.{list_any}
use Rattle.std.specs.Str.{bytes_eq}
use Rattle.unavoidable_cli.proofs.words.is_among.Given as goal

abbrev pub invariant-loop-word : goal.invariant-loop-word
invariant-loop-word l = list_any (bytes_eq l.name) (map string_bytes l.words)
    ≡ list_any (bytes_eq l.name) (map string_bytes (drop l.word-index l.words))
