use Rattle.std.proofs.Common.{◌∙◌, ℕ, List, map, sym}
use Rattle.std.specs.Prelude.{string_bytes}
use Rattle.command_words.specs.MapLine.{map_options}
use Rattle.command_words.proofs.MapOptions.{passed, repeated}
use Rattle.command_words.proofs.map_option.are_map_options.Goals as goal

pub returns-then-is_given : goal.returns-then-is_given
returns-then-is_given c =
    let p : List ℕ × List ℕ = (c.in-Some.given.word.now, c.in-Some.given.value.now) in
    sym (c.loop-given.invariant ∙ repeated (map_options (map string_bytes c.loop-given.left.now)) p _ c.in-Some.ensures.0 (sym c.is_given.ensures ∙ c.if-is_given.true))

pub loop-given-preserved : goal.loop-given-preserved
loop-given-preserved c =
    let p : List ℕ × List ℕ = (c.in-Some.given.word.now, c.in-Some.given.value.now) in
    c.loop-given.invariant ∙ passed (map_options (map string_bytes c.loop-given.left.now)) p _ c.in-Some.ensures.0 (sym c.is_known.ensures ∙ c.if-not-is_known.false) (sym c.is_given.ensures ∙ c.if-is_given.false)
