use Rattle.std.proofs.Common.{◌∙◌, sym}
use Rattle.std.specs.Prelude.{string_bytes}
use Rattle.command_words.specs.Kinds.{form_of}
use Rattle.command_words.proofs.Shapes.{few_options, repeated}
use Rattle.command_words.proofs.shape.are_options.Goals as goal

pub returns : goal.returns
returns c = c.is_empty.ensures ∙ few_options (form_of c.args.kind) string_bytes c.loop-left.left.now c.in_default.len_below ∙ sym c.loop-left.invariant

pub returns-then-is_given : goal.returns-then-is_given
returns-then-is_given c = repeated (form_of c.args.kind) string_bytes c.loop-left.left.now c.option-item.result c.as_str-in-len2-up.result.now c.in-len2-up.len_at_least c.option-item.is
    c.as_str-in-len2-up.ensures.value (sym c.is_given.ensures ∙ c.if-is_given.true) ∙ sym c.loop-left.invariant
