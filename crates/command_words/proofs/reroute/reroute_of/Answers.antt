use Rattle.std.proofs.Common.{◌∙◌, map, sym}
use Rattle.std.specs.Prelude.{string_bytes}
use Rattle.command_words.proofs.RerouteForms.{refused_with}
use Rattle.command_words.proofs.reroute.reroute_of.Goals as goal

pub returns-then-has_parts-clause-refused : goal.returns-then-has_parts-clause-refused
returns-then-has_parts-clause-refused c = refused_with c.with_routes.result (map string_bytes c.args.words.now) (sym c.has_parts.ensures ∙ c.if-has_parts.true) c.with_routes.ensures.refused
