use Rattle.std.proofs.Common.{arith, map}
use Rattle.std.specs.Prelude.{string_bytes}
use Rattle.std.proofs.lemmas.Grind.{common_steps}
use Rattle.command_words.specs.declared.kind.Kind.TheVariants.{Grouter}
use Rattle.command_words.specs.declared.verb.Verb.TheVariants.{Eco}
use Rattle.command_words.specs.Kinds.{with_word}
use Rattle.command_words.proofs.Parts.{is_read}
use Rattle.command_words.proofs.requests.eco_request.Goals as goal

pub returns : goal.returns
returns c = let r = c.args.read.now in record { is_eco = is_read r.kind (Grouter Eco) (with_word r.kind (map string_bytes r.words.now)) _ r.read c.requires; names = grind (arith, common_steps) }
