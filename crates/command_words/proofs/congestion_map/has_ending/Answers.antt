use Rattle.std.proofs.lemmas.Str.Pattern.{ends_text}
use Rattle.command_words.proofs.congestion_map.has_ending.Goals as goal

pub returns : goal.returns
returns c = ends_text c.ends_with.result _ _ c.ends_with.ensures.cases
