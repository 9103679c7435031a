use Rattle.std.proofs.Common.{◌∙◌, List, ap, map, sym}
use Rattle.std.specs.Prelude.{string_bytes}
use Rattle.std.proofs.lemmas.List.{drop-map}
use Rattle.clap.specs.Words.{Text}
use Rattle.command_words.specs.MapLine.{are_map_options, map_options}
use Rattle.command_words.proofs.MapNames.{is_map}
use Rattle.command_words.proofs.congestion_map.map_of.Goals as goal

pub returns-in-Some-clause-asked : goal.returns-in-Some-clause-asked
returns-in-Some-clause-asked c =
    let behind = drop-map string_bytes 3 c.args.words.now ∙ ap (map string_bytes) (sym c.words_from.ensures) in
    record {
      is_command = is_map (map string_bytes c.args.words.now) (sym c.are_map_names.ensures ∙ c.if-not-are_map_names.false)
          (ap (λ (words : List Text). are_map_options (map_options words)) behind ∙ sym c.are_map_options.ensures ∙ c.if-not-are_map_options.false)
          c.in-Some.ensures.0;
      task = c.map_request.ensures.task;
    }
