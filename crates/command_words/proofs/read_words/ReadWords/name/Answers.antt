use Rattle.std.proofs.Common.{◌∙◌, ◌<◌, Some, ap, arith, length, map, sym}
use Rattle.std.specs.Prelude.{option_map, string_bytes}
use Rattle.std.proofs.lemmas.List.{length-map}
use Rattle.std.proofs.lemmas.Option.{slice_get-get_or, slice_get-map}
use Rattle.command_words.specs.Kinds.{form_of, with_word}
use Rattle.command_words.proofs.Parts.{name_is, parted}
use Rattle.command_words.proofs.read_words.ReadWords.name.Goals as goal

pub bounds-self-place : goal.bounds-self-place
bounds-self-place c =
    let s = c.args.self.now in
    omega (arith, (parted s.kind (with_word s.kind (map string_bytes s.words.now)) s.read.shaped).within, length-map s.words.now string_bytes, c.requires)

pub returns : goal.returns
returns c =
    let s = c.args.self.now in
    let words = s.words.now in
    let within : c.args.place < length words =
    omega (arith, (parted s.kind (with_word s.kind (map string_bytes words)) s.read.shaped).within, length-map words string_bytes, c.requires) in
    name_is (form_of s.kind) (form_of s.kind).word (map string_bytes words) c.args.place _ c.requires
    (slice_get-map string_bytes words c.args.place ∙ ap (option_map string_bytes) (slice_get-get_or words c.args.place c.index-self-place.result within)
    ∙ ap (λ t. Some t) (sym c.as_str.ensures.value))
