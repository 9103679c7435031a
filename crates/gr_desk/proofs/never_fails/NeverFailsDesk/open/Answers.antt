use Rattle.std.proofs.Common.{◌<◌, ◌∙◌, ap, refl, rules, length, List}
use Rattle.std.proofs.lemmas.Option.{slice_get-get_or}
use Rattle.gr_desk.specs.Files.{File, file_number}
use Rattle.gr_desk.proofs.Quiet.{opens-quiet}
use Rattle.gr_desk.proofs.never_fails.NeverFailsDesk.open.Goals as goal

pub returns : goal.returns
returns c =
    let within : c.number.result < length c.args.self.now.readings = search rules in
    let was = slice_get-get_or c.args.self.now.readings c.number.result (record { file = c.find_file-file.result; at = 0 }) within in
    record { does = opens-quiet c.args.self.now _ _ c.number.ensures.number _ _ was c.find_file-file.result refl (c.find_file-file.ensures ∙ ap (λ (l : List File). file_number l c.args.name.now) c.deref.ensures.value) }
