use Rattle.std.proofs.Common.{get_or, arith}
use Rattle.std.proofs.lemmas.List.Elements.{All-contains}
use Rattle.std.proofs.lemmas.Option.{slice_get-get_or}
use Rattle.std.specs.Prelude.{IsTrue}
use Rattle.grid_base.proofs.Lists.{member_from_place}
use Rattle.grid_graph.specs.declared.net_spec.NetSpec.{NetSpec}
use Rattle.grid_graph.proofs.Grounds.{at_place}
use Rattle.text_scan.specs.Tokens.{is_word}
use Rattle.guide_text.proofs.InRange.{guide_in_range}
use Rattle.guide_text.proofs.ReadBack.{guides_read_back}
use Rattle.ispd_reader.proofs.NetNames.{design_named}
use Rattle.guide_cli.proofs.laws.guides_of_designs_read_back.Goals as goal

pub returns : goal.returns
returns c text d trees guides named near long are = guides_read_back guides (λ k other below.
    let n = at_place d.nets k (omega (arith, below, are.long)) in
    let tree = at_place trees k (omega (arith, below, are.long, long)) in
    guide_in_range d.grid n.0 tree.0 (get_or guides k other) near (d.limits.net k n.0 n.1)
    (All-contains (λ (m : NetSpec). IsTrue (is_word m.name)) d.nets n.0 (design_named text d named) (member_from_place d.nets k n.0 n.1))
    (are.each k n.0 tree.0 (get_or guides k other) n.1 tree.1 (slice_get-get_or guides k other below)))
