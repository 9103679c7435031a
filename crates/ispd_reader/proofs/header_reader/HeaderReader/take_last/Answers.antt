use Rattle.std.proofs.Common.{rules, ap, ◌∙◌, subst, w64, SFits}
use Rattle.std.proofs.lemmas.Int.{to_z-of_z}
use Rattle.std.proofs.lemmas.Result.{err_from_is_err_and}
use Rattle.text_scan.proofs.Parts.{Refuses-with}
use Rattle.text_scan.specs.Reading.{past_token}
use Rattle.ispd_reader.specs.declared.header_stage.HeaderStage.{HeaderStage}
use Rattle.ispd_reader.specs.declared.header_stage.HeaderStage.TheVariants.{Tiles}
use Rattle.ispd_reader.specs.declared.header_stage.LayoutStage.TheVariants.{Height}
use Rattle.design_tokens.specs.Parsing.{refusal_in}
use Rattle.ispd_reader.specs.Header.{Header}
use Rattle.ispd_reader.specs.HeaderLeft.{header_left}
use Rattle.ispd_reader.specs.HeaderStages.{IsStage, stage_left}
use Rattle.ispd_reader.specs.LayersRead.{header_with}
use Rattle.design_tokens.specs.Numbers.{side_at}
use Rattle.ispd_reader.proofs.HeaderSteps.{height_read, height_refused}
use Rattle.ispd_reader.proofs.header_reader.HeaderReader.take_last.Goals as goal

pub returns-in_err-height-clause-parts : goal.returns-in_err-height-clause-parts
unfolding header_left
returns-in_err-height-clause-parts c = λ r next.
    let p = err_from_is_err_and c.from_residual.result c.from_residual.ensures.1 in
    let so_far : Header = record (header_with c.args.size c.args.self.now.lists) { origin = c.args.origin } in
    rw (p.1, p.2) (Refuses-with refusal_in c.in_err-height.field-0.0 (side_at r) (header_left c.args.self.now r)
    (λ fault is. ap (λ (s : HeaderStage). stage_left s c.args.self.now.lists r) c.requires ∙ height_refused so_far c.args.width r fault is)
    (c.in_err-height.ensures.side r next))

pub returns-clause-parts : goal.returns-clause-parts
unfolding header_left
returns-clause-parts c = λ r next.
    let so_far : Header = record (header_with c.args.size c.args.self.now.lists) { origin = c.args.origin } in
    let fits : SFits w64 c.in_ok-height.height = search rules in
    rw (c.replace-lists.ensures.value, to_z-of_z w64 c.args.width c.ranges.width, to_z-of_z w64 c.in_ok-height.height fits)
    (ap (λ (s : HeaderStage). stage_left s c.args.self.now.lists r) c.requires ∙ height_read so_far c.args.width c.in_ok-height.height r (past_token r) (c.in_ok-height.ensures.side r next))

pub returns-clause-limits : goal.returns-clause-limits
returns-clause-limits c =
    let lists = c.args.self.now.lists in
    let kept : IsStage (Tiles c.args.size (Height c.args.origin c.args.width)) lists = subst (λ (s : HeaderStage). IsStage s lists) c.requires c.args.self.now.limits in
    let fits : SFits w64 c.in_ok-height.height = search rules in
    rw (c.replace-lists.ensures.value, to_z-of_z w64 c.args.width c.ranges.width, to_z-of_z w64 c.in_ok-height.height fits) (record {
      along_y = record { long = kept.lists.vertical; within = kept.lists.along_y };
      along_x = record { long = kept.lists.horizontal; within = kept.lists.along_x };
      wide = record { long = kept.lists.widths; within = kept.lists.wide };
      spaced = record { long = kept.lists.spacings; within = kept.lists.spaced };
      least_demand = λ l lt. kept.lists.least_demand l (rw kept.lists.spacings lt);
      greatest_demand = λ l lt. kept.lists.greatest_demand l (rw kept.lists.spacings lt);
      left = kept.left;
      lower = kept.lower;
      tile_width = kept.width;
      tile_height = c.in_ok-height.ensures.size;
    })
