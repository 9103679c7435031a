use Rattle.std.proofs.Common.{rules, ◌≡◌, ℤ, ap, sym, ◌∙◌, subst, SFits, w64, to_z, of_z}
use Rattle.std.proofs.lemmas.Int.{to_z-of_z}
use Rattle.grid_graph.specs.declared.grid_parts.GridParts.{GridParts}
use Rattle.grid_graph.specs.Layouts.{layout_of_parts}
use Rattle.ispd_reader.specs.declared.header_stage.HeaderStage.{HeaderStage}
use Rattle.ispd_reader.specs.declared.header_stage.HeaderStage.TheVariants.{Tiles}
use Rattle.ispd_reader.specs.declared.header_stage.LayoutStage.{LayoutStage}
use Rattle.ispd_reader.specs.declared.header_stage.LayoutStage.TheVariants.{Left, Lower, Width}
use Rattle.ispd_reader.specs.HeaderLeft.{header_left}
use Rattle.ispd_reader.specs.HeaderStages.{IsStage, stage_left}
use Rattle.ispd_reader.specs.Views.{header_of}
use Rattle.ispd_reader.proofs.HeaderSteps.{ends_refused_too}
use Rattle.ispd_reader.proofs.header_reader.HeaderReader.take_of_tiles.Goals as goal

pub returns-in_err-self-in-Left-clause-takes : goal.returns-in_err-self-in-Left-clause-takes
unfolding header_left
returns-in_err-self-in-Left-clause-takes c =
    let lists = c.args.self.now.lists in
    let is : c.args.self.now.stage ≡ Tiles c.args.size Left = c.requires ∙ ap (λ (s : LayoutStage). Tiles c.args.size s) c.in-Left.is in
    ends_refused_too c.args.token.now (λ (p : GridParts). header_of (layout_of_parts p)) c.from_residual.result c.in_err-self-in-Left.field-0.0 (stage_left (Tiles c.args.size Left) lists) (header_left c.args.self.now) (header_left c.args.self.now)
    (λ r. ap (λ (s : HeaderStage). stage_left s lists r) is) c.from_residual.ensures.1 (c.in_err-self-in-Left.ensures.takes lists)

pub returns-in_ok-self-in-Left-clause-takes : goal.returns-in_ok-self-in-Left-clause-takes
unfolding header_left
returns-in_ok-self-in-Left-clause-takes c =
    let lists = c.args.self.now.lists in
    let is : c.args.self.now.stage ≡ Tiles c.args.size Left = c.requires ∙ ap (λ (s : LayoutStage). Tiles c.args.size s) c.in-Left.is in
    λ r next. ap (λ (s : HeaderStage). stage_left s lists r) is ∙ c.in_ok-self-in-Left.ensures.takes lists (subst (λ (s : HeaderStage). IsStage s lists) is c.args.self.now.limits) r next

pub returns-in_err-self-in-Lower-clause-takes : goal.returns-in_err-self-in-Lower-clause-takes
unfolding header_left
returns-in_err-self-in-Lower-clause-takes c =
    let lists = c.args.self.now.lists in
    let fits : SFits w64 c.in-Lower.left = search rules in
    let back = to_z w64 (of_z w64 c.in-Lower.left) in
    let is : c.args.self.now.stage ≡ Tiles c.args.size (Lower back) = c.requires ∙ ap (λ (s : LayoutStage). Tiles c.args.size s) c.in-Lower.is ∙ ap (λ (z : ℤ). Tiles c.args.size (Lower z)) (sym (to_z-of_z w64 c.in-Lower.left fits)) in
    ends_refused_too c.args.token.now (λ (p : GridParts). header_of (layout_of_parts p)) c.from_residual-in_err-self-in-Lower.result c.in_err-self-in-Lower.field-0.0 (stage_left (Tiles c.args.size (Lower back)) lists) (header_left c.args.self.now) (header_left c.args.self.now)
    (λ r. ap (λ (s : HeaderStage). stage_left s lists r) is) c.from_residual-in_err-self-in-Lower.ensures.1 (c.in_err-self-in-Lower.ensures.takes lists)

pub returns-in_ok-self-in-Lower-clause-takes : goal.returns-in_ok-self-in-Lower-clause-takes
unfolding header_left
returns-in_ok-self-in-Lower-clause-takes c =
    let lists = c.args.self.now.lists in
    let fits : SFits w64 c.in-Lower.left = search rules in
    let back = to_z w64 (of_z w64 c.in-Lower.left) in
    let is : c.args.self.now.stage ≡ Tiles c.args.size (Lower back) = c.requires ∙ ap (λ (s : LayoutStage). Tiles c.args.size s) c.in-Lower.is ∙ ap (λ (z : ℤ). Tiles c.args.size (Lower z)) (sym (to_z-of_z w64 c.in-Lower.left fits)) in
    λ r next. ap (λ (s : HeaderStage). stage_left s lists r) is ∙ c.in_ok-self-in-Lower.ensures.takes lists (subst (λ (s : HeaderStage). IsStage s lists) is c.args.self.now.limits) r next

pub returns-in_err-self-in-Width-clause-takes : goal.returns-in_err-self-in-Width-clause-takes
unfolding header_left
returns-in_err-self-in-Width-clause-takes c =
    let lists = c.args.self.now.lists in
    let is : c.args.self.now.stage ≡ Tiles c.args.size (Width c.in-Width.origin) = c.requires ∙ ap (λ (s : LayoutStage). Tiles c.args.size s) c.in-Width.is in
    ends_refused_too c.args.token.now (λ (p : GridParts). header_of (layout_of_parts p)) c.from_residual-in_err-self-in-Width.result c.in_err-self-in-Width.field-0.0 (stage_left (Tiles c.args.size (Width c.in-Width.origin)) lists) (header_left c.args.self.now) (header_left c.args.self.now)
    (λ r. ap (λ (s : HeaderStage). stage_left s lists r) is) c.from_residual-in_err-self-in-Width.ensures.1 (c.in_err-self-in-Width.ensures.takes lists)

pub returns-in_ok-self-in-Width-clause-takes : goal.returns-in_ok-self-in-Width-clause-takes
unfolding header_left
returns-in_ok-self-in-Width-clause-takes c =
    let lists = c.args.self.now.lists in
    let is : c.args.self.now.stage ≡ Tiles c.args.size (Width c.in-Width.origin) = c.requires ∙ ap (λ (s : LayoutStage). Tiles c.args.size s) c.in-Width.is in
    λ r next. ap (λ (s : HeaderStage). stage_left s lists r) is ∙ c.in_ok-self-in-Width.ensures.takes lists (subst (λ (s : HeaderStage). IsStage s lists) is c.args.self.now.limits) r next

pub invariant_of-self-in-Lower : goal.invariant_of-self-in-Lower
invariant_of-self-in-Lower c =
    let lists = c.args.self.now.lists in
    let fits : SFits w64 c.in-Lower.left = search rules in
    let back = to_z w64 (of_z w64 c.in-Lower.left) in
    let is : c.args.self.now.stage ≡ Tiles c.args.size (Lower back) = c.requires ∙ ap (λ (s : LayoutStage). Tiles c.args.size s) c.in-Lower.is ∙ ap (λ (z : ℤ). Tiles c.args.size (Lower z)) (sym (to_z-of_z w64 c.in-Lower.left fits)) in
    record { limits = c.in_ok-self-in-Lower.ensures.limits lists (subst (λ (s : HeaderStage). IsStage s lists) is c.args.self.now.limits) }
