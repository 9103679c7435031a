-- Designs that are not near, and what was read of them.
use Rattle.std.proofs.Common.{◌≡◌, ◌*◌, ℕ, List, [], ◌∷◌, true≢false, refl, sym, ◌∙◌, ap, subst, Ok, Err, Some, inl, inr, pos, ◌+ℤ◌, ◌≤ℤ◌, nat_abs}
use Rattle.std.specs.Prelude.{Result, IsErrAnd, is_ok}
use Rattle.gr_desk.specs.declared.port.Port.TheVariants.{In, RoutesIn}
use Rattle.gr_desk.specs.Told.{Told}
use Rattle.grid_base.specs.Numbers.{cols, rows}
use Rattle.grid_graph.specs.declared.design.Design.{Design}
use Rattle.grid_graph.specs.declared.ground_error.GroundError.{GroundError}
use Rattle.grid_graph.specs.Borders.{HasBordersInRange}
use Rattle.grid_graph.specs.Grounds.{AreGrounds, IsFirstGroundError}
use Rattle.grid_graph.specs.Layouts.{Layout}
use Rattle.grid_graph.specs.Limits.{max_number}
use Rattle.ispd_reader.specs.Designs.{IsDesignOfText}
use Rattle.ispd_reader.proofs.Alike.{one_design}
use Rattle.command_runs.specs.declared.refusal.Refusal.{Refusal}
use Rattle.command_runs.specs.declared.refusal.Refusal.TheVariants.{Input, Unread}
use Rattle.command_runs.specs.Refusals.{IsCauseAt, IsRefusedAt}
use Rattle.command_runs.specs.Sources.{HasBytes, design_source}
use Rattle.command_runs.specs.Steps.{IsOfReading, ReadsFile, ReadsSources, of_ground_error}
use Rattle.command_runs.proofs.Bytes.{of_told, has-since}
use Rattle.command_runs.proofs.ReadDesigns.{design-cut_off, design-grounded}
use Rattle.command_runs.proofs.ReadFiles.{file-failed, sources-early, sources-failed, sources-passed, sources-then}
use Rattle.judge_cli.proofs.JudgedRuns.{in-apart}
use Rattle.command_runs.specs.JudgedTexts.{blocks_or_refusal}
use Rattle.route_judge.specs.Limits.{AreBlocks}
use Rattle.command_runs.specs.declared.grounded_design.GroundedDesign.{GroundedDesign}
use Rattle.judge_cli.specs.declared.routed_input.RoutedInput.{RoutedInput}
use Rattle.guide_cli.specs.declared.near_design.NearDesign.{NearDesign}
use Rattle.guide_cli.specs.declared.near_design.NearDesign.TheVariants.{Near, Far}
use Rattle.guide_cli.specs.declared.guided_input.GuidedInput.{GuidedInput}
use Rattle.guide_cli.specs.declared.guided_input.GuidedInput.TheVariants as inputs
use Rattle.guide_cli.specs.NearDesigns.{NamesFarDesign, IsNearDesignOf, IsNotForFar, ReadsNear, IsReadInput, ReadsInput}

-- designs of one text are near alike
near_alike : (text : List ℕ) (d e : Design) → IsDesignOfText text d → IsDesignOfText text e → HasBordersInRange d.grid → HasBordersInRange e.grid
near_alike text d e named other near =
    let same = (one_design text d e named other).grids.layout in
    record {
      right = subst (λ (y : Layout). (y.origin.0 +ℤ pos (cols y.size * nat_abs y.tile.0)) ≤ℤ pos max_number) same near.right;
      upper = subst (λ (y : Layout). (y.origin.1 +ℤ pos (rows y.size * nat_abs y.tile.1)) ≤ℤ pos max_number) same near.upper;
    }

pub not_far : (text : List ℕ) (d : Design) → IsDesignOfText text d → HasBordersInRange d.grid → ¬ NamesFarDesign text
not_far text d named near far = far.2 (near_alike text d far.0 named far.1 near)

-- where the design is near, the desk tells no other one
pub never_far : (name : List ℕ) (told : Told) (d : Design) → HasBytes told.files name (λ bytes. IsDesignOfText bytes d) → HasBordersInRange d.grid → (bytes : List ℕ) → told.files name ≡ Some bytes → ¬ NamesFarDesign bytes
never_far name told d named near bytes under far = not_far named.bytes d named.is_so near (subst NamesFarDesign (sym (named.are_told bytes under)) far)

-- what a file is refused for when it is read
read_for_far : (name : List ℕ) (a b : Told) (r : Refusal) → IsOfReading r → IsCauseAt (record { port = In; name = name }) a b r → IsNotForFar name a r
read_for_far name a b r (inl (fault, is)) cause bytes under far =
    let why = subst (IsCauseAt (record { port = In; name = name }) a b) is cause in
    let refused = of_told (λ text. IsRefusedAt In text (Input fault)) why bytes under in
    let clash : Err fault ≡ Ok far.1.contents = sym refused ∙ far.1.read in absurd (cc clash)
read_for_far name a b r (inr other) cause bytes under far = other

pub near-failed : {T : Type 0} (name : List ℕ) (a b : Told) (r : Result T Refusal) (x : Result NearDesign Refusal) (e : Refusal) → r ≡ Err e → IsErrAnd x (λ y. y ≡ e) → IsOfReading e
    → ReadsFile (record { port = In; name = name }) a b r → ReadsNear name a b x
near-failed name a b r (Ok found) e failed answered early read = absurd answered
near-failed name a b r (Err y) e failed answered early read =
    let same : e ≡ y = sym answered in (
      sources-failed (Err y) e failed answered (file-failed r failed read),
      subst (IsNotForFar name a) same (read_for_far name a b e early (read.refused e failed)),
    )

-- a value is no error
no_error : {U : Type 0} (u : U) (e : Refusal) → ◌≡◌ {A = Result U Refusal} (Ok u) (Err e) → ⊥
no_error u e same = true≢false (ap is_ok same)

-- a design that is not near was read
pub near-far : {T : Type 0} {v : T} (name : List ℕ) (a b : Told) → ReadsFile (record { port = In; name = name }) a b (Ok v) → ReadsNear name a b (Ok Far)
near-far {v = v} name a b read = (read.reads, read.quiet (no_error v Unread))

-- a near one whose nets have no grounds
pub near-cut_off : (name : List ℕ) (a b : Told) (d : Design) (x : Result NearDesign Refusal) (e : GroundError) → ReadsFile (record { port = In; name = name }) a b (Ok d)
    → HasBytes a.files name (λ bytes. IsDesignOfText bytes d) → HasBordersInRange d.grid → IsFirstGroundError d.grid d.nets e → IsErrAnd x (λ y. y ≡ of_ground_error e)
    → ReadsNear name a b x
near-cut_off name a b d (Ok found) e read named near cause answered = absurd answered
near-cut_off name a b d (Err y) e read named near cause answered = (
  design-cut_off {T = Unit {0}} (Err y) e read named cause answered,
  λ bytes under far. absurd (never_far name a d named near bytes under far),
)

-- and one whose nets have
pub near-grounded : (name : List ℕ) (a b : Told) (d : Design) (g : GroundedDesign) → ReadsFile (record { port = In; name = name }) a b (Ok d)
    → HasBytes a.files name (λ bytes. IsDesignOfText bytes d) → g.design ≡ d → AreGrounds g.design.grid g.design.nets g.grounds.items
    → ReadsNear name a b (Ok (Near g))
near-grounded name a b d g read named same grounds = sources-passed tt (design-grounded g read named same grounds)

-- what was read is that of the bytes
pub far-is_near_of : (name : List ℕ) (a : Told) (d : Design) → HasBytes a.files name (λ bytes. IsDesignOfText bytes d) → ¬ HasBordersInRange d.grid
    → HasBytes a.files name (λ bytes. IsNearDesignOf bytes Far)
far-is_near_of name a d named far = record { bytes = named.bytes; is_so = (d, named.is_so, far); are_told = named.are_told }

-- ---- and then the routes

pub input-failed : (input routes : List ℕ) (a b : Told) (x : Result GuidedInput Refusal) (e : Refusal) → IsErrAnd x (λ y. y ≡ e) → ReadsNear input a b (Err e) → ReadsInput input routes a b x
input-failed input routes a b (Ok found) e answered near = absurd answered
input-failed input routes a b (Err y) e answered near =
    let same : e ≡ y = sym answered in
    subst (λ (r : Refusal). ReadsInput input routes a b (Err r)) same (
      sources-early {T = Unit {0}} (design_source input) (record { port = RoutesIn; name = routes } ∷ []) (Err e) (in-apart input routes) refl near.0,
      near.1,
    )

abbrev HasNear : List ℕ → Told → GroundedDesign → Type 0
HasNear input told g = HasBytes told.files input (λ bytes. IsNearDesignOf bytes (Near g))

named_of : (input : List ℕ) (told : Told) (g : GroundedDesign) → HasNear input told g → HasBytes told.files input (λ bytes. IsDesignOfText bytes g.design)
named_of input told g has = record { bytes = has.bytes; is_so = has.is_so.0; are_told = has.are_told }

pub routes-failed : {T : Type 0} (input routes : List ℕ) (a b c : Told) (g : GroundedDesign) (r : Result T Refusal) (x : Result GuidedInput Refusal) (e : Refusal)
    → r ≡ Err e → IsErrAnd x (λ y. y ≡ e) → HasNear input a g → ReadsNear input a b (Ok (Near g)) → ReadsSources (record { port = RoutesIn; name = routes } ∷ []) b c r
    → ReadsInput input routes a c x
routes-failed input routes a b c g r (Ok found) e failed answered has near read = absurd answered
routes-failed input routes a b c g r (Err y) e failed answered has near read = (
  sources-then (design_source input) (record { port = RoutesIn; name = routes } ∷ []) (Err y) (in-apart input routes) near (sources-failed (Err y) e failed answered read),
  λ bytes under far. absurd (never_far input a g.design (named_of input a g has) has.is_so.2 bytes under far),
)

pub input-read : {T : Type 0} {v : T} (input routes : List ℕ) (a b c : Told) (r : RoutedInput) → ReadsNear input a b (Ok (Near r.grounded))
    → ReadsSources (record { port = RoutesIn; name = routes } ∷ []) b c (Ok v) → ReadsInput input routes a c (Ok (inputs.Routes r))
input-read input routes a b c r near read =
    sources-then (design_source input) (record { port = RoutesIn; name = routes } ∷ []) (Ok tt) (in-apart input routes) near (sources-passed tt read)

pub is-read : (input routes : List ℕ) (a b : Told) (r : RoutedInput) → HasNear input a r.grounded → ReadsNear input a b (Ok (Near r.grounded))
    → HasBytes b.files routes (λ bytes. blocks_or_refusal bytes ≡ Ok r.blocks) → AreBlocks r.blocks → IsReadInput input routes a (inputs.Routes r)
is-read input routes a b r has near blocks judged = (
  record { named = named_of input a r.grounded has; grounds = has.is_so.1; blocks_are = has-since near.reads.files blocks },
  judged,
  has.is_so.2,
)
