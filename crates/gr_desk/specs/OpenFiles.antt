-- The files that a desk over files has open.
use Rattle.std.specs.Prelude.{◌≡◌, ◌≢◌, ℕ, List, IsSomeAnd, IsErr, is_some, Result, OnOk, OnErr, option_and_then}
use Rattle.std.specs.declared.option.Option.{Option}
use Rattle.gr_desk.specs.declared.port.Port.{Port}
use Rattle.gr_desk.specs.declared.port.Port.TheVariants.{In, RoutesIn, CertIn, EditsIn, RoutesOut, CertOut, DesignOut, GuideOut, MapOut, Report}
use Rattle.gr_desk.specs.declared.open_files.OpenFiles.{OpenFiles}

-- the file that is open at a port
abbrev pub file_at : {F : Type 0} → OpenFiles F → Port → Option F
file_at files In = files.input
file_at files RoutesIn = files.routes_in
file_at files CertIn = files.cert_in
file_at files EditsIn = files.edits_in
file_at files RoutesOut = files.routes_out
file_at files CertOut = files.cert_out
file_at files DesignOut = files.design_out
file_at files GuideOut = files.guide_out
file_at files MapOut = files.map_out
file_at files Report = files.report

-- the files with another one, or none, at a port
abbrev pub with_file : {F : Type 0} → OpenFiles F → Port → Option F → OpenFiles F
with_file files In file = record files { input = file }
with_file files RoutesIn file = record files { routes_in = file }
with_file files CertIn file = record files { cert_in = file }
with_file files EditsIn file = record files { edits_in = file }
with_file files RoutesOut file = record files { routes_out = file }
with_file files CertOut file = record files { cert_out = file }
with_file files DesignOut file = record files { design_out = file }
with_file files GuideOut file = record files { guide_out = file }
with_file files MapOut file = record files { map_out = file }
with_file files Report file = record files { report = file }

-- what the file at a port tells, where there is one that tells it
abbrev pub told_at : {F : Type 0} → (F → Option (List ℕ)) → OpenFiles F → Port → Option (List ℕ)
told_at told files port = option_and_then told (file_at files port)

-- the other ports keep their files
abbrev pub KeepsOtherFiles : {F : Type 0} → OpenFiles F → OpenFiles F → Port → Type 0
KeepsOtherFiles before after port = (p : Port) → p ≢ port → file_at after p ≡ file_at before p

-- an open or a create: where it is Ok the port has a file of that call, where it failed no file changed, and it fails at the report
pub record GivesFile {F T E : Type 0} (before after : OpenFiles F) (port : Port) (IsOfCall : F → Type 0) (result : Result T E) : Type 0 where
  pub ok : OnOk result (IsSomeAnd (file_at after port) IsOfCall)
  pub err : OnErr result (after ≡ before)
  pub others : KeepsOtherFiles before after port
  pub report : port ≡ Report → IsErr result

-- a read or a write: a port has a file afterwards where it had one
pub record KeepsFiles {F : Type 0} (before after : OpenFiles F) (port : Port) : Type 0 where
  pub still : is_some (file_at after port) ≡ is_some (file_at before port)
  pub others : KeepsOtherFiles before after port
