-- The files of a run: the design, the routes and the certificate of a cut, and the map.
use Rattle.std.specs.Prelude.{ℕ, List, [], ◌∷◌, Option, Some, None}
use Rattle.cert_text.specs.declared.cert.Cert.{Cert}
use Rattle.command_runs.specs.Sources.{Source}
use Rattle.command_words.specs.MapLine.{MapFormTask, MapTask, PictureTask, TableTask}
use Rattle.gr_desk.specs.declared.port.Port.TheVariants.{In, RoutesIn, CertIn, MapOut}
use Rattle.gr_desk.specs.Told.{Told}
use Rattle.judge_cli.specs.JudgeRun.{IsReadCert}

-- the certificate whose cut is shown: a picture may have one
abbrev pub cut_of : MapFormTask → Option (List ℕ)
cut_of (PictureTask cut greater) = cut
cut_of (TableTask layers) = None

abbrev pub cut_source : Option (List ℕ) → List Source
cut_source None = []
cut_source (Some name) = record { port = CertIn; name = name } ∷ []

-- what it reads, in this order
abbrev pub map_sources : MapTask → List Source
map_sources q = record { port = In; name = q.input } ∷ record { port = RoutesIn; name = q.routes } ∷ cut_source (cut_of q.form)

-- the file that it makes
abbrev pub map_files : MapTask → List Source
map_files q = record { port = MapOut; name = q.map } ∷ []

-- the certificate that the bytes of the file have, where one is asked for
abbrev pub IsCutRead : Option (List ℕ) → Told → Option Cert → Type 0
IsCutRead None told None = Unit {0}
IsCutRead None told (Some cert) = ⊥
IsCutRead (Some name) told None = ⊥
IsCutRead (Some name) told (Some cert) = IsReadCert name told cert
