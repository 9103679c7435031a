-- What a design's reader was fed of a file.
use Rattle.std.specs.Prelude.{ℕ, List}
use Rattle.gr_desk.specs.declared.port.Port.TheVariants.{In}
use Rattle.gr_desk.specs.Runs.{Takes}
use Rattle.gr_desk.specs.Told.{Told}
use Rattle.ispd_reader.specs.declared.reader.Reader.{Reader}
use Rattle.ispd_reader.specs.Readers.{HasRead}

-- some bytes were read at the port of the design, and a reader was fed these bytes and no others
pub record IsFed (before after : Told) (reader : Reader) : Type 0 where
  pub bytes : List ℕ
  pub taken : Takes before after In bytes
  pub read : HasRead reader bytes
