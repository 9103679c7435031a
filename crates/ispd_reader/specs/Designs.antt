-- The design that a text names.
use Rattle.std.specs.Prelude.{◌≡◌, ℕ, List, length, map, if◌then◌else◌, nat_lt, Result, Ok, Err, unwrap_or}
use Rattle.grid_graph.specs.declared.design.Design.{Design}
use Rattle.grid_graph.specs.Grids.{layout_of, capacity, first_capacity}
use Rattle.design_tokens.specs.declared.input_fault.InputFault.{InputFault}
use Rattle.design_tokens.specs.declared.input_fault.InputFault.TheVariants.{TooLong}
use Rattle.ispd_reader.specs.Limits.{max_bytes}
use Rattle.text_scan.specs.Reading.{whole}
use Rattle.design_tokens.specs.Parsing.{Reading, ◌>>=◌}
use Rattle.ispd_reader.specs.Header.{Header, header_at}
use Rattle.ispd_reader.specs.Nets.{Net, nets_at}
use Rattle.ispd_reader.specs.Views.{header_of, net_of}
use Rattle.ispd_reader.specs.Adjustments.{Adjustment, adjustments_at, last_level}

-- what a text says, in the order of its parts
pub record Contents : Type 0 where
  pub header : Header
  pub nets : List Net
  pub adjustments : List Adjustment

-- all parts of a text; what comes after the last adjustment is ignored
unfoldable pub contents_at : Reading → Result Contents InputFault
contents_at r = do
  header ← header_at r
  nets ← nets_at header.0 header.1
  adjustments ← adjustments_at header.0.extent nets.1
  Ok (record { header = header.0; nets = nets.0; adjustments = adjustments.0 })

-- what a text that isn't too long says, or its first refusal in the order of reading
abbrev pub contents_of : List ℕ → Result Contents InputFault
contents_of text = if nat_lt max_bytes (length text) then Err TooLong else contents_at (whole text)

-- a design is what a text says: the header, the capacities by the last adjustment of each edge, and the nets
pub record IsDesignOf (d : Design) (c : Contents) : Type 0 where
  pub header : header_of (layout_of d.grid) ≡ c.header
  pub capacities : (e : ℕ) → capacity d.grid e ≡ unwrap_or (last_level e c.adjustments) (first_capacity d.grid e)
  pub nets : map net_of d.nets ≡ c.nets

-- the text names this design: there is no refusal of it, and the design is what it says
pub record IsDesignOfText (text : List ℕ) (d : Design) : Type 0 where
  pub contents : Contents
  pub read : contents_of text ≡ Ok contents
  pub says : IsDesignOf d contents
