-- The net that is being read.
use Rattle.std.specs.Prelude.{ℕ, List}
use Rattle.ispd_reader.specs.declared.present_net.PresentNet.{PresentNet}
use Rattle.ispd_reader.specs.Nets.{Net, without_repeats}

-- the net whose pins are at these vertices
abbrev pub net_of_places : PresentNet → List ℕ → Net
net_of_places net places = record { id = net.id; name = net.name; width = net.width; terminals = without_repeats places }
