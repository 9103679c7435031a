-- What labels of masks tell.
use Rattle.grid_base.specs.declared.size.Size.{Size}
use Rattle.dijkstra_steiner.specs.declared.mask_labels.MaskLabels.{MaskLabels}

-- the size of the flat grid that they are of
abbrev pub mask_labels_size : MaskLabels → Size
mask_labels_size l = l.stack.flat
