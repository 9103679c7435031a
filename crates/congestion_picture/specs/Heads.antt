-- What stands above the maps.
use Rattle.std.specs.Prelude.{ℕ, ◌+◌, ◌==◌, ◌&&◌, ◌||◌, List, [], ◌∷◌, ◌++◌, codes, cond, decimal, ltb}
use Rattle.cert_text.specs.CertText.{fraction_text}
use Rattle.tree_set.specs.declared.measure.Measure.{Measure}
use Rattle.congestion_cells.specs.declared.shown_layers.ShownLayers.{ShownLayers}

-- a byte of a name, so that it is no part of the mark-up: `&`, `<` and `>` by their entities, and bytes below 32 as blanks
abbrev pub escaped_byte : ℕ → List ℕ
escaped_byte b =
    cond (b == 38) (codes "&amp;") (cond (b == 60) (codes "&lt;") (cond (b == 62) (codes "&gt;") (cond (ltb b 32) (codes " ") (b ∷ []))))

-- a byte of a name behind the two before it: where the three are U+FFFE or U+FFFF in UTF-8, which XML doesn't allow, they become U+FFFD
abbrev pub allowed_byte : ℕ → ℕ → ℕ → ℕ
allowed_byte before last b = cond ((before == 239) && (last == 191) && ((b == 190) || (b == 191))) 189 b

-- the rest of a name behind two bytes of it
abbrev pub escaped_behind : ℕ → ℕ → List ℕ → List ℕ
escaped_behind before last [] = []
escaped_behind before last (b ∷ rest) = escaped_byte (allowed_byte before last b) ++ escaped_behind last b rest

-- a name, so that it is text of an XML document
abbrev pub escaped : List ℕ → List ℕ
escaped name = escaped_behind 0 0 name

-- a width and a height, each behind a text
abbrev pub sized : List ℕ → ℕ → List ℕ → ℕ → List ℕ
sized before width between height = before ++ decimal width ++ between ++ decimal height

-- the begin of a picture of so many units, with the name as its title
abbrev pub head_text : List ℕ → ℕ → ℕ → List ℕ
head_text name width height =
    codes "<?xml version=\"1.0\" encoding=\"UTF-8\"?>\n<svg xmlns=\"http://www.w3.org/2000/svg\" version=\"1.1\""
    ++ sized (codes " width=\"") width (codes "\" height=\"") height
    ++ sized (codes "\" viewBox=\"0 0 ") width (codes " ") height
    ++ codes "\" font-family=\"sans-serif\" font-size=\"14\" fill=\"#222\">\n<title>"
    ++ escaped name
    ++ sized (codes "</title>\n<rect width=\"") width (codes "\" height=\"") height
    ++ codes "\" fill=\"#fff\"/>\n<text x=\"20\" y=\"34\" font-size=\"20\">"
    ++ escaped name
    ++ codes "</text>\n"

-- how many tiles a side of a cell has, where these are several
abbrev pub side_text : ℕ → List ℕ
side_text side = cond (ltb 1 side) (codes "; the fullest of " ++ decimal side ++ codes " by " ++ decimal side ++ codes " tiles in each cell") []

-- what is measured of the routes, and which layers are shown; in texts these count from 1
abbrev pub facts_text : Measure → ShownLayers → ℕ → List ℕ
facts_text m shown side =
    codes "<text x=\"20\" y=\"58\">overflow " ++ decimal m.overflow ++ codes ", wirelength " ++ decimal m.wirelength
    ++ codes ", peak " ++ fraction_text m.peak
    ++ codes "</text>\n<text x=\"20\" y=\"78\">load by capacity on layers " ++ decimal (shown.first + 1)
    ++ codes " to " ++ decimal (shown.first + shown.count) ++ side_text side ++ codes "</text>\n"
