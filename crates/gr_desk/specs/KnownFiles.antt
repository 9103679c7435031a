-- Which files of the system a store knows.
use Rattle.std.specs.Prelude.{ℕ, List}
use Rattle.std.specs.List.{Contains}
use Rattle.gr_desk.specs.declared.file_id.FileId.{FileId}

-- how many it has room for
abbrev pub MOST : ℕ
MOST = 10

-- no file is forgotten
abbrev pub KeepsKnown : List FileId → List FileId → Type 0
KeepsKnown before after = (file : FileId) → Contains before file → Contains after file
