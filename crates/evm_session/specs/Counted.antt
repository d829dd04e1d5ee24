-- Cuts and parts as lines of replies.
use Rattle.std.specs.Prelude.{ℕ, ℤ, List, ◌++◌, length, codes, decimal, flat_map}
use Rattle.evm_rows.specs.Rows.{Vertices}
use Rattle.evm_faces.specs.declared.counts.CutFaces.{CutFaces as Counted}
use Rattle.evm_model.specs.Figures.{CutFaces}
use Rattle.evm_model.specs.Replies.{line_of, cut_text, part_text}
use Rattle.evm_formulas.specs.Stated.{figure_of}

-- the faces at a cut, as the model has them
abbrev pub cut_view : Counted → CutFaces
cut_view f = record { at = f.at; rises = f.rises; falls = f.falls }

-- the line of a cut, and those of some
abbrev pub cut_line : Counted → List ℕ
cut_line f = cut_text (cut_view f)

abbrev pub cut_lines : List Counted → List ℕ
cut_lines cuts = flat_map cut_line cuts

-- the reply with these cuts
abbrev pub cuts_reply : List Counted → List ℕ
cuts_reply cuts = line_of (codes "ok " ++ decimal (length cuts)) ++ cut_lines cuts

-- the lines of the part with these extreme vertices, and those of some parts
abbrev pub part_lines : Vertices → List ℕ
part_lines v = part_text (figure_of v)

abbrev pub parts_lines : ℕ → List (List (List ℤ)) → List ℕ
parts_lines n parts = flat_map (λ rows. part_lines (record { dim = n; rows = rows })) parts

-- the reply with these parts
abbrev pub parts_reply : ℕ → List (List (List ℤ)) → List ℕ
parts_reply n parts = line_of (codes "ok " ++ decimal (length parts)) ++ parts_lines n parts
