-- Replies and their bytes.
use Rattle.std.specs.Prelude.{ℕ, ℤ, Bool, true, false, if◌then◌else◌, List, [], ◌∷◌, ◌++◌, length, codes, decimal, map, flat_map}
use Rattle.std.specs.List.{join_with_byte}
use Rattle.std.specs.Fmt.{signed_decimal}
use Rattle.evm_model.specs.Figures.{Figure, Place, Inside, Boundary, Outside, CutFaces, vertices_in, content_of}
use Rattle.evm_report.specs.Report.{Facts, report_text}
use Rattle.evm_script.specs.Printed.{formula_words}
use Rattle.evm_model.specs.Scene.{Entry, What, Given, Made}
use Rattle.evm_model.specs.Edits.{Code, Line, Syntax, Name, Meter, Taken, Kind, Used, Cycle, Dim, Range, Missing, Shelf, Form, Memory}

-- nothing, a refusal, that it is done, how many names changed, a figure, a measure or a reading, whether a cell is filled, the
-- place of a point, the faces at the cuts of an axis, the parts of a figure, a report, or the names
pub data Reply : Type 0 where
  Empty : Reply
  No : Code → Reply
  Done : Reply
  Changed : ℕ → Reply
  Shown : Figure → Reply
  Measured : ℕ → Reply
  Filled : Bool → Reply
  Placed : Place → Reply
  Faced : List CutFaces → Reply
  Parted : List Figure → Reply
  Reported : Facts → Reply
  Listed : List Entry → Reply

-- the word of a code
abbrev pub code_text : Code → List ℕ
code_text Line = codes "line"
code_text Syntax = codes "syntax"
code_text Name = codes "name"
code_text Meter = codes "meter"
code_text Taken = codes "taken"
code_text Kind = codes "kind"
code_text Used = codes "used"
code_text Cycle = codes "cycle"
code_text Dim = codes "dim"
code_text Range = codes "range"
code_text Missing = codes "missing"
code_text Shelf = codes "shelf"
code_text Form = codes "form"
code_text Memory = codes "memory"

-- the word of a place
abbrev pub place_text : Place → List ℕ
place_text Inside = codes "inside"
place_text Boundary = codes "boundary"
place_text Outside = codes "outside"

-- a text with LF at its end
abbrev pub line_of : List ℕ → List ℕ
line_of text = text ++ 10 ∷ []

-- numbers with one space between them
abbrev pub spaced : List ℤ → List ℕ
spaced numbers = join_with_byte 32 (map signed_decimal numbers)

-- one line a row
abbrev pub rows_text : List (List ℤ) → List ℕ
rows_text rows = flat_map (λ row. line_of (spaced row)) rows

-- the line of a cut: its height, how much rises and how much falls
abbrev pub cut_text : CutFaces → List ℕ
cut_text f = line_of (signed_decimal f.at ++ 32 ∷ decimal f.rises ++ 32 ∷ decimal f.falls)

-- one line a cut
abbrev pub cuts_text : List CutFaces → List ℕ
cuts_text faces = flat_map cut_text faces

-- a part: a line with the number of its extreme vertices and its content, and its extreme vertices, one line each
abbrev pub part_text : Figure → List ℕ
part_text a = line_of (codes "part " ++ decimal (length (vertices_in a)) ++ 32 ∷ decimal (content_of a)) ++ rows_text (vertices_in a)

-- one after another
abbrev pub parts_text : List Figure → List ℕ
parts_text parts = flat_map part_text parts

-- the words of what a name stands for: `input`, or those of its formula
abbrev pub what_words : What → List (List ℕ)
what_words (Given cells) = codes "input" ∷ []
what_words (Made formula) = formula_words formula

-- the words of an entry: its name, its dimension, and what it stands for
abbrev pub entry_words : Entry → List (List ℕ)
entry_words e = e.name ∷ decimal e.dim ∷ what_words e.what

-- one line an entry
abbrev pub entries_text : List Entry → List ℕ
entries_text entries = flat_map (λ (e : Entry). line_of (join_with_byte 32 (entry_words e))) entries

-- the bytes of a reply
unfoldable pub reply_text : Reply → List ℕ
reply_text Empty = []
reply_text (No code) = line_of (codes "no " ++ code_text code)
reply_text Done = line_of (codes "ok")
reply_text (Changed n) = line_of (codes "ok " ++ decimal n)
reply_text (Shown a) = line_of (codes "ok " ++ decimal a.dim ++ 32 ∷ decimal (length (vertices_in a)))
    ++ rows_text (vertices_in a)
reply_text (Measured n) = line_of (codes "ok " ++ decimal n)
reply_text (Filled full) = line_of (codes "ok " ++ (if full then codes "filled" else codes "empty"))
reply_text (Placed place) = line_of (codes "ok " ++ place_text place)
reply_text (Faced faces) = line_of (codes "ok " ++ decimal (length faces)) ++ cuts_text faces
reply_text (Parted parts) = line_of (codes "ok " ++ decimal (length parts)) ++ parts_text parts
reply_text (Reported facts) = line_of (codes "ok " ++ report_text facts)
reply_text (Listed entries) = line_of (codes "ok " ++ decimal (length entries)) ++ entries_text entries

-- whether a reply refuses
abbrev pub is_no : Reply → Bool
is_no Empty = false
is_no (No code) = true
is_no Done = false
is_no (Changed n) = false
is_no (Shown a) = false
is_no (Measured n) = false
is_no (Filled full) = false
is_no (Placed place) = false
is_no (Faced faces) = false
is_no (Parted parts) = false
is_no (Reported facts) = false
is_no (Listed entries) = false
