-- The text of a report on a solid.
use Rattle.std.specs.Prelude.{ℕ, ℤ, List, map, codes}
use Rattle.serde_json.specs.Data.{Data, number, unsigned, string, array, object, member, no_members}
use Rattle.serde_json.specs.Find.{of_integer}
use Rattle.serde_json.specs.View.{items_of}
use Rattle.serde_json.specs.Written.{compact_text}
use Rattle.evm_report.specs.declared.Report.{Report}

-- what a report says: texts, numbers and lists of them
pub record Facts : Type 0 where
  pub name : List ℕ
  pub kind : List ℕ
  pub operands : List (List ℕ)
  pub dim : ℕ
  pub vertices : ℕ
  pub content : List ℕ
  pub boundary : List ℕ
  pub parts : ℕ
  pub low : List ℤ
  pub high : List ℤ

-- those of a report
abbrev pub facts_of : Report → Facts
facts_of r = record {
  name = r.name.now;
  kind = r.kind.now;
  operands = map (λ n. n.now) r.operands.now;
  dim = r.dim;
  vertices = r.vertices;
  content = r.content.now;
  boundary = r.boundary.now;
  parts = r.parts;
  low = r.low.now;
  high = r.high.now;
}

-- a coordinate, and a list of them
abbrev pub coordinate : ℤ → Data
coordinate z = number (of_integer z)

abbrev pub coordinates : List ℤ → Data
coordinates zs = array (items_of (map coordinate zs))

abbrev pub names : List (List ℕ) → Data
names ns = array (items_of (map string ns))

-- the members of the object, by their keys
abbrev pub report_data : Facts → Data
report_data f = object
    (member (codes "boundary") (string f.boundary)
    (member (codes "content") (string f.content)
    (member (codes "dim") (number (unsigned f.dim))
    (member (codes "high") (coordinates f.high)
    (member (codes "kind") (string f.kind)
    (member (codes "low") (coordinates f.low)
    (member (codes "name") (string f.name)
    (member (codes "operands") (names f.operands)
    (member (codes "parts") (number (unsigned f.parts))
    (member (codes "vertices") (number (unsigned f.vertices)) no_members))))))))))

-- one line without spaces
unfoldable pub report_text : Facts → List ℕ
report_text f = compact_text (report_data f)
