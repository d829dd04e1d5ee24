-- What meters measure, and what they are handed of a solid that changes.
use Rattle.std.specs.Prelude.{ℕ, ◌≡◌, ◌+◌, ◌-◌, ◌^◌, Bool, true, nat_lt, ℤ, List, Option, None, Some}
use Rattle.evm_cells.specs.Limits.{IsCellSet}
use Rattle.evm_cells.specs.Booleans.{sub_cells}
use Rattle.evm_cells.specs.Vertices.{cells}
use Rattle.evm_cells.specs.Shapes.{clip}
use Rattle.evm_cells.specs.Localities.{Measure, Content, Boundary, VertexCount, measure, HoldsChange}
use Rattle.evm_rows.specs.Rows.{Vertices}
use Rattle.evm_meter.specs.declared.meter.Kind.{Kind}
use Rattle.evm_meter.specs.declared.meter.Kind.TheVariants as kinds

-- the measure of a kind
abbrev pub measure_named : Kind → Measure
measure_named kinds.Content = Content
measure_named kinds.Boundary = Boundary
measure_named kinds.Vertices = VertexCount

-- the measure of the cells that vertices stand for
abbrev pub measured : Measure → Vertices → ℕ
measured kind a = measure kind a.dim (cells a.dim a.rows)

-- the cells that the one has and the other has not
abbrev pub IsLess : Vertices → Vertices → Vertices → Type 0
IsLess a b difference =
    (difference.dim ≡ a.dim) × (cells difference.dim difference.rows ≡ sub_cells a.dim (cells a.dim a.rows) (cells b.dim b.rows))

-- a solid changes: a box has every cell within 1 of those that change, `before` and `after` are the parts of the solid inside the box
-- before and after the change, and the reading is that of the whole solid before it
pub record IsNearChange (kind : Measure) (reading : Option ℕ) (before after : Vertices) : Type 0 where
  pub whole : List (List ℤ)
  pub changed : List (List ℤ)
  pub lo : List ℤ
  pub hi : List ℤ
  pub whole_cells : IsCellSet before.dim whole
  pub changed_cells : IsCellSet before.dim changed
  pub holds : HoldsChange before.dim lo hi whole changed
  pub same : after.dim ≡ before.dim
  pub part : cells before.dim before.rows ≡ clip before.dim lo hi whole
  pub part_after : cells after.dim after.rows ≡ clip before.dim lo hi changed
  pub read : reading ≡ Some (measure kind before.dim whole)

-- the reading after a change: more by the measure of the part after it, less by that of the part before it
abbrev pub moved_by : Measure → Vertices → Vertices → Option ℕ → Option ℕ
moved_by kind before after None = None
moved_by kind before after (Some n) = Some (n + measured kind after - measured kind before)

-- whether a reading fits into 128 bits with a sign
abbrev pub is_few : Option ℕ → Bool
is_few None = true
is_few (Some n) = nat_lt n (2 ^ 127)
