-- Bodies by extreme vertices: their stretches with one first coordinate are the couplets.
use Rattle.std.specs.Prelude.{ℕ, zero, suc, ℤ, List, [], ◌++◌, flat_map, length}
use Rattle.byteorder.specs.Endian.{big_bytes}
use Rattle.evm_sections.specs.Couplets.{couplets_of}
use Rattle.evm_formats.specs.FirstFile.{field}

-- the fields of couplets: each height, and what stands for its couplet
abbrev pub items : (List (List ℤ) → List ℕ) → List (ℤ × List (List ℤ)) → List ℕ
items inner cs = flat_map (λ p. field p.0 ++ inner p.1) cs

-- the body of extreme vertices
unfoldable pub row_body : ℕ → List (List ℤ) → List ℕ
row_body zero V = []
row_body (suc n) V = big_bytes 4 (length (couplets_of V)) ++ items (row_body n) (couplets_of V)
