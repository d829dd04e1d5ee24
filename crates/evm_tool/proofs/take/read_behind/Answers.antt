use Rattle.std.proofs.Common.{◌≡◌, ℕ, ◌+◌, ◌-◌, ◌<◌, ◌≤◌, List, ◌++◌, length, take, drop, ◌∙◌, ap, arith, Option, Result, Ok, Err}
use Rattle.std.proofs.Math.Seq.{take-append-add}
use Rattle.std.proofs.lemmas.List.{length-take, length-drop, take-append-le}
use Rattle.std.specs.Io.{ReadsAtMost}
use Rattle.std.specs.Io.KnownBytes.{ReadConsumes}
use Rattle.evm_outside.specs.declared.Failed.{Failed}
use Rattle.evm_tool.specs.Script.{ReadsBehind}
use Rattle.evm_tool.proofs.take.read_behind.Goals as goal
use borrow.Rule.Slice.PartMut.{put_mid}

read_behind_of : (r : Result ℕ Failed) (kept want k : ℕ) (a b : Option (List ℕ)) (buffer into : List ℕ) → k ≡ want → kept + want ≤ length buffer → 0 < want → length into ≡ want → ReadsAtMost r into → ReadConsumes a b r into
    → ReadsBehind r kept want a b buffer (put_mid kept k buffer into)
read_behind_of (Ok n) kept want k a b buffer into e room some size most bytes = (
  take n into,
  bytes.0,
  omega (arith, length-take n into, most),
  omega (arith, most, size),
  ap (λ (j : ℕ). take (j + n) (put_mid kept k buffer into)) (omega (arith, length-take kept buffer, room))
      ∙ take-append-add (take kept buffer) (into ++ drop k (drop kept buffer)) n
      ∙ ap (λ (t : List ℕ). take kept buffer ++ t) (take-append-le n into (drop k (drop kept buffer)) (omega (arith, most))),
  λ none. bytes.1 none (omega (arith, size, some)),
)
read_behind_of (Err f) kept want k a b buffer into e room some size most bytes = bytes

pub returns-clause-bytes : goal.returns-clause-bytes
returns-clause-bytes g c =
    read_behind_of c.read.result c.args.kept c.args.want _ _ _ c.args.buffer.now c.read.new.into (omega arith) c.requires.room c.requires.some
    (omega (arith, c.read.auto.into, c.requires.room, length-take (c.args.kept + c.args.want - c.args.kept) (drop c.args.kept c.args.buffer.now), length-drop c.args.kept c.args.buffer.now))
    c.read.ensures.bound c.read.ensures.bytes
