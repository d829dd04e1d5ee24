use Rattle.std.proofs.Common.{◌≡◌, ℕ, ◌+◌, ◌≤◌, List, [], ◌++◌, length, take, sym, ◌∙◌, ap, subst, arith, Option, None, Some, Result, Ok, IfSome, Vec}
use Rattle.std.proofs.lemmas.List.{take_all, length-take}
use Rattle.std.specs.Option.{option_map}
use Rattle.evm_outside.specs.Adapters.{GivesWhole}
use Rattle.evm_outside.specs.declared.shelf.FetchError.{FetchError}
use Rattle.evm_outside.proofs.folder.read_opened.Goals as goal

-- a front that is no longer than the limit, where one byte more was asked for, is all there is
all_there : (known : Option (List ℕ)) (got old : List ℕ) (limit n : ℕ) → old ≡ [] → n ≡ limit + 1 → length got ≤ limit
    → IfSome (option_map (take n) known) (λ xs. got ≡ old ++ xs) → IfSome known (λ all. got ≡ all)
all_there None got old limit n e k l h = tt
all_there (Some all) got old limit n e k l h =
    let front : got ≡ take n all = h ∙ ap (λ (t : List ℕ). t ++ take n all) e in
    front ∙ take_all n all (omega (arith, ap length front, length-take n all))

of_opened : {F A E : Type 0} (remaining : F → Option (List ℕ)) (opened : Result F E) (file reader : F) (got : Vec ℕ A) → opened ≡ Ok file → reader ≡ file
    → IfSome (remaining reader) (λ all. got.items ≡ all) → GivesWhole {D = FetchError} remaining opened (Ok got)
of_opened {F = F} {E = E} remaining opened file reader got e r h =
    subst (λ (o : Result F E). GivesWhole {D = FetchError} remaining o (Ok got)) (sym e)
    (subst (λ (f : F). IfSome (remaining f) (λ all. got.items ≡ all)) r h)

pub returns-in-Ok-read_to_end-clause-whole : goal.returns-in-Ok-read_to_end-clause-whole
returns-in-Ok-read_to_end-clause-whole g c =
    of_opened g.F.Read.remaining c.args.opened c.in-Ok.file c.take.result.inner c.read_to_end.new.buf c.in-Ok.is c.take.ensures.inner
    (all_there (g.F.Read.remaining c.take.result.inner) c.read_to_end.new.buf.items c.new-bytes.result.items c.args.limit c.take.result.limit
    c.new-bytes.ensures.items c.take.ensures.limit (omega (arith, c.read_to_end.new.buf.ok.0)) c.in-Ok-read_to_end.ensures.bytes)
