use Rattle.std.proofs.Common.{◌≡◌, Some, slice_get, option_map, sym, ◌∙◌, subst}
use Rattle.evm_model.specs.Scene.{Scene, Entry}
use Rattle.evm_scene.specs.Tables.{entries_of}
use Rattle.std.proofs.lemmas.Option.{slice_get-map}
use Rattle.evm_scene.specs.Shown.{name_of_entry}
use Rattle.evm_scene.proofs.Views.{name_shown}
use Rattle.evm_scene.proofs.scene.Scene.name_at.Goals as goal

pub returns : goal.returns
returns g c =
    subst (λ (s : Scene). option_map (λ (e : Entry). e.name) (slice_get s.entries c.args.k) ≡ Some c.in-Some.name.now) c.self.view_is
    (sym (slice_get-map name_of_entry (entries_of c.self.inside.table.entries) c.args.k) ∙ name_shown c.self.inside.table.entries c.args.k (c.in-Some.name.now, c.in-Some.field-0-1.now) (sym c.in-Some.ensures.entry))
