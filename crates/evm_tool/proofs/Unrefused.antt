-- Lines that are answered, and runs in which just the lines refuse at which memory is missing.
use Rattle.std.proofs.Common.{◌≡◌, ℕ, suc, ◌≤◌, Bool, true, false, List, [], ◌∷◌, length, map, take, Option, Ok, None, refl, ap, ap₂, ◌∙◌, subst, sym, arith, not, if◌then◌else◌, Some}
use Rattle.std.specs.List.{list_all, list_any}
use Rattle.std.proofs.lemmas.Bool.{false≢true}
use Rattle.evm_script.specs.Line.{command}
use Rattle.evm_script.specs.declared.command.Command.{Command}
use Rattle.evm_script.specs.declared.command.Command.TheVariants as commands
use Rattle.evm_model.specs.Figures.{content_of, boundary_of}
use Rattle.evm_model.specs.Files.{Fetches}
use Rattle.evm_model.specs.Scene.{Scene, stands, value}
use Rattle.evm_model.specs.Edits.{Edit, Name, Code, refusal, after}
use Rattle.evm_model.specs.Replies.{Reply, Measured, is_no}
use Rattle.evm_model.specs.Steps.{Turn, Edits, way_of, way_turn, line_turn, edit_reply, unless_refused, stays, step}
use Rattle.evm_model.specs.Runs.{World, Mark, Plain, NoMemory, NoShelf, Fetched, answer, turned, fetched_from, run}
use Rattle.evm_tool.specs.Generated.{is_own, lacks_memory}

-- a line that is answered is not refused, leaves this scene, and places no file
pub record Goes (world : World) (line : List ℕ) (scene : Scene) : Type 0 where
  pub answered : is_no (answer world line Plain).reply ≡ false
  pub left : (answer world line Plain).world ≡ record { scene = scene; files = world.files }

goes_by : (world : World) (line : List ℕ) (reply : Reply) (scene : Scene)
    → step (fetched_from world.files) world.scene line ≡ record { reply = reply; scene = scene; placed = None } → is_no reply ≡ false → Goes world line scene
goes_by world line reply scene e h = record {
  answered = ap (λ (t : Turn). is_no t.reply) e ∙ h;
  left = ap (λ (t : Turn). (turned world.files t).world) e;
}

-- an edit that nothing refuses
edit_turn : (fetched : Fetches) (scene : Scene) (line : List ℕ) (c : Command) (edit : Edit) → command line ≡ Ok c → way_of c ≡ Edits edit → refusal scene edit ≡ None
    → step fetched scene line ≡ record { reply = edit_reply scene edit; scene = after scene edit; placed = None }
unfolding step
edit_turn fetched scene line c edit e w r =
    ap (line_turn fetched scene) e ∙ ap (way_turn fetched scene) w
    ∙ ap (λ (o : Option Code). unless_refused o scene (record { reply = edit_reply scene edit; scene = after scene edit; placed = None })) r

pub edit_goes : (world : World) (line : List ℕ) (c : Command) (edit : Edit) (scene : Scene) → command line ≡ Ok c → way_of c ≡ Edits edit → refusal world.scene edit ≡ None
    → is_no (edit_reply world.scene edit) ≡ false → after world.scene edit ≡ scene → Goes world line scene
edit_goes world line c edit scene e w r n a =
    goes_by world line (edit_reply world.scene edit) scene
    (edit_turn (fetched_from world.files) world.scene line c edit e w r
    ∙ ap (λ (s : Scene). record { reply = edit_reply world.scene edit; scene = s; placed = None }) a) n

-- questions about a name that stands
pub content_goes : (world : World) (line name : List ℕ) → command line ≡ Ok (commands.Content name) → stands world.scene name ≡ true → Goes world line world.scene
unfolding step
content_goes world line name e h =
    let reply = Measured (content_of (value world.scene name)) in
    goes_by world line reply world.scene
    (ap (line_turn (fetched_from world.files) world.scene) e
    ∙ ap (λ (b : Bool). unless_refused (if not b then Some Name else None) world.scene (stays world.scene reply)) h) refl

pub boundary_goes : (world : World) (line name : List ℕ) → command line ≡ Ok (commands.Boundary name) → stands world.scene name ≡ true → Goes world line world.scene
unfolding step
boundary_goes world line name e h =
    let reply = Measured (boundary_of (value world.scene name)) in
    goes_by world line reply world.scene
    (ap (line_turn (fetched_from world.files) world.scene) e
    ∙ ap (λ (b : Bool). unless_refused (if not b then Some Name else None) world.scene (stays world.scene reply)) h) refl

-- each of these lines refuses exactly where memory is missing at it, if it is there at the first of them, so many
pub record JustLack (first : ℕ) (world : World) (lines : List (List ℕ)) : Type 0 where
  pub each : (marks : List Mark) → list_all is_own marks ≡ true → length marks ≤ length lines
      → list_any lacks_memory (take first marks) ≡ false → map is_no (run world lines marks) ≡ map lacks_memory marks

pub no_lines : (world : World) → JustLack 0 world []
no_lines world = record { each = by }
  where
    by : (marks : List Mark) → list_all is_own marks ≡ true → length marks ≤ 0 → list_any lacks_memory (take 0 marks) ≡ false
        → map is_no (run world [] marks) ≡ map lacks_memory marks
    by [] own few first = refl
    by (m ∷ ms) own few first = absurd (omega (arith, few))

-- one line more that is answered
answered_more : (first : ℕ) (world : World) (line : List ℕ) (more : List (List ℕ)) (scene : Scene) (ms : List Mark) → Goes world line scene
    → JustLack first (record { scene = scene; files = world.files }) more → list_all is_own ms ≡ true → length (Plain ∷ ms) ≤ length (line ∷ more)
    → list_any lacks_memory (take first ms) ≡ false → map is_no (run world (line ∷ more) (Plain ∷ ms)) ≡ map lacks_memory (Plain ∷ ms)
answered_more first world line more scene ms g rest own few h =
    ap₂ (λ (b : Bool) (bs : List Bool). b ∷ bs) g.answered
    (subst (λ (w : World). map is_no (run w more ms) ≡ map lacks_memory ms) (sym g.left) (rest.each ms own (omega (arith, few)) h))

-- one line more, at which memory is there
pub first_more : (first : ℕ) (world : World) (line : List ℕ) (more : List (List ℕ)) (scene : Scene) → Goes world line scene
    → JustLack first (record { scene = scene; files = world.files }) more → JustLack (suc first) world (line ∷ more)
first_more first world line more scene g rest = record { each = by }
  where
    by : (marks : List Mark) → list_all is_own marks ≡ true → length marks ≤ length (line ∷ more) → list_any lacks_memory (take (suc first) marks) ≡ false
        → map is_no (run world (line ∷ more) marks) ≡ map lacks_memory marks
    by [] own few h = refl
    by (Plain ∷ ms) own few h = answered_more first world line more scene ms g rest own few h
    by (NoMemory ∷ ms) own few h = absurd (false≢true (sym h))
    by (NoShelf ∷ ms) own few h = absurd (false≢true own)
    by (Fetched got ∷ ms) own few h = absurd (false≢true own)

-- one line more, at which memory may be missing
pub one_more : (world : World) (line : List ℕ) (more : List (List ℕ)) (scene : Scene) → Goes world line scene
    → JustLack 0 (record { scene = scene; files = world.files }) more → JustLack 0 world more → JustLack 0 world (line ∷ more)
one_more world line more scene g rest same = record { each = by }
  where
    by : (marks : List Mark) → list_all is_own marks ≡ true → length marks ≤ length (line ∷ more) → list_any lacks_memory (take 0 marks) ≡ false
        → map is_no (run world (line ∷ more) marks) ≡ map lacks_memory marks
    by [] own few h = refl
    by (Plain ∷ ms) own few h = answered_more 0 world line more scene ms g rest own few refl
    by (NoMemory ∷ ms) own few h = ap (λ (bs : List Bool). true ∷ bs) (same.each ms own (omega (arith, few)) refl)
    by (NoShelf ∷ ms) own few h = absurd (false≢true own)
    by (Fetched got ∷ ms) own few h = absurd (false≢true own)
