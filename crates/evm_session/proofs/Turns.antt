-- Turns of a scene: what is refused, and what is done.
use Rattle.std.proofs.Common.{◌≡◌, ℕ, Bool, true, false, not, cond, List, [], ◌∷◌, ◌++◌, Option, None, Some, Ok, Err, refl, sym, ap, subst, ◌∙◌}
use Rattle.evm_model.specs.Scene.{Scene, stands}
use Rattle.std.proofs.lemmas.Option.{none-some}
use Rattle.evm_model.specs.Edits.{Code, Name, Range, first_cause, name_causes}
use Rattle.evm_model.specs.Replies.{Reply, No, reply_text, is_no}
use Rattle.evm_model.specs.Steps.{Turn, stays, unless_refused, asked}
use Rattle.evm_session.specs.declared.refusals.Refusal.{Refusal}
use Rattle.evm_session.specs.declared.refusals.Refusal.TheVariants as refusals
use Rattle.evm_session.specs.Carried.{Carries, IsRefusalOf, LeavesText}
use Rattle.evm_session.specs.Refusals.{code_of}
use Rattle.evm_session.proofs.Rows.{extends_itself}

-- a reply and a scene, where no file is placed
abbrev pub turn_with : Reply → Scene → Turn
turn_with reply scene = record { reply = reply; scene = scene; placed = None }

pub carried : (old new : Scene) (before now : List ℕ) (reply : Reply) (turn : Turn) → turn ≡ turn_with reply new → now ≡ before ++ reply_text reply → is_no reply ≡ false → Carries (Ok tt) old new before now turn
carried old new before now reply turn e t n = (
  t ∙ ap (λ (u : Turn). before ++ reply_text u.reply) (sym e),
  ap (λ (u : Turn). u.scene) (sym e),
  ap (λ (u : Turn). is_no u.reply) e ∙ n,
)

-- a question about a name that stands
pub asked_found : (scene : Scene) (name : List ℕ) (reply : Reply) → stands scene name ≡ true → asked (name_causes scene name) scene reply ≡ stays scene reply
asked_found scene name reply s =
    ap (λ (b : Bool). unless_refused (first_cause ((not b, Name) ∷ [])) scene (stays scene reply)) s

-- ---- refused by a test

-- a refusal, as one of the turn that is refused so
pub refusal_itself : (refusal : Refusal) (scene : Scene) → IsRefusalOf refusal scene (stays scene (No (code_of refusal)))
refusal_itself refusals.NoMemory scene = tt
refusal_itself refusal scene = refl

pub text_itself : (refusal : Refusal) (text : List ℕ) → LeavesText refusal text text
text_itself refusals.NoMemory text = extends_itself text
text_itself refusal text = refl

-- a cause that comes first, with others behind it
first_more : (causes more : List (Bool × Code)) (code : Code) → first_cause causes ≡ Some code → first_cause (causes ++ more) ≡ Some code
first_more [] more code h = absurd (none-some code h)
first_more (c ∷ cs) more code h = by c.0 c.1 (first_more cs more code) h
  where
    by : (b : Bool) (k : Code) → (first_cause cs ≡ Some code → first_cause (cs ++ more) ≡ Some code) → cond b (Some k) (first_cause cs) ≡ Some code → cond b (Some k) (first_cause (cs ++ more)) ≡ Some code
    by true k rest h = h
    by false k rest h = rest h

-- a question that one of these causes refuses
pub asked_refused : (refusal : Refusal) (scene : Scene) (causes more : List (Bool × Code)) (reply : Reply) (before : List ℕ) → first_cause causes ≡ Some (code_of refusal)
    → Carries (Err refusal) scene scene before before (asked (causes ++ more) scene reply)
asked_refused refusal scene causes more reply before h = (
  subst (λ (o : Option Code). IsRefusalOf refusal scene (unless_refused o scene (stays scene reply))) (sym (first_more causes more (code_of refusal) h)) (refusal_itself refusal scene),
  text_itself refusal before,
  refl,
)

-- a question that none refuses
pub asked_passed : (scene : Scene) (causes : List (Bool × Code)) (reply : Reply) → first_cause causes ≡ None → asked causes scene reply ≡ stays scene reply
asked_passed scene causes reply h = ap (λ (o : Option Code). unless_refused o scene (stays scene reply)) h

-- one more cause behind those that none refuses by
first_last : (causes : List (Bool × Code)) (b : Bool) (code : Code) → first_cause causes ≡ None → first_cause (causes ++ (b, code) ∷ []) ≡ cond b (Some code) None
first_last [] b code h = refl
first_last (c ∷ cs) b code h = by c.0 c.1 (first_last cs b code) h
  where
    by : (d : Bool) (k : Code) → (first_cause cs ≡ None → first_cause (cs ++ (b, code) ∷ []) ≡ cond b (Some code) None) → cond d (Some k) (first_cause cs) ≡ None
        → cond d (Some k) (first_cause (cs ++ (b, code) ∷ [])) ≡ cond b (Some code) None
    by true k rest e = absurd (none-some k (sym e))
    by false k rest e = rest e

-- a question about one more number, which is in its limits or not
pub asked_last : (scene : Scene) (causes : List (Bool × Code)) (within b : Bool) (reply : Reply) → first_cause causes ≡ None → within ≡ b
    → asked (causes ++ (not within, Range) ∷ []) scene reply ≡ unless_refused (cond (not b) (Some Range) None) scene (stays scene reply)
asked_last scene causes within b reply h e =
    ap (λ (o : Option Code). unless_refused o scene (stays scene reply))
    (first_last causes (not within) Range h ∙ ap (λ (w : Bool). cond (not w) (Some Range) None) e)
