-- Answers to questions, as the model words them.
use Rattle.std.specs.Prelude.{ℕ, Bool, List}
use Rattle.evm_member.specs.declared.outcome.Place.{Place}
use Rattle.evm_member.specs.declared.outcome.Place.TheVariants as places
use Rattle.evm_model.specs.Figures as figures
use Rattle.evm_model.specs.Replies.{Filled, Placed, reply_text}

-- the place of a point
abbrev pub place_view : Place → figures.Place
place_view places.Inside = figures.Inside
place_view places.Boundary = figures.Boundary
place_view places.Outside = figures.Outside

-- the reply that tells whether a cell is filled
abbrev pub filled_text : Bool → List ℕ
filled_text filled = reply_text (Filled filled)

-- the reply that tells where a point stands
abbrev pub placed_text : Place → List ℕ
placed_text place = reply_text (Placed (place_view place))
