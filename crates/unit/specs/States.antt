-- What the program's unit stands for. Assumes nothing.
use Rattle.parts.specs.Units.{UnitState}
use Rattle.unit.specs.declared.units.Unit.{Unit as UnitOf}

-- what the program's unit stands for, where the card below stands for the state that `card_state` tells
abbrev pub state_of : {C D S : Type 0} → (D → S) → UnitOf C D → UnitState S
state_of card_state u = record { log = u.log.state; card = card_state u.card }
