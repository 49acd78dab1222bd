-- Faults: how they arise and what each layer makes of them. Assumes nothing.
use Rattle.std.specs.Prelude.{◌≡◌, ℕ, ◌+◌, ◌*◌, ◌%◌, ◌^◌, min, codes, List, [], ◌∷◌, length, Some, None, Option}
use Rattle.word.specs.declared.faults.Fault.{Fault}
use Rattle.word.specs.declared.faults.Side.{Side}
use Rattle.word.specs.declared.faults.Side.TheVariants.{Low, High}
use Rattle.word.specs.declared.refusals.Refusal.{Refusal}
use Rattle.word.specs.declared.refusals.Refusal.TheVariants.{Place, Wide, Enable, Cell, Two, Many, Parity, Line, Space}

abbrev pub number_of : Refusal → ℕ
number_of Place = 1
number_of Wide = 2
number_of Enable = 3
number_of Cell = 4
number_of Two = 5
number_of Many = 6
number_of Parity = 7
number_of Line = 8
number_of Space = 9

-- the name by which people know it, as bytes
abbrev pub name_of : Refusal → List ℕ
name_of Place = codes "PLACE"
name_of Wide = codes "WIDE"
name_of Enable = codes "ENABLE"
name_of Cell = codes "CELL"
name_of Two = codes "TWO"
name_of Many = codes "MANY"
name_of Parity = codes "PARITY"
name_of Line = codes "LINE"
name_of Space = codes "SPACE"

-- a fault where it arises
abbrev pub arisen : Refusal → ℕ → Fault
arisen r p = record { refusal = r; place = p; depth = 0; way = 0 }

-- the fault one layer up
abbrev pub passed : Fault → Fault
passed f = record { refusal = f.refusal; place = f.place; depth = min 255 (f.depth + 1); way = f.way }

abbrev pub side_number : Side → ℕ
side_number Low = 0
side_number High = 1

-- the fault above a pair, come from one of its sides
abbrev pub sided : Side → Fault → Fault
sided s f = record { refusal = f.refusal; place = f.place; depth = min 255 (f.depth + 1); way = (2 * f.way + side_number s) % 65536 }

-- one layer up: out of one side of a pair, or through a layer over one card
abbrev pub over_layer : Option Side → Fault → Fault
over_layer (Some s) f = sided s f
over_layer None f = passed f

-- the fault above a stack of layers, the lowest first
abbrev pub over_layers : List (Option Side) → Fault → Fault
over_layers [] f = f
over_layers (l ∷ ls) f = over_layers ls (over_layer l f)

-- how many of them are pairs, and the number that the sides make, a binary digit each, the highest layer's lowest
abbrev pub pairs_in : List (Option Side) → ℕ
pairs_in [] = 0
pairs_in (Some s ∷ ls) = 1 + pairs_in ls
pairs_in (None ∷ ls) = pairs_in ls

abbrev pub sides_number : List (Option Side) → ℕ
sides_number [] = 0
sides_number (Some s ∷ ls) = 2 ^ pairs_in ls * side_number s + sides_number ls
sides_number (None ∷ ls) = sides_number ls

-- r is f above the layers: the depth counts them up to 255, and the way has a digit for each pair, of which it keeps the last sixteen
pub record Above (ls : List (Option Side)) (f r : Fault) : Type 0 where
  pub passed_by_each : r ≡ over_layers ls f
  pub deep : r.depth ≡ min 255 (f.depth + length ls)
  pub wound : r.way ≡ (2 ^ pairs_in ls * f.way + sides_number ls) % 65536
