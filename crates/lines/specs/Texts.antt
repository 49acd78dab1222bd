-- The text of each call, and the text of each answer. Assumes nothing.
use Rattle.std.specs.Prelude.{ℕ, List, [], ◌∷◌, ◌++◌, Some, None, Ok, Err, Option}
use Rattle.word.specs.Faults.{number_of}
use Rattle.word.specs.declared.faults.Fault.{Fault}
use Rattle.error_log.specs.declared.records.FirstError.{FirstError}
use Rattle.unit.specs.declared.calls.Call.{Call}
use Rattle.unit.specs.declared.calls.Call.TheVariants.{Read, Write, Merge, Scrub, Inject, Log, First, Clear}
use Rattle.unit.specs.Steps.{Answer}
use Rattle.unit.specs.declared.calls.Reply.{Reply}
use Rattle.unit.specs.declared.calls.Reply.TheVariants.{Done, Gave, Merged, LogWord, FirstWas}
use Rattle.lines.specs.Hex.{hex}

-- a field: one blank, then the k digits of a number
abbrev pub field : ℕ → ℕ → List ℕ
field k v = 32 ∷ hex k v

-- the letter that decides the call
abbrev pub letter_of : Call → ℕ
letter_of (Read p) = 82
letter_of (Write p w) = 87
letter_of (Merge p w e) = 77
letter_of (Scrub p) = 83
letter_of (Inject p x) = 73
letter_of Log = 76
letter_of First = 70
letter_of Clear = 67

-- its fields: a place of 4 digits, a word of 16, enables and a cell of 2
abbrev pub fields_of : Call → List ℕ
fields_of (Read p) = field 4 p
fields_of (Write p w) = field 4 p ++ field 16 w.low
fields_of (Merge p w e) = field 4 p ++ (field 2 e ++ field 16 w.low)
fields_of (Scrub p) = field 4 p
fields_of (Inject p x) = field 4 p ++ field 2 x
fields_of Log = []
fields_of First = []
fields_of Clear = []

-- a script line's bytes, without the 0A that ends it
abbrev pub line_of : Call → List ℕ
line_of c = letter_of c ∷ fields_of c

-- "ok"
abbrev pub ok_text : List ℕ
ok_text = 111 ∷ 107 ∷ 10 ∷ []

-- "none"
abbrev pub none_text : List ℕ
none_text = 110 ∷ 111 ∷ 110 ∷ 101 ∷ 10 ∷ []

-- "!", then number, place, depth and way
abbrev pub fault_text : Fault → List ℕ
fault_text f = 33 ∷ field 1 (number_of f.refusal) ++ (field 4 f.place ++ (field 2 f.depth ++ (field 4 f.way ++ (10 ∷ []))))

-- "=", then place, check bits and data
abbrev pub first_line : FirstError → List ℕ
first_line e = 61 ∷ field 4 e.place ++ (field 2 e.raw.check ++ (field 16 e.raw.data ++ (10 ∷ [])))

abbrev pub first_text : Option FirstError → List ℕ
first_text None = none_text
first_text (Some e) = first_line e

-- the line that shows what a granted call gives
abbrev pub reply_text : Reply → List ℕ
reply_text Done = ok_text
reply_text (Gave w) = 61 ∷ field 16 w.low ++ (10 ∷ [])
reply_text (Merged o) = ok_text
reply_text (LogWord v) = 61 ∷ field 8 v ++ (10 ∷ [])
reply_text (FirstWas o) = first_text o

-- the line that shows an answer, with the 0A that ends it
abbrev pub answer_text : Answer → List ℕ
answer_text (Ok reply) = reply_text reply
answer_text (Err fault) = fault_text fault
