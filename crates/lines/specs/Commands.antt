-- Commands as text. Assumes nothing.
use Rattle.std.specs.Prelude.{◌≡◌, ℕ, ◌^◌, ◌<◌, List, [], ◌∷◌, ◌++◌, Some, None, Option, ◌≢◌}
use Rattle.word.specs.declared.words.Word.{Word}
use Rattle.unit.specs.declared.calls.Call.{Call}
use Rattle.unit.specs.declared.calls.Call.TheVariants as call
use Rattle.lines.specs.Texts.{line_of}
use Rattle.lines.specs.declared.commands.Command.{Command}
use Rattle.lines.specs.declared.commands.Command.TheVariants.{Read, Write, Merge, Scrub, Inject, Log, First, Clear}

-- the text that a command was cut from
abbrev pub command_text : Command → List ℕ
command_text (Read p) = 82 ∷ 32 ∷ p.text.now
command_text (Write p w) = 87 ∷ (32 ∷ p.text.now) ++ (32 ∷ w.text.now)
command_text (Merge p e w) = 77 ∷ (32 ∷ p.text.now) ++ ((32 ∷ e.text.now) ++ (32 ∷ w.text.now))
command_text (Scrub p) = 83 ∷ 32 ∷ p.text.now
command_text (Inject p x) = 73 ∷ (32 ∷ p.text.now) ++ (32 ∷ x.text.now)
command_text Log = 76 ∷ []
command_text First = 70 ∷ []
command_text Clear = 67 ∷ []

-- a word of 64 bits
abbrev pub low_only : ℕ → Word
low_only v = record { low = v; top = 0 }

-- a call that a script can name: its numbers fit their fields
abbrev pub Scripted : Call → Type 0
Scripted (call.Read p) = p < 2 ^ 16
Scripted (call.Write p w) = (p < 2 ^ 16) × (w.low < 2 ^ 64) × (w.top ≡ 0)
Scripted (call.Merge p w e) = (p < 2 ^ 16) × (w.low < 2 ^ 64) × (w.top ≡ 0) × (e < 2 ^ 8)
Scripted (call.Scrub p) = p < 2 ^ 16
Scripted (call.Inject p x) = (p < 2 ^ 16) × (x < 2 ^ 8)
Scripted call.Log = Unit {0}
Scripted call.First = Unit {0}
Scripted call.Clear = Unit {0}

-- what a line asks for: the one call whose text it is, or none where it is no call's text
pub record Asks (line : List ℕ) (c : Call) : Type 0 where
  pub fits : Scripted c
  pub text : line ≡ line_of c
  pub only : (d : Call) → Scripted d → line ≡ line_of d → d ≡ c

abbrev pub Parsed : List ℕ → Option Call → Type 0
Parsed line None = (c : Call) → Scripted c → line ≢ line_of c
Parsed line (Some c) = Asks line c
