-- Worked values of the codes. Assumes nothing.
use Rattle.std.specs.Prelude.{◌≡◌, ℕ, ◌-◌, ◌^◌, List, [], ◌∷◌}
use Rattle.std.specs.List.{AllByRecursion}
use Rattle.code.specs.Codes.{CodeModel, generated, located}
use Rattle.codes.specs.Tables.{code16, code32, code64}
use Rattle.codes.specs.Cascade.{cascaded64}
use Rattle.code.specs.declared.syndromes.Located.{Located}
use Rattle.code.specs.declared.syndromes.Located.TheVariants.{Data, Check, Two, Many}

pub data Claim : Type 0 where
  generates : CodeModel → ℕ → ℕ → Claim
  locates : CodeModel → ℕ → Located → Claim
  shows_partial : CodeModel → ℕ → ℕ → Claim

abbrev pub Holds : Claim → Type 0
Holds (generates c d check) = generated c d ≡ check
Holds (locates c s l) = located c s ≡ l
Holds (shows_partial c d check) = c.partial d ≡ check

abbrev pub worked : List Claim
worked =
    generates code64 0 0x0c
    ∷ generates code64 1 0xc2
    ∷ generates code64 0xff 0x06
    ∷ generates code64 (2 ^ 64 - 1) 0x0c
    ∷ generates code16 1 0x38
    ∷ generates code16 (2 ^ 16 - 1) 0x3c
    ∷ locates code64 0x4f (Data 32)
    ∷ locates code64 0xd0 Many
    ∷ locates code64 0x03 Two
    ∷ locates code64 0x01 (Check 0)
    ∷ locates code32 0x4f (Data 0)
    ∷ shows_partial cascaded64 (2 ^ 32) 0x0c
    ∷ generates cascaded64 (2 ^ 32) 0x43
    ∷ []

abbrev pub WorkedHold : Type 0
WorkedHold = AllByRecursion Holds worked
