-- What a syndrome says, in words. Assumes nothing.
use Rattle.std.specs.Prelude.{ℕ, codes, List, ◌++◌}
use Rattle.std.specs.Fmt.{decimal}
use Rattle.code.specs.declared.syndromes.Located.{Located}
use Rattle.code.specs.declared.syndromes.Located.TheVariants.{Clean, Data, Check, Two, Many}

-- the bytes of the words, a cell by its number in decimal digits
abbrev pub words_of : Located → List ℕ
words_of Clean = codes "clean"
words_of (Data i) = codes "data " ++ decimal i
words_of (Check j) = codes "check " ++ decimal j
words_of Two = codes "two"
words_of Many = codes "many"
