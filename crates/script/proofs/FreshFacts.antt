-- Zero stored at one place after the other. Assumes nothing.
use Rattle.std.proofs.Common.{◌≡◌, ℕ, suc, ◌+◌, ◌-◌, ◌<◌, min, [], ◌∷◌, ◌++◌, length, set, replicate, sym, ap, ◌∙◌, subst, append_assoc, arith, lit<, length-append}
use Rattle.std.proofs.lemmas.List.{append-nil, set_at, length-replicate, replicate-append-replicate}
use Rattle.word.specs.declared.words.Word.{Word}
use Rattle.codes.specs.Tables.{code64}
use Rattle.card.specs.Cards.{write_state}
use Rattle.card.specs.Builtin.{Builtin, builtin_card, no_word}
use Rattle.card.proofs.CardFacts.{write_leads}
use Rattle.error_log.specs.Logs.{new_log}
use Rattle.parts.specs.Units.{UnitState, unit_card}
use Rattle.script.specs.Sessions.{raw_zero, laid_out, fresh}

-- the unit once zero was stored at the first i places
abbrev pub started : ℕ → UnitState Builtin
started i = record { log = new_log; card = laid_out i }

long : (i : ℕ) → i < 128 → length (replicate i raw_zero ++ replicate (128 - i) no_word) ≡ 128
long i h =
    length-append (replicate i raw_zero) (replicate (128 - i) no_word) ∙
    ap (λ n. n + length (replicate (128 - i) no_word)) (length-replicate i raw_zero) ∙ ap (λ n. i + n) (length-replicate (128 - i) no_word) ∙ omega arith

one_more : (a b : Word) (i : ℕ) → i < 128 → set (replicate i a ++ replicate (128 - i) b) i a ≡ replicate (i + 1) a ++ replicate (128 - (i + 1)) b
one_more a b i h =
    let rest : 128 - i ≡ suc (128 - (i + 1)) = omega arith in
    ap (λ n. set (replicate i a ++ replicate n b) i a) rest ∙
    set_at (replicate i a) b (replicate (128 - (i + 1)) b) a i (length-replicate i a) ∙
    sym (append_assoc (replicate i a) (a ∷ []) (replicate (128 - (i + 1)) b)) ∙
    ap (λ l. l ++ replicate (128 - (i + 1)) b) (replicate-append-replicate i 1 a)

pub start_more : (i : ℕ) → i < 128 → write_state (unit_card code64 builtin_card) (started i) i 0 ≡ started (i + 1)
start_more i h =
    let places : min 128 (length (replicate i raw_zero ++ replicate (128 - i) no_word)) ≡ 128 = ap (min 128) (long i h) in
    let here : i < (unit_card code64 builtin_card).count (started i) = subst (λ n. i < n) (sym places) h in
    write_leads (unit_card code64 builtin_card) (started i) i here 0 (lit< tt) ∙
    ap (λ w. record { log = new_log; card = record { made_with = 72; words = w } }) (one_more raw_zero no_word i h)

pub started_all : (i : ℕ) → i ≡ 128 → started i ≡ fresh
started_all i e = ap started e ∙ ap (λ w. record { log = new_log; card = record { made_with = 72; words = w } }) (append-nil (replicate 128 raw_zero))
