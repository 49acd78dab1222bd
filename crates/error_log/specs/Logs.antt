-- The log: what it holds, and what a reading makes of it. Assumes nothing.
use Rattle.std.specs.Prelude.{◌≡◌, ◌≤◌, ℕ, ◌+◌, ◌*◌, ◌^◌, min, Bool, cond, Some, None, Option, ◌==◌}
use Rattle.code.specs.Codes.{CodeModel}
use Rattle.error_log.specs.Kinds.{is_quiet, kind_of, kind_bits}
use Rattle.error_log.specs.declared.records.Kind.{Kind}
use Rattle.error_log.specs.declared.records.Kind.TheVariants.{Quiet}
use Rattle.error_log.specs.declared.records.RawWord.{RawWord}
use Rattle.error_log.specs.declared.records.FirstError.{FirstError}

pub record LogState : Type 0 where
  -- errors since the log was new or cleared, held at 15
  pub counter : ℕ
  -- of the latest error
  pub kind : Kind
  pub syndrome : ℕ
  -- the raw word last taken, sound or not
  pub taken : Option RawWord
  -- the first error since the log was new or cleared
  pub first : Option FirstError

-- a place with the raw word that stands beside it
abbrev pub with_raw : Option ℕ → RawWord → Option FirstError
with_raw None r = None
with_raw (Some p) r = Some (record { place = p; raw = r })

-- what every log keeps: its counter never passes 15, and there is no error exactly where it is 0
pub record LogKept (counter : ℕ) (kind : Kind) : Type 0 where
  pub held : counter ≤ 15
  pub agree : (counter == 0) ≡ is_quiet kind

-- what a log is to its holders: what it holds, which is kept so
pub record KeptLog : Type 0 where
  pub state : LogState
  pub kept : LogKept state.counter state.kind

-- a new log, and a cleared one
abbrev pub new_log : LogState
new_log = record { counter = 0; kind = Quiet; syndrome = 0; taken = None; first = None }

-- the log after a raw word was taken at p that has the syndrome s
abbrev pub noted : ℕ → RawWord → ℕ → Bool → LogState → LogState
noted p r s damaged l = cond (s == 0)
    (record { counter = l.counter; kind = l.kind; syndrome = l.syndrome; taken = Some r; first = l.first })
    (record {
      counter = min 15 (l.counter + 1);
      kind = kind_of damaged;
      syndrome = s;
      taken = Some r;
      first = cond (l.counter == 0) (Some (record { place = p; raw = r })) l.first;
    })

-- bits 15 to 8 the partial check bits of the data last taken, bits 7 to 0 the check bits taken with them
abbrev pub taken_half : CodeModel → Option RawWord → ℕ
taken_half c None = 0
taken_half c (Some r) = 2 ^ 8 * c.partial r.data + r.check

-- the upper half: bits 31 and 30 the kind, 29 and 28 zero, 27 to 24 the counter, 23 to 16 the syndrome
abbrev pub error_half : LogState → ℕ
error_half l = 2 ^ 14 * kind_bits l.kind + 2 ^ 8 * l.counter + l.syndrome

abbrev pub log_word : CodeModel → LogState → ℕ
log_word c l = 2 ^ 16 * error_half l + taken_half c l.taken
