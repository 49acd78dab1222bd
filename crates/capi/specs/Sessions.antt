-- What a caller in C is told of a session. Assumes nothing.
use Rattle.std.specs.Prelude.{◌≡◌, ℕ, ◌<◌, ◌≤◌, Bool, cond, List, length}
use Rattle.script.specs.Sessions.{Session}

-- lines run, bytes written, and 9 where the run stopped, else 0; for a script that is too long 9, no line, no byte
abbrev pub Told : List ℕ → List ℕ → List ℕ → ℕ → ℕ → ℕ → Type 0
Told script out out' lines written r =
    (length script ≤ 4096 → (stopped : Bool) × (r ≡ cond stopped 9 0) × Session script out out' (record { lines = lines; written = written; stopped = stopped })) ×
    (4096 < length script → (r ≡ 9) × (lines ≡ 0) × (written ≡ 0) × (out' ≡ out))
