-- Text written into a lent output. Assumes nothing.
use Rattle.std.specs.Prelude.{◌≡◌, ℕ, ◌+◌, ◌≤◌, List, ◌++◌, length, take, drop}
use Rattle.script.specs.declared.printing.Page.{Page}

-- so many bytes may still be written
abbrev pub HasRoom : Page → ℕ → Type 0
HasRoom p n = p.written + n ≤ length p.out.now

-- a page after a text was written behind the others
pub record Wrote (old : Page) (text : List ℕ) (new : Page) : Type 0 where
  pub told : take new.written new.out.now ≡ take old.written old.out.now ++ text
  pub behind : new.written ≡ old.written + length text
  -- what lies behind it was never touched
  pub rest : drop new.written new.out.now ≡ drop new.written old.out.now
  -- it is the same output, and as long
  pub same : new.out.ghost_name ≡ old.out.ghost_name
  pub long : length new.out.now ≡ length old.out.now
