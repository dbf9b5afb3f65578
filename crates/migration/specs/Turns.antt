-- What stops a run, and when it goes on: after a full block that was moved without a fault.
use Rattle.value.specs.declared.Refusal.{Refusal}
use Rattle.std.specs.Prelude.{ℕ, ◌-◌, Bool, true, false, cond, ◌≡◌, Option, None, Some, Result, Err, Ok}
use Rattle.migration.specs.declared.blocks.Fault.{Fault}
use Rattle.migration.specs.declared.blocks.Fault.TheVariants.{Reading, Writing}

-- No read and no write failed.
abbrev pub is_nothing : Option Fault → Bool
is_nothing None = true
is_nothing (Some f) = false

-- A read failed.
abbrev pub is_reading : Option Fault → Bool
is_reading None = false
is_reading (Some (Reading e)) = true
is_reading (Some (Writing e)) = false

-- What can have stopped a run when a block with this answer was to be written: after a refusal nothing is written, so nothing; else no read.
abbrev pub WritingOnly : Result (Unit {0}) Refusal → Option Fault → Type 0
WritingOnly (Ok u) fault = is_reading fault ≡ false
WritingOnly (Err f) fault = fault ≡ None

-- How many blocks may still be read, after one of so many.
abbrev pub turns_left : ℕ → Bool → Option Fault → ℕ
turns_left turns full fault = cond full (cond (is_nothing fault) (turns - 1) 0) 0
