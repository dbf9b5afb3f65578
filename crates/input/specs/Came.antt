-- What a read brought, also where it failed.
use Rattle.std.specs.Prelude.{Result, Ok, Err}
use Rattle.input.specs.declared.reads.Failed.{Failed}

-- all of it, or what had come before the failure
abbrev pub came : {T : Type 0} → Result T (Failed T) → T
came (Ok a) = a
came (Err f) = f.got
