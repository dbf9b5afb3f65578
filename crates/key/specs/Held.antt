-- What a program holds. In the logic a number has no width; what is owned is in range, and so meets the premises of demand 3.
use Rattle.std.specs.Prelude.{ℕ, List}
use Rattle.std.specs.Int.{w8}
use mir.Val.{Val}
use Rattle.std.specs.Borrow.{RattleType}
use denote.Laws.{Is}
use borrow.Table.Referent.{f_int}
use borrow.Rule.Slice.Know.{Fit}
use Rattle.record.specs.declared.Record.{Record}
use Rattle.record.specs.declared.Shape.{Shape}
use Rattle.record.specs.contracts.Record as record-type
use Rattle.record.specs.contracts.Shape as shape-type

-- a program holds x: some machine values stand for it; `Is` is the kit's word for what owning them as x tells
abbrev pub Holds : (R : RattleType) → R.Denot → Type 0
Holds R x = (vs : List Val) × Is R x vs

-- a record that a program holds
abbrev pub HeldRecord : Record → Type 0
HeldRecord r = Holds record-type.the_row r

-- a shape that a program holds
abbrev pub HeldShape : Shape → Type 0
HeldShape s = Holds shape-type.the_row s

-- the contents of a `&[u8]`: the kit's word for what reading it tells is that eight bits hold each of them
abbrev pub LentBytes : List ℕ → Type 0
LentBytes l = Fit (f_int w8) 0 l
