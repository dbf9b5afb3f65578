-- Where both cases are known their kinds are one and the callee's order is that of the numbers; in the last arm b is no case of a's kind.
use mathlib.Core.Path.{refl}
use lib.IntN.{pos}
use Rattle.float.specs.Format.{f16, f32, f64}
use borrow.Author.Rules.{rules}
use mir.Syntax.{w8, w16, w32, w64}
use Rattle.cmp.proofs.Numbers.{held_order}
use Rattle.cmp.proofs.Answers.{compare_refused, compare_integers, compare_floats}
use Rattle.cmp.proofs.comparison.compare.Goals as goal

pub returns-in-U8-U8 : goal.returns-in-U8-U8
returns-in-U8-U8 c = let arm = c.in-U8-U8 in compare_integers arm.is-0 arm.is-1 refl (pos _) (pos _) refl refl c.order_integers.ensures

pub returns-in-U16-U16 : goal.returns-in-U16-U16
returns-in-U16-U16 c = let arm = c.in-U16-U16 in compare_integers arm.is-0 arm.is-1 refl (pos _) (pos _) refl refl c.order_integers-in-U16-U16.ensures

pub returns-in-U32-U32 : goal.returns-in-U32-U32
returns-in-U32-U32 c = let arm = c.in-U32-U32 in compare_integers arm.is-0 arm.is-1 refl (pos _) (pos _) refl refl c.order_integers-in-U32-U32.ensures

pub returns-in-U64-U64 : goal.returns-in-U64-U64
returns-in-U64-U64 c = let arm = c.in-U64-U64 in compare_integers arm.is-0 arm.is-1 refl (pos _) (pos _) refl refl c.order_integers-in-U64-U64.ensures

pub returns-in-I8-I8 : goal.returns-in-I8-I8
returns-in-I8-I8 c =
    let arm = c.in-I8-I8 in
    compare_integers arm.is-0 arm.is-1 refl arm.m arm.n refl refl
    (held_order {w = w8} arm.m arm.n (search rules) (search rules) c.order_integers-in-I8-I8.ensures)

pub returns-in-I16-I16 : goal.returns-in-I16-I16
returns-in-I16-I16 c =
    let arm = c.in-I16-I16 in
    compare_integers arm.is-0 arm.is-1 refl arm.m arm.n refl refl
    (held_order {w = w16} arm.m arm.n (search rules) (search rules) c.order_integers-in-I16-I16.ensures)

pub returns-in-I32-I32 : goal.returns-in-I32-I32
returns-in-I32-I32 c =
    let arm = c.in-I32-I32 in
    compare_integers arm.is-0 arm.is-1 refl arm.m arm.n refl refl
    (held_order {w = w32} arm.m arm.n (search rules) (search rules) c.order_integers-in-I32-I32.ensures)

pub returns-in-I64-I64 : goal.returns-in-I64-I64
returns-in-I64-I64 c =
    let arm = c.in-I64-I64 in
    compare_integers arm.is-0 arm.is-1 refl arm.m arm.n refl refl
    (held_order {w = w64} arm.m arm.n (search rules) (search rules) c.order_integers-in-I64-I64.ensures)

pub returns-in-F32-F32 : goal.returns-in-F32-F32
returns-in-F32-F32 c =
    let arm = c.in-F32-F32 in
    compare_floats arm.is-0 arm.is-1 refl f32 _ _ refl refl c.compare.ensures c.bits_f32.ensures c.bits_f32-in-F32-F32.ensures

pub returns-in-F64-F64 : goal.returns-in-F64-F64
returns-in-F64-F64 c =
    let arm = c.in-F64-F64 in
    compare_floats arm.is-0 arm.is-1 refl f64 _ _ refl refl c.compare-in-F64-F64.ensures c.bits_f64.ensures c.bits_f64-in-F64-F64.ensures

pub returns-in-F16-F16 : goal.returns-in-F16-F16
returns-in-F16-F16 c = let arm = c.in-F16-F16 in compare_floats arm.is-0 arm.is-1 refl f16 _ _ refl refl c.compare-in-F16-F16.ensures refl refl

pub returns-in_default : goal.returns-in_default
returns-in_default c = compare_refused _ c.in_default.is-0 c.in_default.not-U8-1

pub returns-in_default-2 : goal.returns-in_default-2
returns-in_default-2 c = compare_refused _ c.in_default.is-0 c.in_default.not-U16-1

pub returns-in_default-3 : goal.returns-in_default-3
returns-in_default-3 c = compare_refused _ c.in_default.is-0 c.in_default.not-U32-1

pub returns-in_default-4 : goal.returns-in_default-4
returns-in_default-4 c = compare_refused _ c.in_default.is-0 c.in_default.not-U64-1

pub returns-in_default-5 : goal.returns-in_default-5
returns-in_default-5 c = compare_refused _ c.in_default.is-0 c.in_default.not-I8-1

pub returns-in_default-6 : goal.returns-in_default-6
returns-in_default-6 c = compare_refused _ c.in_default.is-0 c.in_default.not-I16-1

pub returns-in_default-7 : goal.returns-in_default-7
returns-in_default-7 c = compare_refused _ c.in_default.is-0 c.in_default.not-I32-1

pub returns-in_default-8 : goal.returns-in_default-8
returns-in_default-8 c = compare_refused _ c.in_default.is-0 c.in_default.not-I64-1

pub returns-in_default-9 : goal.returns-in_default-9
returns-in_default-9 c = compare_refused _ c.in_default.is-0 c.in_default.not-F32-1

pub returns-in_default-10 : goal.returns-in_default-10
returns-in_default-10 c = compare_refused _ c.in_default.is-0 c.in_default.not-F64-1

pub returns-in_default-11 : goal.returns-in_default-11
returns-in_default-11 c = compare_refused _ c.in_default.is-0 c.in_default.not-F16-1
