-- The row's answer is the block's.
use Rattle.std.proofs.Common.{ℕ, ◌/◌, length, sym, ap, ◌∙◌, arith}
use lib.Ieee.{binary32, of_bits}
use Rattle.value.specs.declared.Kind.TheVariants as kind
use Rattle.row.specs.Row.{rowed_outcome}
use Rattle.row.specs.Convert.{f32_to_u16}
use Rattle.block.proofs.Blocks.{passed_row}
use Rattle.block.proofs.Rowing.{any_never, row_gives, row_refuses}
use Rattle.block.proofs.Pairs.{f32_row_agrees}
use Rattle.block.proofs.Pieces.{places}
use Rattle.block.proofs.rows.made_whole.Goals as goal

pub store_row-requires : goal.store_row-requires
store_row-requires c =
    (any_never c.f32_to_u16.new.dst, omega (arith, c.f32_to_u16.auto.dst, places {A = ℕ} (length c.args.src.now / 4) 32768 0 c.requires.1, c.requires.0))

pub returns-in_err-f32_to_u16 : goal.returns-in_err-f32_to_u16
returns-in_err-f32_to_u16 c =
    let a = c.args in
    let x = c.load.new.row in
    let w = f32_row_agrees a.src.now (λ i. (c.type_inv.src i).fits) x (places (length a.src.now / 4) 32768 _ c.requires.1) c.load.ensures in
    let r = row_refuses kind.F32 kind.U16 a.src.now a.dst.now f32_to_u16 (λ n. n) x
    _ (of_bits binary32 0) w.0 (w.0 ∙ sym (places (length a.src.now / 4) 32768 0 c.requires.1)) w.1
    (sym (ap rowed_outcome c.in_err-f32_to_u16.was) ∙ c.f32_to_u16.ensures.answer) in
    record { answer = passed_row _ _ c.from_residual.ensures.1 ∙ r.0; exit = r.1 }

pub returns : goal.returns
returns c =
    let a = c.args in
    let x = c.load.new.row in
    let w = f32_row_agrees a.src.now (λ i. (c.type_inv.src i).fits) x (places (length a.src.now / 4) 32768 _ c.requires.1) c.load.ensures in
    let both =
    row_gives kind.F32 kind.U16 a.src.now a.dst.now f32_to_u16 (λ n. n) x _
    (of_bits binary32 0) w.0 (w.0 ∙ sym (places (length a.src.now / 4) 32768 0 c.requires.1)) w.1 c.requires.0
    (sym (ap rowed_outcome c.in_ok-f32_to_u16.was) ∙ c.f32_to_u16.ensures.answer) c.f32_to_u16.ensures.exit c.store_row.ensures in
    record { answer = both.0; exit = both.1 }
