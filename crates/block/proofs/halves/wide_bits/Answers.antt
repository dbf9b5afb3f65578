-- The pattern without the sign is found in one of three ways; then the sign bit is set or not.
use Rattle.std.proofs.Common.{sym, subst, arith}
use Rattle.block.proofs.HalfBits.{IsWide, wide_low, wide_infinite, wide_high, bits_clear, bits_set}
use Rattle.block.proofs.halves.wide_bits.Goals as goal
use Rattle.block.proofs.halves.wide_bits.Goals.{Joined-a-lt1024, then-a-lt1024, else-a-lt1024+then-a-eq31744, else-a-lt1024+else-a-eq31744}

found : (c : Joined-a-lt1024) → IsWide c.args.b c.if-a-lt1024.wide
found c =
    let b = c.args.b in
    let abs = c.abs-a.ensures in
    elim c.if-a-lt1024.branch [
      | then-a-lt1024 w ↦ subst (IsWide b) (sym w.wide-is) (wide_low b abs _ c.requires.0 w.if-a-lt1024.true)
      | else-a-lt1024+then-a-eq31744 w ↦ subst (IsWide b) (sym w.wide-is) (wide_infinite b abs w.if-a-eq31744.true)
      | else-a-lt1024+else-a-eq31744 w ↦
          subst (IsWide b) (sym w.wide-is) (wide_high b abs w.if-a-lt1024.false w.if-a-eq31744.false c.requires.1)
    ]

pub overflow_add-result : goal.overflow_add-result
overflow_add-result c = record { fits = omega (arith, (found ((goal.at.overflow_add-result c).Joined-a-lt1024)).below) }

pub returns-then-b-lt32768 : goal.returns-then-b-lt32768
returns-then-b-lt32768 c = bits_clear _ _ (found ((goal.at.returns-then-b-lt32768 c).Joined-a-lt1024)) c.if-b-lt32768.true

pub returns-else-b-lt32768 : goal.returns-else-b-lt32768
returns-else-b-lt32768 c = bits_set _ _ (found ((goal.at.returns-else-b-lt32768 c).Joined-a-lt1024)) c.if-b-lt32768.false
