-- Bits above the highest of a kind are bits that it doesn't have.
use mathlib.Core.Path.{◌≡◌, sym, ◌∙◌}
use mathlib.Core.Logic.{inl, inr}
use Prim.Native.Nat.{ℕ, ◌-◌, ◌^◌}
use native.Mathlib.Omega.{arith}
use borrow.Author.Tests.{lt-ltb, le-ltb, le-leb, lt-leb}
use lib.Dec.{ltb, leb}
use lib.Pow.{pow_pos}
use Rattle.float.proofs.Naturals.{lt_or_ge}

pub above_highest : (w b : ℕ) → ltb (2 ^ w - 1) b ≡ leb (2 ^ w) b
above_highest w b =
    let p = pow_pos w in
    elim (lt_or_ge b (2 ^ w)) [
      | inl l ↦ le-ltb (2 ^ w - 1) b (omega arith) ∙ sym (lt-leb (2 ^ w) b l)
      | inr g ↦ lt-ltb (2 ^ w - 1) b (omega arith) ∙ sym (le-leb (2 ^ w) b g)
    ]
