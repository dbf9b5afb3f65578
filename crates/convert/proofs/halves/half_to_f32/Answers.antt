-- Where the exponent field is 0 the entry of the table has the number; else the number is put together as for any other pair.
use mathlib.Core.Path.{◌≡◌, sym, ◌∙◌, ap, subst}
use mathlib.Core.Bool.{Bool, cond}
use Prim.Native.Nat.{ℕ, ◌+◌, ◌<◌}
use native.Mathlib.Nat.{mod-eq_of_lt}
use native.Mathlib.Omega.{arith}
use lib.Dec.{lit≤}
use Rattle.float.specs.Format.{f16, f32, abs_in, negative_in}
use Rattle.half.specs.Small.{IsOver}
use Rattle.value.specs.Meaning.{f32_value}
use Rattle.value.specs.Outcome.{gives}
use Rattle.convert.specs.Convert.{with_sign}
use Rattle.convert.proofs.FromHalf.{entry_small, low_moved}
use Rattle.convert.proofs.halves.half_to_f32.Goals as goal
use Rattle.convert.proofs.halves.half_to_f32.Goals.{After-small_f32-bits}

over_own : (c : After-small_f32-bits) → IsOver (abs_in f16 c.args.b) c.small_f32-bits.result
over_own c =
    let a = c.abs-a.result in
    subst (λ (n : ℕ). IsOver n c.small_f32-bits.result) (mod-eq_of_lt c.if-a-lt1024.true ∙ c.abs-a.ensures) c.small_f32-bits.ensures

low : (c : After-small_f32-bits) → abs_in f16 c.args.b < 1024
low c = subst (λ (n : ℕ). n < 1024) c.abs-a.ensures c.if-a-lt1024.true

pub with_sign-requires : goal.with_sign-requires
with_sign-requires c =
    let last =
    entry_small (abs_in f16 c.args.b) c.small_f32-bits.result (low ((goal.at.with_sign-requires c).After-small_f32-bits))
    (over_own ((goal.at.with_sign-requires c).After-small_f32-bits)) in
    (omega (arith, last), lit≤ tt)

pub returns-then-a-lt1024 : goal.returns-then-a-lt1024
returns-then-a-lt1024 c =
    let r = c.small_f32-bits.result in
    let sign : cond c.is_sign_negative.result (0x8000_0000 + r) r ≡ with_sign f32 (negative_in f16 c.args.b) r =
    ap (λ (t : Bool). cond t (0x8000_0000 + r) r) c.is_sign_negative.ensures in
    ap gives (c.f32_value.ensures ∙ ap f32_value (c.with_sign.ensures.0 ∙ sign))
    ∙ sym (low_moved c.args.b r (low ((goal.at.returns-then-a-lt1024 c).After-small_f32-bits))
    (over_own ((goal.at.returns-then-a-lt1024 c).After-small_f32-bits)))
