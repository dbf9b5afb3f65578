-- Nothing in this file has to be believed: it says how the machine's numbers meet the laws of their traits, and no public contract reaches it.
use Rattle.std.specs.Prelude.{ℕ, ℤ, Bool, true, false, cond, ltb, eqb, ◌≡◌}
use Rattle.std.specs.Int.Signed.{lt_z}
use Rattle.std.specs.Ordering.{nat_cmp, int_cmp, is_lt}
use Rattle.std.specs.declared.cmp.Ordering.TheVariants as ordering
use Rattle.std.proofs.Common.{refl}

-- `<` of two unsigned numbers, and of two signed ones
pub natural_less : (m n : ℕ) → is_lt (nat_cmp m n) ≡ ltb m n
natural_less m n = go (ltb m n) (eqb m n)
  where
    go : (l e : Bool) → is_lt (cond l ordering.Less (cond e ordering.Equal ordering.Greater)) ≡ l
    go true e = refl
    go false true = refl
    go false false = refl

pub integer_less : (m n : ℤ) → is_lt (int_cmp m n) ≡ lt_z m n
integer_less m n = go (lt_z m n) (lt_z n m)
  where
    go : (l g : Bool) → is_lt (cond l ordering.Less (cond g ordering.Greater ordering.Equal)) ≡ l
    go true g = refl
    go false true = refl
    go false false = refl
