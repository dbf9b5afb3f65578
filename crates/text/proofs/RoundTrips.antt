-- Two things that the definitions are for: a digit that is written reads as what it stands for, and each kind is found by its name.
use Rattle.std.specs.Prelude.{Some}
use Prim.Native.Nat.{ℕ, ◌+◌, ◌-◌, ◌%◌, ◌≤◌, ◌<◌}
use mathlib.Core.Path.{◌≡◌, refl, sym, ◌∙◌, ap}
use mathlib.Core.List.{map}
use mathlib.Core.Logic.{inl, inr}
use native.Mathlib.Nat.{mod-lt}
use native.Mathlib.Omega.{arith}
use borrow.Author.Tests.{lt-ltb, le-ltb}
use lib.Dec.{lit<}
use Rattle.float.proofs.Naturals.{lt_or_ge}
use Rattle.value.specs.Kinds.{all_kinds}
use Rattle.text.specs.Digits.{digit_of, char_of}
use Rattle.text.specs.Names.{kind_names, kind_named}
use Rattle.text.specs.Words.{number_among, same_bytes}
use Rattle.text.proofs.Numbers.{digit_decimal, digit_letter}

decimal_read : (d : ℕ) → d < 10 → digit_of (48 + d) ≡ Some d
decimal_read d h = let e : 48 + d - 48 ≡ d = omega arith in sym (digit_decimal (48 + d) (omega arith) (omega arith)) ∙ ap Some e

letter_read : (d : ℕ) → 10 ≤ d → d < 16 → digit_of (97 + (d - 10)) ≡ Some d
letter_read d l h =
    let e : 97 + (d - 10) - 97 + 10 ≡ d = omega arith in
    sym (digit_letter (97 + (d - 10)) (omega arith) (omega arith)) ∙ ap Some e

pub char_read : (n : ℕ) → digit_of (char_of n) ≡ Some (n % 16)
char_read n =
    elim (lt_or_ge (n % 16) 10) [
      | inl l ↦ rw (lt-ltb _ _ l) (decimal_read (n % 16) l)
      | inr g ↦ rw (le-ltb _ _ g) (letter_read (n % 16) g (mod-lt n (lit< tt)))
    ]

pub names_found : map kind_named kind_names ≡ map Some all_kinds
unfolding kind_named number_among same_bytes
names_found = refl
