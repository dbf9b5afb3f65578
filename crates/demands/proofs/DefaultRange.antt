-- The default range by the greys of 16 bits: an f32 that stands for the number of a u16 lies between the ends.
use Prim.Native.Nat.{ℕ, suc, ◌*◌, ◌%◌, ◌^◌, ◌≤◌, ◌<◌}
use native.Mathlib.Nat.{mod-lt, mul-le-mul_right, zero-mul}
use native.Mathlib.Omega.{arith}
use mathlib.Core.Path.{◌≡◌, refl, sym, ◌∙◌, ap}
use mathlib.Core.Bool.{false}
use mathlib.Core.List.{List, [], ◌∷◌}
use borrow.Author.Tests.{le-ltb}
use lib.Dec.{lit<, lit≤}
use lib.ListN.{length, get_or}
use lib.Ieee.{Float}
use Rattle.float.specs.Format.{f32}
use Rattle.float.specs.Number.{finite, times}
use Rattle.float.specs.Order.{pattern_in}
use Rattle.float.proofs.Tests.{clash}
use Rattle.value.specs.declared.Kind.TheVariants as kind
use Rattle.value.specs.declared.Value.TheVariants.{U16, F32}
use Rattle.value.specs.Meaning.{exact_of, bits_of, unit, step_of, value_of}
use Rattle.value.specs.Outcome.{Outcome, gives, mapped, done}
use Rattle.choose.specs.Choose.{default_range, sample_of}
use Rattle.choose.proofs.DefaultRange.{sample_exact, lower_end, upper_end, default_in_order, default_kept}
use Rattle.convert.specs.Inner.{into_of}
use Rattle.convert.proofs.Exactly.{other_kind, sound}
use Rattle.row.specs.Row.{sample_before, row_results}
use Rattle.row.specs.Convert.{f32_to_u16, convert_answer}
use Rattle.row.proofs.F32Sample.{bits_are}
use Rattle.row.proofs.IntoUnsigned.{into_inside, u16_made}
use Rattle.rowclamp.specs.Clamp.{clamp_answer, clamp_exit}
use Rattle.demands.specs.DefaultRange.{DefaultRange}
use Rattle.demands.proofs.Rows.{u16_f32, f32_u16, clamp_results, of_rows}

-- ---- one sample

-- a sample as the f32 value that holds it
as_value : (x : Float) → exact_of (F32 x 0) ≡ sample_exact x
as_value x = ap (λ (b : ℕ). times (step_of f32) (pattern_in f32 b)) (bits_are x)

-- what stands for the number of a u16 goes to it, and is clamped to itself
module _ (x : Float) (n : ℕ) (grey : exact_of (F32 x 0) ≡ exact_of (U16 n)) (small : n ≤ 65535) where
  goes : f32_to_u16 x ≡ gives n
  unfolding f32_to_u16
  goes =
      ap (mapped bits_of) (other_kind (F32 x 0) kind.U16 (λ q. clash cc) ∙ ap (into_of kind.U16) grey)
      ∙ into_inside kind.U16 16 refl n u16_made (le-ltb 65535 n small)

  stays : sample_of default_range x ≡ gives x
  stays = default_kept x (n * unit) (sym (as_value x) ∙ grey) (mul-le-mul_right unit small)

-- so is what goes to u16
goes_stays : (x : Float) (n : ℕ) → f32_to_u16 x ≡ gives n → sample_of default_range x ≡ gives x
unfolding value_of
goes_stays x n h =
    let s = sound (F32 x 0) kind.U16 (λ q. clash cc) (U16 n) (f32_u16 x n h) in
    let own : n % 2 ^ 16 ≡ n = cc s.3 in
    let l : n % 2 ^ 16 < 2 ^ 16 = mod-lt n (lit< tt) in
    stays x n (sym s.4) (omega arith)

-- ---- a row

-- what gives each sample itself gives the row itself
each_itself : {A : Type 0} (conv : A → Outcome A) (xs : List A) → ((i : ℕ) (x : A) → i < length xs → conv (get_or xs i x) ≡ gives (get_or xs i x))
    → row_results conv xs ≡ xs
unfolding row_results
each_itself conv [] h = refl
each_itself conv (v ∷ vs) h =
    ap (λ o. sample_before o (row_results conv vs)) (h 0 v (omega arith))
    ∙ ap (λ ys. v ∷ ys) (each_itself conv vs (λ i x l. h (suc i) x (omega arith)))

module _ (row : List Float) (dst : List ℕ) (given : convert_answer f32_to_u16 row dst ≡ gives done) where
  same : (i : ℕ) (x : Float) → i < length row → sample_of default_range (get_or row i x) ≡ gives (get_or row i x)
  same i x l = goes_stays (get_or row i x) _ ((of_rows.any_row f32_to_u16).converted row dst given i x 0 l)

  accepted : clamp_answer default_range row ≡ gives done
  accepted = (of_rows.clamp_accepted default_range row).1 (default_in_order, λ i x l. (get_or row i x, same i x l))

  unchanged : clamp_exit default_range row ≡ row
  unchanged = clamp_results default_range row accepted ∙ each_itself (sample_of default_range) row same

pub of_default_range : DefaultRange
of_default_range = record {
  default_ends = (
    goes default_range.lower 0 (as_value default_range.lower ∙ lower_end ∙ ap (finite false) (sym (zero-mul unit))) (lit≤ tt),
    goes default_range.upper 65535 (as_value default_range.upper ∙ upper_end) (lit≤ tt),
  );
  default_keeps = λ n x small h. stays x n (sound (U16 n) kind.F32 (λ q. clash cc) (F32 x 0) (u16_f32 n x h)).4 (omega arith);
  default_keeps_row = λ row dst h. (accepted row dst h, unchanged row dst h);
}
