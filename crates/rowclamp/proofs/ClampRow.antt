-- A row clamp: a NaN is refused, and any other sample is clamped by the language's own order.
use mathlib.Core.Path.{◌≡◌, refl, sym, ◌∙◌, ap, subst}
use mathlib.Core.Bool.{Bool, true, false, not, cond}
use mathlib.Core.List.{List}
use Prim.Native.Nat.{ℕ, ◌<◌}
use lib.Dec.{T}
use lib.ListN.{length, get_or}
use lib.Ieee.{Float, binary32, nan, is_nan, fits, lt, le, ne}
use Rattle.std.specs.Prelude.{None, Some, position}
use Rattle.std.specs.Float.{float_clamp}
use Rattle.std.proofs.lemmas.List.{get_or_default}
use Rattle.std.proofs.lemmas.List.Quantifiers.{position-Some}
use Rattle.float.specs.Order.{is_less_or_equal}
use Rattle.float.proofs.Operators.{le_is}
use Rattle.value.specs.Outcome.{gives, refuses, done}
use Rattle.value.proofs.FloatBits.{differs_nan, same_no_nan, is_false}
use Rattle.choose.specs.declared.Range.{Range}
use Rattle.choose.specs.Choose.{sample_order, sample_of}
use Rattle.choose.proofs.Samples.{sample_nan, sample_lower, sample_upper, sample_self}
use Rattle.row.specs.Inner.{is_refused}
use Rattle.rowclamp.specs.Clamp.{clamp_answer, clamp_exit}
use Rattle.row.proofs.Scan.{found_passes, none_passes}
use Rattle.row.proofs.Rows.{row_ruled, sample_decides, all_done}

-- every sample is a float of its format, as all that a program holds are
abbrev AllFit : List Float → Type 0
AllFit row = (i : ℕ) → i < length row → T (fits binary32 (get_or row i nan))

-- a NaN is what differs from itself
differs : (x : Float) → ne x x ≡ is_nan x
differs x = go (ne x x) refl
  where
    go : (t : Bool) → ne x x ≡ t → ne x x ≡ is_nan x
    go true h = h ∙ sym (differs_nan x h)
    go false h = h ∙ sym (is_false (is_nan x) (same_no_nan x h))

module _ (range : Range) (hl : T (fits binary32 range.lower)) (hu : T (fits binary32 range.upper)) where
  abbrev out_of_order : Bool
  out_of_order = not (is_less_or_equal (sample_order range.lower range.upper))

  by_operator : {b : Bool} → le range.lower range.upper ≡ b → out_of_order ≡ not b
  by_operator h = ap not (sym (le_is binary32 range.lower range.upper hl hu) ∙ h)

  pub clamp_row_bounds : (row : List Float) → le range.lower range.upper ≡ false → (refuses 6 0 ≡ clamp_answer range row) × (row ≡ clamp_exit range row)
  unfolding clamp_answer clamp_exit
  clamp_row_bounds row h = row_ruled (sample_of range) row out_of_order 6 row (by_operator h)

  module _ (b : le range.lower range.upper ≡ true) where
    bad : (x : Float) → T (fits binary32 x) → is_nan x ≡ true → sample_of range x ≡ refuses 8 0
    bad x h q = sym (sample_nan range x hl hu h b (differs x ∙ q))

    good : (x : Float) → T (fits binary32 x) → is_nan x ≡ false → sample_of range x ≡ gives (float_clamp x range.lower range.upper)
    good x h q = go (lt x range.lower) (lt range.upper x) refl refl
      where
        n : ne x x ≡ false
        n = differs x ∙ q

        go : (s t : Bool) → lt x range.lower ≡ s → lt range.upper x ≡ t → sample_of range x ≡ gives (cond s range.lower (cond t range.upper x))
        go true t e d = sym (sample_lower range x hl hu h b n e)
        go false true e d = sym (sample_upper range x hl hu h b n e d)
        go false false e d = sym (sample_self range x hl hu h b n e d)

    told : (x : Float) → T (fits binary32 x) → is_refused (sample_of range x) ≡ is_nan x
    told x h = go (is_nan x) refl
      where
        go : (t : Bool) → is_nan x ≡ t → is_refused (sample_of range x) ≡ is_nan x
        go true q = ap is_refused (bad x h q) ∙ sym q
        go false q = ap is_refused (good x h q) ∙ sym q

    module _ (row : List Float) (all : AllFit row) where
      pub clamp_row_refused : (i : ℕ) → position is_nan row ≡ Some i → (refuses 8 i ≡ clamp_answer range row) × (row ≡ clamp_exit range row)
      unfolding clamp_answer clamp_exit
      clamp_row_refused i h =
          sample_decides (sample_of range) out_of_order 6 row row (by_operator b) is_nan i 8 nan
          (λ k m. told (get_or row k nan) (all k m)) h (bad (get_or row i nan) (all i (position-Some is_nan row i nan h).0) (found_passes is_nan row i nan h))

      pub clamp_row_done : (now : List Float) → length row ≡ length now → position is_nan row ≡ None
          → ((k : ℕ) → k < length row → get_or now k nan ≡ float_clamp (get_or row k nan) range.lower range.upper)
          → (gives done ≡ clamp_answer range row) × (now ≡ clamp_exit range row)
      unfolding clamp_answer clamp_exit
      clamp_row_done now n free each =
          all_done (sample_of range) out_of_order 6 row row (by_operator b) refl now n (λ k x y l.
          ap (sample_of range) (get_or_default row k x nan l)
          ∙ good (get_or row k nan) (all k l) (none_passes is_nan row k nan free l)
          ∙ ap gives (sym (each k l) ∙ get_or_default now k nan y (subst (λ (m : ℕ). k < m) n l)))
